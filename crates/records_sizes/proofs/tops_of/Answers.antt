-- `records_sizes::tops_of` meets its contract.
use Rattle.std.proofs.Common.{◌≡◌, ap, ◌∙◌, arith}
use Rattle.records.specs.format.File.{count, kind_of}
use Rattle.records_sizes.proofs.SizeLaws.{tops, tops-none, tops-hit, tops-miss}
use Rattle.records_sizes.proofs.tops_of.Goals as goal
use Rattle.records_sizes.proofs.tops_of.Goals.{then-k-lt33, else-k-lt33}

pub loop-i-init : goal.loop-i-init
loop-i-init g c = λ f each. tops-none _ _

pub loop-i-preserved : goal.loop-i-preserved
loop-i-preserved g c =
    λ f each.
    let k = c.index-k.ensures.0 ∙ c.kind_of.ensures in
    let e = c.loop-i.invariant f each in
    elim c.if-k-lt33.branch [
      | then-k-lt33 w ↦ tops-hit _ _ _ _ _ _ _ _ e k w.if-k-lt33.true (each _ _ w.field.ensures) w.larger.ensures w.tops-is
      | else-k-lt33 w ↦ tops-miss _ _ _ _ _ _ e k w.if-k-lt33.false w.tops-is
    ]

pub returns : goal.returns
unfolding tops
returns g c =
    λ f each.
    let s = c.args.s.now in
    let e : c.loop-i.i ≡ count s = omega arith in
    c.loop-i.invariant f each ∙ ap (tops (kind_of s) f) e
