-- `records_limits::any_fails` meets its contract.
use Rattle.std.proofs.Common.{◌≡◌, refl, sym, ◌∙◌, arith}
use Rattle.records.specs.format.Scan.{any}
use Rattle.records.specs.format.File.{count, kind_of}
use Rattle.records.specs.format.Kinds.{kinds_of}
use Rattle.records.proofs.format.ScanLaws.{any-miss, any-hit}
use Rattle.records_kinds.proofs.KnownKind.{Known, asked, same_kind, kept-kind}
use Rattle.records_limits.proofs.any_fails.Goals as goal
use Rattle.records_limits.proofs.any_fails.Goals.{then-kind-last, else-kind-last}

pub loop-i-init : goal.loop-i-init
unfolding any
loop-i-init g c = (c.kind_at-k.ensures, λ test each. refl)

pub returns-then-fails : goal.returns-then-fails
returns-then-fails g c =
    let known-kind : let a = c.args in Known (kinds_of a.file a.z) (kind_of a.s.now c.loop-i.i) c.if-kind-last.last c.if-kind-last.k = elim c.if-kind-last.branch [
      | then-kind-last w ↦ asked _ _ _ _ _ _ c.kind_of-kind.ensures w.kind_at-k-then-kind-last.ensures w.last-is w.k-is
      | else-kind-last w ↦ same_kind _ _ _ _ _ _ _ c.kind_of-kind.ensures w.if-kind-last.false c.loop-i.invariant.0 w.last-is w.k-is
    ] in
    λ test each. sym (any-hit _ _ c.loop-i.i (omega arith) (rw (← known-kind.known) (sym (each _ _ _ c.fails.ensures) ∙ c.if-fails.true)))

pub loop-i-preserved : goal.loop-i-preserved
loop-i-preserved g c =
    let known-kind : let a = c.args in Known (kinds_of a.file a.z) (kind_of a.s.now c.loop-i.i) c.if-kind-last.last c.if-kind-last.k = elim c.if-kind-last.branch [
      | then-kind-last w ↦ asked _ _ _ _ _ _ c.kind_of-kind.ensures w.kind_at-k-then-kind-last.ensures w.last-is w.k-is
      | else-kind-last w ↦ same_kind _ _ _ _ _ _ _ c.kind_of-kind.ensures w.if-kind-last.false c.loop-i.invariant.0 w.last-is w.k-is
    ] in
    (kept-kind _ _ _ _ known-kind, λ test each. any-miss _ _ (c.loop-i.invariant.1 test each) (rw (← known-kind.known) (sym (each _ _ _ c.fails.ensures) ∙ c.if-fails.false)))

pub returns : goal.returns
returns g c = let e : c.loop-i.i ≡ count c.args.s.now = omega arith in λ test each. sym (rw (← e) (c.loop-i.invariant.1 test each))
