-- `records_series::block_of` meets its contract.
use Rattle.std.proofs.Common.{ℕ, ◌≡◌, refl, ◌∙◌, ap, arith}
use Rattle.adjustment.specs.declared.Block.{Block}
use Rattle.records.specs.format.Scan.{last}
use Rattle.records.specs.format.File.{count, column_of, count_of, is_cell}
use Rattle.records.specs.readers.Series.{kinds, block_of}
use Rattle.records.proofs.format.ScanLaws.{last_more}
use Rattle.records_series.proofs.block_of.Goals as goal
use Rattle.records_series.proofs.block_of.Goals.{then-is_block, else-is_block}

pub loop-i-init : goal.loop-i-init
unfolding last
loop-i-init c = (refl, omega arith, refl, omega arith)

pub loop-i-preserved : goal.loop-i-preserved
loop-i-preserved c =
    let e = c.is_block.ensures in
    let h = c.loop-i.invariant in
    elim c.if-is_block.branch [
      | then-is_block w ↦
          let k = ap (λ (x : Block). x.effects) w.block-is in
          let m = ap (λ (x : Block). x.groups) w.block-is in
          (k ∙ rw (last_more, ← e, w.if-is_block.true) w.column_at.ensures.0, omega arith, m ∙ rw (last_more, ← e, w.if-is_block.true) w.count_at.ensures.0, omega arith)
      | else-is_block w ↦
          let k = ap (λ (x : Block). x.effects) w.block-is in
          let m = ap (λ (x : Block). x.groups) w.block-is in
          (k ∙ rw (last_more, ← e, w.if-is_block.false) h.0, omega arith, m ∙ rw (last_more, ← e, w.if-is_block.false) h.2, omega arith)
    ]

pub returns : goal.returns
unfolding block_of
returns c =
    let s = c.args.s.now in
    let h = c.loop-i.invariant in
    let e : c.loop-i.i ≡ count s = omega arith in
    let p = is_cell (kinds s) s 3 0 c.args.b 0 in
    let k = h.0 ∙ ap (λ (n : ℕ). last n p (column_of s) 0) e in
    let m = h.2 ∙ ap (λ (n : ℕ). last n p (count_of s) 0) e in
    ((λ j. record { effects = k j; groups = m j }), h.1, h.3)
