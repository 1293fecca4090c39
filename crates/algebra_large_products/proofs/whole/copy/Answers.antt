-- `algebra_large_products::whole::copy` meets its contract.
use Prim.Native.Nat.{◌≤◌, ◌-◌, ◌+◌}
use mathlib.Core.Path.{◌≡◌, refl, ◌∙◌}
use lib.ListN.{length, get_or}
use Rattle.algebra.proofs.FoldLaws.{fold_start, fold_end}
use Rattle.algebra_large.specs.joints.Slab.{put_rows, rows_at}
use Rattle.algebra_large.proofs.SlabLaws.{fill_more, rows-apart-at}
use lib.Ieee.{nan}
use Rattle.algebra_large.proofs.ProductLaws.{copied-row}
use native.Mathlib.Omega.{arith}
use Rattle.algebra_large_products.proofs.whole.copy.Goals as goal

pub loop-i-init : goal.loop-i-init
unfolding put_rows
loop-i-init c = (omega arith, refl, fold_start _ _ _)

pub copy_row-requires : goal.copy_row-requires
copy_row-requires c = (
  omega arith,
  omega arith,
  rows-apart-at _ _ _ _ c.requires.2 _ _ _ _ _ _ c.loop-i-test.true c.loop-i-test.true c.requires.0.wide c.requires.1.wide c.start-a.ensures.0 c.start-b.ensures.0,
)

pub loop-i-preserved : goal.loop-i-preserved
loop-i-preserved c =
    let v = c.loop-i.invariant in
    let g = c.requires in (
      omega arith,
      c.copy_row.auto.work ∙ v.1,
      fill_more _ _ _ _ _ _ (λ j. get_or c.loop-i.work (c.start-b.result + j) nan) _ _ _ c.start-a.ensures.0 v.2 c.copy_row.ensures
          (λ j l. copied-row _ _ _ _ _ _ _ _ _ _ _ g.2 g.0.wide g.1.wide c.loop-i-test.true c.start-b.ensures.0 v.2 j l),
    )

pub shape_of-work : goal.shape_of-work
shape_of-work c = c.loop-i.invariant.1

pub returns : goal.returns
unfolding put_rows
returns c = fold_end _ _ _ _ _ _ c.loop-i.invariant.0 c.loop-i-test.false c.loop-i.invariant.2
