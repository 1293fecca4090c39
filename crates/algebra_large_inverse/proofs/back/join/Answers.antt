-- `algebra_large_inverse::back::join` meets its contract.
use Prim.Native.Nat.{◌≤◌, ◌-◌, ◌+◌}
use mathlib.Core.Path.{◌≡◌, refl, ◌∙◌}
use lib.ListN.{length}
use Rattle.algebra.proofs.FoldLaws.{fold_start, fold_end}
use Rattle.algebra_large.specs.joints.Slab.{put_rows, rows_at}
use Rattle.algebra_large.specs.joints.Steps.{joined_cell}
use Rattle.algebra_large.proofs.SlabLaws.{fill_more, rows-apart-at}
use Rattle.algebra.specs.Kind.{floats}
use Rattle.algebra.specs.Product.{identity}
use Rattle.algebra.specs.Elimination.{joined}
use Rattle.algebra_large_inverse.proofs.InverseLaws.{joined-row}
use native.Mathlib.Omega.{arith}
use Rattle.algebra_large_inverse.proofs.back.join.Goals as goal

pub loop-i-init : goal.loop-i-init
unfolding put_rows
loop-i-init c = (omega arith, refl, fold_start _ _ _)

pub join_row-requires : goal.join_row-requires
join_row-requires c =
    let g = c.requires in
    let h = c.loop-i-test.true in
    (omega arith, omega arith, rows-apart-at _ _ _ _ g.2 _ _ _ _ _ _ h h g.0.wide g.1.wide c.start-e.ensures.0 c.start-b.ensures.0, h)

pub loop-i-preserved : goal.loop-i-preserved
loop-i-preserved c =
    let v = c.loop-i.invariant in
    let g = c.requires in (
      omega arith,
      c.join_row.auto.work ∙ v.1,
      fill_more _ _ _ _ _ _ (joined_cell c.args.n c.loop-i.work c.start-b.result c.loop-i.i) _ _ _ c.start-e.ensures.0 v.2 c.join_row.ensures
          (λ j l. joined-row _ _ _ _ _ _ _ _ _ _ g.2 g.0.wide g.1.wide c.loop-i-test.true c.start-b.ensures.0 v.2 j l),
    )

pub shape_of-work : goal.shape_of-work
shape_of-work c = c.loop-i.invariant.1

pub returns : goal.returns
unfolding put_rows
returns c = fold_end _ _ _ _ _ _ c.loop-i.invariant.0 c.loop-i-test.false c.loop-i.invariant.2
