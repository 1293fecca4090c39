-- `algebra_large_inverse::solve::eliminate` meets its contract.
use Prim.Native.Nat.{◌≤◌, ◌-◌}
use mathlib.Core.Path.{◌≡◌, refl, ◌∙◌}
use lib.ListN.{length}
use Rattle.algebra.specs.Kind.{floats}
use Rattle.algebra.specs.Elimination.{eliminate_to}
use Rattle.algebra_large.specs.joints.Slab.{rows_at, put_rows}
use Rattle.algebra_large.proofs.SlabLaws.{shape-rows_at}
use Rattle.algebra_large.proofs.InPlace.{turn-none, turn_end}
use Rattle.algebra_large_inverse.proofs.EliminationLaws.{column-more}
use native.Mathlib.Omega.{arith}
use Rattle.algebra_large_inverse.proofs.solve.eliminate.Goals as goal

pub loop-c-init : goal.loop-c-init
unfolding eliminate_to
loop-c-init c = (omega arith, refl, turn-none _ _ _ _ _ _ _ c.requires.0)

pub loop-c-preserved : goal.loop-c-preserved
loop-c-preserved c =
    let v = c.loop-c.invariant in
    (omega arith, c.eliminate_column.auto.work ∙ v.1, column-more _ _ _ _ _ _ _ _ _ c.requires.0 (shape-rows_at _ _ _ _ _) c.loop-c-test.true v.2 c.eliminate_column.ensures)

pub shape_of-work : goal.shape_of-work
shape_of-work c = c.loop-c.invariant.1

pub returns : goal.returns
unfolding eliminate_to
returns c = let v = c.loop-c.invariant in turn_end _ _ _ _ _ _ _ _ _ _ _ v.0 c.loop-c-test.false v.2
