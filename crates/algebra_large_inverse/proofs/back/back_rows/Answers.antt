-- `algebra_large_inverse::back::back_rows` meets its contract.
use Prim.Native.Nat.{◌≤◌, ◌-◌, ◌+◌}
use mathlib.Core.Path.{◌≡◌, refl, ◌∙◌}
use lib.ListN.{length}
use Rattle.algebra_large.specs.joints.Slab.{rows_at, put_rows}
use Rattle.algebra_large.specs.joints.Steps.{back_over}
use Rattle.algebra_large.proofs.SlabLaws.{shape-rows_at}
use Rattle.algebra_large.proofs.InPlace.{turn-none, turn_end}
use Rattle.algebra_large_inverse.proofs.BackLaws.{back_more}
use native.Mathlib.Omega.{arith}
use Rattle.algebra_large_inverse.proofs.back.back_rows.Goals as goal

pub loop-h-init : goal.loop-h-init
unfolding back_over
loop-h-init c = (omega arith, refl, turn-none _ _ _ _ _ _ _ c.requires.0)

pub back_row-requires : goal.back_row-requires
back_row-requires c = (omega arith, omega arith, c.requires.2, omega arith)

pub loop-h-preserved : goal.loop-h-preserved
loop-h-preserved c =
    let v = c.loop-h.invariant in
    let g = c.requires in (
      omega arith,
      c.back_row.auto.work ∙ v.1,
      back_more _ _ _ _ _ _ _ _ _ _ _ _ g.0 g.1.wide g.2 (shape-rows_at _ _ _ _ _) c.loop-h-test.true refl v.2 c.back_row.ensures,
    )

pub shape_of-work : goal.shape_of-work
shape_of-work c = c.loop-h.invariant.1

pub returns : goal.returns
unfolding back_over
returns c = let v = c.loop-h.invariant in turn_end _ _ _ _ _ _ _ _ _ _ _ v.0 c.loop-h-test.false v.2
