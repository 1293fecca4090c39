-- `algebra_large::rows::divide_row` meets its contract.
use Rattle.algebra.specs.Kind.{floats}
use Prim.Native.Nat.{◌≤◌, ◌-◌, ◌+◌}
use mathlib.Core.Path.{◌≡◌, refl}
use lib.ListN.{length, get_or, length-set}
use lib.Ieee.{nan}
use Rattle.algebra.proofs.FoldLaws.{fold_start, fold_end}
use Rattle.algebra_large.specs.joints.Slab.{put_row}
use Rattle.algebra_large.proofs.SlabLaws.{row_more, row-ahead}
use native.Mathlib.Omega.{arith}
use Rattle.algebra_large.proofs.rows.divide_row.Goals as goal

pub loop-j-init : goal.loop-j-init
unfolding put_row
loop-j-init c = (omega arith, refl, fold_start _ _ _)

pub loop-j-preserved : goal.loop-j-preserved
loop-j-preserved c =
    let v = c.loop-j.invariant in
    (omega arith, rw length-set v.1, row_more _ _ _ _ _ _ v.2 (rw (row-ahead _ _ _ _ _ v.2 (c.args.d + c.loop-j.j) (λ k h q. omega arith))))

pub shape_of-work : goal.shape_of-work
shape_of-work c = c.loop-j.invariant.1

pub returns : goal.returns
unfolding put_row
returns c = fold_end _ _ _ _ _ _ c.loop-j.invariant.0 c.loop-j-test.false c.loop-j.invariant.2
