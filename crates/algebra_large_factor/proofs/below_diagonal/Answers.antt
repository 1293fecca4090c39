-- `algebra_large_factor::below_diagonal` meets its contract.
use Prim.Native.Nat.{◌≤◌, ◌-◌, ◌+◌}
use mathlib.Core.Path.{◌≡◌, refl}
use lib.ListN.{length, length-set}
use Rattle.algebra.specs.Kind.{floats}
use Rattle.algebra.specs.Cholesky.{below_diagonal}
use Rattle.algebra_large.specs.joints.Slab.{rows_at, put_rows}
use Rattle.algebra_large.proofs.SlabLaws.{shape-rows_at}
use Rattle.algebra_large_factor.proofs.FactorLaws.{below_more}
use Rattle.algebra_large.proofs.InPlace.{turn-none, turn_end}
use native.Mathlib.Omega.{arith}
use Rattle.algebra_large_factor.proofs.below_diagonal.Goals as goal

pub loop-i-init : goal.loop-i-init
unfolding below_diagonal
loop-i-init c = (omega arith, omega arith, refl, turn-none _ _ _ _ _ _ _ c.requires.0)

pub loop-i-preserved : goal.loop-i-preserved
loop-i-preserved c =
    let v = c.loop-i.invariant in (
      omega arith,
      omega arith,
      rw length-set v.2,
      below_more _ _ _ _ _ _ _ _ _ _ _ c.requires.0 (shape-rows_at _ _ _ _ _) v.0 c.loop-i-test.true c.start-p.ensures.0 v.3 c.less_dot-x.ensures,
    )

pub shape_of-work : goal.shape_of-work
shape_of-work c = c.loop-i.invariant.2

pub returns : goal.returns
unfolding below_diagonal
returns c = let v = c.loop-i.invariant in turn_end _ _ _ _ _ _ _ _ _ _ _ v.1 c.loop-i-test.false v.3
