-- `tests_basis::basis::over_norm` meets its contract.
use Prim.Native.Nat.{◌≤◌, ◌-◌}
use mathlib.Core.Path.{◌≡◌, refl}
use lib.Ieee.{binary64, div, of_bits}
use lib.ListN.{get_or}
use Rattle.arithmetic.specs.Numbers.{plus_zero}
use Rattle.algebra.specs.Kind.{floats}
use Rattle.algebra.specs.Table.{row}
use Rattle.algebra.proofs.FoldLaws.{fold_start, fold_next, fold_end}
use native.Mathlib.Omega.{arith}
use Rattle.tests_basis.proofs.basis.over_norm.Goals as goal

pub loop-j-init : goal.loop-j-init
unfolding row of_bits
loop-j-init c = (omega arith, fold_start _ _ _)

pub loop-j-preserved : goal.loop-j-preserved
unfolding row
loop-j-preserved c = (omega arith, fold_next _ _ _ _ _ _ (omega arith) c.loop-j.invariant.1 refl)

pub returns : goal.returns
unfolding row
returns c = fold_end _ _ _ _ _ _ c.loop-j.invariant.0 c.loop-j-test.false c.loop-j.invariant.1
