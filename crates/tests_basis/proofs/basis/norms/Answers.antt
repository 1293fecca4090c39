-- `tests_basis::basis::norms` meets its contract.
use Prim.Native.Nat.{◌≤◌, ◌-◌}
use mathlib.Core.Path.{◌≡◌}
use lib.Ieee.{of_bits}
use Rattle.algebra.specs.Table.{row}
use Rattle.tests.specs.Basis.{row_dot, norms}
use Rattle.algebra.proofs.FoldLaws.{fold_start, fold_next, fold_end}
use borrow.Author.Rules.{rules}
use native.Mathlib.Omega.{arith}
use Rattle.tests_basis.proofs.basis.norms.Goals as goal

pub loop-i-init : goal.loop-i-init
unfolding norms row of_bits
loop-i-init c = (omega arith, fold_start _ _ _)

pub loop-i-preserved : goal.loop-i-preserved
unfolding norms row row_dot
loop-i-preserved c = (omega arith, fold_next _ _ _ _ _ _ (omega arith) c.loop-i.invariant.1 (rw (c.sqrt.ensures, c.row_dot.ensures)))

pub returns : goal.returns
unfolding norms row
returns c = fold_end _ _ _ _ _ _ c.loop-i.invariant.0 c.loop-i-test.false c.loop-i.invariant.1
