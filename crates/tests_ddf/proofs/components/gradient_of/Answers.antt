-- `tests_ddf::components::gradient_of` meets its contract.
use Prim.Native.Nat.{◌≤◌, ◌-◌}
use mathlib.Core.Path.{◌≡◌}
use mathlib.Core.List.{[]}
use lib.ListN.{get_or}
use lib.Ieee.{of_bits}
use Rattle.arithmetic.specs.Numbers.{plus_zero}
use Rattle.arithmetic.specs.Marks.{given}
use Rattle.algebra.specs.Table.{row}
use Rattle.algebra.specs.Kind.{marks}
use Rattle.algebra.specs.Product.{cell}
use Rattle.algebra.proofs.FoldLaws.{fold_start, fold_next, fold_end}
use borrow.Author.Rules.{rules}
use native.Mathlib.Omega.{arith}
use Rattle.tests_ddf.proofs.components.gradient_of.Goals as goal

pub loop-i-init : goal.loop-i-init
unfolding row of_bits
loop-i-init c = (omega arith, rw c.no_marks-out.ensures (fold_start _ _ _))

pub loop-i-preserved : goal.loop-i-preserved
unfolding row
loop-i-preserved c = (omega arith, fold_next _ _ _ _ _ _ (omega arith) c.loop-i.invariant.1 (rw c.qform.ensures))

pub returns : goal.returns
unfolding row
returns c = fold_end _ _ _ _ _ _ c.loop-i.invariant.0 c.loop-i-test.false c.loop-i.invariant.1
