-- `tests_kr_modcomp::full_rank::unit_row` meets its contract.
use Prim.Native.Nat.{◌≤◌, ◌-◌}
use mathlib.Core.Bool.{cond}
use lib.Dec.{eqb}
use Rattle.arithmetic.specs.Numbers.{plus_zero, one}
use Rattle.algebra.proofs.TableLaws.{table_none, Filling, filling-none, filling-more, filling-row}
use Rattle.tests.specs.KenwardRoger.{unit_row}
use native.Mathlib.Omega.{arith}
use borrow.Author.Rules.{rules}
use Rattle.tests_kr_modcomp.proofs.full_rank.unit_row.Goals as goal

pub loop-j-init : goal.loop-j-init
loop-j-init c = (omega arith, filling-none (omega arith) (table_none _ _ _ _ _ _ c.zeros-out.ensures))

pub loop-j-preserved : goal.loop-j-preserved
loop-j-preserved c = (omega arith, filling-more (omega arith) c.loop-j.invariant.1 c.unit_cell.ensures)

pub returns : goal.returns
unfolding unit_row
returns c = filling-row c.loop-j.invariant.1 c.loop-j.invariant.0 c.loop-j-test.false
