-- `tests_ddf::starts::column` meets its contract.
use Prim.Native.Nat.{ℕ, ◌≤◌, ◌-◌}
use mathlib.Core.Path.{◌≡◌}
use mathlib.Core.List.{List}
use lib.ListN.{get_or}
use lib.Ieee.{Float, nan}
use Rattle.arithmetic.specs.declared.Marked.{Marked}
use Rattle.arithmetic.specs.Numbers.{plus_zero}
use Rattle.arithmetic.specs.Marks.{given}
use Rattle.algebra.specs.Table.{table}
use Rattle.algebra_products.proofs.LoopLaws.{table-end}
use Rattle.algebra.proofs.TableLaws.{table_none, filling-none, filling-more, filling-row}
use Rattle.tests.specs.Satterthwaite.{column}
use borrow.Author.Rules.{rules}
use native.Mathlib.Omega.{arith}
use Rattle.tests_ddf.proofs.starts.column.Goals as goal

-- a cell of the column
abbrev cells : List Float → ℕ → ℕ → Marked
cells b i j = given (get_or b i nan)

pub loop-i-init : goal.loop-i-init
loop-i-init c = (omega arith, table_none _ _ _ _ _ _ c.zeros-out.ensures)

pub loop-i-preserved : goal.loop-i-preserved
loop-i-preserved c = (omega arith, filling-row (filling-more (omega arith) (filling-none (omega arith) c.loop-i.invariant.1) c.given.ensures) (omega arith) (omega arith))

pub returns : goal.returns
unfolding column
returns c = table-end _ _ _ _ _ _ _ _ c.loop-i.invariant.0 c.loop-i-test.false c.loop-i.invariant.1
