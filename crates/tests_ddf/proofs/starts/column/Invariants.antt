use Prim.Native.Nat.{ℕ, ◌≤◌, ◌-◌}
use mathlib.Core.Path.{◌≡◌}
use mathlib.Core.List.{List}
use lib.ListN.{get_or}
use lib.Ieee.{Float, nan}
use Rattle.arithmetic.specs.declared.Marked.{Marked}
use Rattle.arithmetic.specs.Numbers.{plus_zero}
use Rattle.arithmetic.specs.Marks.{given}
use Rattle.algebra.specs.Table.{table}
use Rattle.algebra_products.proofs.LoopLaws.{table-end}
use Rattle.algebra.proofs.TableLaws.{table_none, filling-none, filling-more, filling-row}
use Rattle.tests.specs.Satterthwaite.{column}
use borrow.Author.Rules.{rules}
use native.Mathlib.Omega.{arith}
use Rattle.tests_ddf.proofs.starts.column.Given as goal

-- a cell of the column
abbrev cells : List Float → ℕ → ℕ → Marked
cells b i j = given (get_or b i nan)

abbrev pub invariant-loop-i : goal.invariant-loop-i
invariant-loop-i l = (l.i ≤ l.p) × (l.out ≡ table (given plus_zero) 6 6 l.i 1 (cells l.b))

abbrev pub decreases-loop-i : goal.decreases-loop-i
decreases-loop-i l = l.p - l.i
