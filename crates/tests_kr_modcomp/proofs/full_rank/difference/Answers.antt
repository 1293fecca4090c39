-- `tests_kr_modcomp::full_rank::difference` meets its contract.
use Prim.Native.Nat.{ℕ, ◌≤◌, ◌-◌}
use mathlib.Core.Path.{◌≡◌}
use mathlib.Core.List.{List}
use lib.ListN.{get_or}
use lib.Ieee.{Float, nan}
use Rattle.arithmetic.specs.declared.Marked.{Marked}
use Rattle.arithmetic.specs.Numbers.{plus_zero}
use Rattle.arithmetic.specs.Marks.{given, marked_sub}
use Rattle.algebra.specs.Table.{table}
use Rattle.algebra.proofs.TableLaws.{table_none, filling-none, filling-more, filling-row}
use Rattle.algebra_products.proofs.LoopLaws.{table-end}
use Rattle.tests.specs.KenwardRoger.{difference}
use native.Mathlib.Omega.{arith}
use borrow.Author.Rules.{rules}
use Rattle.tests_kr_modcomp.proofs.full_rank.difference.Goals as goal

-- a cell of D
abbrev less : List Float → List Float → ℕ → ℕ → Marked
less beta beta_h i j = marked_sub (given (get_or beta i nan)) (given (get_or beta_h i nan))

pub loop-i-init : goal.loop-i-init
loop-i-init c = (omega arith, table_none _ _ _ _ _ _ c.zeros-out.ensures)

pub loop-i-preserved : goal.loop-i-preserved
loop-i-preserved c = (omega arith, filling-row (filling-more (omega arith) (filling-none (omega arith) c.loop-i.invariant.1) (rw (← c.given.ensures, ← c.given-in-loop-i.ensures) c.sub.ensures)) (omega arith) (omega arith))

pub returns : goal.returns
unfolding difference
returns c = table-end _ _ _ _ _ _ _ _ c.loop-i.invariant.0 c.loop-i-test.false c.loop-i.invariant.1
