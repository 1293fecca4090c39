use Prim.Native.Nat.{ℕ, ◌≤◌, ◌-◌}
use mathlib.Core.Path.{◌≡◌}
use mathlib.Core.List.{List}
use lib.ListN.{get_or}
use lib.Ieee.{Float, nan}
use Rattle.arithmetic.specs.declared.Marked.{Marked}
use Rattle.arithmetic.specs.Numbers.{plus_zero}
use Rattle.arithmetic.specs.Marks.{given, marked_sub}
use Rattle.algebra.specs.Table.{table}
use Rattle.algebra.proofs.TableLaws.{table_none, filling-none, filling-more, filling-row}
use Rattle.algebra_products.proofs.LoopLaws.{table-end}
use Rattle.tests.specs.KenwardRoger.{difference}
use native.Mathlib.Omega.{arith}
use borrow.Author.Rules.{rules}
use Rattle.tests_kr_modcomp.proofs.full_rank.difference.Given as goal

-- a cell of D
abbrev less : List Float → List Float → ℕ → ℕ → Marked
less beta beta_h i j = marked_sub (given (get_or beta i nan)) (given (get_or beta_h i nan))

abbrev pub invariant-loop-i : goal.invariant-loop-i
invariant-loop-i l = (l.i ≤ l.p) × (l.out ≡ table (given plus_zero) 6 6 l.i 1 (less l.beta l.beta_h))

abbrev pub decreases-loop-i : goal.decreases-loop-i
decreases-loop-i l = l.p - l.i
