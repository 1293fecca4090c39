use Prim.Native.Nat.{ℕ, ◌≤◌, ◌<◌, ◌-◌}
use mathlib.Core.Path.{◌≡◌}
use mathlib.Core.List.{List}
use lib.Ieee.{Float}
use Rattle.arithmetic.specs.declared.Marked.{Marked}
use Rattle.arithmetic.specs.Numbers.{plus_zero}
use Rattle.arithmetic.specs.Marks.{given}
use Rattle.algebra.specs.Table.{table}
use Rattle.algebra.specs.Kind.{marks}
use Rattle.algebra.specs.Product.{at}
use Rattle.algebra_products.proofs.LoopLaws.{table-end}
use Rattle.algebra.proofs.TableLaws.{Filling, table_none, filling-none, filling-more, filling-row}
use Rattle.tests.specs.Order.{index_at}
use Rattle.tests.specs.Satterthwaite.{directions_of}
use borrow.Author.Rules.{rules}
use native.Mathlib.Omega.{arith}
use Rattle.tests_ddf.proofs.components.directions_of.Given as goal

-- cell r of the eigenvector in place k
abbrev cells : ℕ → List Float → List (List Marked) → ℕ → ℕ → Marked
cells q es v r k = at marks v r (index_at q es k)

abbrev pub invariant-loop-k : goal.invariant-loop-k
invariant-loop-k l = (l.r < l.q) × (l.k ≤ l.q) × Filling (given plus_zero) 6 6 (cells l.q l.es l.v) l.q l.r l.k l.initial.out l.out

abbrev pub decreases-loop-k : goal.decreases-loop-k
decreases-loop-k l = l.q - l.k

abbrev pub invariant-loop-r : goal.invariant-loop-r
invariant-loop-r l = (l.r ≤ l.q) × (l.out ≡ table (given plus_zero) 6 6 l.r l.q (cells l.q l.es l.v))

abbrev pub decreases-loop-r : goal.decreases-loop-r
decreases-loop-r l = l.q - l.r
