use Prim.Native.Nat.{ℕ, ◌≤◌, ◌-◌}
use mathlib.Core.Path.{◌≡◌}
use mathlib.Core.List.{List}
use lib.Ieee.{Float, of_bits}
use Rattle.arithmetic.specs.declared.Marked.{Marked}
use Rattle.arithmetic.specs.Numbers.{plus_zero}
use Rattle.arithmetic.specs.Marks.{given}
use Rattle.algebra.specs.Table.{row}
use Rattle.algebra.specs.Kind.{marks}
use Rattle.algebra.specs.Product.{at}
use Rattle.algebra.proofs.FoldLaws.{fold_start, fold_next, fold_end}
use Rattle.tests.specs.Order.{index_at}
use Rattle.tests.specs.Satterthwaite.{variances_of}
use borrow.Author.Rules.{rules}
use native.Mathlib.Omega.{arith}
use Rattle.tests_ddf.proofs.components.variances_of.Given as goal

-- the eigenvalue in place k
abbrev placed : ℕ → List Float → List (List Marked) → ℕ → Marked
placed q es d k = at marks d (index_at q es k) (index_at q es k)

abbrev pub invariant-loop-k : goal.invariant-loop-k
invariant-loop-k l = (l.k ≤ l.q) × (l.out ≡ row (given plus_zero) 6 l.k (placed l.q l.es l.d))

abbrev pub decreases-loop-k : goal.decreases-loop-k
decreases-loop-k l = l.q - l.k
