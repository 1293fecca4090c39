use Prim.Native.Nat.{ℕ, ◌≤◌, ◌-◌}
use mathlib.Core.Path.{◌≡◌}
use mathlib.Core.List.{List}
use Rattle.arithmetic.specs.declared.Marked.{Marked}
use Rattle.arithmetic.specs.Marks.{marked_mul, marked_div}
use Rattle.algebra.specs.Kind.{marks}
use Rattle.algebra.specs.Product.{at, sum}
use Rattle.algebra_products.proofs.LoopLaws.{sum-none, sum_more, sum-end}
use Rattle.tests.specs.VarianceDf.{entry_at}
use borrow.Author.Rules.{rules}
use native.Mathlib.Omega.{arith}
use Rattle.tests_ddf.proofs.components.squares_sum.Given as goal

-- what component k adds
abbrev term : List (List Marked) → List Marked → ℕ → Marked
term y es k = marked_div (marked_mul (at marks y k 0) (at marks y k 0)) (entry_at marks es k)

abbrev total : ℕ → (ℕ → Marked) → Marked
total k f = sum marks k f

abbrev pub invariant-loop-k : goal.invariant-loop-k
invariant-loop-k l = (l.k ≤ l.q) × (l.sum ≡ total l.k (term l.y l.es))

abbrev pub decreases-loop-k : goal.decreases-loop-k
decreases-loop-k l = l.q - l.k
