-- `tests_ddf::components::squares_sum` meets its contract.
use Prim.Native.Nat.{ℕ, ◌≤◌, ◌-◌}
use mathlib.Core.Path.{◌≡◌}
use mathlib.Core.List.{List}
use Rattle.arithmetic.specs.declared.Marked.{Marked}
use Rattle.arithmetic.specs.Marks.{marked_mul, marked_div}
use Rattle.algebra.specs.Kind.{marks}
use Rattle.algebra.specs.Product.{at, sum}
use Rattle.algebra_products.proofs.LoopLaws.{sum-none, sum_more, sum-end}
use Rattle.tests.specs.VarianceDf.{entry_at}
use borrow.Author.Rules.{rules}
use native.Mathlib.Omega.{arith}
use Rattle.tests_ddf.proofs.components.squares_sum.Goals as goal

-- what component k adds
abbrev term : List (List Marked) → List Marked → ℕ → Marked
term y es k = marked_div (marked_mul (at marks y k 0) (at marks y k 0)) (entry_at marks es k)

abbrev total : ℕ → (ℕ → Marked) → Marked
total k f = sum marks k f

pub loop-k-init : goal.loop-k-init
loop-k-init c = (omega arith, rw c.zero_of-sum.ensures (sum-none marks _))

pub loop-k-preserved : goal.loop-k-preserved
loop-k-preserved c = (omega arith, sum_more marks _ _ _ _ c.loop-k.invariant.1 (rw (← c.square_over.ensures) c.add-sum.ensures))

pub returns : goal.returns
returns c = sum-end marks _ _ _ _ c.loop-k.invariant.0 c.loop-k-test.false c.loop-k.invariant.1
