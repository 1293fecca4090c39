-- `tests_ddf::variance::qform_grad` meets its contract.
use Prim.Native.Nat.{ℕ, ◌≤◌, ◌<◌, ◌-◌}
use mathlib.Core.Path.{◌≡◌, ◌∙◌, sym}
use mathlib.Core.List.{List}
use lib.Ieee.{Float, binary64, mul, of_bits}
use Rattle.arithmetic.specs.declared.Marked.{Marked}
use Rattle.arithmetic.specs.Numbers.{plus_zero}
use Rattle.algebra.specs.Fold.{fold}
use Rattle.algebra.specs.Kind.{floats, marks, zero_of}
use Rattle.algebra.specs.Product.{at, sum, sum_cells}
use Rattle.algebra.proofs.FoldLaws.{fold_start, fold_next, fold-ext}
use Rattle.algebra_products.proofs.LoopLaws.{rows_to, rows_none, rows_more, rows_end}
use Rattle.tests.specs.VarianceDf.{entry_at, gradient_values, relative_variance}
use Rattle.tests.proofs.VarianceLaws.{gradient_values-at}
use native.Mathlib.Omega.{arith}
use Rattle.tests_ddf.proofs.variance.qform_grad.Goals as goal

-- what the parameters j and k add to the running sum
abbrev step : List Marked → List (List Float) → ℕ → ℕ → Float → Float
step g a j k s = floats.plus s (mul binary64 (mul binary64 (entry_at marks g j).value (at floats a j k)) (entry_at marks g k).value)

-- the whole form, on the list of the values
form-is : (n : ℕ) (g : List Marked) (a : List (List Float)) → n ≤ 6 → relative_variance floats n (gradient_values marks n g) a ≡ rows_to (step g a) (zero_of floats) n n
unfolding relative_variance sum_cells
form-is n g a h =
    fold-ext 0 n _ _ plus_zero (λ j u l x. fold-ext 0 n _ _ x (λ k v m y. rw (gradient_values-at marks n g j l h, gradient_values-at marks n g k m h)))

form-end : (n : ℕ) (g : List Marked) (a : List (List Float)) (j : ℕ) (s : Float) → n ≤ 6 → j ≤ n → n ≤ j → s ≡ rows_to (step g a) (zero_of floats) n j
    → s ≡ relative_variance floats n (gradient_values marks n g) a
form-end n g a j s h x y e = rows_end (step g a) (zero_of floats) n j n s x y e ∙ sym (form-is n g a h)

pub loop-j-init : goal.loop-j-init
unfolding of_bits
loop-j-init c = (omega arith, rows_none _ _ _)

pub loop-k-init : goal.loop-k-init
loop-k-init c = (omega arith, omega arith, fold_start _ _ _)

pub loop-k-preserved : goal.loop-k-preserved
loop-k-preserved c = (omega arith, omega arith, fold_next _ _ _ _ _ _ (omega arith) c.loop-k.invariant.2 (rw c.qform_term-sum.ensures))

pub loop-j-preserved : goal.loop-j-preserved
loop-j-preserved c = (omega arith, rows_more _ _ _ _ _ _ _ c.loop-j.invariant.1 c.loop-k.invariant.2 c.loop-k.invariant.1 c.loop-k-test.false)

pub returns : goal.returns
returns c = form-end _ _ _ _ _ (omega arith) c.loop-j.invariant.0 c.loop-j-test.false c.loop-j.invariant.1
