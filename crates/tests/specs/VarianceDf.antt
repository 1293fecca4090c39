-- Document 01, "ddf.rs": "df by `variance_df`: none unless V finite and > 0; g = J/V (M ends); r = sum over j, k of (g_j A_jk) g_k; 2/r if r finite and > 0, else none."
-- A variance and its gradient, a number for each of n parameters, are of a kind of number N, in the contracts marked; A is given, and r is made of plain numbers.
use Rattle.std.specs.Prelude.{ℕ, cond, List, get_or, Option, Some, None, Float}
use Rattle.std.specs.Float.{binary64}
use Rattle.std.specs.Float.Ieee.{div}
use Rattle.arithmetic.specs.Numbers.{plus_zero}
use Rattle.algebra.specs.Fold.{fold}
use Rattle.algebra.specs.Table.{row}
use Rattle.algebra.specs.Kind.{Arith, zero_of, floats}
use Rattle.algebra.specs.Product.{at, sum_cells}
use Rattle.algebra.specs.Jacobi.{two}
use Rattle.tests.specs.Both.{is_positive}

-- number i of a list of numbers
abbrev pub entry_at : {A : Type 0} → Arith A → List A → ℕ → A
entry_at N xs i = get_or xs i N.void

-- "g = J/V (M ends)": the last marked steps
unfoldable pub relative_gradient : {A : Type 0} → Arith A → ℕ → A → List A → List A
relative_gradient N n variance gradient = row (zero_of N) 6 n (λ i. N.over (entry_at N gradient i) variance)

-- "M ends": the values of g
unfoldable pub gradient_values : {A : Type 0} → Arith A → ℕ → List A → List Float
gradient_values N n g = row plus_zero 6 n (λ i. N.value (entry_at N g i))

-- "r = sum over j, k of (g_j A_jk) g_k"; the document's r is that of plain numbers
unfoldable pub relative_variance : {A : Type 0} → Arith A → ℕ → List A → List (List Float) → A
relative_variance N n g a = sum_cells N n n (λ j k. N.times (N.times (entry_at N g j) (N.of (at floats a j k))) (entry_at N g k))

-- "2/r if r finite and > 0, else none"
unfoldable pub df_of_relative : Float → Option Float
df_of_relative r = cond (is_positive r) (Some (div binary64 two r)) None

-- "none unless V finite and > 0"
unfoldable pub variance_df : {A : Type 0} → Arith A → ℕ → List (List Float) → A → List A → Option Float
variance_df N n a variance gradient =
    cond (is_positive (N.value variance)) (df_of_relative (relative_variance floats n (gradient_values N n (relative_gradient N n variance gradient)) a)) None

-- `seen`, with the mark of every g counted where g is made; it counts also where r gives none
unfoldable pub gradient_seen : {A : Type 0} → Arith A → ℕ → A → List A → A → A
gradient_seen N n variance gradient seen =
    cond (is_positive (N.value variance)) (fold 0 n (λ i s. N.also s (entry_at N (relative_gradient N n variance gradient) i)) seen) seen
