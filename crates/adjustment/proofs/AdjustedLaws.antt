-- How the calls of the adjustment's functions make up its definitions.
use Prim.Native.Nat.{ℕ}
use mathlib.Core.Path.{◌≡◌}
use mathlib.Core.Bool.{Bool, false, not, ◌||◌}
use mathlib.Core.List.{List}
use lib.Ieee.{Float}
use Rattle.arithmetic.specs.declared.Marked.{Marked}
use Rattle.arithmetic.specs.Numbers.{is_finite}
use Rattle.algebra.specs.Fold.{fold}
use Rattle.algebra.specs.Kind.{floats, marks}
use Rattle.algebra.specs.Product.{at, product, transpose, plus_cells, times_number}
use Rattle.algebra.specs.Jacobi.{two}
use Rattle.algebra.specs.Small.{Rows}
use Rattle.adjustment.specs.Adjusted.{Stack, matrix_at, u_term_at, u_above, u_rows, phi_a_rows, scaled_up, scaled_down, not_all_finite, not_all_finite_marked, output_not_finite}

-- u with a term added, t by its definition x
pub plus-is : (p : ℕ) (u t x y : Rows) → t ≡ x → y ≡ plus_cells floats 6 6 p p u t → y ≡ plus_cells floats 6 6 p p u x
plus-is p u t x y e d = rw (← e) d

-- U from its three parts
pub u_rows-is : (p N : ℕ) (phi : Rows) (ps qs : Stack) (w above below both out : Rows) → above ≡ u_above p N phi ps qs w N → below ≡ transpose floats 6 6 p p above
    → both ≡ plus_cells floats 6 6 p p above below → out ≡ fold 0 N (λ r u. plus_cells floats 6 6 p p u (u_term_at p N phi ps qs w r r)) both → out ≡ u_rows p N phi ps qs w
unfolding u_rows
u_rows-is p N phi ps qs w above below both out e f g h = rw (← e, ← f, ← g) h

-- Φ_A from its products
pub phi_a-is : (p : ℕ) (phi u left gamma twice out : Rows) → left ≡ product floats 6 6 p p p phi u → gamma ≡ product floats 6 6 p p p left phi
    → twice ≡ times_number floats 6 6 p p gamma two → out ≡ plus_cells floats 6 6 p p phi twice → out ≡ phi_a_rows p phi u
unfolding phi_a_rows
phi_a-is p phi u left gamma twice out e f g h = rw (← e, ← f, ← g) h

-- the step of the search for a number that is not finite
abbrev pub finite_step : Rows → ℕ → ℕ → Bool → Bool
finite_step m i j z = z || not (is_finite (at floats m i j))

abbrev pub finite_step_marked : List (List Marked) → ℕ → ℕ → Bool → Bool
finite_step_marked m i j z = z || not (is_finite (at marks m i j).value)

-- a P and the P over sigma2, joined to what was found before
pub ps-step : (p : ℕ) (m : Rows) (sigma2 : Float) (z plain scaled : Bool) (down : List (List Marked)) → plain ≡ not_all_finite p p m → down ≡ scaled_down marks p m sigma2
    → scaled ≡ not_all_finite_marked p p down → z || plain || scaled ≡ z || not_all_finite p p m || not_all_finite_marked p p (scaled_down marks p m sigma2)
ps-step p m sigma2 z plain scaled down e f g = rw (g, e, f)

-- what is not finite in the output, from its five parts
pub output-is : (p N : ℕ) (phi : Rows) (sigma2 : Float) (phi_a : Rows) (ps : Stack) (w : Rows) (k : ℕ) (plain inverse before after each : Bool)
    → plain ≡ not_all_finite p p phi_a → inverse ≡ not_all_finite N N w → before ≡ not_all_finite_marked p p (scaled_up marks p phi sigma2)
    → after ≡ not_all_finite_marked p p (scaled_up marks p phi_a sigma2) → each ≡ fold 0 N (λ r z. z || not_all_finite p p (matrix_at ps r) || not_all_finite_marked p p (scaled_down marks p (matrix_at ps r) sigma2)) false
    → plain || inverse || before || after || each ≡ output_not_finite p N phi sigma2 (record { phi_a = phi_a; ps = ps; w = w; rotations = k })
unfolding output_not_finite
output-is p N phi sigma2 phi_a ps w k plain inverse before after each e f g h l = rw (e, f, g, h, l)
