-- The scaling by sigma2: with sigma2 times 2 ^ u, Φ and Φ_A move by u and each P by -u, in marked numbers and in plain ones; and the late refusal 4 is what it was.
use Prim.Native.Nat.{ℕ, zero, suc, ◌≤◌, ◌<◌}
use mathlib.Core.Path.{◌≡◌, refl, sym, ap, ◌∙◌}
use mathlib.Core.Bool.{Bool, false, not, ◌||◌}
use mathlib.Core.List.{List}
use lib.IntN.{ℤ, pos, negsuc, neg_ℤ, nat_abs, +ℤ_idl}
use lib.Ieee.{Float, binary64, mul, div}
use Rattle.arithmetic.specs.declared.Marked.{Marked}
use Rattle.arithmetic.specs.Numbers.{is_finite}
use Rattle.arithmetic.specs.Scale.{scale}
use Rattle.arithmetic.specs.Marks.{given, marked_mul, marked_div}
use Rattle.arithmetic.proofs.Tied.{Tied}
use Rattle.arithmetic.proofs.PlainLaws.{finite-scale}
use Rattle.arithmetic.proofs.MarkLaws.{mul-value, div_value, given-moves}
use Rattle.algebra.specs.Fold.{fold}
use Rattle.algebra.specs.Kind.{floats, marks, zero_of}
use Rattle.algebra.specs.Product.{at, times_number, over_number}
use Rattle.algebra.proofs.FoldLaws.{fold-ext}
use Rattle.algebra.proofs.TableLaws.{table_at}
use Rattle.algebra.proofs.MovingCells.{BearsCells, MovesCells}
use Rattle.algebra.proofs.MovingProducts.{times_number-moves, over_number-moves}
use Rattle.algebra.specs.Small.{Rows, given_cells}
use Rattle.adjustment.specs.Adjusted.{Adjustment, matrix_at, scaled_up, scaled_down, not_all_finite, not_all_finite_marked, output_not_finite}
use Rattle.converter_run.specs.joints.ConvertedInput.{WrittenCells}
use Rattle.algebra_products.proofs.MovingSmall.{tied-still, cells-by, given-cells}

abbrev Matrix : Type 0
Matrix = List (List Marked)

-- a shift the other way is as large
pub abs_neg : (u : ℤ) → nat_abs (neg_ℤ u) ≡ nat_abs u
abs_neg (pos zero) = refl
abs_neg (pos (suc a)) = refl
abs_neg (negsuc a) = refl

pub finite-agrees : (u : ℤ) (x x' : Float) → Tied u x x' → is_finite x' ≡ is_finite x
finite-agrees u x x' e = rw e.moved (finite-scale u x)

-- ---- a scaled cell, without its mark
module _ (p : ℕ) (m : Rows) (x : Float) (i j : ℕ) (hp : p ≤ 6) (h : i < p) (l : j < p) where
  abbrev given-cell : Matrix
  given-cell = given_cells marks 6 6 p p m

  given-at : at marks (given_cells marks 6 6 p p m) i j ≡ given (at floats m i j)
  unfolding given_cells
  given-at = table_at (zero_of marks) 6 6 p p (λ i j. given (at floats m i j)) i j marks.void h l hp hp

  product_at : (at marks (scaled_up marks p m x) i j).value ≡ mul binary64 (at floats m i j) x
  unfolding scaled_up times_number
  product_at =
      ap (λ (y : Marked). y.value)
      (table_at (zero_of marks) 6 6 p p (λ i j. marked_mul (at marks given-cell i j) (given x)) i j marks.void h l hp hp ∙ ap (λ (y : Marked). marked_mul y (given x)) given-at)
      ∙ mul-value (given (at floats m i j)) (given x)

  quotient-at : (at marks (scaled_down marks p m x) i j).value ≡ div binary64 (at floats m i j) x
  unfolding scaled_down over_number
  quotient-at =
      ap (λ (y : Marked). y.value)
      (table_at (zero_of marks) 6 6 p p (λ i j. marked_div (at marks given-cell i j) (given x)) i j marks.void h l hp hp ∙ ap (λ (y : Marked). marked_div y (given x)) given-at)
      ∙ div_value (given (at floats m i j)) (given x)

module _ {t : ℕ} where
  -- numbers that move are finite where they were
  pub finite-cells : (r c : ℕ) (u : ℤ) (a a' : Matrix) → MovesCells t u r c a a' → BearsCells t r c a → not_all_finite_marked r c a' ≡ not_all_finite_marked r c a
  unfolding not_all_finite_marked
  finite-cells r c u a a' p b =
      fold-ext 0 r (λ i z. fold 0 c (λ j z. z || not (is_finite (at marks a' i j).value)) z) (λ i z. fold 0 c (λ j z. z || not (is_finite (at marks a i j).value)) z) false
      (λ i h k z. fold-ext 0 c (λ j z. z || not (is_finite (at marks a' i j).value)) (λ j z. z || not (is_finite (at marks a i j).value)) z
      (λ j o l y. ap (λ (e : Bool). y || not e) (finite-agrees u (at marks a i j).value (at marks a' i j).value (p.cell i j k l (b.cell i j k l)))))

  module _ (p : ℕ) (hp : p ≤ 6) (u : ℤ) (n : nat_abs u ≤ t) (x x' : Float) (e : Tied u x x') where
    still-cells : (m : Rows) → WrittenCells p p m → MovesCells t (pos 0) p p (given_cells marks 6 6 p p m) (given_cells marks 6 6 p p m)
    still-cells m w = given-cells 6 6 p p hp hp (pos 0) m m (λ i j h l. tied-still (at floats m i j) (w i j h l))

    pub scaled_up-moves : (m : Rows) → WrittenCells p p m → MovesCells t u p p (scaled_up marks p m x) (scaled_up marks p m x')
    unfolding scaled_up
    scaled_up-moves m w =
        cells-by (+ℤ_idl u)
        (times_number-moves 6 6 p p hp hp (pos 0) u (rw +ℤ_idl n) (given_cells marks 6 6 p p m) (given_cells marks 6 6 p p m) (given x) (given x') (still-cells m w) (given-moves u x x' e))

    pub scaled_down-moves : (m : Rows) → WrittenCells p p m → MovesCells t (neg_ℤ u) p p (scaled_down marks p m x) (scaled_down marks p m x')
    unfolding scaled_down
    scaled_down-moves m w =
        cells-by (+ℤ_idl (neg_ℤ u))
        (over_number-moves 6 6 p p hp hp (pos 0) u (rw (+ℤ_idl, abs_neg) n) (given_cells marks 6 6 p p m) (given_cells marks 6 6 p p m) (given x) (given x') (still-cells m w)
        (given-moves u x x' e))

    -- so do the plain products and quotients, where the marked ones bear the shift
    pub products-move : (m : Rows) → WrittenCells p p m → BearsCells t p p (scaled_up marks p m x) → (i j : ℕ) → i < p → j < p
        → mul binary64 (at floats m i j) x' ≡ scale u (mul binary64 (at floats m i j) x)
    products-move m w b i j h l = sym (product_at p m x' i j hp h l) ∙ ((scaled_up-moves m w).cell i j h l (b.cell i j h l)).moved ∙ ap (scale u) (product_at p m x i j hp h l)

    pub quotients-move : (m : Rows) → WrittenCells p p m → BearsCells t p p (scaled_down marks p m x) → (i j : ℕ) → i < p → j < p
        → div binary64 (at floats m i j) x' ≡ scale (neg_ℤ u) (div binary64 (at floats m i j) x)
    quotients-move m w b i j h l = sym (quotient-at p m x' i j hp h l) ∙ ((scaled_down-moves m w).cell i j h l (b.cell i j h l)).moved ∙ ap (scale (neg_ℤ u)) (quotient-at p m x i j hp h l)

    -- the late refusal 4 looks at all that is scaled: where it bears the shift, the answer is what it was
    pub output-agrees : (N : ℕ) (phi : Rows) (a : Adjustment) → WrittenCells p p phi → WrittenCells p p a.phi_a → ((r : ℕ) → r < N → WrittenCells p p (matrix_at a.ps r))
        → BearsCells t p p (scaled_up marks p phi x) → BearsCells t p p (scaled_up marks p a.phi_a x) → ((r : ℕ) → r < N → BearsCells t p p (scaled_down marks p (matrix_at a.ps r) x))
        → output_not_finite p N phi x' a ≡ output_not_finite p N phi x a
    unfolding output_not_finite
    output-agrees N phi a w wA wP b bA bP =
        rw (
          finite-cells p p u (scaled_up marks p phi x) (scaled_up marks p phi x') (scaled_up-moves phi w) b,
          finite-cells p p u (scaled_up marks p a.phi_a x) (scaled_up marks p a.phi_a x') (scaled_up-moves a.phi_a wA) bA,
        )
        (ap
        (λ (y : Bool). not_all_finite p p a.phi_a || not_all_finite N N a.w || not_all_finite_marked p p (scaled_up marks p phi x) || not_all_finite_marked p p (scaled_up marks p a.phi_a x) || y)
        (fold-ext 0 N (λ r z. z || not_all_finite p p (matrix_at a.ps r) || not_all_finite_marked p p (scaled_down marks p (matrix_at a.ps r) x'))
        (λ r z. z || not_all_finite p p (matrix_at a.ps r) || not_all_finite_marked p p (scaled_down marks p (matrix_at a.ps r) x)) false
        (λ r h k z. ap (λ (y : Bool). z || not_all_finite p p (matrix_at a.ps r) || y)
        (finite-cells p p (neg_ℤ u) (scaled_down marks p (matrix_at a.ps r) x) (scaled_down marks p (matrix_at a.ps r) x') (scaled_down-moves (matrix_at a.ps r) (wP r k)) (bP r k)))))
