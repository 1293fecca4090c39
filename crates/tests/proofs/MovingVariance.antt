-- `variance_df` and its mark, on a variance that a second run has scaled by 2 ^ w and a gradient of which it has scaled number i by 2 ^ (u i): g_i moves by u i - w. Where all shifts are w no g
-- moves, so df is the same.
use Prim.Native.Nat.{ℕ, ◌≤◌, ◌<◌}
use native.Mathlib.Omega.{arith}
use mathlib.Core.Path.{◌≡◌, refl, ap}
use mathlib.Core.Bool.{Bool, true, false, cond}
use mathlib.Core.List.{List}
use lib.IntN.{ℤ, pos, nat_abs, ◌-ℤ◌, +ℤ_invr}
use lib.Ieee.{Float, binary64, add, mul}
use Rattle.arithmetic.specs.declared.Marked.{Marked}
use Rattle.arithmetic.specs.Numbers.{plus_zero}
use Rattle.arithmetic.specs.Marks.{given, marked_div, also}
use Rattle.arithmetic.proofs.Tied.{Tied}
use Rattle.arithmetic.proofs.ScaleLaws.{lt-scale}
use Rattle.arithmetic.proofs.PlainLaws.{finite-scale}
use Rattle.arithmetic.proofs.MarkLaws.{Bears, Moves, also-bears, div-moves}
use Rattle.algebra.specs.Fold.{fold}
use Rattle.algebra.specs.Table.{row}
use Rattle.algebra.specs.Kind.{floats, marks}
use Rattle.algebra.specs.Product.{at, sum_cells}
use Rattle.algebra.proofs.FoldLaws.{fold-ext}
use Rattle.algebra.proofs.TableLaws.{row_at}
use Rattle.algebra.proofs.MovingCells.{first-bears, step-bears, moves-by, still-value, cond_both}
use Rattle.std.specs.Prelude.{None}
use Rattle.tests.specs.VarianceDf.{entry_at, relative_gradient, gradient_values, relative_variance, df_of_relative, variance_df, gradient_seen}
use Rattle.tests.proofs.VarianceLaws.{gradient_values-agree}
use Rattle.tests.specs.Both.{is_positive}

-- "finite and > 0" holds of a number and of its multiple by a power of two alike
pub positive-agrees : (u : ℤ) (x x' : Float) → Tied u x x' → is_positive x' ≡ is_positive x
unfolding is_positive
positive-agrees u x x' p = rw (p.moved, finite-scale u x, lt-scale u plus_zero x)

-- ---- rows of marked numbers
module _ {t : ℕ} (C c : ℕ) (h : c ≤ C) where
  -- each number by its own shift
  pub row-moves : (u : ℕ → ℤ) (f f' : ℕ → Marked) → ((i : ℕ) → i < c → Moves t (u i) (f i) (f' i)) → (i : ℕ) → i < c
      → Moves t (u i) (entry_at marks (row (given plus_zero) C c f) i) (entry_at marks (row (given plus_zero) C c f') i)
  row-moves u f f' p i l = rw (row_at (given plus_zero) C c f i marks.void l h, row_at (given plus_zero) C c f' i marks.void l h) (p i l)

-- ---- r depends on the values of g alone
pub relative_variance-agrees : (n : ℕ) (g g' : List Marked) (a a' : List (List Float)) → ((i : ℕ) → i < n → (entry_at marks g' i).value ≡ (entry_at marks g i).value)
    → ((j k : ℕ) → j < n → k < n → at floats a' j k ≡ at floats a j k)
    → relative_variance floats n (gradient_values marks n g') a' ≡ relative_variance floats n (gradient_values marks n g) a
unfolding relative_variance sum_cells
relative_variance-agrees n g g' a a' e d =
    rw (gradient_values-agree marks marks n g' g e)
    (fold-ext 0 n (λ j s. fold 0 n (λ k s. add binary64 s (term a' j k)) s) (λ j s. fold 0 n (λ k s. add binary64 s (term a j k)) s) plus_zero
    (λ j h l b. fold-ext 0 n (λ k s. add binary64 s (term a' j k)) (λ k s. add binary64 s (term a j k)) b
    (λ k i m s. ap (add binary64 s) (same j k l m))))
  where
    term : List (List Float) → ℕ → ℕ → Float
    term a j k = mul binary64 (mul binary64 (entry_at floats (gradient_values marks n g) j) (at floats a j k)) (entry_at floats (gradient_values marks n g) k)

    same : (j k : ℕ) → j < n → k < n → term a' j k ≡ term a j k
    same j k l m = rw (d j k l m)

module _ {t : ℕ} (n : ℕ) (h : n ≤ 6) where
  -- ---- the mark
  pub gradient-first : (v : Marked) (g : List Marked) (seen : Marked) → Bears t (gradient_seen marks n v g seen) → Bears t seen
  unfolding gradient_seen
  gradient-first v g seen =
      cond_both (λ x. Bears t x → Bears t seen) (is_positive v.value) (fold 0 n (λ i s. also s (entry_at marks (relative_gradient marks n v g) i)) seen) seen
      (first-bears 0 n (λ i s. also s (entry_at marks (relative_gradient marks n v g) i)) seen (λ i b y. (also-bears b (entry_at marks (relative_gradient marks n v g) i) y).0)) (λ b. b)

  pub gradient-each : (v : Marked) (g : List Marked) (seen : Marked) → is_positive v.value ≡ true → Bears t (gradient_seen marks n v g seen)
      → (i : ℕ) → i < n → Bears t (entry_at marks (relative_gradient marks n v g) i)
  unfolding gradient_seen
  gradient-each v g seen e b i l =
      let s : ℕ → Marked → Marked = λ i s. also s (entry_at marks (relative_gradient marks n v g) i) in
      let d : Bears t (fold 0 n s seen) = rw e at b in
      (also-bears (fold 0 i s seen) (entry_at marks (relative_gradient marks n v g) i)
      (step-bears 0 n s seen (λ i b y. (also-bears b (entry_at marks (relative_gradient marks n v g) i) y).0) d i (omega arith) l)).1

  -- ---- the second run
  pub relative-moves : (w : ℤ) (u : ℕ → ℤ) → ((i : ℕ) → i < n → nat_abs (u i -ℤ w) ≤ t) → (v v' : Marked) (g g' : List Marked) → Moves t w v v'
      → ((i : ℕ) → i < n → Moves t (u i) (entry_at marks g i) (entry_at marks g' i))
      → (i : ℕ) → i < n → Moves t (u i -ℤ w) (entry_at marks (relative_gradient marks n v g) i) (entry_at marks (relative_gradient marks n v' g') i)
  unfolding relative_gradient
  relative-moves w u small v v' g g' pv pg =
      row-moves 6 n h (λ i. u i -ℤ w) (λ i. marked_div (entry_at marks g i) v) (λ i. marked_div (entry_at marks g' i) v')
      (λ i l. div-moves (u i) w (small i l) (entry_at marks g i) v (entry_at marks g' i) v' (pg i l) pv)

  module _ (w : ℤ) (v v' : Marked) (g g' : List Marked) (pv : Moves t w v v') (pg : (i : ℕ) → i < n → Moves t w (entry_at marks g i) (entry_at marks g' i)) where
    -- J and V move alike
    still-gradient : (i : ℕ) → i < n → Moves t (pos 0) (entry_at marks (relative_gradient marks n v g) i) (entry_at marks (relative_gradient marks n v' g') i)
    still-gradient i l =
        moves-by (entry_at marks (relative_gradient marks n v g) i) (entry_at marks (relative_gradient marks n v' g') i) (+ℤ_invr w)
        (relative-moves w (λ j. w) (λ j m. rw +ℤ_invr (omega arith)) v v' g g' pv pg i l)

    pub variance_df-agrees : (a a' : List (List Float)) (seen : Marked) → ((j k : ℕ) → j < n → k < n → at floats a' j k ≡ at floats a j k)
        → Bears t v → Bears t (gradient_seen marks n v g seen) → variance_df marks n a' v' g' ≡ variance_df marks n a v g
    unfolding variance_df
    variance_df-agrees a a' seen d bv b =
        rw (positive-agrees w v.value v'.value (pv bv)) (go (is_positive v.value) refl)
      where
        go : (x : Bool) → is_positive v.value ≡ x
            → cond x (df_of_relative (relative_variance floats n (gradient_values marks n (relative_gradient marks n v' g')) a')) None
            ≡ cond x (df_of_relative (relative_variance floats n (gradient_values marks n (relative_gradient marks n v g)) a)) None
        go false e = refl
        go true e =
            ap df_of_relative
            (relative_variance-agrees n (relative_gradient marks n v g) (relative_gradient marks n v' g') a a'
            (λ i l. still-value (entry_at marks (relative_gradient marks n v g) i) (entry_at marks (relative_gradient marks n v' g') i) (still-gradient i l) (gradient-each v g seen e b i l)) d)
