-- What the loops of a1 and a2 read: the traces, taken once, and the cells of a transpose, which is not made.
use Prim.Native.Nat.{ℕ, ◌≤◌, ◌<◌}
use native.Mathlib.Omega.{arith}
use mathlib.Core.Path.{◌≡◌, ◌∙◌}
use mathlib.Core.List.{List, []}
use lib.ListN.{get_or}
use lib.Ieee.{Float, nan}
use Rattle.arithmetic.specs.Numbers.{plus_zero}
use Rattle.algebra.specs.Fold.{fold}
use Rattle.algebra.specs.Table.{row}
use Rattle.algebra.specs.Kind.{floats, zero_of}
use Rattle.algebra.specs.Product.{at, trace, transpose}
use Rattle.algebra.proofs.FoldLaws.{fold-ext}
use Rattle.algebra.proofs.TableLaws.{row_at, table_at}
use Rattle.algebra_products.proofs.LoopLaws.{like_step}
use Rattle.algebra.specs.Small.{Rows}
use Rattle.tests.specs.Moments.{weight, a1_of}

-- cell (i, j) of the transpose is read at (j, i)
pub turned-step : (p : ℕ) (a b : Rows) (i j : ℕ) (s : Float) → i < p → j < p → p ≤ 6
    → floats.plus s (floats.times (at floats a i j) (at floats b j i)) ≡ like_step floats a (transpose floats 6 6 p p b) i j s
unfolding transpose
turned-step p a b i j s h l m = rw (table_at (zero_of floats) 6 6 p p (λ i j. at floats b j i) i j floats.void h l m m)

-- a1 from the traces
module _ (N p : ℕ) (w : Rows) (us : List Rows) (ts : List Float) (H : N ≤ 4) (e : ts ≡ row plus_zero 4 N (λ i. trace floats p (get_or us i []))) where
  trace-at : (i : ℕ) → i < N → get_or ts i nan ≡ trace floats p (get_or us i [])
  trace-at i h = rw e (row_at plus_zero 4 N (λ i. trace floats p (get_or us i [])) i nan h H)

  pub a1-is : (r : Float)
      → r ≡ fold 0 N (λ i s. fold i N (λ j s. floats.plus s (floats.times (floats.times (weight w i j) (get_or ts i nan)) (get_or ts j nan))) s) plus_zero
      → r ≡ a1_of N p w us
  unfolding a1_of
  a1-is r d =
      d
      ∙ fold-ext 0 N (λ i s. fold i N (λ j s. floats.plus s (floats.times (floats.times (weight w i j) (get_or ts i nan)) (get_or ts j nan))) s)
      (λ i s. fold i N (λ j s. floats.plus s (floats.times (floats.times (weight w i j) (trace floats p (get_or us i []))) (trace floats p (get_or us j [])))) s) plus_zero
      (λ i l h b. fold-ext i N (λ j s. floats.plus s (floats.times (floats.times (weight w i j) (get_or ts i nan)) (get_or ts j nan)))
      (λ j s. floats.plus s (floats.times (floats.times (weight w i j) (trace floats p (get_or us i []))) (trace floats p (get_or us j [])))) b
      (λ j m k z. rw (trace-at i h, trace-at j k)))
