-- Laws of stacks of matrices in one list, and of stacks of small matrices: what stands where, and what a stack leaves as it was.
use Prim.Native.Nat.{ℕ, ◌+◌, ◌*◌, ◌<◌, ◌≤◌}
use native.Mathlib.Omega.{arith}
use native.Mathlib.Decide.{dec_lt}
use mathlib.Core.Path.{◌≡◌, refl, ap, ◌∙◌}
use mathlib.Core.List.{List}
use lib.ListN.{length}
use lib.Ieee.{Float}
use Rattle.algebra.proofs.FoldLaws.{fold_start, fold_next, fold_end, fold-keeps, fold-steps}
use Rattle.algebra_large.specs.joints.Slab.{rows_at, put_rows, Holds, Apart}
use Rattle.algebra_large.proofs.SlabLaws.{Shape, length-put_rows, read_back, frame}
use Rattle.algebra.specs.Small.{Rows}
use Rattle.adjustment_work.specs.joints.Work.{put_stack}
use Rattle.adjustment_work.proofs.WorkLaws.{blocks-apart}

module _ (s b o n c : ℕ) (f : ℕ → Rows) (xs : List Float) where
  -- where the loop starts, goes on and ends
  pub stack-none : xs ≡ put_stack s b o n c 0 f xs
  unfolding put_stack
  stack-none = fold_start 0 (λ r ys. put_rows s ((o + r) * b) n c (f r) ys) xs

  pub stack-more : (k d : ℕ) (m : Rows) (ys zs : List Float) → ys ≡ put_stack s b o n c k f xs → d ≡ (o + k) * b → m ≡ f k → zs ≡ put_rows s d n c m ys
      → zs ≡ put_stack s b o n c (k + 1) f xs
  unfolding put_stack
  stack-more k d m ys zs ey ed em ez =
      fold_next 0 k (λ r ys. put_rows s ((o + r) * b) n c (f r) ys) xs ys zs (omega arith) ey
      (ez ∙ ap (λ (e : ℕ). put_rows s e n c m ys) ed ∙ ap (λ (q : Rows). put_rows s ((o + k) * b) n c q ys) em)

  pub stack-end : (k h : ℕ) (ys : List Float) → k ≤ h → h ≤ k → ys ≡ put_stack s b o n c k f xs → ys ≡ put_stack s b o n c h f xs
  unfolding put_stack
  stack-end k h ys l g e = fold_end 0 k h (λ r ys. put_rows s ((o + r) * b) n c (f r) ys) xs ys l g e

  -- a matrix that is apart from all of them reads as before
  pub stack-frame : (k t a q e : ℕ) → c ≤ s → e ≤ t → ((r : ℕ) → r < k → Apart ((o + r) * b) (n * s) a (q * t))
      → rows_at t a q e (put_stack s b o n c k f xs) ≡ rows_at t a q e xs
  unfolding put_stack
  stack-frame k t a q e hc he h =
      fold-keeps (λ ys. rows_at t a q e ys ≡ rows_at t a q e xs) 0 k (λ r ys. put_rows s ((o + r) * b) n c (f r) ys) xs refl
      (λ r lo hi ys g. frame s ((o + r) * b) n c t a q e (f r) ys (h r hi) hc he ∙ g)

  -- each of them is read back
  pub stack-read : (k r : ℕ) → c ≤ s → n * s ≤ b → Holds s ((o + r) * b) n c (length xs) → Shape n c (f r) → r < k → rows_at s ((o + r) * b) n c (put_stack s b o n c k f xs) ≡ f r
  unfolding put_stack
  stack-read k r hc hb h q hr =
      (fold-steps (λ i ys. (length ys ≡ length xs) × (r < i → rows_at s ((o + r) * b) n c ys ≡ f r)) 0 k (λ r ys. put_rows s ((o + r) * b) n c (f r) ys) xs (omega arith)
      (refl, λ l. absurd (omega arith))
      (λ i lo hi ys e. (length-put_rows s ((o + i) * b) n c (f i) ys ∙ e.0, λ l. go i ys e.0 e.1 l (dec_lt r i)))).1 hr
    where
      go : (i : ℕ) (ys : List Float) → length ys ≡ length xs → (r < i → rows_at s ((o + r) * b) n c ys ≡ f r) → r < i + 1 → Dec (r < i)
          → rows_at s ((o + r) * b) n c (put_rows s ((o + i) * b) n c (f i) ys) ≡ f r
      go i ys e g l (yes w) =
          frame s ((o + i) * b) n c s ((o + r) * b) n c (f i) ys (blocks-apart b (o + i) (o + r) (n * s) (n * s) (λ z. omega arith) hb hb) hc hc ∙ g w
      go i ys e g l (no w) = let z : i ≡ r = omega arith in rw z (read_back ys (rw e h) q)
