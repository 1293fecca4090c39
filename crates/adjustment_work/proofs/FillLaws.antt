-- How the calls that fill the lent slices make up their definitions: one turn of each loop, and S X.
use Prim.Native.Nat.{ℕ, ◌+◌, ◌*◌, ◌≤◌}
use native.Mathlib.Omega.{arith}
use mathlib.Core.Path.{◌≡◌, ap, ◌∙◌}
use mathlib.Core.List.{List}
use lib.Ieee.{Float}
use Rattle.algebra_large.specs.joints.Slab.{rows_at, put_rows}
use Rattle.algebra.specs.Small.{Rows}
use Rattle.adjustment.specs.Information.{h_rows, o_rows}
use Rattle.adjustment_work.specs.joints.Work.{square, part, put_stack}
use Rattle.adjustment_work.specs.joints.Steps.{s_at, h_at}
use Rattle.adjustment_work.proofs.WorkLaws.{blocks-apart, rows_in}
use Rattle.adjustment_work.proofs.StackLaws.{stack-more, stack-frame}

-- one more H: S stands as it was
pub h-more : (s n r d q : ℕ) (g : ℕ → Rows) (xs ys zs : List Float) → n ≤ s → ys ≡ put_stack s (s * s) 2 n n r (λ r. h_rows n (g r) (s_at s n xs)) xs
    → d ≡ square s (2 + r) → q ≡ square s 1 → zs ≡ put_rows s d n n (h_rows n (g r) (rows_at s q n n ys)) ys
    → zs ≡ put_stack s (s * s) 2 n n (r + 1) (λ r. h_rows n (g r) (s_at s n xs)) xs
h-more s n r d q g xs ys zs hn ey ed eq ez =
    stack-more s (s * s) 2 n n (λ r. h_rows n (g r) (s_at s n xs)) xs r d (h_rows n (g r) (rows_at s q n n ys)) ys zs ey ed
    (ap (λ (e : ℕ). h_rows n (g r) (rows_at s e n n ys)) eq
    ∙ ap (λ (m : Rows). h_rows n (g r) m)
    (ap (λ (l : List Float). rows_at s (square s 1) n n l) ey
    ∙ stack-frame s (s * s) 2 n n (λ r. h_rows n (g r) (s_at s n xs)) xs r s (square s 1) n n hn hn
    (λ i hi. blocks-apart (s * s) (2 + i) 1 (n * s) (n * s) (λ e. omega arith) (rows_in n s s hn) (rows_in n s s hn))))
    ez

-- one more O
pub o-more : (s n p r d a : ℕ) (x : Rows) (ws xs ys zs : List Float) → ys ≡ put_stack 6 (6 * s) 1 n p r (λ r. o_rows n p (h_at s n ws r) x) xs → d ≡ part s (1 + r)
    → a ≡ square s (2 + r) → zs ≡ put_rows 6 d n p (o_rows n p (rows_at s a n n ws) x) ys → zs ≡ put_stack 6 (6 * s) 1 n p (r + 1) (λ r. o_rows n p (h_at s n ws r) x) xs
o-more s n p r d a x ws xs ys zs ey ed ea ez =
    stack-more 6 (6 * s) 1 n p (λ r. o_rows n p (h_at s n ws r) x) xs r d (o_rows n p (rows_at s a n n ws) x) ys zs ey ed
    (ap (λ (e : ℕ). o_rows n p (rows_at s e n n ws) x) ea) ez

-- S X
pub sx-is : (s n p d a : ℕ) (x : Rows) (ws xs zs : List Float) → d ≡ part s 0 → a ≡ square s 1 → zs ≡ put_rows 6 d n p (o_rows n p (rows_at s a n n ws) x) xs
    → zs ≡ put_rows 6 (part s 0) n p (o_rows n p (s_at s n ws) x) xs
sx-is s n p d a x ws xs zs ed ea ez = rw (← ed, ← ea) ez
