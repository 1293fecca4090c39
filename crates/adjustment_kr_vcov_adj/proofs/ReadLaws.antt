-- What the code reads in the lent slices is what the definitions name: S, the Hs and the Os, and so the Ps, the Qs and IE.
use Prim.Native.Nat.{ℕ, ◌+◌, ◌*◌, ◌<◌, ◌≤◌}
use native.Mathlib.Omega.{arith}
use mathlib.Core.Path.{◌≡◌, refl, sym, ap, ◌∙◌}
use mathlib.Core.Bool.{cond}
use mathlib.Core.List.{List, []}
use lib.Dec.{leb}
use lib.ListN.{length, set, replicate, length-replicate}
use lib.Ieee.{Float}
use Rattle.arithmetic.specs.Numbers.{plus_zero}
use Rattle.algebra.specs.Fold.{fold}
use Rattle.algebra.specs.Table.{blank}
use Rattle.algebra.specs.Kind.{floats}
use Rattle.algebra.specs.Product.{cell, product}
use Rattle.algebra.proofs.FoldLaws.{fold-ext, span-at}
use Rattle.algebra.proofs.TableLaws.{table-ext}
use Rattle.algebra_large.specs.joints.Slab.{put_rows}
use Rattle.algebra_large.proofs.SlabLaws.{Shape, shape-table, length-put_rows, read_back}
use Rattle.algebra.specs.Small.{Rows}
use Rattle.adjustment.specs.Covariance.{Design, matrices, g_rows}
use Rattle.adjustment.specs.Information.{h_rows, o_rows, p_rows, q_rows, packed, k_cell, ie_cell, mirror}
use Rattle.adjustment.specs.Adjusted.{Stack, matrix_at, stack, q_stack, h_stack, o_stack, p_stack, q_stack_of, ie_rows}
use Rattle.adjustment.proofs.WrittenLaws.{stack-ext}
use Rattle.adjustment_work.specs.joints.Work.{square, part, put_stack, with_hs}
use Rattle.adjustment_kr_vcov_adj.specs.joints.Parts.{ps_of, qs_of, ie_of}
use Rattle.adjustment_work.specs.joints.Steps.{s_at, h_at, sx_at, o_at, ie_at}
use Rattle.adjustment_work.proofs.WorkLaws.{blocks-apart, rows_in, square-held, part_held}
use Rattle.adjustment_work.proofs.StackLaws.{stack-frame, stack-read}

shape-product : (r n c : ℕ) (a b : Rows) → Shape r c (product floats r c r n c a b)
unfolding product
shape-product r n c a b = shape-table plus_zero r c (cell floats n a b)

-- stacks whose matrices agree
pub q-stack-ext : (N : ℕ) (f g : ℕ → ℕ → Rows) → ((r t : ℕ) → r < N → t < N → f r t ≡ g r t) → q_stack N f ≡ q_stack N g
unfolding q_stack
q-stack-ext N f g h =
    fold-ext 0 N (λ r st. fold r N (λ s st. set st (packed N r s) (f r s)) st) (λ r st. fold r N (λ s st. set st (packed N r s) (g r s)) st) (replicate 10 (blank plus_zero 6 6))
    (λ r lo hr st. fold-ext r N (λ s st. set st (packed N r s) (f r s)) (λ s st. set st (packed N r s) (g r s)) st (λ t l ht st. ap (λ (m : Rows). set st (packed N r t) m) (h r t hr ht)))

pub mirror-ext : (N : ℕ) (f g : ℕ → ℕ → Float) → ((r t : ℕ) → r < N → t < N → f r t ≡ g r t) → mirror N f ≡ mirror N g
unfolding mirror
mirror-ext N f g h =
    table-ext plus_zero 6 6 N N (λ r s. cond (leb r s) (f r s) (f s r)) (λ r s. cond (leb r s) (g r s) (g s r)) (λ r t hr ht. rw (h r t hr ht, h t r ht hr))

-- the matrices of a stack
pub h-stack-at : (d : Design) (sm : Rows) (r : ℕ) → matrices d ≤ 4 → r < matrices d → matrix_at (h_stack d sm) r ≡ h_rows d.n (g_rows d r) sm
unfolding h_stack
h-stack-at d sm r hN hr =
    let none : Rows = [] in
    span-at 0 (matrices d) (λ r. h_rows d.n (g_rows d r) sm) (replicate 4 none) r none (omega arith) hr (omega (arith, length-replicate 4 none))

pub o-stack-at : (d : Design) (hs : Stack) (r : ℕ) → matrices d ≤ 4 → r < matrices d → matrix_at (o_stack d hs) r ≡ o_rows d.n d.p (matrix_at hs r) d.x
unfolding o_stack
o-stack-at d hs r hN hr =
    let none : Rows = [] in
    span-at 0 (matrices d) (λ r. o_rows d.n d.p (matrix_at hs r) d.x) (replicate 4 none) r none (omega arith) hr (omega (arith, length-replicate 4 none))

-- the work slice w₁ with the Hs, of S in w₀
module _ (s : ℕ) (d : Design) (w₀ w₁ : List Float) (hn : d.n ≤ s) (hN : matrices d ≤ 4) (hw : 6 * (s * s) ≤ length w₀)
    (e₁ : w₁ ≡ with_hs s d (s_at s d.n w₀) w₀) where
  abbrev sm : Rows
  sm = s_at s d.n w₀

  pub s_read : s_at s d.n w₁ ≡ sm
  unfolding with_hs
  s_read =
      ap (λ (l : List Float). s_at s d.n l) e₁
      ∙ stack-frame s (s * s) 2 d.n d.n (λ r. h_rows d.n (g_rows d r) sm) w₀ (matrices d) s (square s 1) d.n d.n hn hn
      (λ r hr. blocks-apart (s * s) (2 + r) 1 (d.n * s) (d.n * s) (λ e. omega arith) (rows_in d.n s s hn) (rows_in d.n s s hn))

  pub h-read : (r : ℕ) → r < matrices d → h_at s d.n w₁ r ≡ matrix_at (h_stack d sm) r
  unfolding with_hs h_rows
  h-read r hr =
      ap (λ (l : List Float). h_at s d.n l r) e₁
      ∙ stack-read s (s * s) 2 d.n d.n (λ r. h_rows d.n (g_rows d r) sm) w₀ (matrices d) r hn (rows_in d.n s s hn)
      (square-held s d.n (2 + r) (square s (2 + r)) (length w₀) hn hw (omega arith) refl) (shape-product d.n d.n d.n (g_rows d r) sm) hr
      ∙ sym (h-stack-at d sm r hN hr)

  -- the narrow slice v₂ with S X and the Os
  module _ (v₀ v₁ v₂ : List Float) (hp : d.p ≤ 6) (hv : 6 * (6 * s) ≤ length v₀) (f₁ : v₁ ≡ put_rows 6 (part s 0) d.n d.p (o_rows d.n d.p (s_at s d.n w₁) d.x) v₀)
      (f₂ : v₂ ≡ put_stack 6 (6 * s) 1 d.n d.p (matrices d) (λ r. o_rows d.n d.p (h_at s d.n w₁ r) d.x) v₁) where
    long : length v₁ ≡ length v₀
    long = ap length f₁ ∙ length-put_rows 6 (part s 0) d.n d.p (o_rows d.n d.p (s_at s d.n w₁) d.x) v₀

    fits : d.n * 6 ≤ 6 * s
    fits = omega arith

    pub sx-read : sx_at s d.n d.p v₂ ≡ o_rows d.n d.p sm d.x
    unfolding o_rows
    sx-read =
        ap (λ (l : List Float). sx_at s d.n d.p l) f₂
        ∙ stack-frame 6 (6 * s) 1 d.n d.p (λ r. o_rows d.n d.p (h_at s d.n w₁ r) d.x) v₁ (matrices d) 6 (part s 0) d.n d.p hp hp
        (λ r hr. blocks-apart (6 * s) (1 + r) 0 (d.n * 6) (d.n * 6) (λ e. omega arith) fits fits)
        ∙ ap (λ (l : List Float). sx_at s d.n d.p l) f₁
        ∙ read_back v₀ (part_held s d.n d.p 0 (part s 0) (length v₀) hn hp hv (omega arith) refl) (shape-product d.n d.n d.p (s_at s d.n w₁) d.x)
        ∙ ap (λ (m : Rows). o_rows d.n d.p m d.x) s_read

    pub o-read : (r : ℕ) → r < matrices d → o_at s d.n d.p v₂ r ≡ matrix_at (o_stack d (h_stack d sm)) r
    unfolding o_rows
    o-read r hr =
        ap (λ (l : List Float). o_at s d.n d.p l r) f₂
        ∙ stack-read 6 (6 * s) 1 d.n d.p (λ r. o_rows d.n d.p (h_at s d.n w₁ r) d.x) v₁ (matrices d) r hp fits
        (part_held s d.n d.p (1 + r) (part s (1 + r)) (length v₁) hn hp (omega (arith, long)) (omega arith) refl) (shape-product d.n d.n d.p (h_at s d.n w₁ r) d.x) hr
        ∙ ap (λ (m : Rows). o_rows d.n d.p m d.x) (h-read r hr)
        ∙ sym (o-stack-at d (h_stack d sm) r hN hr)

    pub ps-is : (ps : Stack) → ps ≡ stack 4 (matrices d) (λ r. p_rows d.n d.p (o_at s d.n d.p v₂ r) (sx_at s d.n d.p v₂)) → ps ≡ ps_of d sm
    unfolding ps_of p_stack
    ps-is ps e =
        e ∙ stack-ext 4 (matrices d) (λ r. p_rows d.n d.p (o_at s d.n d.p v₂ r) (sx_at s d.n d.p v₂))
        (λ r. p_rows d.n d.p (matrix_at (o_stack d (h_stack d sm)) r) (o_rows d.n d.p sm d.x)) (λ r hr. rw (o-read r hr, sx-read))

    pub qs-is : (qs : Stack)
        → qs ≡ q_stack (matrices d) (λ r t. q_rows d.n d.p (o_at s d.n d.p v₂ r) (s_at s d.n w₁) (o_at s d.n d.p v₂ t)) → qs ≡ qs_of d sm
    unfolding qs_of q_stack_of
    qs-is qs e =
        e ∙ q-stack-ext (matrices d) (λ r t. q_rows d.n d.p (o_at s d.n d.p v₂ r) (s_at s d.n w₁) (o_at s d.n d.p v₂ t))
        (λ r t. q_rows d.n d.p (matrix_at (o_stack d (h_stack d sm)) r) sm (matrix_at (o_stack d (h_stack d sm)) t)) (λ r t hr ht. rw (o-read r hr, o-read t ht, s_read))

  pub ie-of-is : (phi m : Rows) (ps qs : Stack) → ps ≡ ps_of d sm → qs ≡ qs_of d sm → m ≡ mirror (matrices d) (ie_at s d.n d.p (matrices d) phi ps qs w₁) → m ≡ ie_of d phi sm
  unfolding ie_of ie_rows ie_at
  ie-of-is phi m ps qs ep eq em =
      em ∙ mirror-ext (matrices d) (λ r t. ie_cell d.p (k_cell d.n (h_at s d.n w₁ r) (h_at s d.n w₁ t)) phi (matrix_at qs (packed (matrices d) r t)) (matrix_at ps r) (matrix_at ps t))
      (λ r t. ie_cell d.p (k_cell d.n (matrix_at (h_stack d sm) r) (matrix_at (h_stack d sm) t)) phi (matrix_at (qs_of d sm) (packed (matrices d) r t)) (matrix_at (ps_of d sm) r) (matrix_at (ps_of d sm) t))
      (λ r t hr ht. rw (h-read r hr, h-read t ht, ep, eq))
