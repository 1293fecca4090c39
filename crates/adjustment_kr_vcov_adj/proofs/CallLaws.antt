-- How the calls from S on make up the definitions, and how the parts make up the whole.
use Prim.Native.Nat.{ℕ, ◌+◌, ◌*◌, ◌≤◌}
use native.Mathlib.Omega.{arith}
use mathlib.Core.Path.{◌≡◌, refl, sym, ap, ◌∙◌}
use mathlib.Core.Bool.{Bool, true, false, cond}
use mathlib.Core.List.{List, []}
use lib.ListN.{length}
use lib.Ieee.{Float}
use borrow.Author.Tests.{eq-eqb, ne_eqb}
use Rattle.algebra_large.specs.joints.Slab.{rows_at, put_rows}
use Rattle.algebra_large.proofs.SlabLaws.{length-put_rows, read_back}
use Rattle.adjustment.specs.declared.Block.{Block}
use Rattle.arithmetic_cutoffs.specs.declared.Cutoffs.{Cutoffs}
use Rattle.algebra.specs.Small.{Rows}
use Rattle.adjustment.specs.Blocks.{places_before}
use Rattle.adjustment.specs.Covariance.{Design, matrices, g_cell, g_rows, sigma_rows, not_definite, cholesky, inverse_factor, inverse_factor_refused, precision}
use Rattle.adjustment.specs.Information.{h_rows, o_rows, p_rows, q_rows, mirror}
use Rattle.adjustment.specs.Adjusted.{Stack, Adjustment, stack, q_stack, h_stack, o_stack, p_stack, q_stack_of, ie_rows, eigen, from_precision, information_refused, precision_of, adjustment, adjustment_reasons, adjustment_refusal}
use Rattle.adjustment.specs.declared.AdjustmentRefusal.{AdjustmentRefusal}
use Rattle.adjustment.specs.declared.AdjustmentRefusal.TheVariants.{NotFinite, NotDefinite, ZeroPivot}
use Rattle.adjustment.specs.Refusals.{adjustment_refusal_number, number_told}
use Rattle.std.specs.Prelude.{Result, Ok, Err, IfOk, is_err}
use Rattle.algebra.specs.Reasons.{first}
use Rattle.adjustment_covariance.specs.joints.Lent.{design}
use Rattle.adjustment_covariance.proofs.DesignLaws.{sigma-whole}
use Rattle.adjustment_work.specs.joints.Work.{square, part, design_of, zeros, put_stack, precision_in, with_hs, work_of}
use Rattle.adjustment_adjusted.specs.joints.FromInformation.{accepted}
use Rattle.adjustment_kr_vcov_adj.specs.joints.Parts.{precision_refusal, ps_of, qs_of, ie_of, after_precision}
use Rattle.adjustment_adjusted.specs.joints.FromInformation.{inverted_of, from_information, information_refusal}
use Rattle.adjustment_work.specs.joints.Steps.{s_at, h_at, sx_at, o_at, ie_at}
use Rattle.adjustment_work.proofs.WorkLaws.{square-held, length-zeros}
use Rattle.adjustment_kr_vcov_adj.proofs.PrecisionLaws.{shape-precision}
use Rattle.adjustment_kr_vcov_adj.proofs.ReadLaws.{ps-is, qs-is, ie-of-is}

-- what is lent for an answer, by the number
pub accepted-yes : {A : Type 0} (k : ℕ) (new old : A) → k ≡ 0 → accepted k new old ≡ new
unfolding accepted
accepted-yes k new old e = rw (eq-eqb k 0 e)

pub accepted-no : {A : Type 0} (k : ℕ) (new old : A) → (k ≡ 0 → ⊥) → accepted k new old ≡ old
unfolding accepted
accepted-no k new old e = rw (ne_eqb k 0 e)

-- what an answer tells: 0 where it is accepted, and another number where it is refused
pub told-ok : {A : Type 0} (r : Result A AdjustmentRefusal) → is_err r ≡ false → number_told r ≡ 0
told-ok (Ok a) e = refl
told-ok (Err b) e = absurd (cc e)

pub refusal-above : (b : AdjustmentRefusal) → adjustment_refusal_number b ≡ 0 → ⊥
refusal-above NotFinite e = omega arith
refusal-above NotDefinite e = omega arith
refusal-above ZeroPivot e = omega arith

pub told-err : {A : Type 0} (r : Result A AdjustmentRefusal) → is_err r ≡ true → number_told r ≡ 0 → ⊥
told-err (Ok a) e z = absurd (cc e)
told-err (Err b) e z = refusal-above b z

-- what is in an answer, given in another way
pub value-is : {A : Type 0} (r : Result A AdjustmentRefusal) (a b : A) → a ≡ b → IfOk r (λ t. t ≡ a) → IfOk r (λ t. t ≡ b)
value-is (Ok t) a b e h = h ∙ e
value-is (Err t) a b e h = h

-- The Hs, the Ps, the Qs and IE, of the series as it is lent, where the calls count k matrices.
module _ (s n p k : ℕ) (x : List Float) (xs : ℕ) (z : List Float) (zs columns : ℕ) (weighted : Bool) (weights : List Float) (blocks : List Block) (count : ℕ)
    (w₀ w₁ : List Float) (hn : n ≤ s) (hN : places_before blocks count ≤ 3) (hw : 6 * (s * s) ≤ length w₀) (ek : k ≡ places_before blocks count + 1)
    (e₁ : w₁ ≡ put_stack s (s * s) 2 n n k (λ r. h_rows n (g_rows (design n (rows_at zs 0 n columns z) weighted weights blocks count []) r) (s_at s n w₀)) w₀) where
  abbrev own : Design
  own = design_of n p x xs z zs columns weighted weights blocks count []

  pub work-is : w₁ ≡ with_hs s own (s_at s n w₀) w₀
  unfolding with_hs g_rows g_cell
  work-is = e₁ ∙ ap (λ (m : ℕ). put_stack s (s * s) 2 n n m (λ r. h_rows n (g_rows (design n (rows_at zs 0 n columns z) weighted weights blocks count []) r) (s_at s n w₀)) w₀) ek

  few : matrices own ≤ 4
  few = omega arith

  module _ (v₀ v₁ v₂ : List Float) (hp : p ≤ 6) (hv : 6 * (6 * s) ≤ length v₀) (f₁ : v₁ ≡ put_rows 6 (part s 0) n p (o_rows n p (s_at s n w₁) (rows_at xs 0 n p x)) v₀)
      (f₂ : v₂ ≡ put_stack 6 (6 * s) 1 n p k (λ r. o_rows n p (h_at s n w₁ r) (rows_at xs 0 n p x)) v₁) where
    narrow-is : v₂ ≡ put_stack 6 (6 * s) 1 n p (matrices own) (λ r. o_rows n p (h_at s n w₁ r) (rows_at xs 0 n p x)) v₁
    narrow-is = f₂ ∙ ap (λ (m : ℕ). put_stack 6 (6 * s) 1 n p m (λ r. o_rows n p (h_at s n w₁ r) (rows_at xs 0 n p x)) v₁) ek

    pub ps-call : (ps : Stack) → ps ≡ stack 4 k (λ r. p_rows n p (o_at s n p v₂ r) (sx_at s n p v₂)) → ps ≡ ps_of own (s_at s n w₀)
    ps-call ps e =
        ps-is s own w₀ w₁ hn few hw work-is v₀ v₁ v₂ hp hv f₁ narrow-is ps (e ∙ ap (λ (m : ℕ). stack 4 m (λ r. p_rows n p (o_at s n p v₂ r) (sx_at s n p v₂))) ek)

    pub qs-call : (qs : Stack) → qs ≡ q_stack k (λ r t. q_rows n p (o_at s n p v₂ r) (s_at s n w₁) (o_at s n p v₂ t)) → qs ≡ qs_of own (s_at s n w₀)
    qs-call qs e =
        qs-is s own w₀ w₁ hn few hw work-is v₀ v₁ v₂ hp hv f₁ narrow-is qs (e ∙ ap (λ (m : ℕ). q_stack m (λ r t. q_rows n p (o_at s n p v₂ r) (s_at s n w₁) (o_at s n p v₂ t))) ek)

    pub ie-call : (phi m : Rows) (ps qs : Stack) → ps ≡ stack 4 k (λ r. p_rows n p (o_at s n p v₂ r) (sx_at s n p v₂))
        → qs ≡ q_stack k (λ r t. q_rows n p (o_at s n p v₂ r) (s_at s n w₁) (o_at s n p v₂ t)) → m ≡ mirror k (ie_at s n p k phi ps qs w₁) → m ≡ ie_of own phi (s_at s n w₀)
    ie-call phi m ps qs ep eq em =
        ie-of-is s own w₀ w₁ hn few hw work-is phi m ps qs (ps-call ps ep) (qs-call qs eq) (em ∙ ap (λ (j : ℕ). mirror j (ie_at s n p j phi ps qs w₁)) ek)

-- From S on: the number and the adjustment, from the Ps, the Qs and IE.
module _ (c : Cutoffs) (d : Design) (phi : Rows) (sm : Rows) (k : ℕ) (ps qs : Stack) (ie : Rows) (ek : k ≡ matrices d) (ep : ps ≡ ps_of d sm) (eq : qs ≡ qs_of d sm)
    (ei : ie ≡ ie_of d phi sm) where
  pub adjusted-is : from_information c d.p k phi ps qs ie ≡ from_precision c d phi sm
  unfolding from_information from_precision inverted_of ps_of qs_of ie_of eigen
  adjusted-is = rw (ek, ep, eq, ei)

  pub ps-kept : ps ≡ (from_precision c d phi sm).ps
  unfolding from_information
  ps-kept = ap (λ (t : Adjustment). t.ps) adjusted-is

  pub number_is : (sigma2 : Float) → information_refusal c d.p k phi sigma2 ps qs ie ≡ after_precision c d phi sigma2 sm
  unfolding information_refusal after_precision information_refused inverted_of ps_of qs_of ie_of eigen
  number_is sigma2 = rw (adjusted-is, ek, ei)

-- The thetas are in Σ alone.
module _ (n p : ℕ) (x : List Float) (xs : ℕ) (z : List Float) (zs columns : ℕ) (weighted : Bool) (weights : List Float) (blocks : List Block) (count : ℕ) (theta : List Float) where
  abbrev full : Design
  full = design_of n p x xs z zs columns weighted weights blocks count theta

  abbrev bare : Design
  bare = design_of n p x xs z zs columns weighted weights blocks count []

  hs-same : (sm : Rows) → h_stack bare sm ≡ h_stack full sm
  unfolding h_stack g_rows g_cell
  hs-same sm = refl

  pub with-same : (s : ℕ) (sm : Rows) (ws : List Float) → with_hs s bare sm ws ≡ with_hs s full sm ws
  unfolding with_hs g_rows g_cell
  with-same s sm ws = refl

  ps-same : (sm : Rows) → ps_of bare sm ≡ ps_of full sm
  unfolding ps_of p_stack o_stack
  ps-same sm = rw (hs-same sm)

  qs-same : (sm : Rows) → qs_of bare sm ≡ qs_of full sm
  unfolding qs_of q_stack_of o_stack
  qs-same sm = rw (hs-same sm)

  ie-same : (phi sm : Rows) → ie_of bare phi sm ≡ ie_of full phi sm
  unfolding ie_of ie_rows
  ie-same phi sm = rw (hs-same sm, ps-same sm, qs-same sm)

  pub from-same : (c : Cutoffs) (phi sm : Rows) → from_precision c bare phi sm ≡ from_precision c full phi sm
  from-same c phi sm =
      sym (adjusted-is c bare phi sm (matrices full) (ps_of full sm) (qs_of full sm) (ie_of full phi sm) refl (sym (ps-same sm)) (sym (qs-same sm)) (sym (ie-same phi sm)))
      ∙ adjusted-is c full phi sm (matrices full) (ps_of full sm) (qs_of full sm) (ie_of full phi sm) refl refl refl refl

  pub after_same : (c : Cutoffs) (phi : Rows) (sigma2 : Float) (sm : Rows) → after_precision c bare phi sigma2 sm ≡ after_precision c full phi sigma2 sm
  after_same c phi sigma2 sm =
      sym (number_is c bare phi sm (matrices full) (ps_of full sm) (qs_of full sm) (ie_of full phi sm) refl (sym (ps-same sm)) (sym (qs-same sm)) (sym (ie-same phi sm)) sigma2)
      ∙ number_is c full phi sm (matrices full) (ps_of full sm) (qs_of full sm) (ie_of full phi sm) refl refl refl refl sigma2

-- The whole: 9 and 10 up to S, and what follows where S stands.
first-refuses : (a b : Bool) (k l : ℕ) → k ≡ cond a 9 (cond b 10 0) → (k ≡ 0 → ⊥) → k ≡ cond a 9 (cond b 10 l)
first-refuses true b k l e h = e
first-refuses false true k l e h = e
first-refuses false false k l e h = absurd (h e)

first-accepts : (a b : Bool) (k l : ℕ) → k ≡ cond a 9 (cond b 10 0) → k ≡ 0 → l ≡ cond a 9 (cond b 10 l)
first-accepts true b k l e h = absurd (omega arith)
first-accepts false true k l e h = absurd (omega arith)
first-accepts false false k l e h = refl

pub number-early : (c : Cutoffs) (d : Design) (phi : Rows) (sigma2 : Float) (k : ℕ) → k ≡ precision_refusal d → (k ≡ 0 → ⊥) → k ≡ adjustment_refusal c d phi sigma2
unfolding precision_refusal adjustment_refusal adjustment_reasons first after_precision
number-early c d phi sigma2 k e h =
    first-refuses (not_definite d.n (sigma_rows d)) (inverse_factor_refused d.n (cholesky d.n (sigma_rows d))) k (after_precision c d phi sigma2 (precision_of d)) e h

pub number-late : (c : Cutoffs) (d : Design) (phi : Rows) (sigma2 : Float) (k : ℕ) → k ≡ precision_refusal d → k ≡ 0
    → after_precision c d phi sigma2 (precision_of d) ≡ adjustment_refusal c d phi sigma2
unfolding precision_refusal adjustment_refusal adjustment_reasons first after_precision
number-late c d phi sigma2 k e h =
    first-accepts (not_definite d.n (sigma_rows d)) (inverse_factor_refused d.n (cholesky d.n (sigma_rows d))) k (after_precision c d phi sigma2 (precision_of d)) e h

-- S is read back
pub precision-read : (s len : ℕ) (d : Design) (ws : List Float) → d.n ≤ s → 6 * (s * s) ≤ len → ws ≡ precision_in s len d → s_at s d.n ws ≡ precision_of d
unfolding precision_in precision_of
precision-read s len d ws hn h e =
    let base : List Float = put_rows s (square s 0) d.n d.n (sigma_rows d) (zeros len) in
    let long : length base ≡ len = length-put_rows s (square s 0) d.n d.n (sigma_rows d) (zeros len) ∙ length-zeros len in
    ap (λ (l : List Float). s_at s d.n l) e
    ∙ read_back base (square-held s d.n 1 (square s 1) (length base) hn (omega arith) (omega arith) refl)
    (shape-precision d.n (inverse_factor d.n (cholesky d.n (sigma_rows d))))

-- an answer, by the adjustment that it is a part of
pub answer-is : {A : Type 0} (r : ℕ) (of : Adjustment → A) (a b : Adjustment) (old out : A) → a ≡ b → out ≡ accepted r (of a) old → out ≡ accepted r (of b) old
answer-is r of a b old out e eo = eo ∙ ap (λ (t : Adjustment). accepted r (of t) old) e

-- The whole call: k is the number up to S, and w₀ the work slice there.
module _ (s n p : ℕ) (x : List Float) (xs : ℕ) (z : List Float) (zs columns : ℕ) (weighted : Bool) (weights : List Float) (blocks : List Block) (count : ℕ) (theta : List Float)
    (c : Cutoffs) (phi : Rows) (sigma2 : Float) (len k : ℕ) (w₀ : List Float) (hn : n ≤ s) (hw : 6 * (s * s) ≤ len)
    (ek : k ≡ precision_refusal (design n (rows_at zs 0 n columns z) weighted weights blocks count theta))
    (ew : w₀ ≡ accepted k (precision_in s len (design n (rows_at zs 0 n columns z) weighted weights blocks count theta)) (zeros len)) where
  abbrev lent : Design
  lent = design_of n p x xs z zs columns weighted weights blocks count theta

  abbrev plain : Design
  plain = design_of n p x xs z zs columns weighted weights blocks count []

  sigma-same : sigma_rows (design n (rows_at zs 0 n columns z) weighted weights blocks count theta) ≡ sigma_rows lent
  sigma-same = sigma-whole n (rows_at zs 0 n columns z) weighted weights blocks count theta p (rows_at xs 0 n p x)

  number-lent : k ≡ precision_refusal lent
  unfolding precision_refusal
  number-lent = ek ∙ ap (λ (m : Rows). cond (not_definite n m) 9 (cond (inverse_factor_refused n (cholesky n m)) 10 0)) sigma-same

  pub early-number : (k ≡ 0 → ⊥) → k ≡ adjustment_refusal c lent phi sigma2
  early-number h = number-early c lent phi sigma2 k number-lent h

  pub early-work : (k ≡ 0 → ⊥) → w₀ ≡ accepted k (work_of s len lent) (zeros len)
  early-work h =
      ew ∙ accepted-no k (precision_in s len (design n (rows_at zs 0 n columns z) weighted weights blocks count theta)) (zeros len) h ∙ sym (accepted-no k (work_of s len lent) (zeros len) h)

  stands : k ≡ 0 → w₀ ≡ precision_in s len lent
  unfolding precision_in precision_of
  stands h =
      ew ∙ accepted-yes k (precision_in s len (design n (rows_at zs 0 n columns z) weighted weights blocks count theta)) (zeros len) h
      ∙ ap (λ (m : Rows). put_rows s (square s 1) n n (precision n (inverse_factor n (cholesky n m))) (put_rows s (square s 0) n n m (zeros len))) sigma-same

  s-stands : k ≡ 0 → s_at s n w₀ ≡ precision_of lent
  s-stands h = precision-read s len lent w₀ hn hw (stands h)

  pub late-number : k ≡ 0 → (r : ℕ) → r ≡ after_precision c plain phi sigma2 (s_at s n w₀) → r ≡ adjustment_refusal c lent phi sigma2
  late-number h r e =
      e ∙ after_same n p x xs z zs columns weighted weights blocks count theta c phi sigma2 (s_at s n w₀) ∙ ap (λ (m : Rows). after_precision c lent phi sigma2 m) (s-stands h)
      ∙ number-late c lent phi sigma2 k number-lent h

  pub late-work : k ≡ 0 → (r : ℕ) (w₁ : List Float) → length w₀ ≡ len → w₁ ≡ accepted r (with_hs s plain (s_at s n w₀) w₀) (zeros (length w₀)) → w₁ ≡ accepted r (work_of s len lent) (zeros len)
  unfolding work_of
  late-work h r w₁ el e =
      e ∙ ap (λ (l : ℕ). accepted r (with_hs s plain (s_at s n w₀) w₀) (zeros l)) el
      ∙ ap (λ (l : List Float). accepted r l (zeros len))
      (with-same n p x xs z zs columns weighted weights blocks count theta s (s_at s n w₀) w₀ ∙ ap (λ (m : Rows). with_hs s lent m w₀) (s-stands h)
      ∙ ap (λ (l : List Float). with_hs s lent (precision_of lent) l) (stands h))

  pub late-adjusted : k ≡ 0 → from_precision c plain phi (s_at s n w₀) ≡ adjustment c lent phi
  late-adjusted h =
      from-same n p x xs z zs columns weighted weights blocks count theta c phi (s_at s n w₀) ∙ ap (λ (m : Rows). from_precision c lent phi m) (s-stands h)
