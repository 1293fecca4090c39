-- Document 01, `kr_modcomp_test`: "L is now the basis. M: D = β − β_H; A = LΦLᵀ; Θ = Lᵀ(A⁻¹L), A⁻¹L by elimination; u_i = ((ΘΦ)P_i)Φ. .. F = scaling × (Wald/q). Wald, M:
-- q = 1: v = LΦ_ALᵀ must be finite and positive, else none; (LD/sqrt v)². Otherwise LD · ((LΦ_ALᵀ)⁻¹LD), by elimination." And the run of "kenward_roger.rs".
-- All of it over a kind of number N: on marked numbers it is the test that the contracts cite, on plain ones the same test with no marks. What follows "Unmarked" is on values.
use Rattle.std.specs.Prelude.{ℕ, Bool, false, not, cond, ◌&&◌, ◌||◌, List, [], eqb, get_or, replicate, set, Option, None, Float}
use Rattle.std.specs.Float.{nan}
use Rattle.arithmetic.specs.Numbers.{plus_zero, one}
use Rattle.algebra.specs.Fold.{fold, span}
use Rattle.algebra.specs.Table.{table, blank}
use Rattle.algebra.specs.Kind.{Arith, zero_of}
use Rattle.algebra.specs.Product.{at, sum, product, transpose}
use Rattle.algebra.specs.Elimination.{solution, refused}
use Rattle.algebra.specs.Small.{Rows, sandwich, given_cells, values, all_marks}
use Rattle.arithmetic_cutoffs.specs.declared.Cutoffs.{Cutoffs}
use Rattle.adjustment.specs.Adjusted.{Adjustment, scaled_up, scaled_down}
use Rattle.tests.specs.declared.Basis.{Basis}
use Rattle.tests.specs.declared.Tested.{Tested}
use Rattle.tests.specs.declared.Run.{Run}
use Rattle.tests.specs.Answer.{number_of, no_entry}
use Rattle.tests.specs.Both.{is_positive, square_one, stack_seen}
use Rattle.tests.specs.Basis.{contrast_basis}
use Rattle.tests.specs.Moments.{a1_of, a2_of, df_of, scaling_of, f_of}

-- ---- what a test starts from: "M: Φ and Φ_A times sigma2, each P divided by it; W unchanged (`kenward_roger_modcomp_data`)"
pub record Scaled (A : Type 0) : Type 0 where
  pub p : ℕ
  pub matrices : ℕ
  pub phi : List (List A)
  pub phi_a : List (List A)
  pub ps : List (List (List A))
  pub w : Rows

module _ {A : Type 0} (N : Arith A) where
  unfoldable pub scaled_ps : ℕ → ℕ → List Rows → Float → List (List (List A))
  scaled_ps p k ps sigma2 = span 0 k (λ r. scaled_down N p (get_or ps r []) sigma2) (replicate 4 (blank (zero_of N) 6 6))

  unfoldable pub scaled_by : ℕ → ℕ → Rows → Float → Adjustment → Scaled A
  scaled_by p k phi sigma2 a =
      record { p = p; matrices = k; phi = scaled_up N p phi sigma2; phi_a = scaled_up N p a.phi_a sigma2; ps = scaled_ps p k a.ps sigma2; w = a.w }

  -- "Each entry counts the scaling by sigma2": `seen`, with all cells of Φ, Φ_A and each P
  unfoldable pub scaling_seen : Scaled A → A → A
  scaling_seen s seen = stack_seen N s.matrices s.p s.ps (all_marks N s.p s.p s.phi_a (all_marks N s.p s.p s.phi seen))

  -- ---- the marked steps of a test
  -- "D = β − β_H", as a column
  unfoldable pub difference : ℕ → List Float → List Float → List (List A)
  difference p beta beta_h = table (zero_of N) 6 6 p 1 (λ i j. N.minus (N.of (get_or beta i nan)) (N.of (get_or beta_h i nan)))

  -- "Θ = Lᵀ(A⁻¹L)", from L and A⁻¹L
  unfoldable pub theta_of : ℕ → ℕ → List (List A) → List (List A) → List (List A)
  theta_of p q l x = product N 6 6 p q p (transpose N 6 6 q p l) x

  -- "u_i = ((ΘΦ)P_i)Φ"; all of them; and their values, since a1 and a2 are unmarked
  unfoldable pub u_of : ℕ → List (List A) → List (List A) → List (List A) → List (List A)
  u_of p theta_phi pi phi = product N 6 6 p p p (product N 6 6 p p p theta_phi pi) phi

  unfoldable pub u_stack : ℕ → ℕ → List (List A) → List (List (List A)) → List (List A) → List (List (List A))
  u_stack k p theta_phi ps phi = span 0 k (λ i. u_of p theta_phi (get_or ps i []) phi) (replicate 4 (blank (zero_of N) 6 6))

  unfoldable pub u_values : ℕ → ℕ → List (List (List A)) → List Rows
  u_values k p us = span 0 k (λ i. values N 6 6 p p (get_or us i [])) (replicate 4 (blank plus_zero 6 6))

  -- Wald of several rows: LD · Y
  unfoldable pub wald_many : ℕ → List (List A) → List (List A) → A
  wald_many q ld y = sum N q (λ i. N.times (at N ld i 0) (at N y i 0))

-- ---- one test, from the basis of its contrast: whether a zero pivot refuses it (10), and its entry
module _ {A : Type 0} (N : Arith A) (c : Cutoffs) (s : Scaled A) (beta beta_h : List Float) (b : Basis A) where
  abbrev pub q : ℕ
  q = b.rank

  abbrev pub l : List (List A)
  l = given_cells N 6 6 q s.p b.rows

  -- "A = LΦLᵀ", A⁻¹L, ΘΦ and the u_i
  unfoldable pub a_rows : List (List A)
  a_rows = sandwich N 6 6 q s.p l s.phi

  unfoldable pub x_rows : List (List A)
  x_rows = solution N 6 12 6 q s.p a_rows l

  unfoldable pub theta_phi : List (List A)
  theta_phi = product N 6 6 s.p s.p s.p (theta_of N s.p q l x_rows) s.phi

  unfoldable pub us : List (List (List A))
  us = u_stack N s.matrices s.p theta_phi s.ps s.phi

  unfoldable pub a1 : Float
  a1 = a1_of s.matrices s.p s.w (u_values N s.matrices s.p us)

  unfoldable pub a2 : Float
  a2 = a2_of s.matrices s.p s.w (u_values N s.matrices s.p us)

  -- LD, "v = LΦ_ALᵀ" and Y = v⁻¹LD
  unfoldable pub ld_rows : List (List A)
  ld_rows = product N 6 6 q s.p 1 l (difference N s.p beta beta_h)

  unfoldable pub v_rows : List (List A)
  v_rows = sandwich N 6 6 q s.p l s.phi_a

  unfoldable pub y_rows : List (List A)
  y_rows = solution N 6 12 6 q 1 v_rows ld_rows

  -- Wald with its mark, +0 where it is none; and Wald as a number or none
  unfoldable pub wald_marked : A
  wald_marked =
      cond (eqb q 1) (cond (is_positive (N.value (at N v_rows 0 0))) (square_one N (at N ld_rows 0 0) (at N v_rows 0 0)) (zero_of N)) (wald_many N q ld_rows y_rows)

  unfoldable pub wald_number : Option Float
  wald_number = cond (eqb q 1 && not (is_positive (N.value (at N v_rows 0 0)))) None (number_of (N.value wald_marked))

  -- THE MARK OF AN ENTRY: the conjunction over every marked step of the test and of the scaling. A cell of a product carries the marks of all that it was made from, so the
  -- cells of D, A, A⁻¹L, ΘΦ, each u_i, LD, LΦ_ALᵀ, Y where several rows need it, and Wald, with the divisions of the basis and the scaled cells, count every step.
  unfoldable pub test_seen : A
  test_seen =
      let s0 : A = scaling_seen N s b.seen in
      let s1 : A = all_marks N s.p 1 (difference N s.p beta beta_h) s0 in
      let s2 : A = all_marks N q s.p x_rows (all_marks N q q a_rows s1) in
      let s3 : A = stack_seen N s.matrices s.p us (all_marks N s.p s.p theta_phi s2) in
      let s4 : A = all_marks N q q v_rows (all_marks N q 1 ld_rows s3) in
      N.also (cond (eqb q 1) s4 (all_marks N q 1 y_rows s4)) wald_marked

  unfoldable pub tested : Tested
  tested = record {
    refused = refused N 6 12 q s.p a_rows l || cond (eqb q 1) false (refused N 6 12 q 1 v_rows ld_rows);
    entry = record { f = f_of q (scaling_of c q a1 a2) wald_number; df = df_of c q a1 a2; rank = q; inside = N.inside test_seen };
  }

-- ---- the run: "The run tests each coefficient alone (β_H = 0), then the contrast if given."
-- the contrast of coefficient i alone
unfoldable pub unit_row : ℕ → ℕ → Rows
unit_row p i = table plus_zero 6 6 1 p (λ k j. cond (eqb j i) one plus_zero)

unfoldable pub coefficient_test : {A : Type 0} → Arith A → Cutoffs → Scaled A → List Float → ℕ → Tested
coefficient_test N c s beta i = tested N c s beta (replicate 6 plus_zero) (contrast_basis N 1 s.p (unit_row s.p i))

unfoldable pub contrast_test : {A : Type 0} → Arith A → Cutoffs → Scaled A → List Float → List Float → ℕ → Rows → Tested
contrast_test N c s beta beta_h rows l = tested N c s beta beta_h (contrast_basis N rows s.p l)

-- a run is seven entries, coefficients 0 to 5 and the contrast, and whether a zero pivot in any of their tests refuses it: with one test more, in entry i
unfoldable pub with_test : ℕ → Tested → Run → Run
with_test i t r = record { refused = r.refused || t.refused; entries = set r.entries i t.entry }

-- the first k coefficients
unfoldable pub coefficients_to : {A : Type 0} → Arith A → ℕ → Cutoffs → Scaled A → List Float → Run
coefficients_to N k c s beta = fold 0 k (λ i r. with_test i (coefficient_test N c s beta i) r) (record { refused = false; entries = replicate 7 no_entry })

-- then the contrast, where it has rows
unfoldable pub run_of : {A : Type 0} → Arith A → Cutoffs → Scaled A → List Float → List Float → ℕ → Rows → Run
run_of N c s beta beta_h rows l =
    let r : Run = coefficients_to N s.p c s beta in cond (eqb rows 0) r (with_test 6 (contrast_test N c s beta beta_h rows l) r)
