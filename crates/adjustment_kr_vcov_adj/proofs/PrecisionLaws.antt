-- How the calls up to S make up its definitions, in the work slice.
use Prim.Native.Nat.{ℕ, ◌+◌, ◌-◌, ◌*◌, ◌<◌, ◌≤◌}
use native.Mathlib.Omega.{arith}
use mathlib.Core.Path.{◌≡◌, refl, sym, ap, ◌∙◌}
use mathlib.Core.Bool.{Bool, true, false, cond}
use mathlib.Core.List.{List, []}
use lib.Dec.{ltb}
use lib.ListN.{get_or, length, replicate, length-replicate, get_or-replicate}
use lib.Ieee.{Float, nan}
use Rattle.arithmetic.specs.Numbers.{plus_zero}
use Rattle.algebra.specs.Table.{blank}
use Rattle.algebra.specs.Kind.{floats}
use Rattle.algebra.specs.Product.{at, identity, cell, product, transpose}
use Rattle.algebra.specs.Elimination.{eliminate_to, joined, back_to, solution, inverse, inverse_refused}
use Rattle.algebra.specs.Cholesky.{cholesky_to, cholesky_refused, lower}
use Rattle.algebra_large.specs.joints.Slab.{rows_at, put_row, put_rows, gram_of, Holds}
use Rattle.algebra_large.specs.joints.Steps.{back_over}
use Rattle.algebra_large.proofs.SlabLaws.{Shape, shape-rows_at, shape-table, row_in, row_fits, InRow, within, beyond, in_row, put_row-at, put_row-other, length-put_row, put_rows-at, put_rows-other, length-put_rows, put_rows-is}
use Rattle.algebra_large.proofs.InPlace.{put-turn, read-now}
use Rattle.algebra_large_factor.proofs.FactorLaws.{shape-cholesky}
use Rattle.algebra_large_inverse.proofs.BackLaws.{shape-back}
use Rattle.algebra.specs.Small.{Rows}
use Rattle.adjustment.specs.Covariance.{Design, sigma_cell, sigma_rows, cholesky, not_definite, inverse_factor, inverse_factor_refused, precision}
use Rattle.adjustment.specs.Adjusted.{precision_of}
use Rattle.adjustment_work.specs.joints.Work.{square, zeros, precision_in}
use Rattle.adjustment_kr_vcov_adj.specs.joints.Parts.{precision_refusal}
use Rattle.adjustment_work.proofs.WorkLaws.{square-held, wide-held, rows_in, length-zeros, zeros-at}

-- L, where Σ was copied, factored and cleared above its diagonal
module _ (s n a b : ℕ) (ws xs ys zs : List Float) (z : Bool) (hn : n ≤ s) (h : 6 * (s * s) ≤ length ws) (ea : a ≡ square s 0) (eb : b ≡ square s 2)
    (ex : xs ≡ put_rows s b n n (rows_at s a n n ws) ws) (ey : ys ≡ put_rows s b n n (cholesky_to floats n n (rows_at s b n n xs)) xs) where
  in_two : Holds s b n n (length ws)
  in_two = square-held s n 2 b (length ws) hn h (omega arith) eb

  pub factor-is : zs ≡ put_rows s b n n (lower floats n n n (rows_at s b n n ys)) ys → zs ≡ put_rows s (square s 2) n n (cholesky n (rows_at s (square s 0) n n ws)) ws
  unfolding cholesky
  factor-is ez =
      put-turn (lower floats n n n) s b n n (cholesky_to floats n n (rows_at s a n n ws)) ws ys zs in_two
      (shape-cholesky n (omega arith) (shape-rows_at s a n n ws))
      (put-turn (cholesky_to floats n n) s b n n (rows_at s a n n ws) ws xs ys in_two (shape-rows_at s a n n ws) ex ey) ez
      ∙ ap (λ (k : ℕ). put_rows s k n n (lower floats n n n (cholesky_to floats n n (rows_at s a n n ws))) ws) eb
      ∙ ap (λ (k : ℕ). put_rows s (square s 2) n n (lower floats n n n (cholesky_to floats n n (rows_at s k n n ws))) ws) ea

  pub definite-is : z ≡ cholesky_refused floats n n (rows_at s b n n xs) → z ≡ not_definite n (rows_at s (square s 0) n n ws)
  definite-is ez =
      ez ∙ ap (cholesky_refused floats n n) (read-now s b n n (rows_at s a n n ws) ws xs in_two (shape-rows_at s a n n ws) ex)
      ∙ ap (λ (k : ℕ). cholesky_refused floats n n (rows_at s k n n ws)) ea

-- L⁻¹, where the calls found the squares
pub inverse-is : (s n l b a : ℕ) (ws ys : List Float) → l ≡ square s 2 → b ≡ square s 3 → a ≡ square s 4
    → ys ≡ put_rows s b n n (inverse floats n (n + n) n n (rows_at s l n n ws)) (put_rows (s + s) a n (n + n) (eliminate_to floats n n (n + n) (joined floats n (n + n) n n (rows_at s l n n ws) (identity floats n n n))) ws)
    → ys ≡ put_rows s (square s 3) n n (inverse_factor n (rows_at s (square s 2) n n ws)) (put_rows (s + s) (square s 4) n (n + n) (eliminate_to floats n n (n + n) (joined floats n (n + n) n n (rows_at s (square s 2) n n ws) (identity floats n n n))) ws)
unfolding inverse_factor
inverse-is s n l b a ws ys el eb ea ey = rw (← el, ← eb, ← ea) ey

pub refused-is : (s n l : ℕ) (ws : List Float) (z : Bool) → l ≡ square s 2 → z ≡ inverse_refused floats n (n + n) n n (rows_at s l n n ws)
    → z ≡ inverse_factor_refused n (rows_at s (square s 2) n n ws)
unfolding inverse_factor_refused
refused-is s n l ws z el ez = ez ∙ ap (λ (k : ℕ). inverse_refused floats n (n + n) n n (rows_at s k n n ws)) el

-- S
pub precision-is : (s n a b : ℕ) (ws ys : List Float) → a ≡ square s 1 → b ≡ square s 3 → ys ≡ put_rows s a n n (gram_of n n (rows_at s b n n ws)) ws
    → ys ≡ put_rows s (square s 1) n n (precision n (rows_at s (square s 3) n n ws)) ws
unfolding precision gram_of
precision-is s n a b ws ys ea eb ey =
    ey ∙ ap (λ (k : ℕ). put_rows s k n n (gram_of n n (rows_at s b n n ws)) ws) ea ∙ ap (λ (k : ℕ). put_rows s (square s 1) n n (gram_of n n (rows_at s k n n ws)) ws) eb

-- Shapes.

shape-blank : (n c : ℕ) → Shape n c (blank plus_zero n c)
unfolding blank
shape-blank n c =
    record { rows = length-replicate n (replicate c plus_zero); columns = λ i h. ap length (get_or-replicate n i (replicate c plus_zero) [] h) ∙ length-replicate c plus_zero }

pub shape-sigma : (d : Design) → Shape d.n d.n (sigma_rows d)
unfolding sigma_rows
shape-sigma d = shape-table plus_zero d.n d.n (sigma_cell d)

pub shape-factor : (n : ℕ) (m : Rows) → Shape n n (cholesky n m)
unfolding cholesky lower
shape-factor n m = shape-table plus_zero n n (λ i j. cond (ltb i j) plus_zero (at floats (cholesky_to floats n n m) i j))

pub shape-inverse : (n : ℕ) (l : Rows) → Shape n n (inverse_factor n l)
unfolding inverse_factor solution back_to back_over
shape-inverse n l = shape-back n (eliminate_to floats n n (n + n) (joined floats n (n + n) n n l (identity floats n n n))) (shape-blank n n)

pub shape-precision : (n : ℕ) (m : Rows) → Shape n n (precision n m)
unfolding precision product
shape-precision n m = shape-table plus_zero n n (cell floats n (transpose floats n n n n m) m)

-- Squares 2 to 5 are cleared, and squares 0 and 1 stand.

-- a matrix behind d lies in what is cleared from d on
behind : (t b r c d len x : ℕ) → Holds t b r c len → d ≤ b → ((k : ℕ) → k < len - d → x ≡ d + k → ⊥) → (i j : ℕ) → i < r → j < c → x ≡ b + i * t + j → ⊥
behind t b r c d len x h l o i j hi hj e = let f : b + i * t + c ≤ len = row_fits h i hi in o (b + i * t + j - d) (omega arith) (omega arith)

-- a matrix before d is put into base, whatever stood from d on: there base has zeros
pub rest-is : (s a n d : ℕ) (m : Rows) (base xs ys zs : List Float) → Holds s a n n (length base) → a + n * s ≤ d → length xs ≡ length base
    → ((x : ℕ) → ((k : ℕ) → k < length base - d → x ≡ d + k → ⊥) → get_or xs x nan ≡ get_or base x nan)
    → ((x : ℕ) → d ≤ x → x < length base → get_or base x nan ≡ plus_zero) → d ≤ length base → ys ≡ put_rows s a n n m xs
    → zs ≡ put_row d (length ys - d) (λ j. plus_zero) ys → zs ≡ put_rows s a n n m base
rest-is s a n d m base xs ys zs h hd lx ex eb hl ey ez =
    put_rows-is m base zs h (ap length ez ∙ length-put_row d (length ys - d) (λ j. plus_zero) ys ∙ ly)
    (λ i j hi hj.
    ap (λ (l : List Float). get_or l (a + i * s + j) nan) ez ∙ put_row-other d (length ys - d) (λ j. plus_zero) ys (a + i * s + j) (λ k hk e. omega (arith, row_in s n n i hi h.wide))
    ∙ ap (λ (l : List Float). get_or l (a + i * s + j) nan) ey ∙ put_rows-at s a n n m xs (rw lx h) i j hi hj)
    (λ x o. outside x o (in_row d (length base - d) x))
  where
    ly : length ys ≡ length base
    ly = ap length ey ∙ length-put_rows s a n n m xs ∙ lx

    outside : (x : ℕ) → ((i j : ℕ) → i < n → j < n → x ≡ a + i * s + j → ⊥) → InRow d (length base - d) x → get_or zs x nan ≡ get_or base x nan
    outside x o (within j hj e) =
        ap (λ (l : List Float). get_or l x nan) ez ∙ ap (λ (k : ℕ). get_or (put_row d (length ys - d) (λ j. plus_zero) ys) k nan) e
        ∙ put_row-at d (length ys - d) (λ j. plus_zero) ys j (omega (arith, ly)) (omega (arith, ly)) ∙ sym (eb x (omega arith) (omega arith))
    outside x o (beyond f) =
        ap (λ (l : List Float). get_or l x nan) ez ∙ put_row-other d (length ys - d) (λ j. plus_zero) ys x (λ k hk e. f k (omega (arith, ly)) e)
        ∙ ap (λ (l : List Float). get_or l x nan) ey ∙ put_rows-other s a n n m xs x o ∙ ex x f

-- The work slice, step by step: cleared, with Σ, with L, with L⁻¹, with S, and with squares 2 to 5 cleared.
module _ (s : ℕ) (d : Design) (len a : ℕ) (w₀ w₁ w₂ : List Float) (hn : d.n ≤ s) (h : 6 * (s * s) ≤ len) (e₀ : w₀ ≡ zeros len) (ea : a ≡ square s 0)
    (e₁ : w₁ ≡ put_rows s a d.n d.n (sigma_rows d) w₀)
    (e₂ : w₂ ≡ put_rows s (square s 2) d.n d.n (cholesky d.n (rows_at s (square s 0) d.n d.n w₁)) w₁) where
  abbrev base : List Float
  base = put_rows s (square s 0) d.n d.n (sigma_rows d) (zeros len)

  at_base : w₁ ≡ base
  at_base = e₁ ∙ ap (λ (k : ℕ). put_rows s k d.n d.n (sigma_rows d) w₀) ea ∙ ap (λ (l : List Float). put_rows s (square s 0) d.n d.n (sigma_rows d) l) e₀

  long : length base ≡ len
  long = length-put_rows s (square s 0) d.n d.n (sigma_rows d) (zeros len) ∙ length-zeros len

  held : (k : ℕ) → k < 6 → (xs : List Float) → length xs ≡ len → Holds s (square s k) d.n d.n (length xs)
  held k l xs ex = square-held s d.n k (square s k) (length xs) hn (omega arith) l refl

  pub sigma-read : rows_at s (square s 0) d.n d.n w₁ ≡ sigma_rows d
  sigma-read = read-now s (square s 0) d.n d.n (sigma_rows d) (zeros len) w₁ (held 0 (omega arith) (zeros len) (length-zeros len)) (shape-sigma d) at_base

  factor-put : w₂ ≡ put_rows s (square s 2) d.n d.n (cholesky d.n (sigma_rows d)) base
  factor-put = e₂ ∙ ap (λ (m : Rows). put_rows s (square s 2) d.n d.n (cholesky d.n m) w₁) sigma-read
      ∙ ap (λ (l : List Float). put_rows s (square s 2) d.n d.n (cholesky d.n (sigma_rows d)) l) at_base

  pub factor-read : rows_at s (square s 2) d.n d.n w₂ ≡ cholesky d.n (sigma_rows d)
  factor-read = read-now s (square s 2) d.n d.n (cholesky d.n (sigma_rows d)) base w₂ (held 2 (omega arith) base long) (shape-factor d.n (sigma_rows d)) factor-put

  pub number-nine : (z : Bool) → z ≡ not_definite d.n (rows_at s (square s 0) d.n d.n w₁) → z ≡ true → 9 ≡ precision_refusal d
  unfolding precision_refusal
  number-nine z ez t = let y : not_definite d.n (sigma_rows d) ≡ true = ap (not_definite d.n) (sym sigma-read) ∙ sym ez ∙ t in rw y

  pub number-ten : (z y : Bool) → z ≡ not_definite d.n (rows_at s (square s 0) d.n d.n w₁) → z ≡ false
      → y ≡ inverse_factor_refused d.n (rows_at s (square s 2) d.n d.n w₂) → cond y 10 0 ≡ precision_refusal d
  unfolding precision_refusal
  number-ten z y ez t ey =
      let u : not_definite d.n (sigma_rows d) ≡ false = ap (not_definite d.n) (sym sigma-read) ∙ sym ez ∙ t in
      let v : y ≡ inverse_factor_refused d.n (cholesky d.n (sigma_rows d)) = ey ∙ ap (inverse_factor_refused d.n) factor-read in
      rw (u, ← v)

  -- L⁻¹, S, and the rest cleared
  module _ (w₃ w₄ w₅ : List Float) (e : Rows)
      (e₃ : w₃ ≡ put_rows s (square s 3) d.n d.n (inverse_factor d.n (rows_at s (square s 2) d.n d.n w₂)) (put_rows (s + s) (square s 4) d.n (d.n + d.n) e w₂))
      (e₄ : w₄ ≡ put_rows s (square s 1) d.n d.n (precision d.n (rows_at s (square s 3) d.n d.n w₃)) w₃)
      (e₅ : w₅ ≡ put_row (square s 2) (length w₄ - square s 2) (λ j. plus_zero) w₄) where
    abbrev mid : List Float
    mid = put_rows (s + s) (square s 4) d.n (d.n + d.n) e w₂

    abbrev inv : Rows
    inv = inverse_factor d.n (cholesky d.n (sigma_rows d))

    long₂ : length w₂ ≡ len
    long₂ = ap length factor-put ∙ length-put_rows s (square s 2) d.n d.n (cholesky d.n (sigma_rows d)) base ∙ long

    long-mid : length mid ≡ len
    long-mid = length-put_rows (s + s) (square s 4) d.n (d.n + d.n) e w₂ ∙ long₂

    inverse-put : w₃ ≡ put_rows s (square s 3) d.n d.n inv mid
    inverse-put = e₃ ∙ ap (λ (m : Rows). put_rows s (square s 3) d.n d.n (inverse_factor d.n m) mid) factor-read

    inverse-read : rows_at s (square s 3) d.n d.n w₃ ≡ inv
    inverse-read = read-now s (square s 3) d.n d.n inv mid w₃ (held 3 (omega arith) mid long-mid) (shape-inverse d.n (cholesky d.n (sigma_rows d))) inverse-put

    precision-put : w₄ ≡ put_rows s (square s 1) d.n d.n (precision_of d) w₃
    unfolding precision_of
    precision-put = e₄ ∙ ap (λ (m : Rows). put_rows s (square s 1) d.n d.n (precision d.n m) w₃) inverse-read

    long₃ : length w₃ ≡ len
    long₃ = ap length inverse-put ∙ length-put_rows s (square s 3) d.n d.n inv mid ∙ long-mid

    -- what L, L⁻¹ and the elimination leave as it was
    front : (x : ℕ) → ((k : ℕ) → k < length base - square s 2 → x ≡ square s 2 + k → ⊥) → get_or w₃ x nan ≡ get_or base x nan
    front x o =
        ap (λ (l : List Float). get_or l x nan) inverse-put
        ∙ put_rows-other s (square s 3) d.n d.n inv mid x (behind s (square s 3) d.n d.n (square s 2) (length base) x (held 3 (omega arith) base long) (omega arith) o)
        ∙ put_rows-other (s + s) (square s 4) d.n (d.n + d.n) e w₂ x
        (behind (s + s) (square s 4) d.n (d.n + d.n) (square s 2) (length base) x (wide-held s d.n (square s 4) (length base) hn (omega (arith, long)) refl) (omega arith) o)
        ∙ ap (λ (l : List Float). get_or l x nan) factor-put
        ∙ put_rows-other s (square s 2) d.n d.n (cholesky d.n (sigma_rows d)) base x
        (behind s (square s 2) d.n d.n (square s 2) (length base) x (held 2 (omega arith) base long) (omega arith) o)

    blank-behind : (x : ℕ) → square s 2 ≤ x → x < length base → get_or base x nan ≡ plus_zero
    blank-behind x l m =
        put_rows-other s (square s 0) d.n d.n (sigma_rows d) (zeros len) x
        (λ i j hi hj q. omega (arith, row_in s d.n d.n i hi hn, rows_in d.n s s hn)) ∙ zeros-at len x (omega (arith, long))

    pub precision-in : w₅ ≡ precision_in s len d
    unfolding precision_in
    precision-in =
        rest-is s (square s 1) d.n (square s 2) (precision_of d) base w₃ w₄ w₅ (held 1 (omega arith) base long) (omega (arith, rows_in d.n s s hn)) (long₃ ∙ sym long)
        front blank-behind (omega (arith, long)) precision-put e₅
