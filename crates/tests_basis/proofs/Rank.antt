-- The rank of a contrast basis: at most the rows and the columns; and at least one, for a contrast of finite cells that are not all zero.
use mathlib.Core.Path.{◌≡◌, refl, sym, ap, ◌∙◌, subst}
use mathlib.Core.Bool.{Bool, true, false, cond}
use mathlib.Core.List.{List}
use Prim.Native.Nat.{ℕ, zero, ◌+◌, ◌*◌, ◌^◌, ◌≤◌, ◌<◌, min, max}
use native.Mathlib.Nat.{le_trans, le_of_eq, le_refl, lt_of_lt_of_le, le-min, max-le, mul-le-mul_right}
use native.Mathlib.Decide.{ℕ_discrete, dec_lt}
use native.Mathlib.Omega.{arith}
use lib.Dec.{eqb, lit≤, lit<}
use lib.Pow.{pow_mono}
use lib.IntN.{negsuc}
use lib.ListN.{get_or}
use lib.Ieee.{Float, nan, inf, fin, binary64, up, down, mul, lt}
use lib.Ieee.Exact.{HasValue}
use borrow.Author.Tests.{lt-ltb}
use Rattle.arithmetic.specs.declared.Marked.{Marked}
use Rattle.arithmetic.specs.Numbers.{of_count}
use Rattle.arithmetic.proofs.PlainLaws.{count-exact}
use Rattle.algebra.specs.Kind.{marks}
use Rattle.algebra.proofs.FoldLaws.{fold-steps}
use Rattle.algebra.specs.Small.{Rows, values}
use Rattle.tests.specs.Order.{index_at}
use Rattle.tests.specs.declared.Basis.{Basis}
use Rattle.tests.specs.Basis.{divided, sweeps_to, norms, singular, tolerance, rank_of, contrast_basis}
use Rattle.tests_basis.proofs.RankRounding.{fl, fl-le, Near, fl-near}
use Rattle.tests_basis.proofs.RankUnits.{unit, unit-pos, Is, lt-units, mul-rounds, rounded}
use Rattle.tests_basis.proofs.RankBounds.{fl-top, rounds-most, product-most}
use Rattle.tests_basis.proofs.RankSweeps.{Good, good-sweeps}
use Rattle.tests_basis.proofs.RankStart.{Contrast, good_start}
use Rattle.tests_basis.proofs.RankOrder.{first-place}
use Rattle.tests_basis.proofs.RankNorms.{sized, sized-is, Norm, norm-at}

-- ---- at most
-- each of the first `min rows p` places adds one at most
counted-most : (rows p : ℕ) (ns : List Float) → rank_of rows p ns ≤ min rows p
unfolding rank_of
counted-most rows p ns =
    fold-steps (λ k s. s ≤ k) 0 (min rows p) (λ k s. cond (lt (tolerance rows p ns) (singular rows ns k)) (s + 1) s) 0 (omega arith) (omega arith)
    (λ k h l s e. go (lt (tolerance rows p ns) (singular rows ns k)) s k e)
  where
    go : (b : Bool) (s k : ℕ) → s ≤ k → cond b (s + 1) s ≤ k + 1
    go true s k h = omega arith
    go false s k h = omega arith

-- what holds of both holds of the one that is picked
picked : {A : Type 0} (P : A → Type 0) (b : Bool) (x y : A) → P x → P y → P (cond b x y)
picked P true x y p q = p
picked P false x y p q = q

-- the rank is at most the number of rows and of columns
pub rank_most : (rows p : ℕ) (l : Rows) → 1 ≤ rows → 1 ≤ p → (contrast_basis marks rows p l).rank ≤ min rows p
unfolding contrast_basis
rank_most rows p l h k =
    let m : Rows = sweeps_to 30 rows p (values marks 6 6 rows p (divided marks rows p l)) in
    picked (λ (x : Basis Marked). x.rank ≤ min rows p) (eqb rows 1) _ _ (le-min h k) (counted-most rows p (norms rows p m))

-- one row: the rank is 1
pub rank-one : (p : ℕ) (l : Rows) → (contrast_basis marks 1 p l).rank ≡ 1
unfolding contrast_basis
rank-one p l = refl

-- ---- at least
-- 2 ^ -52
least-part : Is (fin false 1 (negsuc 51)) false (2 ^ 1022)
unfolding unit
least-part = record { val = (refl, refl) }

count-units : (n : ℕ) → n ≤ 6 → Is (of_count n) false (n * unit)
count-units n h = record { val = go (of_count n) (count-exact n (le_trans h (lit≤ tt))) }
  where
    go : (x : Float) → HasValue x false n 1 → HasValue x false (n * unit) unit
    go nan v = v
    go (inf s) v = v
    go (fin s m e) v = (v.0, turn (m * up e) (down e) unit v.1)
      where
        turn : (x d U : ℕ) → x * 1 ≡ n * d → x * U ≡ n * U * d
        turn x d U h = omega (arith, ap (λ (z : ℕ). z * U) h)

-- 2 ^ -52 times a count of at most 6 is a quarter at most
quarter : (P U n : ℕ) → n ≤ 6 → P * (n * U) ≤ 8 * P * U
quarter P U n h =
    let e : n * (P * U) ≤ 6 * (P * U) = mul-le-mul_right (P * U) h in
    omega (arith, e)

-- 2 ^ 1025 units are a quarter of 1 at most
few : 4 * 2 ^ 1025 ≤ unit
unfolding unit
few = pow_mono {i = 1027} {j = 1074} (lit≤ tt)

less : (a b U : ℕ) → a ≤ b → 4 * b ≤ U → 4 * a ≤ U
less a b U h l = omega arith

whole : (a U : ℕ) → 4 * a ≤ U → a ≤ U * 2 ^ 0
whole a U h = omega arith

part : (n : ℕ) → n ≤ 6 → (a : ℕ) × Is (mul binary64 (fin false 1 (negsuc 51)) (of_count n)) false a × (4 * a ≤ unit)
part n h = (a, rounded (mul-rounds least-part (count-units n h)) unit-pos (fl-top a 0 (lit< tt) (whole a unit small)), small)
  where
    a : ℕ
    a = fl (2 ^ 1022 * (n * unit)) unit

    small : 4 * a ≤ unit
    small = less a (2 ^ 1025) unit (fl-le (2 ^ 1022 * (n * unit)) unit 1025 unit-pos (quarter (2 ^ 1022) unit n h)) few

-- a quarter at most of v, rounded, is below v
below : (a v r U : ℕ) → 0 < U → 0 < v → 4 * a ≤ U → Near (a * v) U r → r < v
below a v r U P h l n = go (dec_lt r v)
  where
    close : (x : ℕ) → 0 < x → (y : ℕ) → 0 < y → y ≤ x → 8192 * x ≤ 2050 * x + 4096 * y → ⊥
    close x p y q h k = omega arith

    go : Dec (r < v) → r < v
    go (yes g) = g
    go (no g) =
        let b : v * U ≤ r * U = mul-le-mul_right U (native.Mathlib.Nat.le_of_suc-le-suc (native.Mathlib.Nat.lt_of_not-le g)) in
        let c : 4 * a * v ≤ U * v = mul-le-mul_right v l in
        let d : 2048 * (r * U) ≤ 2050 * (a * v) + 1024 * U = n.most in
        let e : 1 * U ≤ v * U = mul-le-mul_right U h in
        absurd (close (v * U) (native.Mathlib.Nat.mul-pos h P) U P (omega arith) (omega (arith, b, c, d)))

-- the largest norm is above the tolerance
module _ (rows p : ℕ) (m : Rows) (B : 1 ≤ rows) (R : rows ≤ 6) (P : p ≤ 6) (g : Good rows p 450 m) where
  abbrev ns : List Float
  ns = norms rows p m

  v : ℕ → ℕ
  v i = sized (get_or ns i nan)

  is : (i : ℕ) → i < rows → Is (get_or ns i nan) false (v i)
  unfolding v
  is i h = let n = norm-at R P g i h in subst (λ (z : ℕ). Is (get_or ns i nan) false z) (sym (sized-is n.is)) n.is

  first : (index_at rows ns 0 < rows) × ((j : ℕ) → j < rows → v j ≤ v (index_at rows ns 0))
  first = first-place rows ns v is B

  -- the number in place 0
  top-norm : Norm m p (index_at rows ns 0) (get_or ns (index_at rows ns 0) nan)
  top-norm = norm-at R P g (index_at rows ns 0) first.0

  top_pos : 0 < top-norm.size
  unfolding v
  top_pos =
      let n = norm-at R P g g.i g.in_rows in
      lt_of_lt_of_le (n.some g.j g.in_columns g.large)
      (le_trans (le_of_eq (sym (sized-is n.is))) (le_trans (first.1 g.i g.in_rows) (le_of_eq (sized-is top-norm.is))))

  above : lt (tolerance rows p ns) (singular rows ns 0) ≡ true
  unfolding tolerance singular
  above =
      let a = part (max rows p) (max-le R P) in
      let n = top-norm.size in
      let t = rounds-most 910 (mul-rounds a.1 top-norm.is) unit-pos (lit< tt) (bound a.0 n (whole a.0 unit a.2) top-norm.most) in
      lt-units t.0 top-norm.is ∙ lt-ltb (fl (a.0 * n) unit) n (below a.0 n (fl (a.0 * n) unit) unit unit-pos top_pos a.2 (fl-near (a.0 * n) unit unit-pos))
    where
      bound : (a b : ℕ) → a ≤ unit * 2 ^ 0 → b ≤ unit * 2 ^ 910 → a * b ≤ unit * 2 ^ 910 * unit
      bound a b h l = product-most a b 0 910 h l

  -- so it counts
  counted-least : 1 ≤ p → 1 ≤ rank_of rows p ns
  unfolding rank_of
  counted-least C =
      fold-steps (λ k s. 1 ≤ k → 1 ≤ s) 0 (min rows p) (λ k s. cond (lt (tolerance rows p ns) (singular rows ns k)) (s + 1) s) 0 (omega arith) (λ h. absurd (omega arith))
      (λ k h l s e f. step k s e (ℕ_discrete k 0)) (le-min B C)
    where
      more : (b : Bool) (s : ℕ) → 1 ≤ s → 1 ≤ cond b (s + 1) s
      more true s h = omega arith
      more false s h = h

      one : (s : ℕ) → 1 ≤ s + 1
      one s = omega arith

      step : (k s : ℕ) → (1 ≤ k → 1 ≤ s) → Dec (k ≡ 0) → 1 ≤ cond (lt (tolerance rows p ns) (singular rows ns k)) (s + 1) s
      step k s e (yes z) = subst (λ (b : Bool). 1 ≤ cond b (s + 1) s) (sym (ap (λ (i : ℕ). lt (tolerance rows p ns) (singular rows ns i)) z ∙ above)) (one s)
      step k s e (no z) = more (lt (tolerance rows p ns) (singular rows ns k)) s (e (omega arith))

-- the rank of a contrast of finite cells that are not all zero is at least 1
pub rank-least : (rows p : ℕ) (l : Rows) → 1 ≤ rows → rows ≤ 6 → 1 ≤ p → p ≤ 6 → Contrast rows p l → 1 ≤ (contrast_basis marks rows p l).rank
unfolding contrast_basis
rank-least rows p l B R C P c =
    let m : Rows = sweeps_to 30 rows p (values marks 6 6 rows p (divided marks rows p l)) in
    picked (λ (x : Basis Marked). 1 ≤ x.rank) (eqb rows 1) _ _ (le_refl 1) (counted-least rows p m B R P (good-sweeps R P (values marks 6 6 rows p (divided marks rows p l)) (good_start R P c)) C)
