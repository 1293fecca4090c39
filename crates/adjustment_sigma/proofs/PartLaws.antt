-- Laws of a row that is made in parts: what the parts give one after another is what the whole row gives.
use Prim.Native.Nat.{ℕ, zero, suc, ◌+◌, ◌*◌, ◌<◌, ◌≤◌}
use native.Mathlib.Omega.{arith}
use native.Mathlib.Nat.{mul-le-mul_right}
use native.Mathlib.Numerals.{add-one}
use mathlib.Core.Path.{◌≡◌, refl, sym, ap, ◌∙◌}
use mathlib.Core.Bool.{Bool, true}
use mathlib.Core.List.{List, []}
use mathlib.Core.Logic.{inl, inr, ⊎_elim}
use lib.ListN.{get_or, set, length}
use lib.Ieee.{Float, nan}
use Rattle.algebra.specs.Fold.{fold}
use Rattle.algebra.specs.Kind.{floats}
use Rattle.algebra.proofs.FoldLaws.{fold-ext, fold_more, fold-none}
use Rattle.algebra_large.specs.joints.Slab.{put_row, Holds, Apart}
use Rattle.algebra_large.proofs.SlabLaws.{put_row-at, put_row-ext, row-over}
use Rattle.algebra_large.proofs.ProductLaws.{apart-cell}
use Rattle.algebra.specs.Small.{Rows}
use Rattle.adjustment.specs.declared.Block.{Block}
use Rattle.adjustment.specs.Covariance.{factor, g_cell}
use Rattle.adjustment_covariance.specs.joints.Lent.{design, gained_with}
use Rattle.adjustment_covariance.proofs.DesignLaws.{sigma-term}
use Rattle.adjustment_covariance.proofs.GainLaws.{with-ext}

-- lo steps, and then m more, are lo + m steps
fold-join : {A : Type 0} (lo m : ℕ) (s : ℕ → A → A) (a : A) → fold 0 m (λ k y. s (lo + k) y) (fold 0 lo s a) ≡ fold 0 (lo + m) s a
fold-join lo zero s a =
    let e : lo ≡ lo + 0 = omega arith in
    fold-none 0 0 (λ k y. s (lo + k) y) (fold 0 lo s a) (omega arith) ∙ ap (λ (n : ℕ). fold 0 n s a) e
fold-join lo (suc m) s a =
    let e : lo + m + 1 ≡ lo + suc m = omega arith in
    let u : fold 0 (suc m) (λ k y. s (lo + k) y) (fold 0 lo s a) ≡ s (lo + m) (fold 0 m (λ k y. s (lo + k) y) (fold 0 lo s a)) =
    rw (← add-one m) (fold_more 0 m (λ k y. s (lo + k) y) (fold 0 lo s a) (omega arith)) in
    u ∙ ap (s (lo + m)) (fold-join lo m s a) ∙ sym (fold_more 0 (lo + m) s a (omega arith)) ∙ ap (λ (n : ℕ). fold 0 n s a) e

-- m more cells of a row
pub row-join : (a lo m : ℕ) (f : ℕ → Float) (xs ys zs : List Float) → ys ≡ put_row a lo f xs → zs ≡ put_row (a + lo) m (λ j. f (lo + j)) ys → zs ≡ put_row a (lo + m) f xs
unfolding put_row
row-join a lo m f xs ys zs ey ez =
    ez ∙ ap (λ (l : List Float). fold 0 m (λ j ys. set ys (a + lo + j) (f (lo + j))) l) ey
    ∙ fold-ext 0 m (λ j ys. set ys (a + lo + j) (f (lo + j))) (λ j ys. set ys (a + (lo + j)) (f (lo + j))) (fold 0 lo (λ j ys. set ys (a + j) (f j)) xs)
    (λ k l h b. let e : a + lo + k ≡ a + (lo + k) = omega arith in ap (λ (x : ℕ). set b x (f (lo + k))) e)
    ∙ fold-join lo m (λ j ys. set ys (a + j) (f j)) xs

-- the rows lo .. lo + m - 1 of a matrix lie where its rows lie
module _ (s n lo m : ℕ) (h : lo + m ≤ n) where
  rows-within : lo * s + m * s ≤ n * s
  rows-within = let e : (lo + m) * s ≤ n * s = mul-le-mul_right s h in omega arith

  pub part-holds : {q b len : ℕ} → Holds s q n n len → b ≡ q + lo * s → Holds s b m n len
  part-holds w e = record { wide = w.wide; fits = omega (arith, w.fits, rows-within) }

  pub part_apart : {a q b : ℕ} → Apart a n q (n * s) → b ≡ q + lo * s → Apart a n b (m * s)
  part_apart w e = record { apart = ⊎_elim (λ u. inl (omega arith)) (λ u. inr (omega (arith, rows-within))) w.apart }

  -- the terms of m more rows, which are apart from the row that gains them
  pub with-join : {a q : ℕ} (F : ℕ → Float) (xs ys zs : List Float) → a + n ≤ length xs → n ≤ s → Apart a n q (n * s)
      → ys ≡ put_row a n (λ j. gained_with lo F xs q s (get_or xs (a + j) nan) j) xs
      → zs ≡ put_row a n (λ j. gained_with m (λ k. F (lo + k)) ys (q + lo * s) s (get_or ys (a + j) nan) j) ys
      → zs ≡ put_row a n (λ j. gained_with (lo + m) F xs q s (get_or xs (a + j) nan) j) xs
  unfolding gained_with
  with-join {a} {q} F xs ys zs hl hs w ey ez =
      row-over a n (λ j. gained_with lo F xs q s (get_or xs (a + j) nan) j) (λ j. gained_with m (λ k. F (lo + k)) ys (q + lo * s) s (get_or ys (a + j) nan) j)
      (λ j. gained_with (lo + m) F xs q s (get_or xs (a + j) nan) j) xs ys zs hl ey ez
      (λ j l.
      ap (λ (x : Float). gained_with m (λ k. F (lo + k)) ys (q + lo * s) s x j)
      (ap (λ (l : List Float). get_or l (a + j) nan) ey ∙ put_row-at a n (λ j. gained_with lo F xs q s (get_or xs (a + j) nan) j) xs j l hl)
      ∙ fold-ext 0 m (λ k y. floats.plus y (floats.times (F (lo + k)) (get_or ys (q + lo * s + k * s + j) nan)))
      (λ k y. floats.plus y (floats.times (F (lo + k)) (get_or xs (q + (lo + k) * s + j) nan))) (gained_with lo F xs q s (get_or xs (a + j) nan) j)
      (λ k z hk y.
      let e : q + lo * s + k * s + j ≡ q + (lo + k) * s + j = omega arith in
      rw (e, apart-cell (λ j. gained_with lo F xs q s (get_or xs (a + j) nan) j) xs ys w ey (lo + k) j (omega arith) (omega arith)))
      ∙ fold-join lo m (λ k y. floats.plus y (floats.times (F k) (get_or xs (q + k * s + j) nan))) (get_or xs (a + j) nan))

-- the cells of a row g that was made in rs
pub made_at : (g : ℕ → Float) (m : ℕ) (rs row : List Float) → m ≤ length rs → row ≡ put_row 0 m g rs → (j : ℕ) → j < m → get_or row (0 + j) nan ≡ g j
made_at g m rs row h e j l = ap (λ (l : List Float). get_or l (0 + j) nan) e ∙ put_row-at 0 m g rs j l (omega arith)

-- the gains by the cells of such a row
pub with-made : (g : ℕ → Float) (a n b q s m : ℕ) (rs row xs ys : List Float) → m ≤ length rs → row ≡ put_row 0 m g rs → b ≡ q
    → ys ≡ put_row a n (λ j. gained_with m (λ k. get_or row k nan) xs b s (get_or xs (a + j) nan) j) xs
    → ys ≡ put_row a n (λ j. gained_with m g xs q s (get_or xs (a + j) nan) j) xs
with-made g a n b q s m rs row xs ys h e eb ey =
    ey ∙ ap (λ (x : ℕ). put_row a n (λ j. gained_with m (λ k. get_or row k nan) xs x s (get_or xs (a + j) nan) j) xs) eb
    ∙ put_row-ext a n (λ j. gained_with m (λ k. get_or row k nan) xs q s (get_or xs (a + j) nan) j) (λ j. gained_with m g xs q s (get_or xs (a + j) nan) j) xs
    (λ j l. with-ext g (λ k. get_or row k nan) m q s j (get_or xs (a + j) nan) xs xs cell (λ k hk. refl))
  where
    cell : (k : ℕ) → k < m → get_or row k nan ≡ g k
    cell k hk = let z : k ≡ 0 + k = omega arith in ap (λ (x : ℕ). get_or row x nan) z ∙ made_at g m rs row h e k hk

-- a term of a cell of Σ, from a row of G_r that was made in rs
pub sigma-turn : (n : ℕ) (z : Rows) (weighted : Bool) (weights : List Float) (blocks : List Block) (count : ℕ) (theta : List Float) (r i lo m : ℕ) (f : Float)
    (rs row : List Float) → m ≤ length rs → f ≡ factor (design 0 [] true [] blocks count theta) r
    → row ≡ put_row 0 m (λ j. g_cell (design n z weighted weights blocks count []) r i (lo + j)) rs → (j : ℕ) → j < m
    → floats.times f (get_or row (0 + j) nan)
    ≡ floats.times (factor (design n z weighted weights blocks count theta) r) (g_cell (design n z weighted weights blocks count theta) r i (lo + j))
sigma-turn n z weighted weights blocks count theta r i lo m f rs row h ef er j l =
    sigma-term n z weighted weights blocks count theta r i (lo + j) f (get_or row (0 + j) nan) ef
    (made_at (λ j. g_cell (design n z weighted weights blocks count []) r i (lo + j)) m rs row h er j l)
