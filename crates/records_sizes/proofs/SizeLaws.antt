-- A loop over the records that keeps a top for each kind's number, one more than the largest field of the kind's records so far: how it starts and goes on. kind and field are a record's kind and
-- its row or its column.
use Prim.Native.Nat.{ℕ, ◌+◌, ◌<◌, ◌≤◌, max}
use mathlib.Core.Path.{◌≡◌, refl, ap, sym, ◌∙◌}
use mathlib.Core.Bool.{Bool, true, false, cond}
use mathlib.Core.List.{List}
use native.Mathlib.Omega.{arith}
use lib.Dec.{eqb}
use lib.ListN.{length, get_or, set, replicate, length-set, length-replicate, get_or-replicate}
use lib.Seq.{ext_get_or, get_or-set_same, get_or-set_other}
use borrow.Author.Tests.{eqb-true, eqb-false, ne_eqb}
use Rattle.algebra.specs.Table.{row}
use Rattle.algebra.proofs.FoldLaws.{length-span}
use Rattle.algebra.proofs.TableLaws.{row_at}
use Rattle.records.specs.format.Scan.{most}
use Rattle.records.specs.format.Kinds.{kind_numbers}
use Rattle.records.proofs.format.ScanLaws.{most-more}

-- ---- a whole row
length-row : {A : Type 0} (z : A) (n : ℕ) (f : ℕ → A) → length (row z n n f) ≡ n
unfolding row
length-row z n f = length-span 0 n f (replicate n z) ∙ length-replicate n z

-- a list of n cells that has f k at each k is the row
row_is : {A : Type 0} (z : A) (n : ℕ) (f : ℕ → A) (l : List A) → length l ≡ n → ((k : ℕ) → k < n → get_or l k z ≡ f k) → l ≡ row z n n f
row_is z n f l e h =
    ext_get_or z l (row z n n f) (e ∙ sym (length-row z n f)) (λ k b. let m : k < n = omega arith in h k m ∙ sym (row_at z n n f k z m (omega arith)))

-- and such a row has f k at each k
pub row-cell : {A : Type 0} (z : A) (n : ℕ) (f : ℕ → A) (l : List A) → l ≡ row z n n f → (k : ℕ) → k < n → get_or l k z ≡ f k
row-cell z n f l e k h = rw e (row_at z n n f k z h (omega arith))

-- ---- the tops
module _ (kind field : ℕ → ℕ) where
  -- of kind k, and of all kinds, after i records
  abbrev pub top : ℕ → ℕ → ℕ
  top i k = most i (λ j. cond (eqb (kind j) k) (field j + 1) 0)

  unfoldable pub tops : ℕ → List ℕ
  tops i = row 0 kind_numbers kind_numbers (top i)

  pub tops-none : replicate kind_numbers 0 ≡ tops 0
  unfolding tops most
  tops-none = row_is 0 kind_numbers (top 0) (replicate kind_numbers 0) (length-replicate {A = ℕ} kind_numbers 0) (λ k l. get_or-replicate {A = ℕ} kind_numbers k 0 0 l)

  wide : (i : ℕ) (a : List ℕ) → a ≡ tops i → length a ≡ kind_numbers
  unfolding tops
  wide i a e = ap length e ∙ length-row 0 kind_numbers (top i)

  kept : (i : ℕ) (a : List ℕ) → a ≡ tops i → (j : ℕ) → j < kind_numbers → get_or a j 0 ≡ top i j
  unfolding tops
  kept i a e = row-cell 0 kind_numbers (top i) a e

  -- record i's kind has a top, which becomes the larger of itself and the record's
  pub tops-hit : (i k v x : ℕ) (a b : List ℕ) → a ≡ tops i → k ≡ kind i → k < kind_numbers → x ≡ field i → v ≡ max (get_or a k 0) (x + 1) → b ≡ set a k v → b ≡ tops (i + 1)
  unfolding tops
  tops-hit i k v x a b e q l f g h = h ∙ row_is 0 kind_numbers (top (i + 1)) (set a k v) (length-set a k v ∙ wide i a e) (λ j m. go j m (eqb (kind i) j) refl)
    where
      go : (j : ℕ) → j < kind_numbers → (z : Bool) → eqb (kind i) j ≡ z → get_or (set a k v) j 0 ≡ top (i + 1) j
      go j m true z =
          let p : k ≡ j = q ∙ eqb-true (kind i) j z in
          let s : get_or (set a j v) j 0 ≡ v = get_or-set_same a j v 0 (omega (arith, wide i a e)) in
          let w : get_or a k 0 ≡ top i j = ap (λ (y : ℕ). get_or a y 0) p ∙ kept i a e j m in
          ap (λ (y : ℕ). get_or (set a y v) j 0) p ∙ s ∙ g ∙ rw (most-more, z, w, f)
      go j m false z = get_or-set_other a k j v 0 (λ p. eqb-false (kind i) j z (sym q ∙ sym p)) ∙ kept i a e j m ∙ rw (most-more, z) (omega arith)

  -- it has none, being past the kinds' numbers
  pub tops-miss : (i k : ℕ) (a b : List ℕ) → a ≡ tops i → k ≡ kind i → kind_numbers ≤ k → b ≡ a → b ≡ tops (i + 1)
  unfolding tops
  tops-miss i k a b e q l h = h ∙ row_is 0 kind_numbers (top (i + 1)) a (wide i a e) (λ j m. kept i a e j m ∙ same j m)
    where
      same : (j : ℕ) → j < kind_numbers → top i j ≡ top (i + 1) j
      same j m = rw (most-more, ne_eqb (kind i) j (λ p. absurd (omega arith))) (omega arith)
