-- Laws of tables: what stands in a cell, and how nested loops fill one.
use Prim.Native.Nat.{ℕ, zero, suc, ◌+◌, ◌<◌, ◌≤◌}
use native.Mathlib.Omega.{arith}
use native.Mathlib.Nat.{le_antisymm}
use mathlib.Core.Path.{◌≡◌, refl, sym, ap, ◌∙◌}
use mathlib.Core.List.{List, []}
use mathlib.Core.Logic.{◌⊎◌, inl, inr}
use lib.ListN.{get_or, set, length, replicate, get_or-replicate, length-replicate}
use lib.Seq.{get_or-set_same, set-get_or, set-set}
use Rattle.algebra.specs.Fold.{fold, span}
use Rattle.algebra.specs.Table.{row, blank, table}
use Rattle.algebra.proofs.FoldLaws.{span-at, span-other, length-span, fold-none, fold_next, fold_end, fold_start, fold-ext}

module _ {A : Type 0} where
  pub row_at : (z : A) (C c : ℕ) (f : ℕ → A) (j : ℕ) (d : A) → j < c → c ≤ C → get_or (row z C c f) j d ≡ f j
  unfolding row
  row_at z C c f j d h l = span-at 0 c f (replicate C z) j d (omega arith) h (omega (arith, length-replicate C z))

  pub length-table : (z : A) (R C r c : ℕ) (f : ℕ → ℕ → A) → length (table z R C r c f) ≡ R
  unfolding table blank
  length-table z R C r c f = length-span 0 r (λ i. row z C c (f i)) (replicate R (replicate C z)) ∙ length-replicate R (replicate C z)

  pub table-row : (z : A) (R C r c : ℕ) (f : ℕ → ℕ → A) (i : ℕ) → i < r → r ≤ R → get_or (table z R C r c f) i [] ≡ row z C c (f i)
  unfolding table blank
  table-row z R C r c f i h l =
      span-at 0 r (λ i. row z C c (f i)) (replicate R (replicate C z)) i [] (omega arith) h (omega (arith, length-replicate R (replicate C z)))

  -- the cell (i, j)
  pub table_at : (z : A) (R C r c : ℕ) (f : ℕ → ℕ → A) (i j : ℕ) (d : A) → i < r → j < c → r ≤ R → c ≤ C
      → get_or (get_or (table z R C r c f) i []) j d ≡ f i j
  table_at z R C r c f i j d hi hj hr hc = rw (table-row z R C r c f i hi hr) (row_at z C c (f i) j d hj hc)

  -- tables of functions that agree
  pub table-ext : (z : A) (R C r c : ℕ) (f g : ℕ → ℕ → A) → ((i j : ℕ) → i < r → j < c → f i j ≡ g i j) → table z R C r c f ≡ table z R C r c g
  unfolding table row
  table-ext z R C r c f g h =
      fold-ext 0 r (λ k ys. set ys k (row z C c (f k))) (λ k ys. set ys k (row z C c (g k))) (blank z R C)
      (λ k l m b. ap (λ (x : List A). set b k x)
      (fold-ext 0 c (λ j ys. set ys j (f k j)) (λ j ys. set ys j (g k j)) (replicate C z) (λ j n o y. ap (λ (x : A). set y j x) (h k j m o))))

  -- The invariant of the inner of two loops that fill a table: m is the table of i rows, m₀, with row i up to j.
  pub record Filling (z : A) (R C : ℕ) (f : ℕ → ℕ → A) (c i j : ℕ) (m₀ m : List (List A)) : Type 0 where
    pub rows : m₀ ≡ table z R C i c f
    pub part : m ≡ set m₀ i (row z C j (f i))

  pub table_none : (z : A) (R C c : ℕ) (f : ℕ → ℕ → A) (m : List (List A)) → m ≡ blank z R C → m ≡ table z R C 0 c f
  unfolding table
  table_none z R C c f m e = e ∙ fold_start 0 (λ k ys. set ys k (row z C c (f k))) (blank z R C)

  pub filling-none : {z : A} {R C : ℕ} {f : ℕ → ℕ → A} {c i : ℕ} {m : List (List A)} → i < R → m ≡ table z R C i c f → Filling z R C f c i 0 m m
  unfolding table blank row
  filling-none {z} {R} {C} {f} {c} {i} {m} h e =
      record {
        rows = e;
        part =
            sym (set-get_or m i []) ∙ ap (λ (x : List A). set m i x)
            (ap (λ (x : List (List A)). get_or x i []) e
            ∙ span-other 0 i (λ k. row z C c (f k)) (blank z R C) i [] (inr (omega arith))
            ∙ get_or-replicate R i (replicate C z) [] h
            ∙ fold_start 0 (λ k ys. set ys k (f i k)) (replicate C z));
      }

  pub filling-more : {z : A} {R C : ℕ} {f : ℕ → ℕ → A} {c i j : ℕ} {m₀ m : List (List A)} {v : A} → i < R → Filling z R C f c i j m₀ m → v ≡ f i j
      → Filling z R C f c i (j + 1) m₀ (set m i (set (get_or m i []) j v))
  unfolding row
  filling-more {z} {R} {C} {f} {c} {i} {j} {m₀} {m} {v} h r e =
      let s : List A = row z C j (f i) in
      record {
        rows = r.rows;
        part =
            rw (r.part, e)
            (set-set m₀ i s (set (get_or (set m₀ i s) i []) j (f i j))
            ∙ ap (λ (x : List A). set m₀ i x)
            (ap (λ (x : List A). set x j (f i j)) (get_or-set_same m₀ i s [] (omega (arith, ap length r.rows, length-table z R C i c f)))
            ∙ fold_next 0 j (λ k ys. set ys k (f i k)) (replicate C z) s (set s j (f i j)) (omega arith) refl refl));
      }

  pub filling-row : {z : A} {R C : ℕ} {f : ℕ → ℕ → A} {c i j : ℕ} {m₀ m : List (List A)} → Filling z R C f c i j m₀ m → j ≤ c → c ≤ j
      → m ≡ table z R C (i + 1) c f
  unfolding table
  filling-row {z} {R} {C} {f} {c} {i} {j} {m₀} r h k =
      fold_next 0 i (λ k ys. set ys k (row z C c (f k))) (blank z R C) m₀ _ (omega arith) r.rows
      (r.part ∙ ap (λ (n : ℕ). set m₀ i (row z C n (f i))) (le_antisymm h k))
