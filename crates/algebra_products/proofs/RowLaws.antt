-- A product row by row: each turn adds to every cell of a row its next term, so that after k turns the cells are sums of k terms. Over any kind of number.
use Prim.Native.Nat.{ℕ, ◌+◌, ◌<◌, ◌≤◌}
use native.Mathlib.Omega.{arith}
use native.Mathlib.Nat.{le_antisymm}
use native.Mathlib.Decide.{dec_lt}
use mathlib.Core.Path.{◌≡◌, refl, sym, ap, ◌∙◌}
use mathlib.Core.List.{List, []}
use mathlib.Core.Logic.{inr}
use lib.ListN.{get_or, set, length, replicate, get_or-replicate, length-replicate}
use lib.Seq.{get_or-set_same, set-get_or, set-set, ext_get_or}
use Rattle.algebra.specs.Fold.{span}
use Rattle.algebra.specs.Table.{row, blank, table}
use Rattle.algebra.specs.Kind.{Arith, zero_of}
use Rattle.algebra.specs.Product.{at, sum, cell}
use Rattle.algebra.proofs.FoldLaws.{span-at, span-other, length-span, fold-keeps, fold_start, fold_next, fold_end, fold_more}
use Rattle.algebra.proofs.TableLaws.{row_at, length-table, filling-none}
use Rattle.algebra_products.specs.joints.Terms.{with_terms}

-- a row of z alone
pub row-blank : {A : Type 0} (z : A) (C c : ℕ) (f : ℕ → A) → c ≤ C → ((j : ℕ) → j < c → f j ≡ z) → row z C c f ≡ replicate C z
unfolding row
row-blank {A} z C c f h e =
    fold-keeps (λ ys. ys ≡ replicate C z) 0 c (λ k ys. set ys k (f k)) (replicate C z) refl
    (λ k lo hk ys q. rw (q, e k hk) (ap (λ (x : A). set (replicate C z) k x) (sym (get_or-replicate C k z z (omega arith))) ∙ set-get_or (replicate C z) k z))

module _ {A : Type 0} (N : Arith A) where
  -- cell j with its next term
  abbrev pub with_term : List A → A → List A → ℕ → A
  with_term sums x terms j = N.plus (get_or sums j N.void) (N.times x (get_or terms j N.void))

  -- The invariant of the loop over a row's cells: the first j cells have their term.
  pub record Gaining (sums : List A) (x : A) (terms : List A) (j : ℕ) (out : List A) : Type 0 where
    pub part : out ≡ span 0 j (with_term sums x terms) sums

  module _ {sums : List A} {x : A} {terms : List A} where
    pub gaining-none : Gaining sums x terms 0 sums
    gaining-none = record { part = fold_start 0 (λ k ys. set ys k (with_term sums x terms k)) sums }

    -- the next cell still has the sum that it came with
    pub gaining-own : {j : ℕ} {out : List A} → Gaining sums x terms j out → get_or out j N.void ≡ get_or sums j N.void
    gaining-own {j} r = rw r.part (span-other 0 j (with_term sums x terms) sums j N.void (inr (omega arith)))

    pub gaining-more : {j : ℕ} {out : List A} {v : A} → Gaining sums x terms j out → v ≡ with_term out x terms j → Gaining sums x terms (j + 1) (set out j v)
    gaining-more {j} {out} {v} r e =
        let v-is : v ≡ with_term sums x terms j = e ∙ ap (λ (y : A). N.plus y (N.times x (get_or terms j N.void))) (gaining-own r) in
        record {
          part = fold_next 0 j (λ k ys. set ys k (with_term sums x terms k)) sums out (set out j v) (omega arith) r.part (ap (λ (y : A). set out j y) v-is);
        }

    pub gaining-end : {j c : ℕ} {out : List A} → j ≤ c → c ≤ j → Gaining sums x terms j out → out ≡ with_terms N c sums x terms
    unfolding with_terms
    gaining-end {j} {c} {out} h l r = fold_end 0 j c (λ k ys. set ys k (with_term sums x terms k)) sums out h l r.part

  -- the cells of row i after k turns, with zeros past them
  abbrev pub row_after : ℕ → ℕ → List (List A) → List (List A) → ℕ → ℕ → List A
  row_after C c a b i k = row (zero_of N) C c (cell N k a b i)

  pub row_after-none : (C c : ℕ) (a b : List (List A)) (i : ℕ) → c ≤ C → row_after C c a b i 0 ≡ replicate C (zero_of N)
  unfolding cell sum
  row_after-none C c a b i h =
      row-blank (zero_of N) C c (cell N 0 a b i) h (λ j l. sym (fold_start 0 (λ k s. N.plus s (N.times (at N a i k) (at N b k j))) (zero_of N)))

  pub row_after-more : (C c : ℕ) (a b : List (List A)) (i k : ℕ) → c ≤ C
      → with_terms N c (row_after C c a b i k) (at N a i k) (get_or b k []) ≡ row_after C c a b i (k + 1)
  unfolding with_terms row cell sum
  row_after-more C c a b i k h =
      ext_get_or N.void _ _ (length-span 0 c g s ∙ own ∙ sym (length-span 0 c (cell N (k + 1) a b i) zs)) (λ j l. go j (dec_lt j c))
    where
      zs : List A
      zs = replicate C (zero_of N)

      s : List A
      s = row_after C c a b i k

      g : ℕ → A
      g = with_term s (at N a i k) (get_or b k [])

      own : length s ≡ length zs
      own = length-span 0 c (cell N k a b i) zs

      go : (j : ℕ) → Dec (j < c) → get_or (span 0 c g s) j N.void ≡ get_or (span 0 c (cell N (k + 1) a b i) zs) j N.void
      go j (yes l) =
          span-at 0 c g s j N.void (omega arith) l (omega (arith, own, length-replicate C (zero_of N)))
          ∙ ap (λ (y : A). N.plus y (N.times (at N a i k) (at N b k j))) (row_at (zero_of N) C c (cell N k a b i) j N.void l h)
          ∙ sym (fold_more 0 k (λ k s. N.plus s (N.times (at N a i k) (at N b k j))) (zero_of N) (omega arith))
          ∙ sym (row_at (zero_of N) C c (cell N (k + 1) a b i) j N.void l h)
      go j (no l) =
          span-other 0 c g s j N.void (inr (omega arith))
          ∙ span-other 0 c (cell N k a b i) zs j N.void (inr (omega arith))
          ∙ sym (span-other 0 c (cell N (k + 1) a b i) zs j N.void (inr (omega arith)))

  -- The invariant of the inner of two loops that make a product: m is the product's first i rows, m₀, with k terms in each sum of row i.
  pub record Summing (R C n c : ℕ) (a b : List (List A)) (i k : ℕ) (m₀ m : List (List A)) : Type 0 where
    pub rows : m₀ ≡ table (zero_of N) R C i c (cell N n a b)
    pub part : m ≡ set m₀ i (row_after C c a b i k)

  module _ {R C n c : ℕ} {a b : List (List A)} {i : ℕ} where
    pub summing-none : {m : List (List A)} → i < R → c ≤ C → m ≡ table (zero_of N) R C i c (cell N n a b) → Summing R C n c a b i 0 m m
    unfolding row
    summing-none {m} h l e =
        record {
          rows = e;
          part = (filling-none h e).part ∙ ap (λ (x : List A). set m i x) (row-blank (zero_of N) C 0 (cell N n a b i) (omega arith) (λ j q. absurd (omega arith)) ∙ sym (row_after-none C c a b i l));
        }

    -- the row that turn k starts from
    pub summing-own : {k : ℕ} {m₀ m : List (List A)} → i < R → Summing R C n c a b i k m₀ m → get_or m i [] ≡ row_after C c a b i k
    summing-own {k} {m₀} {m} h r =
        ap (λ (x : List (List A)). get_or x i []) r.part
        ∙ get_or-set_same m₀ i (row_after C c a b i k) [] (omega (arith, ap length r.rows, length-table (zero_of N) R C i c (cell N n a b)))

    pub summing-more : {k : ℕ} {m₀ m : List (List A)} {v : List A} → i < R → c ≤ C → Summing R C n c a b i k m₀ m
        → v ≡ with_terms N c (get_or m i []) (at N a i k) (get_or b k []) → Summing R C n c a b i (k + 1) m₀ (set m i v)
    summing-more {k} {m₀} {m} {v} h l r e =
        let v-is : v ≡ row_after C c a b i (k + 1) =
        e ∙ ap (λ (x : List A). with_terms N c x (at N a i k) (get_or b k [])) (summing-own h r) ∙ row_after-more C c a b i k l in
        record {
          rows = r.rows;
          part = rw (r.part, v-is) (set-set m₀ i (row_after C c a b i k) (row_after C c a b i (k + 1)));
        }

    pub summing-row : {k : ℕ} {m₀ m : List (List A)} → Summing R C n c a b i k m₀ m → k ≤ n → n ≤ k → m ≡ table (zero_of N) R C (i + 1) c (cell N n a b)
    unfolding table
    summing-row {k} {m₀} r h l =
        fold_next 0 i (λ k ys. set ys k (row (zero_of N) C c (cell N n a b k))) (blank (zero_of N) R C) m₀ _ (omega arith) r.rows
        (r.part ∙ ap (λ (x : ℕ). set m₀ i (row_after C c a b i x)) (le_antisymm h l))
