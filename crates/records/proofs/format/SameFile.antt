-- Two files whose records have the same fields (`Alike`) get the same answers to every question on cells and sizes, with any table of kinds.
use Prim.Native.Nat.{ℕ, ◌+◌, ◌-◌, ◌/◌, ◌%◌, ◌<◌}
use mathlib.Core.Path.{◌≡◌, refl, sym, ap, ◌∙◌, subst}
use mathlib.Core.Bool.{Bool, true, not, ◌&&◌, ◌||◌, cond}
use mathlib.Core.List.{List, [], ◌∷◌}
use lib.Dec.{eqb}
use lib.Ieee.{Float}
use Rattle.arithmetic.specs.Numbers.{plus_zero}
use Rattle.records.specs.declared.Kind.{Kind}
use Rattle.records.specs.format.Scan.{any, most, last}
use Rattle.records.specs.format.Kinds.{Table, kind_at, kind_numbers, value_holds}
use Rattle.records.specs.format.File.{count, kind_of, row_of, column_of, padding_of, bits_of, value_of, out_of, bad_record, cell_count, cell_row, cell_column, is_cell, again, has, cell, rows, columns, present, beyond, missing, length_reasons, form_reasons}
use Rattle.records.specs.format.Order.{matrix_of, stands_before, falls}
use Rattle.records.specs.format.Alike.{Alike, Stays}
use Rattle.records.proofs.format.ScanLaws.{any_same, most-same, last-both}
use Rattle.records.proofs.format.Slots.{cell-names}

module _ {s s' : List ℕ} (a : Alike s s') where
  pub count_same : count s' ≡ count s
  count_same = ap (λ (n : ℕ). n / 16) a.size

  pub rows_same : (k : ℕ) → rows s' k ≡ rows s k
  unfolding rows
  rows_same k =
      ap (λ (n : ℕ). most n (λ i. cond (eqb (kind_of s' i) k) (row_of s' i + 1) 0)) count_same
      ∙ most-same (count s) (λ i. cond (eqb (kind_of s' i) k) (row_of s' i + 1) 0) (λ i. cond (eqb (kind_of s i) k) (row_of s i + 1) 0) (λ i l. rw (a.kind i, a.place i))

  pub columns-same : (k : ℕ) → columns s' k ≡ columns s k
  unfolding columns
  columns-same k =
      ap (λ (n : ℕ). most n (λ i. cond (eqb (kind_of s' i) k) (column_of s' i + 1) 0)) count_same
      ∙ most-same (count s) (λ i. cond (eqb (kind_of s' i) k) (column_of s' i + 1) 0) (λ i. cond (eqb (kind_of s i) k) (column_of s i + 1) 0) (λ i l. rw (a.kind i, a.column i))

  pub present-same : (k : ℕ) → present s' k ≡ present s k
  present-same k = ap (λ (n : ℕ). not (eqb n 0)) (rows_same k)

  -- some record passes where each passes as it did
  any-records : (p' p : ℕ → Bool) → ((i : ℕ) → p' i ≡ p i) → any (count s') p' ≡ any (count s) p
  any-records p' p h = ap (λ (n : ℕ). any n p') count_same ∙ any_same (count s) p' p (λ i l. h i)

  out_of-same : (k : Kind) (i : ℕ) → out_of k s' i ≡ out_of k s i
  unfolding out_of
  out_of-same k i = rw (a.place i, a.column i, a.number i)

  pub is_cell-same : (t : Table) (k n r c i : ℕ) → is_cell t s' k n r c i ≡ is_cell t s k n r c i
  unfolding is_cell
  is_cell-same t k n r c i = rw (a.kind i, a.place i, a.number i, a.column i)

  again-same : (t : Table) (i : ℕ) → again t s' i ≡ again t s i
  unfolding again
  again-same t i =
      any_same i (is_cell t s' (kind_of s' i) (cell_count t s' i) (cell_row t s' i) (cell_column t s' i)) (is_cell t s (kind_of s' i) (cell_count t s' i) (cell_row t s' i) (cell_column t s' i))
      (λ j l. is_cell-same t (kind_of s' i) (cell_count t s' i) (cell_row t s' i) (cell_column t s' i) j)
      ∙ rw (a.kind i, a.place i, a.number i, a.column i)

  has_same : (t : Table) (k n r c : ℕ) → has t s' k n r c ≡ has t s k n r c
  unfolding has
  has_same t k n r c = any-records (is_cell t s' k n r c) (is_cell t s k n r c) (is_cell-same t k n r c)

  beyond-same : (t : Table) (i : ℕ) → beyond t s' i ≡ beyond t s i
  unfolding beyond
  beyond-same t i = out_of-same (kind_at t (kind_of s' i)) i ∙ ap (λ (k : ℕ). out_of (kind_at t k) s i) (a.kind i)

  missing-same : (t : Table) (k : ℕ) → missing t s' k ≡ missing t s k
  unfolding missing
  missing-same t k =
      ap (λ (b : Bool). not (kind_at t k).sparse && b) (any_same _ _ _ (λ n l. any_same _ _ _ (λ r l. any_same _ _ _ (λ c l. ap not (has_same t k n r c)))))

  -- the value bits hold what they held
  bad_record-same : (t : Table) (i : ℕ) → value_holds (kind_at t (kind_of s i)).value (bits_of s' i) ≡ value_holds (kind_at t (kind_of s i)).value (bits_of s i) → bad_record t s' i ≡ bad_record t s i
  unfolding bad_record
  bad_record-same t i h =
      ap (λ (k : ℕ). out_of (kind_at t k) s' i || not (eqb (padding_of s' i) 0) || not (value_holds (kind_at t k).value (bits_of s' i))) (a.kind i)
      ∙ ap (λ (b : Bool). b || not (eqb (padding_of s' i) 0) || not (value_holds (kind_at t (kind_of s i)).value (bits_of s' i))) (out_of-same (kind_at t (kind_of s i)) i)
      ∙ ap (λ (n : ℕ). out_of (kind_at t (kind_of s i)) s i || not (eqb n 0) || not (value_holds (kind_at t (kind_of s i)).value (bits_of s' i))) (a.padding i)
      ∙ ap (λ (b : Bool). out_of (kind_at t (kind_of s i)) s i || not (eqb (padding_of s i) 0) || not b) h

  -- ---- the cells
  module _ (t : Table) (k n r c : ℕ) where
    -- any relation between +0 and +0 and between the values of the records that name the cell holds of the cell
    pub cell-both : (R : Float → Float → Type 0) → R plus_zero plus_zero → ((i : ℕ) → i < count s → is_cell t s k n r c i ≡ true → R (value_of s i) (value_of s' i)) → R (cell t s k n r c) (cell t s' k n r c)
    unfolding cell
    cell-both R z h =
        subst (λ (m : ℕ). R (last (count s) (is_cell t s k n r c) (value_of s) plus_zero) (last m (is_cell t s' k n r c) (value_of s') plus_zero)) (sym count_same)
        (last-both R (count s) (is_cell t s k n r c) (is_cell t s' k n r c) (value_of s) (value_of s') plus_zero plus_zero (λ i l. sym (is_cell-same t k n r c i)) z h)

    pub cell_stays : Stays s s' k → cell t s' k n r c ≡ cell t s k n r c
    cell_stays h = cell-both (λ x y. y ≡ x) refl (λ i l p. h i (cell-names t s k n r c i p).kind)

  -- ---- the refusals
  pub length-same : length_reasons s' ≡ length_reasons s
  unfolding length_reasons
  length-same = ap (λ (n : ℕ). (2, not (eqb (n % 16) 0)) ∷ []) a.size

  before_same : (i j : ℕ) → stands_before s' i j ≡ stands_before s i j
  unfolding stands_before matrix_of
  before_same i j = rw (a.kind i, a.kind j, a.number i, a.number j, a.place i, a.place j, a.column i, a.column j)

  pub falls-same : falls s' ≡ falls s
  unfolding falls
  falls-same =
      ap (λ (n : ℕ). any (n - 1) (λ i. not (stands_before s' i (i + 1)))) count_same
      ∙ any_same (count s - 1) (λ i. not (stands_before s' i (i + 1))) (λ i. not (stands_before s i (i + 1))) (λ i l. ap not (before_same i (i + 1)))

  pub form-same : (limit sized : Table) → ((i : ℕ) → value_holds (kind_at limit (kind_of s i)).value (bits_of s' i) ≡ value_holds (kind_at limit (kind_of s i)).value (bits_of s i)) → form_reasons limit sized s' ≡ form_reasons limit sized s
  unfolding form_reasons
  form-same limit sized h =
      rw (any-records (bad_record limit s') (bad_record limit s) (λ i. bad_record-same limit i (h i)), any-records (again sized s') (again sized s) (again-same sized), any_same kind_numbers (missing sized s') (missing sized s) (λ k l. missing-same sized k), any-records (beyond sized s') (beyond sized s) (beyond-same sized))
