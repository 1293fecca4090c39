-- A converted file is read alike, for any change, any tables of kinds and any file; and a file's rewritten values scale exactly where its cells do.
use Prim.Native.Nat.{ℕ, ◌<◌}
use mathlib.Core.Path.{◌≡◌, refl, sym, ap, ◌∙◌, subst}
use mathlib.Core.Bool.{Bool, true, false, not}
use mathlib.Core.List.{List}
use lib.Dec.{T}
use lib.IntN.{ℤ}
use lib.Ieee.{Float, binary64, fits}
use Rattle.arithmetic.specs.Numbers.{plus_zero, is_finite}
use Rattle.arithmetic.specs.Scale.{scale}
use Rattle.arithmetic.proofs.PlainLaws.{finite-scale}
use Rattle.records.specs.format.Scan.{any}
use Rattle.records.specs.format.Kinds.{Table, kind_at, value_holds}
use Rattle.records.specs.format.Alike.{Alike}
use Rattle.records.specs.format.File.{count, kind_of, row_of, column_of, count_of, bits_of, value_of, cell_count, cell_row, cell_column, cell, again, beyond, not_finite}
use Rattle.records.proofs.format.ScanLaws.{any_none, any_same}
use Rattle.records.proofs.format.Slots.{Inside, sized_inside, Names, cell-names}
use Rattle.records.proofs.format.CellLaws.{own-cell}
use Rattle.records.proofs.format.SameFile.{count_same, rows_same, columns-same, present-same, cell-both, cell_stays, length-same, falls-same, form-same}
use Rattle.converter.specs.Converted.{Change, rewritten, converted}
use Rattle.converter.specs.ReadAlike.{moves, moves_record, Exact, OnFloats, numbered, ConvertedReadsAlike}
use Rattle.converter.proofs.Rewritten.{rewritten-zero, rewritten-scales}
use Rattle.converter.proofs.Fields.{converted-alike, bits-other, value-other, kept-stays, value-new}
use Rattle.converter.proofs.Cells.{own-fields}

module _ (g : Change) (s : List ℕ) where
  abbrev s' : List ℕ
  s' = converted g s

  a : Alike s (converted g s)
  a = converted-alike g s

  -- ---- the value bits
  -- unused bits stay, and any others pass
  values-hold : (limit : Table) → OnFloats g limit → (i : ℕ) → value_holds (kind_at limit (kind_of s i)).value (bits_of s' i) ≡ value_holds (kind_at limit (kind_of s i)).value (bits_of s i)
  unfolding value_holds
  values-hold limit h i = go (g.rewrites (kind_of s i)) refl
    where
      go : (b : Bool) → g.rewrites (kind_of s i) ≡ b → value_holds (kind_at limit (kind_of s i)).value (bits_of s' i) ≡ value_holds (kind_at limit (kind_of s i)).value (bits_of s i)
      go true e = rw (h (kind_of s i) e)
      go false e = ap (value_holds (kind_at limit (kind_of s i)).value) (bits-other g s i e)

  -- exact scaling by powers of two: the value is the value scaled
  value-exact : Exact g s → (i : ℕ) → i < count s → g.rewrites (kind_of s i) ≡ true → value_of s' i ≡ scale (moves_record g s i) (value_of s i)
  value-exact h i l e = value-new g s i l e ∙ rewritten-scales g (kind_of s i) (count_of s i) (row_of s i) (column_of s i) (value_of s i) (h.again i l e)

  finite-same : Exact g s → any (count s') (not_finite s') ≡ any (count s) (not_finite s)
  unfolding not_finite
  finite-same h = ap (λ (n : ℕ). any n (not_finite s')) (count_same a) ∙ any_same (count s) (not_finite s') (not_finite s) (λ i l. ap not (go i l (g.rewrites (kind_of s i)) refl))
    where
      go : (i : ℕ) → i < count s → (w : Bool) → g.rewrites (kind_of s i) ≡ w → is_finite (value_of s' i) ≡ is_finite (value_of s i)
      go i l true e = ap is_finite (value-exact h i l e) ∙ finite-scale (moves_record g s i) (value_of s i)
      go i l false e = ap is_finite (value-other g s i e)

  -- ---- the cells
  module _ (t : Table) (k n r c : ℕ) where
    cell-kept : g.rewrites k ≡ false → cell t s' k n r c ≡ cell t s k n r c
    cell-kept e = cell_stays a t k n r c (kept-stays g s k e)

    -- what holds of each record by its own fields, holds of the cell by its indices
    cell-moves : (R : ℕ → ℕ → ℕ → ℕ → Float → Float → Type 0) → R k n r c plus_zero plus_zero
        → ((i : ℕ) → i < count s → g.rewrites (kind_of s i) ≡ true → R (kind_of s i) (count_of s i) (row_of s i) (column_of s i) (value_of s i) (value_of s' i))
        → any (count s) (beyond t s) ≡ false → g.rewrites k ≡ true → numbered (kind_at t k) ≡ false → R k n r c (cell t s k n r c) (cell t s' k n r c)
    cell-moves R z h b e f = cell-both a t k n r c (R k n r c) z (λ i l p. go i l (cell-names t s k n r c i p))
      where
        go : (i : ℕ) → i < count s → Names t s k n r c i → R k n r c (value_of s i) (value_of s' i)
        go i l q =
            let o = own-fields t s i (any_none (count s) (beyond t s) i l b) (ap (λ (j : ℕ). numbered (kind_at t j)) q.kind ∙ f) in
            let eN : count_of s i ≡ n = sym o.number ∙ q.number in
            let eR : row_of s i ≡ r = sym o.row ∙ q.row in
            let eC : column_of s i ≡ c = sym o.column ∙ q.column in
            subst (λ (x : ℕ). R x n r c (value_of s i) (value_of s' i)) q.kind
            (subst (λ (x : ℕ). R (kind_of s i) x r c (value_of s i) (value_of s' i)) eN
            (subst (λ (x : ℕ). R (kind_of s i) (count_of s i) x c (value_of s i) (value_of s' i)) eR
            (subst (λ (x : ℕ). R (kind_of s i) (count_of s i) (row_of s i) x (value_of s i) (value_of s' i)) eC (h i l (ap g.rewrites q.kind ∙ e)))))

-- A CONVERTED FILE IS READ ALIKE
pub converted-reads-alike : ConvertedReadsAlike
converted-reads-alike g limit sized s f =
    let a : Alike s (converted g s) = converted-alike g s in
    record {
      alike = a;
      same_count = count_same a;
      same_rows = rows_same a;
      same_columns = columns-same a;
      same_present = present-same a;
      same_length = length-same a;
      same_order = falls-same a;
      same_form = form-same a limit sized (values-hold g s limit f);
      same_finite = finite-same g s;
      kept_cell = cell-kept g s sized;
      new_cell = λ b k n r c e. cell-moves g s sized k n r c (λ k n r c x y. y ≡ rewritten g k n r c x) (rewritten-zero g k n r c) (value-new g s) b e;
      scaled_cell = λ h b k n r c e. cell-moves g s sized k n r c (λ k n r c x y. y ≡ scale (moves g k n r c) x) refl (value-exact g s h) b e;
    }

-- ---- exact by cells: in a file with no record beyond the sizes and no cell twice, each rewritten value scales exactly where each cell of its kind does
pub exact-cells : (g : Change) (sized : Table) (s : List ℕ) → any (count s) (again sized s) ≡ false → any (count s) (beyond sized s) ≡ false → ((k : ℕ) → g.rewrites k ≡ true → numbered (kind_at sized k) ≡ false)
    → ((k n r c : ℕ) → g.rewrites k ≡ true → Inside (kind_at sized k) n r c → T (fits binary64 (scale (moves g k n r c) (cell sized s k n r c)))) → Exact g s
exact-cells g sized s once within f h = record { again = go }
  where
    go : (i : ℕ) → i < count s → g.rewrites (kind_of s i) ≡ true → T (fits binary64 (scale (moves_record g s i) (value_of s i)))
    go i l e =
        let b = any_none (count s) (beyond sized s) i l within in
        let o = own-fields sized s i b (f (kind_of s i) e) in
        let x : T (fits binary64 (scale (moves g (kind_of s i) (cell_count sized s i) (cell_row sized s i) (cell_column sized s i)) (value_of s i))) =
        subst (λ (y : Float). T (fits binary64 (scale (moves g (kind_of s i) (cell_count sized s i) (cell_row sized s i) (cell_column sized s i)) y))) (own-cell sized s i l once)
        (h (kind_of s i) (cell_count sized s i) (cell_row sized s i) (cell_column sized s i) e (sized_inside sized s i b)) in
        let u : moves g (kind_of s i) (cell_count sized s i) (cell_row sized s i) (cell_column sized s i) ≡ moves_record g s i = rw (o.number, o.row, o.column) in
        subst (λ (z : ℤ). T (fits binary64 (scale z (value_of s i)))) u x
