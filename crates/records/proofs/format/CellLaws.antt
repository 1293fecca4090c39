-- The number in a cell of a file, by any table of kinds: it is an f64 number; it is finite where each record's is; and where no cell is named twice it is that of the record that names the cell.
use Prim.Native.Nat.{ℕ, ◌<◌}
use mathlib.Core.Path.{◌≡◌, refl, sym, ◌∙◌}
use mathlib.Core.Bool.{Bool, true, false}
use mathlib.Core.List.{List}
use lib.Dec.{T}
use lib.Ieee.{binary64, fits}
use lib.Ieee.Bits.{of_bits-fits}
use borrow.Author.Tests.{not-false}
use Rattle.arithmetic.specs.Numbers.{plus_zero, is_finite}
use Rattle.records.specs.format.Scan.{any, last}
use Rattle.records.specs.format.Kinds.{Table}
use Rattle.records.specs.format.File.{count, kind_of, bits_of, value_of, cell_count, cell_row, cell_column, is_cell, again, cell, not_finite}
use Rattle.records.proofs.format.ScanLaws.{any_none, any-hit, last-at, last-holds}
use Rattle.records.proofs.format.Slots.{cell-names, names-cell}

pub cell-fits : (t : Table) (s : List ℕ) (k n r c : ℕ) → T (fits binary64 (cell t s k n r c))
unfolding cell fits
cell-fits t s k n r c = last-holds (λ x. T (fits binary64 x)) (count s) (is_cell t s k n r c) (value_of s) plus_zero tt (λ i l p. of_bits-fits binary64 (bits_of s i))

pub cell-finite : (t : Table) (s : List ℕ) (k n r c : ℕ) → any (count s) (not_finite s) ≡ false → is_finite (cell t s k n r c) ≡ true
unfolding cell is_finite not_finite
cell-finite t s k n r c h = last-holds (λ x. is_finite x ≡ true) (count s) (is_cell t s k n r c) (value_of s) plus_zero refl (λ i l p. not-false (is_finite (value_of s i)) (any_none (count s) (not_finite s) i l h))

-- where no cell is named twice, what the last record says that names the cell of record i is what record i says
pub own-last : {A : Type 0} (t : Table) (s : List ℕ) (f : ℕ → A) (d : A) (i : ℕ) → i < count s → any (count s) (again t s) ≡ false
    → last (count s) (is_cell t s (kind_of s i) (cell_count t s i) (cell_row t s i) (cell_column t s i)) f d ≡ f i
unfolding again
own-last t s f d i l once = last-at (count s) own f d i l (names-cell t s (kind_of s i) (cell_count t s i) (cell_row t s i) (cell_column t s i) i (record { kind = refl; row = refl; number = refl; column = refl })) (λ j m b. other j m b (own j) refl)
  where
    own : ℕ → Bool
    own = is_cell t s (kind_of s i) (cell_count t s i) (cell_row t s i) (cell_column t s i)

    other : (j : ℕ) → i < j → j < count s → (x : Bool) → own j ≡ x → x ≡ false
    other j m b false e = refl
    other j m b true e =
        let n = cell-names t s (kind_of s i) (cell_count t s i) (cell_row t s i) (cell_column t s i) j e in
        let twice = any-hit j (is_cell t s (kind_of s j) (cell_count t s j) (cell_row t s j) (cell_column t s j)) i m
        (names-cell t s (kind_of s j) (cell_count t s j) (cell_row t s j) (cell_column t s j) i (record { kind = sym n.kind; row = sym n.row; number = sym n.number; column = sym n.column })) in
        sym twice ∙ any_none (count s) (again t s) j b once

-- the number in its cell too
pub own-cell : (t : Table) (s : List ℕ) (i : ℕ) → i < count s → any (count s) (again t s) ≡ false → cell t s (kind_of s i) (cell_count t s i) (cell_row t s i) (cell_column t s i) ≡ value_of s i
unfolding cell
own-cell t s i l once = own-last t s (value_of s) plus_zero i l once
