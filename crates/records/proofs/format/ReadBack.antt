-- A file that is written (specs/format/Written.antt) and read back (specs/format/File.antt) by one table: each record is a cell's, none lies beyond the table, none names a cell twice, none is missing, and each
-- cell has its number.
use Prim.Native.Nat.{ℕ, ◌+◌, ◌*◌, ◌^◌, ◌<◌, ◌≤◌}
use mathlib.Core.Path.{◌≡◌, refl, ap, sym, ◌∙◌}
use mathlib.Core.List.{List}
use mathlib.Core.Bool.{Bool, true, false, not, ◌&&◌, and-false}
use native.Mathlib.Omega.{arith}
use lib.Dec.{eqb}
use lib.Ieee.{binary64, of_bits}
use borrow.Author.Tests.{eqb-true, ne_eqb, lt-ltb}
use Rattle.arithmetic.specs.Numbers.{plus_zero}
use Rattle.records.specs.declared.Field.{Field}
use Rattle.records.specs.declared.Field.TheVariants.{Index, Number, Unused}
use Rattle.records.specs.format.Kinds.{holds, width, index_of, Table, kind_at, kind_numbers}
use Rattle.records.specs.format.Cells.{slots, first_slot, slot_count, offset, slot}
use Rattle.records.specs.format.File.{count, kind_of, value_of, cell_row, cell_column, cell_count, out_of, beyond, is_cell, again, has, cell, missing}
use Rattle.records.specs.format.Written.{Content, field_of, file_of}
use Rattle.records.proofs.format.ScanLaws.{any-hit, none_any, none-any-cells, last-at, Falls, total_falls, total-constant}
use Rattle.records.proofs.format.Slots.{Inside, sized_inside, Names, names-cell, slot-below, slot-cell}
use Rattle.records.proofs.format.WrittenLaws.{RecordIs, count-file, record-file}

-- ---- every number below the table's is a cell's
pub record CellOf (t : Table) (i : ℕ) : Type 0 where
  pub kind : ℕ
  pub number : ℕ
  pub row : ℕ
  pub column : ℕ
  pub below : kind < kind_numbers
  pub inside : Inside (kind_at t kind) number row column
  pub place : slot t kind number row column ≡ i

-- the two digits of a number below a product
falls_of : (a b i : ℕ) → i < a * b → Falls a (λ j. b) i
falls_of a b i l = total_falls a (λ j. b) i (rw (total-constant a b) l)

falls-place : (a b i : ℕ) (w : Falls a (λ j. b) i) → w.index * b + w.rest ≡ i
falls-place a b i w = let e = total-constant w.index b in let p = w.place in omega arith

pub cell-of : (t : Table) (i : ℕ) → i < slot_count t → CellOf t i
unfolding first_slot slots slot offset
cell-of t i l =
    let k = total_falls kind_numbers (λ j. slots (kind_at t j)) i l in
    let z = kind_at t k.index in
    let x = falls_of (width z.count * width z.row) (width z.column) k.rest k.short in
    let y = falls_of (width z.count) (width z.row) x.index x.below in
    let e : y.index * width z.row + y.rest ≡ x.index = falls-place (width z.count) (width z.row) x.index y in
    let g : x.index * width z.column + x.rest ≡ k.rest = falls-place (width z.count * width z.row) (width z.column) k.rest x in
    record {
      kind = k.index;
      number = y.index;
      row = y.rest;
      column = x.rest;
      below = k.below;
      inside = record { number = y.below; row = y.short; column = x.short };
      place = rw (e, g) k.place;
    }

-- ---- a field that was written
pub field_below : (g : Field) (x y b : ℕ) → x < width g → width g ≤ b → y < b → field_of g x y < b
unfolding width field_of
field_below (Index limit) x y b l m n = omega arith
field_below Number x y b l m n = n
field_below Unused x y b l m n = m

-- it holds what it may, and names the index that it was written for
pub field-holds : (g : Field) (x y : ℕ) → x < width g → holds g (field_of g x y) ≡ true
unfolding width field_of holds
field-holds (Index limit) x y l = lt-ltb x limit l
field-holds Number x y l = refl
field-holds Unused x y l = refl

pub field-index : (g : Field) (x y : ℕ) → x < width g → index_of g (field_of g x y) ≡ x
unfolding width field_of index_of
field-index (Index limit) x y l = refl
field-index Number x y l = omega arith
field-index Unused x y l = omega arith

-- ---- the file of a table, where what the cells say fits their records
pub record Fitting (t : Table) (f : ℕ → ℕ → ℕ → ℕ → Content) : Type 0 where
  pub counts : (k : ℕ) → k < kind_numbers → width (kind_at t k).count ≤ 2 ^ 32
  pub number : (k n r c : ℕ) → k < kind_numbers → Inside (kind_at t k) n r c → (f k n r c).count < 2 ^ 32
  pub bits : (k n r c : ℕ) → k < kind_numbers → Inside (kind_at t k) n r c → (f k n r c).bits < 2 ^ 64

module _ (t : Table) (f : ℕ → ℕ → ℕ → ℕ → Content) (fit : Fitting t f) where
  -- the fields of a cell's record
  pub record-fitting : (k n r c : ℕ) → k < kind_numbers → Inside (kind_at t k) n r c
      → RecordIs (file_of t f) (slot t k n r c) k (field_of (kind_at t k).row r (f k n r c).row) (field_of (kind_at t k).column c (f k n r c).column) (field_of (kind_at t k).count n (f k n r c).count) (f k n r c).bits
  record-fitting k n r c l w =
      record-file t f k n r c l w (field_below (kind_at t k).count n (f k n r c).count (2 ^ 32) w.number (fit.counts k l) (fit.number k n r c l w)) (fit.bits k n r c l w)

  -- it names the cell
  pub names-file : (k n r c : ℕ) → k < kind_numbers → Inside (kind_at t k) n r c → Names t (file_of t f) k n r c (slot t k n r c)
  names-file k n r c l w =
      let x = record-fitting k n r c l w in
      record {
        kind = x.kind;
        row = rw (x.kind, x.row) (field-index (kind_at t k).row r (f k n r c).row w.row);
        number = rw (x.kind, x.number) (field-index (kind_at t k).count n (f k n r c).count w.number);
        column = rw (x.kind, x.column) (field-index (kind_at t k).column c (f k n r c).column w.column);
      }

  -- and lies within the table
  within-file : (k n r c : ℕ) → k < kind_numbers → Inside (kind_at t k) n r c → beyond t (file_of t f) (slot t k n r c) ≡ false
  unfolding beyond out_of
  within-file k n r c l w =
      let x = record-fitting k n r c l w in
      rw (x.kind, x.row, x.column, x.number, field-holds (kind_at t k).row r (f k n r c).row w.row, field-holds (kind_at t k).column c (f k n r c).column w.column, field-holds (kind_at t k).count n (f k n r c).count w.number)

  -- no record lies beyond the table
  pub file-beyond : (i : ℕ) → i < slot_count t → beyond t (file_of t f) i ≡ false
  file-beyond i l = let x = cell-of t i l in rw x.place at (within-file x.kind x.number x.row x.column x.below x.inside)

  -- record i names cell number i
  pub file-slot : (i : ℕ) → i < slot_count t → slot t (kind_of (file_of t f) i) (cell_count t (file_of t f) i) (cell_row t (file_of t f) i) (cell_column t (file_of t f) i) ≡ i
  file-slot i l = let x = cell-of t i l in rw x.place at (at-cell x.kind x.number x.row x.column x.below x.inside)
    where
      s : List ℕ
      s = file_of t f

      at-cell : (k n r c : ℕ) → k < kind_numbers → Inside (kind_at t k) n r c
          → slot t (kind_of s (slot t k n r c)) (cell_count t s (slot t k n r c)) (cell_row t s (slot t k n r c)) (cell_column t s (slot t k n r c)) ≡ slot t k n r c
      at-cell k n r c l w = let i = slot t k n r c in eqb-true _ _ (slot-cell t s k n r c i (within-file k n r c l w) w ∙ names-cell t s k n r c i (names-file k n r c l w))

  -- and no other
  pub file-names : (k n r c i : ℕ) → Inside (kind_at t k) n r c → i < slot_count t → is_cell t (file_of t f) k n r c i ≡ eqb i (slot t k n r c)
  file-names k n r c i w l = sym (slot-cell t (file_of t f) k n r c i (file-beyond i l) w) ∙ ap (λ (j : ℕ). eqb j (slot t k n r c)) (file-slot i l)

  -- so no cell is named twice
  pub file-again : (i : ℕ) → i < slot_count t → again t (file_of t f) i ≡ false
  unfolding again
  file-again i l = none_any i _ (λ j m. file-names (kind_of s i) (cell_count t s i) (cell_row t s i) (cell_column t s i) j (sized_inside t s i (file-beyond i l)) (omega arith) ∙ ne_eqb j _ (λ e. let p = file-slot i l in omega arith))
    where
      s : List ℕ
      s = file_of t f

  -- none is missing
  pub file-has : (k n r c : ℕ) → k < kind_numbers → Inside (kind_at t k) n r c → has t (file_of t f) k n r c ≡ true
  unfolding has
  file-has k n r c l w = any-hit (count (file_of t f)) (is_cell t (file_of t f) k n r c) (slot t k n r c) (rw (count-file t f) (slot-below t k n r c kind_numbers w l)) (names-cell t (file_of t f) k n r c (slot t k n r c) (names-file k n r c l w))

  pub file-missing : (k : ℕ) → k < kind_numbers → missing t (file_of t f) k ≡ false
  unfolding missing
  file-missing k l =
      let z = kind_at t k in
      let none = none-any-cells (width z.count) (width z.row) (width z.column) (λ n r c. not (has t (file_of t f) k n r c)) (λ n r c ln lr lc. ap not (file-has k n r c l (record { number = ln; row = lr; column = lc }))) in
      ap (λ (b : Bool). not z.sparse && b) none ∙ and-false (not z.sparse)

  -- and each cell has its number
  pub file-cell : (k n r c : ℕ) → k < kind_numbers → Inside (kind_at t k) n r c → cell t (file_of t f) k n r c ≡ of_bits binary64 (f k n r c).bits
  unfolding cell
  file-cell k n r c l w =
      let s = file_of t f in
      let i = slot t k n r c in
      let e = count-file t f in
      let b = slot-below t k n r c kind_numbers w l in
      last-at (count s) (is_cell t s k n r c) (value_of s) plus_zero i (omega arith) (names-cell t s k n r c i (names-file k n r c l w)) (λ j g h. file-names k n r c j w (omega arith) ∙ ne_eqb j i (λ q. omega arith))
      ∙ ap (of_bits binary64) (record-fitting k n r c l w).bits
