-- A record that lies within the sizes has its cell's indices as its own fields, with any table of kinds.
use Prim.Native.Nat.{ℕ}
use mathlib.Core.Path.{◌≡◌, refl, sym}
use mathlib.Core.Bool.{true, false, ◌||◌}
use mathlib.Core.List.{List}
use borrow.Author.Tests.{eqb-true}
use Rattle.arithmetic.proofs.PlainLaws.{clash}
use Rattle.records.specs.declared.Field.{Field}
use Rattle.records.specs.declared.Field.TheVariants.{Index, Number, Unused}
use Rattle.records.specs.declared.Kind.{Kind}
use Rattle.records.specs.format.Kinds.{holds, index_of, Table, kind_at}
use Rattle.records.specs.format.File.{kind_of, row_of, column_of, count_of, cell_count, cell_row, cell_column, beyond}
use Rattle.records.proofs.format.ScanLaws.{or-false}
use Rattle.records.proofs.format.Slots.{within}
use Rattle.converter.specs.ReadAlike.{is_number, numbered}

-- a field that is no number names its cell by what it holds
held-index : (f : Field) (x : ℕ) → is_number f ≡ false → holds f x ≡ true → index_of f x ≡ x
unfolding is_number holds index_of
held-index (Index limit) x e h = refl
held-index Number x e h = clash refl e
held-index Unused x e h = sym (eqb-true x 0 h)

-- a record's fields are the indices of the cell that it names
pub record Own (t : Table) (s : List ℕ) (i : ℕ) : Type 0 where
  pub row : cell_row t s i ≡ row_of s i
  pub column : cell_column t s i ≡ column_of s i
  pub number : cell_count t s i ≡ count_of s i

pub own-fields : (t : Table) (s : List ℕ) (i : ℕ) → beyond t s i ≡ false → numbered (kind_at t (kind_of s i)) ≡ false → Own t s i
unfolding beyond
own-fields t s i b e =
    let z : Kind = kind_at t (kind_of s i) in
    let w = within z s i b in
    let f = or-false (is_number z.count || is_number z.row) (is_number z.column) e in
    let h = or-false (is_number z.count) (is_number z.row) f.0 in
    record { row = held-index z.row (row_of s i) h.1 w.row; column = held-index z.column (column_of s i) f.1 w.column; number = held-index z.count (count_of s i) h.0 w.number }
