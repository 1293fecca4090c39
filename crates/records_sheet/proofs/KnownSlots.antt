-- The slot of the cell that a record names, by what the table says of the record's kind: what `slot_at` asks for it, and that what it answers is the slot.
use Prim.Native.Nat.{ℕ, ◌+◌, ◌<◌, ◌≤◌}
use mathlib.Core.Path.{◌≡◌, ap, ap₂, ◌∙◌}
use mathlib.Core.Bool.{false}
use mathlib.Core.List.{List}
use native.Mathlib.Omega.{arith}
use lib.ListN.{get_or}
use Rattle.records.specs.declared.Kind.{Kind}
use Rattle.records.specs.declared.Sizes.{Sizes}
use Rattle.records.specs.format.Kinds.{index_of, Table, kind_at, kinds_of, kind_numbers}
use Rattle.records.specs.format.Cells.{first_slot, slot_count, offset, slot}
use Rattle.records.specs.format.File.{kind_of, row_of, column_of, count_of, out_of, beyond}
use Rattle.records.proofs.format.Slots.{sized_inside, slot-below}
use Rattle.records.proofs.readers.Limits.{kind-below}
use Rattle.records_sheet.specs.joints.Sheet.{Small, first_slots, slot_of}
use Rattle.records_sheet.proofs.Sheets.{firsts_at}
use Rattle.records_sheet.proofs.Bounds.{Widths, widths, all-bound}
use Rattle.records.specs.declared.Shape.{Shape}

-- what a loop has when it asks for the slot of record i: the first slots, a record within the sizes, its kind as read, and what the table says of that kind
pub record AtRecord (file : Shape) (z : Sizes) (fs s : List ℕ) (i kind : ℕ) (k : Kind) : Type 0 where
  pub small : Small z
  pub firsts : fs ≡ first_slots (kinds_of file z)
  pub sized : beyond (kinds_of file z) s i ≡ false
  pub read : kind ≡ kind_of s i
  pub table : k ≡ kind_at (kinds_of file z) kind

module _ {file : Shape} {z : Sizes} {fs s : List ℕ} {i kind : ℕ} {k : Kind} (h : AtRecord file z fs s i kind k) where
  abbrev t : Table
  t = kinds_of file z

  -- the kind is one that a call may read, so that it has a place among the first slots
  numbered : kind_of s i < kind_numbers
  numbered = kind-below file z (kind_of s i) _ _ _ (sized_inside t s i h.sized)

  -- what the table says of it
  known : k ≡ kind_at t (kind_of s i)
  known = h.table ∙ ap (kind_at t) h.read

  pub kind-placed : kind < 34
  kind-placed = let a = numbered in let e = h.read in omega arith

  -- what stands there is its first slot
  first-known : get_or fs kind 0 ≡ first_slot t (kind_of s i)
  first-known = ap (λ (xs : List ℕ). get_or xs kind 0) h.firsts ∙ firsts_at t kind kind-placed ∙ ap (first_slot t) h.read

  pub first_small : get_or fs kind 0 ≤ 553648128
  first_small = let e = first-known in let a = numbered in let b = all-bound file z h.small (kind_of s i) (omega arith) in omega arith

  -- what the table says of the kind leaves it the record, and small widths
  pub known-holds : out_of k s i ≡ false
  unfolding beyond
  known-holds = ap (λ (y : Kind). out_of y s i) known ∙ h.sized

  pub known-widths : Widths k
  known-widths = rw known (widths z h.small file (kind_of s i))

  -- the kind's first slot and the cell's place among the kind's make the record's slot
  pub slot-known : get_or fs kind 0 + offset k (index_of k.count (count_of s i)) (index_of k.row (row_of s i)) (index_of k.column (column_of s i)) ≡ slot_of t s i
  unfolding slot
  slot-known = ap₂ ◌+◌ first-known (rw known)

  -- it is one of the slots that the sizes leave, and these are so few that a usize counts the bytes of a number in each
  pub slot-within : slot_of t s i < slot_count t
  slot-within = slot-below t (kind_of s i) _ _ _ kind_numbers (sized_inside t s i h.sized) numbered

  pub slot_small : slot_of t s i ≤ 553648128
  slot_small = let a = slot-within in let b = all-bound file z h.small kind_numbers (omega arith) in omega arith
