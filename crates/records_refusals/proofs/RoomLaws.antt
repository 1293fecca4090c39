-- What is lent for the reading of a series, before it is read and after, and once its torn specimens are left out.
use Prim.Native.Nat.{ℕ, ◌≤◌}
use native.Mathlib.Omega.{arith}
use mathlib.Core.Path.{◌≡◌, refl, sym, ap, ap₂, ◌∙◌, subst}
use mathlib.Core.Bool.{Bool}
use mathlib.Core.List.{List}
use lib.ListN.{length}
use lib.Ieee.{Float}
use Rattle.records.specs.declared.Sizes.{Sizes}
use Rattle.records.specs.format.Kinds.{kinds_of, kind_numbers, kenward_roger_kinds, kenward_roger, limits}
use Rattle.records.specs.format.Cells.{slot_count}
use Rattle.records.specs.format.File.{count}
use Rattle.records.specs.readers.Shortened.{kept_specimens}
use Rattle.records.specs.readers.Series.{refusal, sizes, kinds, as_sent, design}
use Rattle.records.proofs.readers.AcceptedSeries.{accepted-series}
use Rattle.records.proofs.readers.Limits.{Below, series-below, fewer-slots}
use Rattle.records.proofs.readers.ShortLaws.{short_n}
use Rattle.records_sheet.specs.joints.Sheet.{Small, first_slots, sheet_after}
use Rattle.records_sheet.proofs.Sheets.{length-sheet, below-small}
use Rattle.records_torn.specs.joints.Packed.{kept_in, short_sheet}
use Rattle.records_torn.proofs.ShortSheet.{length-short}
use Rattle.records_refusals.specs.joints.Room.{Room, SeriesRead, SeriesShort}
use Rattle.records_refusals.proofs.RefusalLaws.{kept-on-sheet}
use Rattle.records.specs.declared.Shape.TheVariants.{Series}

-- what is lent holds the series once the reader takes it
pub series-read : (w : ℕ) (s : List ℕ) (flags : List Bool) (xs ys : List Float) → Room w flags xs → refusal w s ≡ 0 → ys ≡ sheet_after (length xs) (kinds s) s (count s) → SeriesRead w s (sizes s) (first_slots (kinds s)) ys
series-read w s flags xs ys h taken q =
    let n : length ys ≡ length xs = ap length q ∙ length-sheet (length xs) (kinds s) s (count s) in
    record {
      some = h.some;
      most = h.most;
      taken = taken;
      sized = refl;
      starts = refl;
      numbers = q ∙ ap (λ (m : ℕ). sheet_after m (kinds s) s (count s)) (sym n);
      written = subst (λ (m : ℕ). slot_count (kenward_roger w) ≤ m) (sym n) h.written;
    }

-- the same with the sizes and first slots that the code has at hand
pub at-hand : (w : ℕ) (s : List ℕ) (z : Sizes) (fs : List ℕ) (xs : List Float) → SeriesRead w s (sizes s) (first_slots (kinds s)) xs → z ≡ sizes s → fs ≡ first_slots (kinds_of Series z) → SeriesRead w s z fs xs
at-hand w s z fs xs h ez ef =
    record { some = h.some; most = h.most; taken = h.taken; sized = ez; starts = ef ∙ ap (λ (y : Sizes). first_slots (kenward_roger_kinds y)) ez; numbers = h.numbers; written = h.written }

-- ---- a series that the reader takes keeps within the limits, so that what has room for these has room for it
module _ (w : ℕ) (some : 1 ≤ w) (s : List ℕ) (taken : refusal w s ≡ 0) where
  pub accepted-below : Below (sizes s) (limits w)
  accepted-below = series-below w some s (accepted-series w s taken).formed.good

  pub accepted-small : w ≤ 256 → Small (sizes s)
  accepted-small most = below-small (sizes s) w most accepted-below

  pub accepted-room : (N : ℕ) → slot_count (kenward_roger w) ≤ N → slot_count (kinds s) ≤ N
  accepted-room N l = let a : slot_count (kinds s) ≤ slot_count (kenward_roger w) = fewer-slots (sizes s) (limits w) accepted-below Series kind_numbers in omega arith

-- ---- its torn specimens are left out
module _ (w : ℕ) (s : List ℕ) (z : Sizes) (fs : List ℕ) (xs : List Float) (h : SeriesRead w s z fs xs) where
  own_room : slot_count (kinds s) ≤ length xs
  own_room = accepted-room w h.some s h.taken (length xs) h.written

  -- what that asks
  pub can-shorten : Small z × (fs ≡ first_slots (kinds_of Series z)) × (slot_count (kinds_of Series z) ≤ length xs)
  can-shorten = rw h.sized (accepted-small w h.some s h.taken h.most, h.starts, own_room)

  -- those that stay by the sheet are those that stay by the file, and as many are run
  pub kept_read : kept_in z xs ≡ kept_specimens (as_sent s)
  kept_read = ap₂ kept_in h.sized h.numbers ∙ kept-on-sheet s (accepted-series w s h.taken).formed.within (length xs) own_room

  pub kept_run : (r : ℕ) → r ≡ length (kept_in z xs) → r ≡ (design s).n
  kept_run r e = e ∙ ap length kept_read ∙ sym (short_n s)

  -- the sheet then holds the series without them
  pub series-short : (ys : List Float) → ys ≡ short_sheet z xs → SeriesShort w s z fs ys
  series-short ys e =
      let n : length ys ≡ length xs = ap length e ∙ length-short z xs in
      record {
        some = h.some;
        most = h.most;
        taken = h.taken;
        sized = h.sized;
        starts = h.starts;
        numbers = e ∙ ap₂ short_sheet h.sized (h.numbers ∙ ap (λ (m : ℕ). sheet_after m (kinds s) s (count s)) (sym n));
        written = subst (λ (m : ℕ). slot_count (kenward_roger w) ≤ m) (sym n) h.written;
      }
