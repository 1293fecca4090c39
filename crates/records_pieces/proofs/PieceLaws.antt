-- A file that arrives in pieces: a record, a byte and a piece as the code takes them; and FEEDING PIECES ONE AFTER ANOTHER GIVES WHAT THE WHOLE GIVES, whatever the pieces' lengths.
use Prim.Native.Nat.{ℕ, ◌+◌, ◌-◌, ◌*◌, ◌≤◌, ◌<◌}
use native.Mathlib.Numerals.{add-one}
use native.Mathlib.Omega.{arith}
use native.Mathlib.Decide.{dec_le, ℕ_discrete}
use mathlib.Core.Path.{◌≡◌, refl, sym, ap, ◌∙◌}
use mathlib.Core.Bool.{Bool, true, false, ◌||◌, cond}
use mathlib.Core.List.{List, [], ◌∷◌, ◌++◌}
use lib.Dec.{eqb, ltb, leb}
use lib.ListN.{length, set, take, length-set}
use lib.Seq.{take-suc, take-length}
use borrow.Author.Tests.{le-leb, lt-leb, eq-eqb, ne_eqb}
use Rattle.algebra.proofs.FoldLaws.{length-span}
use Rattle.records.specs.format.Bytes.{byte}
use Rattle.records_order.specs.joints.Keys.{key_of}
use Rattle.records_pieces.specs.declared.Arrival.{Arrival}
use Rattle.records_pieces.specs.joints.Arrived.{Arrived, arrived_as, one_more, kept_one, passed_one, with_record, take_record, take_byte, fed, feds, joined_pieces, Open}

-- ---- a record
module _ (a : Arrival) (kept current : List ℕ) (key : ℕ) (k : key ≡ key_of current 0) (fell : Bool) (f : fell ≡ a.fell || ltb key a.least) where
  pub record-kept : 16 ≤ length kept - 16 * a.records → (after : List ℕ) → after ≡ with_record a.records current kept
      → arrived_as (record { records = a.records + 1; part = 0; least = key + 1; fell = fell; longer = a.longer }) after current ≡ take_record (arrived_as a kept current)
  unfolding take_record
  record-kept h after e = rw (e, f, k, le-leb 16 (length kept - 16 * a.records) h)

  pub record-passed : length kept - 16 * a.records < 16
      → arrived_as (record { records = a.records; part = 0; least = key + 1; fell = fell; longer = true }) kept current ≡ take_record (arrived_as a kept current)
  unfolding take_record
  record-passed h = rw (f, k, lt-leb 16 (length kept - 16 * a.records) h)

-- ---- a byte
module _ (a : Arrival) (b : ℕ) (kept current : List ℕ) where
  pub byte_more : eqb a.part 15 ≡ false → arrived_as (one_more a) kept (set current a.part b) ≡ take_byte b (arrived_as a kept current)
  unfolding take_byte
  byte_more h = rw h

  pub byte-whole : eqb a.part 15 ≡ true → (after : Arrived) → after ≡ take_record (arrived_as (one_more a) kept (set current a.part b)) → after ≡ take_byte b (arrived_as a kept current)
  unfolding take_byte
  byte-whole h after e = rw h e

-- ---- a piece
pub fed-append : (a b : List ℕ) (st : Arrived) → fed (a ++ b) st ≡ fed b (fed a st)
unfolding fed
fed-append [] b st = refl
fed-append (x ∷ a) b st = fed-append a b (take_byte x st)

-- none of a piece so far, one byte more, and all
pub fed-none : (piece : List ℕ) (st : Arrived) → st ≡ fed (take 0 piece) st
unfolding fed
fed-none piece st = refl

pub fed-more : (piece : List ℕ) (i : ℕ) (st now next : Arrived) → i < length piece → now ≡ fed (take i piece) st → next ≡ take_byte (byte piece i) now → next ≡ fed (take (i + 1) piece) st
unfolding fed
fed-more piece i st now next h e n = n ∙ ap (take_byte (byte piece i)) e ∙ sym (rw (add-one, take-suc piece i 0 h) (fed-append (take i piece) (byte piece i ∷ []) st))

pub fed-all : (piece : List ℕ) (i : ℕ) (st now : Arrived) → i ≡ length piece → now ≡ fed (take i piece) st → now ≡ fed piece st
fed-all piece i st now h e = e ∙ ap (λ (bs : List ℕ). fed bs st) (ap (λ (n : ℕ). take n piece) h ∙ take-length piece)

-- ---- THE LAW, for any number of pieces
pub pieces-as-whole : (pieces : List (List ℕ)) (st : Arrived) → feds pieces st ≡ fed (joined_pieces pieces) st
unfolding feds joined_pieces fed
pieces-as-whole [] st = refl
pieces-as-whole (piece ∷ pieces) st = pieces-as-whole pieces (fed piece st) ∙ sym (fed-append piece (joined_pieces pieces) st)

-- ---- what may be taken stays so
pub record-open : (st : Arrived) → st.arrival.part ≤ 16 → length st.current ≡ 16 → 16 * st.arrival.records ≤ length st.kept → Open (take_record st)
unfolding take_record
record-open st p s r = go (dec_le 16 (length st.kept - 16 * st.arrival.records))
  where
    go : Dec (16 ≤ length st.kept - 16 * st.arrival.records) → Open (take_record st)
    go (yes h) = rw (le-leb 16 (length st.kept - 16 * st.arrival.records) h) (record { part = omega arith; sixteen = s; room = rw (length-span (16 * st.arrival.records) (16 * st.arrival.records + 16) _ st.kept) (omega arith) })
    go (no h) = rw (lt-leb 16 (length st.kept - 16 * st.arrival.records) (omega arith)) (record { part = omega arith; sixteen = s; room = r })

pub byte-open : (b : ℕ) (st : Arrived) → Open st → Open (take_byte b st)
unfolding take_byte
byte-open b st o = go (ℕ_discrete st.arrival.part 15)
  where
    sixteen : length (set st.current st.arrival.part b) ≡ 16
    sixteen = length-set st.current st.arrival.part b ∙ o.sixteen

    go : Dec (st.arrival.part ≡ 15) → Open (take_byte b st)
    go (yes e) =
        rw (eq-eqb st.arrival.part 15 e)
        (record-open (arrived_as (one_more st.arrival) st.kept (set st.current st.arrival.part b)) (omega arith) sixteen o.room)
    go (no e) = rw (ne_eqb st.arrival.part 15 e) (record { part = let h = o.part in omega arith; sixteen = sixteen; room = o.room })

-- ---- what is lent keeps its length
record-length : (st : Arrived) → length (take_record st).kept ≡ length st.kept
unfolding take_record
record-length st = go (leb 16 (length st.kept - 16 * st.arrival.records))
  where
    go : (room : Bool)
        → length (cond room
        (arrived_as (kept_one st.arrival (key_of st.current 0)) (with_record st.arrival.records st.current st.kept) st.current)
        (arrived_as (passed_one st.arrival (key_of st.current 0)) st.kept st.current)).kept
        ≡ length st.kept
    go true = length-span (16 * st.arrival.records) (16 * st.arrival.records + 16) _ st.kept
    go false = refl

pub byte-length : (b : ℕ) (st : Arrived) → length (take_byte b st).kept ≡ length st.kept
unfolding take_byte
byte-length b st = go (eqb st.arrival.part 15)
  where
    more : Arrived
    more = arrived_as (one_more st.arrival) st.kept (set st.current st.arrival.part b)

    go : (whole : Bool) → length (cond whole (take_record more) more).kept ≡ length st.kept
    go true = record-length more
    go false = refl

-- nor does a piece
pub fed-length : (piece : List ℕ) (st : Arrived) → length (fed piece st).kept ≡ length st.kept
unfolding fed
fed-length [] st = refl
fed-length (b ∷ piece) st = fed-length piece (take_byte b st) ∙ byte-length b st
