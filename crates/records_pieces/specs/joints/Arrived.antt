-- Not needed to check document 01: names that join the code to its definitions.
-- A file that arrives in pieces of any lengths: what is kept of it while it comes. Its first records stand in lent bytes, as many whole records as they have room for; of the bytes after the last whole
-- record the current one is made; and whether the records rose so far is known whatever was kept.
use Rattle.std.specs.Prelude.{ℕ, ◌+◌, ◌-◌, ◌*◌, ◌/◌, ◌%◌, ◌<◌, ◌≤◌, min, ◌≡◌, Bool, true, false, ◌||◌, cond, List, [], ◌∷◌, ◌++◌, eqb, ltb, leb, length, set}
use Rattle.algebra.specs.Fold.{span}
use Rattle.records.specs.format.Bytes.{byte}
use Rattle.records.specs.format.Scan.{any}
use Rattle.records.specs.format.File.{count}
use Rattle.records_order.specs.joints.Keys.{key_of, least_key, falls_at}
use Rattle.records_pieces.specs.declared.Arrival.{Arrival}

-- how far a file has come, the lent bytes, and the sixteen of the current record
pub record Arrived : Type 0 where
  pub arrival : Arrival
  pub kept : List ℕ
  pub current : List ℕ

abbrev pub arrived_as : Arrival → List ℕ → List ℕ → Arrived
arrived_as a kept current = record { arrival = a; kept = kept; current = current }

-- nothing has come
abbrev pub nothing_yet : Arrival
nothing_yet = record { records = 0; part = 0; least = 0; fell = false; longer = false }

-- one byte more of the current record, and one whole record more with this key, kept or passed over
abbrev pub one_more : Arrival → Arrival
one_more a = record { records = a.records; part = a.part + 1; least = a.least; fell = a.fell; longer = a.longer }

abbrev pub kept_one : Arrival → ℕ → Arrival
kept_one a key = record { records = a.records + 1; part = 0; least = key + 1; fell = a.fell || ltb key a.least; longer = a.longer }

abbrev pub passed_one : Arrival → ℕ → Arrival
passed_one a key = record { records = a.records; part = 0; least = key + 1; fell = a.fell || ltb key a.least; longer = true }

-- its whole records alone, without the bytes of the current one
abbrev pub whole_ones : Arrival → Arrival
whole_ones a = record { records = a.records; part = 0; least = a.least; fell = a.fell; longer = a.longer }

-- the bytes of one more record after the first n
abbrev pub with_record : ℕ → List ℕ → List ℕ → List ℕ
with_record n current kept = span (16 * n) (16 * n + 16) (λ k. byte current (k - 16 * n)) kept

-- the current record is whole: its key is compared with the least that it may have, and it is kept where there is room
unfoldable pub take_record : Arrived → Arrived
take_record st =
    let a : Arrival = st.arrival in
    let key : ℕ = key_of st.current 0 in
    let room : Bool = leb 16 (length st.kept - 16 * a.records) in
    cond room
    (arrived_as (kept_one a key) (with_record a.records st.current st.kept) st.current)
    (arrived_as (passed_one a key) st.kept st.current)

-- one more byte
unfoldable pub take_byte : ℕ → Arrived → Arrived
take_byte b st =
    let a : Arrival = st.arrival in
    let more : Arrived = arrived_as (one_more a) st.kept (set st.current a.part b) in
    cond (eqb a.part 15) (take_record more) more

-- one more piece, and pieces one after another
unfoldable pub fed : List ℕ → Arrived → Arrived
fed [] st = st
fed (b ∷ bs) st = fed bs (take_byte b st)

unfoldable pub feds : List (List ℕ) → Arrived → Arrived
feds [] st = st
feds (piece ∷ pieces) st = feds pieces (fed piece st)

-- the pieces as one file
unfoldable pub joined_pieces : List (List ℕ) → List ℕ
joined_pieces [] = []
joined_pieces (piece ∷ pieces) = piece ++ joined_pieces pieces

-- ---- where the code may take a byte: the current record has room for it, and what is kept fits
pub record Open (st : Arrived) : Type 0 where
  pub part : st.arrival.part ≤ 15
  pub sixteen : length st.current ≡ 16
  pub room : 16 * st.arrival.records ≤ length st.kept

-- ---- what a file s leaves, whole or in pieces: its bytes up to its last whole record that has room, the bytes after its last whole record, and whether its records rise
pub record Came (s : List ℕ) (st : Arrived) : Type 0 where
  pub ready : Open st
  pub part : st.arrival.part ≡ length s % 16
  pub records : st.arrival.records ≡ min (count s) (length st.kept / 16)
  pub longer : st.arrival.longer ≡ ltb (length st.kept / 16) (count s)
  pub least : st.arrival.least ≡ least_key s (count s)
  pub fell : st.arrival.fell ≡ any (count s) (falls_at s)
  pub current : (o : ℕ) → o < length s % 16 → byte st.current o ≡ byte s (16 * count s + o)
  pub kept : (o : ℕ) → o < 16 * st.arrival.records → byte st.kept o ≡ byte s o

-- what some file of bytes leaves: no contract can say which bytes a program reads
pub record Arrives (st : Arrived) : Type 0 where
  pub file : List ℕ
  pub bytes : (i : ℕ) → byte file i < 256
  pub came : Came file st
