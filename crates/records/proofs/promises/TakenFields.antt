-- The file with the torn specimens' records taken out and the others numbered anew (specs/promises/TornKeeps.antt), by its fields: its records are those that are kept, in their order, and but for a
-- specimen's row they say what they said. Where no specimen is torn it is the file itself.
use Prim.Native.Nat.{ℕ, zero, suc, ◌+◌, ◌*◌, ◌/◌, ◌%◌, ◌<◌, ◌≤◌}
use mathlib.Core.Path.{◌≡◌, refl, ap, sym, ◌∙◌}
use mathlib.Core.Bool.{Bool, true, false, cond}
use mathlib.Core.List.{List, [], ◌∷◌}
use native.Mathlib.Nat.{add-zero}
use native.Mathlib.Omega.{arith}
use lib.Dec.{lit<}
use lib.ListN.{length, get_or, set, drop, length-append, length-drop, length-set}
use lib.Seq.{length-take-le, get_or-take, get_or-drop, get_or-set_same, get_or-set_other, set-get_or, ext_get_or}
use Rattle.records.specs.format.Bytes.{byte}
use Rattle.records.specs.format.Scan.{total}
use Rattle.records.specs.format.File.{count, kind_of, row_of, column_of, padding_of, count_of, bits_of, first_value_of}
use Rattle.records.specs.format.Written.{sequence, record_at}
use Rattle.records.specs.readers.Shortened.{kept_below}
use Rattle.records.specs.promises.TornKeeps.{of_specimen, of_torn, new_row, renumbered, without_torn}
use Rattle.records.proofs.format.WrittenLaws.{word_same, long_same, sequence-length, byte-sequence}
use Rattle.records.proofs.readers.KeptLaws.{kept_at, kept-all, kept_self}

-- ---- pieces of sixteen bytes one after another, some of them left out
module _ (out : ℕ → Bool) (f : ℕ → List ℕ) where
  abbrev piece : ℕ → List ℕ
  piece i = cond (out i) [] (f i)

  -- the lengths add up to sixteen for each that is not left out
  total-pieces : (n : ℕ) → ((i : ℕ) → i < n → length (f i) ≡ 16) → total n (λ i. length (piece i)) ≡ 16 * length (kept_below n out)
  unfolding total kept_below
  total-pieces zero h = refl
  total-pieces (suc n) h =
      let a = total-pieces n (λ i l. h i (omega arith)) in
      let b = length-append (kept_below n out) (cond (out n) [] (n ∷ [])) in
      let c = go (out n) in
      omega arith
    where
      go : (b : Bool) → length (cond b [] (f n)) ≡ 16 * length (cond b [] (n ∷ []))
      go true = refl
      go false = h n (omega arith)

  -- which is how long the sequence is
  length-pieces : (n : ℕ) → ((i : ℕ) → i < n → length (f i) ≡ 16) → length (sequence n piece) ≡ 16 * length (kept_below n out)
  length-pieces n h = sequence-length n piece ∙ total-pieces n h

  -- and its sixteen bytes from 16 j on are the piece of number j of those that are not left out
  byte-piece : (n : ℕ) → ((i : ℕ) → i < n → length (f i) ≡ 16) → (j o : ℕ) → j < length (kept_below n out) → o < 16 → byte (sequence n piece) (16 * j + o) ≡ byte (f (get_or (kept_below n out) j 0)) o
  byte-piece n h j o l m =
      let i : ℕ = get_or (kept_below n out) j 0 in
      let a = kept_at out n j l in
      let b : i < n = a.below in
      let w = h i b in
      let p : piece i ≡ f i = rw a.stays in
      let q = ap length p in
      let t = total-pieces i (λ k d. h k (omega arith)) in
      let e = a.place in
      let d : total i (λ k. length (piece k)) + o ≡ 16 * j + o = omega arith in
      ap (byte (sequence n piece)) (sym d) ∙ byte-sequence n piece i o b (omega arith) ∙ ap (λ (x : List ℕ). byte x o) p

-- ---- record i as bytes, and numbered anew
module _ (s : List ℕ) where
  -- a record has sixteen bytes, those from 16 i on
  pub length-record : (i : ℕ) → i < count s → length (record_at s i) ≡ 16
  length-record i l = let e = length-drop (16 * i) s in length-take-le 16 (drop (16 * i) s) (omega arith)

  pub byte-record : (i o : ℕ) → o < 16 → byte (record_at s i) o ≡ byte s (16 * i + o)
  byte-record i o l = get_or-take 16 (drop (16 * i) s) o 0 l ∙ get_or-drop (16 * i) s o 0

  -- numbered anew it has as many
  length-renumbered : (i : ℕ) → i < count s → length (renumbered s i) ≡ 16
  unfolding renumbered
  length-renumbered i l = go (of_specimen (kind_of s i)) ∙ length-record i l
    where
      go : (b : Bool) → length (cond b (set (record_at s i) 1 (new_row s (row_of s i))) (record_at s i)) ≡ length (record_at s i)
      go true = length-set (record_at s i) 1 (new_row s (row_of s i))
      go false = refl

  -- its row is the specimen's new number, where it is a specimen's, and its other bytes stay
  row-renumbered : (i : ℕ) → i < count s → byte (renumbered s i) 1 ≡ cond (of_specimen (kind_of s i)) (new_row s (row_of s i)) (row_of s i)
  unfolding renumbered
  row-renumbered i l = go (of_specimen (kind_of s i))
    where
      go : (b : Bool) → byte (cond b (set (record_at s i) 1 (new_row s (row_of s i))) (record_at s i)) 1 ≡ cond b (new_row s (row_of s i)) (row_of s i)
      go true = let e = length-record i l in get_or-set_same (record_at s i) 1 (new_row s (row_of s i)) 0 (omega arith)
      go false = byte-record i 1 (lit< tt)

  byte-renumbered : (i o : ℕ) → o < 16 → (o ≡ 1 → ⊥) → byte (renumbered s i) o ≡ byte s (16 * i + o)
  unfolding renumbered
  byte-renumbered i o l h = go (of_specimen (kind_of s i)) ∙ byte-record i o l
    where
      go : (b : Bool) → byte (cond b (set (record_at s i) 1 (new_row s (row_of s i))) (record_at s i)) o ≡ byte (record_at s i) o
      go true = get_or-set_other (record_at s i) 1 o (new_row s (row_of s i)) 0 h
      go false = refl

  -- it is the record itself where its specimen's number stays
  same-renumbered : (i : ℕ) → (of_specimen (kind_of s i) ≡ true → new_row s (row_of s i) ≡ row_of s i) → renumbered s i ≡ record_at s i
  unfolding renumbered
  same-renumbered i h = go (of_specimen (kind_of s i)) h
    where
      go : (b : Bool) → (b ≡ true → new_row s (row_of s i) ≡ row_of s i) → cond b (set (record_at s i) 1 (new_row s (row_of s i))) (record_at s i) ≡ record_at s i
      go true h = ap (set (record_at s i) 1) (h refl ∙ sym (byte-record i 1 (lit< tt))) ∙ set-get_or (record_at s i) 1 0
      go false h = refl

-- ---- THE FIELDS of the file without the torn specimens, by the numbers of the records that are kept
abbrev pub kept_records : List ℕ → List ℕ
kept_records s = kept_below (count s) (of_torn s)

pub record TakenFields (s : List ℕ) : Type 0 where
  pub size : length (without_torn s) ≡ 16 * length (kept_records s)
  pub kind : (j : ℕ) → j < length (kept_records s) → kind_of (without_torn s) j ≡ kind_of s (get_or (kept_records s) j 0)
  pub row : (j : ℕ) → j < length (kept_records s)
      → row_of (without_torn s) j ≡ cond (of_specimen (kind_of s (get_or (kept_records s) j 0))) (new_row s (row_of s (get_or (kept_records s) j 0))) (row_of s (get_or (kept_records s) j 0))
  pub column : (j : ℕ) → j < length (kept_records s) → column_of (without_torn s) j ≡ column_of s (get_or (kept_records s) j 0)
  pub padding : (j : ℕ) → j < length (kept_records s) → padding_of (without_torn s) j ≡ padding_of s (get_or (kept_records s) j 0)
  pub number : (j : ℕ) → j < length (kept_records s) → count_of (without_torn s) j ≡ count_of s (get_or (kept_records s) j 0)
  pub bits : (j : ℕ) → j < length (kept_records s) → bits_of (without_torn s) j ≡ bits_of s (get_or (kept_records s) j 0)
  pub first_value : (j : ℕ) → j < length (kept_records s) → first_value_of (without_torn s) j ≡ first_value_of s (get_or (kept_records s) j 0)

module _ (s : List ℕ) where
  abbrev kept : ℕ → ℕ
  kept j = get_or (kept_records s) j 0

  -- sixteen bytes for each record that is kept
  length_taken : length (without_torn s) ≡ 16 * length (kept_records s)
  unfolding without_torn
  length_taken = length-pieces (of_torn s) (renumbered s) (count s) (length-renumbered s)

  -- record j has the sixteen bytes of kept record j numbered anew
  bytes-taken : (j o : ℕ) → j < length (kept_records s) → o < 16 → byte (without_torn s) (16 * j + o) ≡ byte (renumbered s (kept j)) o
  unfolding without_torn
  bytes-taken j o l m = byte-piece (of_torn s) (renumbered s) (count s) (length-renumbered s) j o l m

  -- so its row, and its other bytes
  row-taken : (j : ℕ) → j < length (kept_records s) → row_of (without_torn s) j ≡ cond (of_specimen (kind_of s (kept j))) (new_row s (row_of s (kept j))) (row_of s (kept j))
  row-taken j l = bytes-taken j 1 l (lit< tt) ∙ row-renumbered s (kept j) (kept_at (of_torn s) (count s) j l).below

  byte-taken : (j o : ℕ) → j < length (kept_records s) → o < 16 → (o ≡ 1 → ⊥) → byte (without_torn s) (16 * j + o) ≡ byte s (16 * kept j + o)
  byte-taken j o l m h = bytes-taken j o l m ∙ byte-renumbered s (kept j) o m h

  -- among them those from byte a on, as `word` and `long` count them
  bytes-from : (j a o : ℕ) → j < length (kept_records s) → 2 ≤ a → a + o < 16 → byte (without_torn s) (16 * j + a + o) ≡ byte s (16 * kept j + a + o)
  bytes-from j a o l h m = ap (byte (without_torn s)) (on j) ∙ byte-taken j (a + o) l m (λ e. omega arith) ∙ ap (byte s) (sym (on (kept j)))
    where
      on : (i : ℕ) → 16 * i + a + o ≡ 16 * i + (a + o)
      on i = omega arith

  -- and so all its fields
  pub taken-fields : TakenFields s
  taken-fields =
      record {
        size = length_taken;
        kind = λ j l. ap (byte (without_torn s)) (sym (add-zero (16 * j))) ∙ byte-taken j 0 l (lit< tt) (λ e. omega arith) ∙ ap (byte s) (add-zero (16 * kept j));
        row = row-taken;
        column = λ j l. byte-taken j 2 l (lit< tt) (λ e. omega arith);
        padding = λ j l. byte-taken j 3 l (lit< tt) (λ e. omega arith);
        number = λ j l. word_same s (without_torn s) (16 * j + 4) (16 * kept j + 4) (λ o m. bytes-from j 4 o l (omega arith) (omega arith));
        bits = λ j l. long_same s (without_torn s) (16 * j + 8) (16 * kept j + 8) (λ o m. bytes-from j 8 o l (omega arith) (omega arith));
        first_value = λ j l. byte-taken j 8 l (lit< tt) (λ e. omega arith);
      }

  -- ---- WHERE NO SPECIMEN IS TORN IT IS THE FILE ITSELF
  pub taken_none : length s % 16 ≡ 0 → ((i : ℕ) → i < count s → of_torn s i ≡ false) → ((i : ℕ) → i < count s → of_specimen (kind_of s i) ≡ true → new_row s (row_of s i) ≡ row_of s i) → without_torn s ≡ s
  taken_none whole none stays =
      let e = length_taken in
      let k = kept-all (of_torn s) (count s) none in
      ext_get_or 0 (without_torn s) s (omega arith) (λ i l. at i (omega arith))
    where
      place : (i : ℕ) → 16 * (i / 16) + i % 16 ≡ i
      place i = omega arith

      -- byte i is that of record i / 16
      at : (i : ℕ) → i < length s → byte (without_torn s) i ≡ byte s i
      at i l =
          let j : ℕ = i / 16 in
          let o : ℕ = i % 16 in
          let k = kept-all (of_torn s) (count s) none in
          let h : j < count s = omega arith in
          let m : o < 16 = omega arith in
          ap (byte (without_torn s)) (sym (place i))
          ∙ bytes-taken j o (omega arith) m
          ∙ ap (λ (x : ℕ). byte (renumbered s x) o) (kept_self (of_torn s) (count s) none j h)
          ∙ ap (λ (x : List ℕ). byte x o) (same-renumbered s j (stays j h))
          ∙ byte-record s j o m
          ∙ ap (byte s) (place i)
