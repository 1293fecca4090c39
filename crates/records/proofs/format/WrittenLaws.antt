-- What is read from a written file (specs/format/Written.antt) is what it was made from, for any table of kinds: a number from its bytes, the fields of one record, the bytes of a piece among pieces, and
-- the record of each cell at the cell's number (specs/format/Cells.antt).
use Prim.Native.Nat.{ℕ, zero, suc, ◌+◌, ◌*◌, ◌%◌, ◌^◌, ◌<◌}
use mathlib.Core.Path.{◌≡◌, refl, ap, sym, ◌∙◌}
use mathlib.Core.List.{List, ◌++◌}
use mathlib.Core.Logic.{⊎_elim}
use native.Mathlib.Nat.{add-zero, le_of_suc-le-suc, eq-or-lt_of_le}
use native.Mathlib.Omega.{arith}
use lib.Dec.{lit<}
use lib.ListN.{length, length-append, get_or-append}
use lib.Seq.{get_or-append-add}
use Rattle.records.specs.format.Bytes.{byte, word, long, bytes_of}
use Rattle.records.specs.format.Scan.{total}
use Rattle.records.specs.format.Kinds.{Table, kind_at, kind_numbers, width}
use Rattle.records.specs.format.Cells.{slots, first_slot, slot_count, offset, slot}
use Rattle.records.specs.format.File.{count, kind_of, row_of, column_of, padding_of, count_of, bits_of}
use Rattle.records.specs.format.Written.{record_of, Content, field_of, cell_record, sequence, kind_file, file_of}
use Rattle.records.proofs.format.ScanLaws.{total-more, total-le, total-same, total-constant, total-scaled}
use Rattle.records.proofs.format.Slots.{Inside, packed, offset-below}

-- ---- numbers in bytes
-- four bytes hold a number below 2 ^ 32, eight one below 2 ^ 64
pub word_bytes : (w : ℕ) → w < 2 ^ 32 → word (bytes_of 4 w) 0 ≡ w
unfolding word bytes_of
word_bytes w h = omega arith

pub long-bytes : (w : ℕ) → w < 2 ^ 64 → long (bytes_of 8 w) 0 ≡ w
unfolding long word bytes_of
long-bytes w h = omega arith

-- and bytes that are the same hold the same number
pub word_same : (s s' : List ℕ) (a b : ℕ) → ((o : ℕ) → o < 4 → byte s' (a + o) ≡ byte s (b + o)) → word s' a ≡ word s b
unfolding word
word_same s s' a b h =
    let h0 : byte s' a ≡ byte s b = simp add-zero at (h 0 (lit< tt)) in
    let h1 : byte s' (a + 1) ≡ byte s (b + 1) = h 1 (lit< tt) in
    let h2 : byte s' (a + 2) ≡ byte s (b + 2) = h 2 (lit< tt) in
    let h3 : byte s' (a + 3) ≡ byte s (b + 3) = h 3 (lit< tt) in
    rw (h0, h1, h2, h3)

pub long_same : (s s' : List ℕ) (a b : ℕ) → ((o : ℕ) → o < 8 → byte s' (a + o) ≡ byte s (b + o)) → long s' a ≡ long s b
unfolding long
long_same s s' a b h =
    rw (word_same s s' a b (λ o k. h o (omega arith)), word_same s s' (a + 4) (b + 4) (λ o k. ap (byte s') (on a o) ∙ h (4 + o) (omega arith) ∙ ap (byte s) (sym (on b o))))
  where
    on : (a o : ℕ) → a + 4 + o ≡ a + (4 + o)
    on a o = omega arith

-- ---- one record
-- what the fields of record i are
pub record RecordIs (s : List ℕ) (i k r c n b : ℕ) : Type 0 where
  pub kind : kind_of s i ≡ k
  pub row : row_of s i ≡ r
  pub column : column_of s i ≡ c
  pub padding : padding_of s i ≡ 0
  pub number : count_of s i ≡ n
  pub bits : bits_of s i ≡ b

-- a record with these sixteen bytes has these fields, where the count and the bits fit theirs
pub record_is : (s : List ℕ) (i k r c n b : ℕ) → ((o : ℕ) → o < 16 → byte s (16 * i + o) ≡ byte (record_of k r c n b) o) → n < 2 ^ 32 → b < 2 ^ 64 → RecordIs s i k r c n b
unfolding word long bytes_of
record_is s i k r c n b h l m =
    record {
      kind = ap (byte s) (sym (add-zero (16 * i))) ∙ h 0 (lit< tt);
      row = h 1 (lit< tt);
      column = h 2 (lit< tt);
      padding = h 3 (lit< tt);
      number = word_same (record_of k r c n b) s (16 * i + 4) 4 (λ o q. ap (byte s) (on i 4 o) ∙ h (4 + o) (omega arith)) ∙ word_bytes n l;
      bits = long_same (record_of k r c n b) s (16 * i + 8) 8 (λ o q. ap (byte s) (on i 8 o) ∙ h (8 + o) (omega arith)) ∙ long-bytes b m;
    }
  where
    on : (i a o : ℕ) → 16 * i + a + o ≡ 16 * i + (a + o)
    on i a o = omega arith

-- ---- pieces one after another
pub sequence-length : (n : ℕ) (f : ℕ → List ℕ) → length (sequence n f) ≡ total n (λ j. length (f j))
unfolding sequence total
sequence-length zero f = refl
sequence-length (suc n) f = length-append (sequence n f) (f n) ∙ ap (λ (m : ℕ). m + length (f n)) (sequence-length n f)

-- a byte of piece j
pub byte-sequence : (n : ℕ) (f : ℕ → List ℕ) (j o : ℕ) → j < n → o < length (f j) → byte (sequence n f) (total j (λ i. length (f i)) + o) ≡ byte (f j) o
unfolding sequence
byte-sequence zero f j o l m = absurd (omega arith)
byte-sequence (suc n) f j o l m = ⊎_elim last (λ q. earlier q (byte-sequence n f j o q m)) (eq-or-lt_of_le (le_of_suc-le-suc l))
  where
    last : j ≡ n → byte (sequence n f ++ f n) (total j (λ i. length (f i)) + o) ≡ byte (f j) o
    last q = rw (q, ← sequence-length n f) (get_or-append-add (sequence n f) (f n) o 0)

    earlier : j < n → byte (sequence n f) (total j (λ i. length (f i)) + o) ≡ byte (f j) o → byte (sequence n f ++ f n) (total j (λ i. length (f i)) + o) ≡ byte (f j) o
    earlier q e =
        let a = sequence-length n f in
        let b = total-more j (λ i. length (f i)) in
        let d = total-le (j + 1) n (λ i. length (f i)) (omega arith) in
        get_or-append (sequence n f) (f n) 0 (total j (λ i. length (f i)) + o) (omega arith) ∙ e

-- and where all pieces have one length
pub sequence-length-of : (w n : ℕ) (f : ℕ → List ℕ) → ((j : ℕ) → j < n → length (f j) ≡ w) → length (sequence n f) ≡ n * w
sequence-length-of w n f h = sequence-length n f ∙ total-same n (λ j. length (f j)) (λ j. w) h ∙ total-constant n w

pub byte-sequence-of : (w n : ℕ) (f : ℕ → List ℕ) → ((j : ℕ) → j < n → length (f j) ≡ w) → (j o : ℕ) → j < n → o < w → byte (sequence n f) (j * w + o) ≡ byte (f j) o
byte-sequence-of w n f h j o l m =
    let e : total j (λ i. length (f i)) ≡ j * w = total-same j (λ i. length (f i)) (λ i. w) (λ i q. h i (omega arith)) ∙ total-constant j w in
    let g : o < length (f j) = let a = h j l in omega arith in
    rw (← e) (byte-sequence n f j o l g)

-- and where the pieces are such pieces again, by count, row and column
module _ (counts rows columns w : ℕ) (g : ℕ → ℕ → ℕ → List ℕ) (same : (n r c : ℕ) → length (g n r c) ≡ w) where
  length-line : (n r : ℕ) → length (sequence columns (g n r)) ≡ columns * w
  length-line n r = sequence-length-of w columns (g n r) (λ c l. same n r c)

  length-sheet : (n : ℕ) → length (sequence rows (λ r. sequence columns (g n r))) ≡ rows * (columns * w)
  length-sheet n = sequence-length-of (columns * w) rows (λ r. sequence columns (g n r)) (λ r l. length-line n r)

  length-sheets : length (sequence counts (λ n. sequence rows (λ r. sequence columns (g n r)))) ≡ counts * (rows * (columns * w))
  length-sheets = sequence-length-of (rows * (columns * w)) counts (λ n. sequence rows (λ r. sequence columns (g n r))) (λ n l. length-sheet n)

  byte-sheets : (n r c o : ℕ) → n < counts → r < rows → c < columns → o < w
      → byte (sequence counts (λ n. sequence rows (λ r. sequence columns (g n r)))) (n * (rows * (columns * w)) + (r * (columns * w) + (c * w + o))) ≡ byte (g n r c) o
  byte-sheets n r c o ln lr lc lo =
      let x : c * w + o < columns * w = packed c columns o w lc lo in
      let y : r * (columns * w) + (c * w + o) < rows * (columns * w) = packed r rows (c * w + o) (columns * w) lr x in
      byte-sequence-of (rows * (columns * w)) counts (λ n. sequence rows (λ r. sequence columns (g n r))) (λ n l. length-sheet n) n (r * (columns * w) + (c * w + o)) ln y
      ∙ byte-sequence-of (columns * w) rows (λ r. sequence columns (g n r)) (λ r l. length-line n r) r (c * w + o) lr x
      ∙ byte-sequence-of w columns (g n r) (λ c l. same n r c) c o lc lo

-- ---- a file: where each cell's record stands
module _ (t : Table) (f : ℕ → ℕ → ℕ → ℕ → Content) where
  -- a kind's records by count, row and column
  abbrev cell_bytes : ℕ → ℕ → ℕ → ℕ → List ℕ
  cell_bytes k n r c = cell_record (kind_at t k) k n r c (f k n r c)

  length-cell : (k n r c : ℕ) → length (cell_bytes k n r c) ≡ 16
  unfolding cell_record bytes_of
  length-cell k n r c = refl

  -- in its kind, by count, row and column
  pub length-kind : (k : ℕ) → length (kind_file t f k) ≡ 16 * slots (kind_at t k)
  unfolding kind_file slots
  length-kind k =
      let z = kind_at t k in
      let e = length-sheets (width z.count) (width z.row) (width z.column) 16 (cell_bytes k) (length-cell k) in
      e ∙ omega arith

  pub byte-kind : (k n r c o : ℕ) → Inside (kind_at t k) n r c → o < 16 → byte (kind_file t f k) (16 * offset (kind_at t k) n r c + o) ≡ byte (cell_record (kind_at t k) k n r c (f k n r c)) o
  unfolding kind_file offset
  byte-kind k n r c o w l =
      let z = kind_at t k in
      ap (byte (kind_file t f k)) (place n r c o (width z.row) (width z.column))
      ∙ byte-sheets (width z.count) (width z.row) (width z.column) 16 (cell_bytes k) (length-cell k) n r c o w.number w.row w.column l
    where
      place : (n r c o rows columns : ℕ) → 16 * ((n * rows + r) * columns + c) + o ≡ n * (rows * (columns * 16)) + (r * (columns * 16) + (c * 16 + o))
      place n r c o rows columns = omega arith

  -- in the file, after the kinds before
  length-kinds : (m : ℕ) → total m (λ k. length (kind_file t f k)) ≡ 16 * first_slot t m
  unfolding first_slot
  length-kinds m = total-same m (λ k. length (kind_file t f k)) (λ k. 16 * slots (kind_at t k)) (λ k l. length-kind k) ∙ total-scaled m 16 (λ k. slots (kind_at t k))

  -- the kinds below m, and all
  pub length_front : (m : ℕ) → length (sequence m (kind_file t f)) ≡ 16 * first_slot t m
  length_front m = sequence-length m (kind_file t f) ∙ length-kinds m

  pub length-file : length (file_of t f) ≡ 16 * slot_count t
  unfolding file_of
  length-file = length_front kind_numbers

  -- so a file has a record for each cell, and no bytes besides
  pub count-file : count (file_of t f) ≡ slot_count t
  count-file = let e = length-file in omega arith

  pub whole-file : length (file_of t f) % 16 ≡ 0
  whole-file = let e = length-file in omega arith

  -- THE LAW: record number `slot t k n r c` has the sixteen bytes of the cell's record
  pub byte-file : (k n r c o : ℕ) → k < kind_numbers → Inside (kind_at t k) n r c → o < 16 → byte (file_of t f) (16 * slot t k n r c + o) ≡ byte (cell_record (kind_at t k) k n r c (f k n r c)) o
  unfolding file_of slot
  byte-file k n r c o l w m =
      let e = length-kinds k in
      let a = offset-below (kind_at t k) n r c w in
      let p : total k (λ j. length (kind_file t f j)) + (16 * offset (kind_at t k) n r c + o) ≡ 16 * (first_slot t k + offset (kind_at t k) n r c) + o = omega arith in
      let q : 16 * offset (kind_at t k) n r c + o < length (kind_file t f k) = let b = length-kind k in omega arith in
      rw (← p) (byte-sequence kind_numbers (kind_file t f) k (16 * offset (kind_at t k) n r c + o) l q ∙ byte-kind k n r c o w m)

  -- and so its fields
  pub record-file : (k n r c : ℕ) → k < kind_numbers → Inside (kind_at t k) n r c → field_of (kind_at t k).count n (f k n r c).count < 2 ^ 32 → (f k n r c).bits < 2 ^ 64
      → RecordIs (file_of t f) (slot t k n r c) k (field_of (kind_at t k).row r (f k n r c).row) (field_of (kind_at t k).column c (f k n r c).column) (field_of (kind_at t k).count n (f k n r c).count) (f k n r c).bits
  unfolding cell_record
  record-file k n r c l w g h = record_is (file_of t f) (slot t k n r c) k _ _ _ _ (λ o m. byte-file k n r c o l w m) g h
