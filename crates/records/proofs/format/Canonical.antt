-- A file that rises and is complete is the table's cells in order, for a table in which each field tells its cells apart (InOrder.antt): it is the written file (specs/format/Written.antt) of what its
-- records say.
use Prim.Native.Nat.{ℕ, zero, suc, ◌+◌, ◌-◌, ◌*◌, ◌/◌, ◌%◌, ◌<◌, ◌≤◌}
use mathlib.Core.Path.{◌≡◌, refl, ap, ap₂, sym, ◌∙◌}
use mathlib.Core.Bool.{true, false, not, false≢true}
use mathlib.Core.List.{List, [], ◌∷◌, ◌++◌}
use native.Mathlib.Nat.{add-zero}
use native.Mathlib.Omega.{arith}
use native.Mathlib.Decide.{dec_lt}
use lib.ListN.{length}
use lib.Seq.{ext_get_or}
use borrow.Author.Tests.{eqb-true, ltb-true, not-false}
use Rattle.records.specs.declared.Field.{Field}
use Rattle.records.specs.declared.Field.TheVariants.{Index, Number, Unused}
use Rattle.records.specs.format.Bytes.{byte, word, long, bytes_of}
use Rattle.records.specs.format.Scan.{any}
use Rattle.records.specs.format.Kinds.{holds, width, index_of, Table, kind_at, kind_numbers}
use Rattle.records.specs.format.Cells.{slot_count, slot}
use Rattle.records.specs.format.File.{count, kind_of, row_of, column_of, padding_of, count_of, bits_of, cell_row, cell_column, cell_count, beyond, is_cell, has, missing}
use Rattle.records.specs.format.Order.{numbers_matrix, stands_before, falls}
use Rattle.records.specs.format.Written.{record_of, Content, field_of, cell_record, file_of}
use Rattle.records.proofs.format.ScanLaws.{any_none, any-none-cells, any_found, climbs}
use Rattle.records.proofs.format.Slots.{within, Inside, sized_inside, slot-below, slot-cell}
use Rattle.records.proofs.format.WrittenLaws.{length-file, byte-file}
use Rattle.records.proofs.format.ReadBack.{cell-of}
use Rattle.records.proofs.format.InOrder.{tells, orderly, orderly-at, told-count, before-slot}

-- ---- a function that rises over the numbers below n and reaches each below m is the identity, and n is m
-- some index below n has the value j
record Attained (n : ℕ) (f : ℕ → ℕ) (j : ℕ) : Type 0 where
  index : ℕ
  below : index < n
  hit : f index ≡ j

-- its values are below m, each above the last, and every number below m is one
record Rising (n m : ℕ) (f : ℕ → ℕ) : Type 0 where
  short : (i : ℕ) → i < n → f i < m
  rises : (i : ℕ) → i + 1 < n → f i < f (i + 1)
  reaches : (j : ℕ) → j < m → Attained n f j

module _ (n m : ℕ) (f : ℕ → ℕ) (up : Rising n m f) where
  -- it is nowhere below its argument
  above : (i : ℕ) → i < n → i ≤ f i
  above zero l = omega arith
  above (suc i) l = let a = above i (omega arith) in let b = up.rises i (omega arith) in let e : i + 1 ≡ suc i = omega arith in let g = ap f e in omega arith

  -- so it is the identity
  rising-same : (i : ℕ) → i < n → f i ≡ i
  rising-same zero l =
      let x = up.reaches 0 (let s = up.short 0 l in omega arith) in
      let h = x.hit in
      let a = above x.index x.below in
      let e : x.index ≡ 0 = omega arith in
      ap f (sym e) ∙ h
  rising-same (suc i) l =
      let x = up.reaches (suc i) (let s = up.short (suc i) l in let a = above (suc i) l in omega arith) in
      let same = rising-same i (omega arith) in
      ap f (sym (go x (dec_lt x.index (suc i)) same)) ∙ x.hit
    where
      go : (x : Attained n f (suc i)) → Dec (x.index < suc i) → f i ≡ i → x.index ≡ suc i
      go x (yes k) e = let b = climbs n f (λ j m. let z = up.rises j m in omega arith) x.index i (omega arith) (omega arith) in let h = x.hit in absurd (omega arith)
      go x (no k) e = let a = above x.index x.below in let h = x.hit in omega arith

  -- and it reaches no fewer and no more
  rising-all : n ≡ m
  rising-all = go (dec_lt n m) (dec_lt m n)
    where
      go : Dec (n < m) → Dec (m < n) → n ≡ m
      go (yes h) d = let x = up.reaches n h in let e = rising-same x.index x.below in let g = x.hit in let b = x.below in absurd (omega arith)
      go (no h) (yes k) = let e = rising-same m k in let s = up.short m k in absurd (omega arith)
      go (no h) (no k) = omega arith

-- ---- a number's bytes are those that it was read from
-- n numbers in a row, and the number whose bytes they are
unfoldable listed : ℕ → (ℕ → ℕ) → List ℕ
listed zero g = []
listed (suc n) g = g 0 ∷ listed n (λ o. g (suc o))

unfoldable little : ℕ → (ℕ → ℕ) → ℕ
little zero g = 0
little (suc n) g = g 0 + 256 * little n (λ o. g (suc o))

-- number o of them
byte-listed : (n : ℕ) (g : ℕ → ℕ) (o : ℕ) → o < n → byte (listed n g) o ≡ g o
unfolding listed
byte-listed zero g o l = absurd (omega arith)
byte-listed (suc n) g zero l = refl
byte-listed (suc n) g (suc o) l = byte-listed n (λ o. g (suc o)) o (omega arith)

-- rows of the same numbers are the same
listed_same : (n : ℕ) (g h : ℕ → ℕ) → ((o : ℕ) → g o ≡ h o) → listed n g ≡ listed n h
unfolding listed
listed_same zero g h e = refl
listed_same (suc n) g h e = ap₂ ◌∷◌ (e 0) (listed_same n (λ o. g (suc o)) (λ o. h (suc o)) (λ o. e (suc o)))

-- the bytes of the number are the bytes it was made of
bytes-little : (n : ℕ) (g : ℕ → ℕ) → ((o : ℕ) → g o < 256) → bytes_of n (little n g) ≡ listed n g
unfolding bytes_of listed little
bytes-little zero g h = refl
bytes-little (suc n) g h =
    let l = h 0 in
    let a : (g 0 + 256 * little n (λ o. g (suc o))) % 256 ≡ g 0 = omega arith in
    let b : (g 0 + 256 * little n (λ o. g (suc o))) / 256 ≡ little n (λ o. g (suc o)) = omega arith in
    ap₂ ◌∷◌ a (ap (bytes_of n) b ∙ bytes-little n (λ o. g (suc o)) (λ o. h (suc o)))

-- a place after a place
on : (a b o : ℕ) → a + b + o ≡ a + (b + o)
on a b o = omega arith

module _ (s : List ℕ) (bytes : (i : ℕ) → byte s i < 256) where
  -- the four bytes and the eight from place a on
  bytes_word : (a : ℕ) → bytes_of 4 (word s a) ≡ listed 4 (λ o. byte s (a + o))
  unfolding word little
  bytes_word a =
      let z = ap (byte s) (add-zero a) in
      let e : word s a ≡ little 4 (λ o. byte s (a + o)) = omega arith in
      ap (bytes_of 4) e ∙ bytes-little 4 (λ o. byte s (a + o)) (λ o. bytes (a + o))

  bytes-long : (a : ℕ) → bytes_of 8 (long s a) ≡ listed 8 (λ o. byte s (a + o))
  unfolding long word little
  bytes-long a =
      let z = ap (byte s) (add-zero a) in
      let x : byte s (a + 4 + 1) ≡ byte s (a + 5) = ap (byte s) (on a 4 1) in
      let y : byte s (a + 4 + 2) ≡ byte s (a + 6) = ap (byte s) (on a 4 2) in
      let v : byte s (a + 4 + 3) ≡ byte s (a + 7) = ap (byte s) (on a 4 3) in
      let e : long s a ≡ little 8 (λ o. byte s (a + o)) = omega arith in
      ap (bytes_of 8) e ∙ bytes-little 8 (λ o. byte s (a + o)) (λ o. bytes (a + o))

  -- so the record of a record's own fields has its bytes
  pub record-back : (i o : ℕ) → padding_of s i ≡ 0 → o < 16 → byte (record_of (kind_of s i) (row_of s i) (column_of s i) (count_of s i) (bits_of s i)) o ≡ byte s (16 * i + o)
  unfolding listed
  record-back i o p l = ap (λ (b : List ℕ). byte b o) whole ∙ byte-listed 16 (λ o. byte s (16 * i + o)) o l
    where
      number : bytes_of 4 (count_of s i) ≡ listed 4 (λ o. byte s (16 * i + (4 + o)))
      number = bytes_word (16 * i + 4) ∙ listed_same 4 (λ o. byte s (16 * i + 4 + o)) (λ o. byte s (16 * i + (4 + o))) (λ o. ap (byte s) (on (16 * i) 4 o))

      bits : bytes_of 8 (bits_of s i) ≡ listed 8 (λ o. byte s (16 * i + (8 + o)))
      bits = bytes-long (16 * i + 8) ∙ listed_same 8 (λ o. byte s (16 * i + 8 + o)) (λ o. byte s (16 * i + (8 + o))) (λ o. ap (byte s) (on (16 * i) 8 o))

      whole : record_of (kind_of s i) (row_of s i) (column_of s i) (count_of s i) (bits_of s i) ≡ listed 16 (λ o. byte s (16 * i + o))
      whole = ap₂ (λ (x : ℕ) (y : List ℕ). x ∷ row_of s i ∷ column_of s i ∷ y) (ap (byte s) (sym (add-zero (16 * i)))) (ap₂ (λ (x : ℕ) (y : List ℕ). x ∷ y) (sym p) (ap₂ ◌++◌ number bits))

-- ---- a field that tells its cells apart is written as it was read
field_back : (g : Field) (x y : ℕ) → tells g ≡ true → holds g x ≡ true → field_of g (index_of g x) y ≡ x
unfolding holds index_of field_of
field_back (Index limit) x y e h = refl
field_back Number x y e h = absurd (false≢true e)
field_back Unused x y e h = sym (eqb-true x 0 h)

-- ---- a file in the table's order, whole, and f what its records say
pub record Canon (t : Table) (s : List ℕ) (f : ℕ → ℕ → ℕ → ℕ → Content) : Type 0 where
  pub table : orderly t ≡ true
  pub size : length s % 16 ≡ 0
  pub bytes : (i : ℕ) → byte s i < 256
  pub order : falls s ≡ false
  pub sized : any (count s) (beyond t s) ≡ false
  pub padding : (i : ℕ) → i < count s → padding_of s i ≡ 0
  pub kinds : (i : ℕ) → i < count s → kind_of s i < kind_numbers
  pub complete : any kind_numbers (missing t s) ≡ false
  pub says : (i : ℕ) → i < count s → (f (kind_of s i) (cell_count t s i) (cell_row t s i) (cell_column t s i)).bits ≡ bits_of s i

module _ (t : Table) (s : List ℕ) (f : ℕ → ℕ → ℕ → ℕ → Content) (w : Canon t s f) where
  -- the number of the cell that record i names
  abbrev named : ℕ → ℕ
  named i = slot t (kind_of s i) (cell_count t s i) (cell_row t s i) (cell_column t s i)

  -- no record lies beyond the table, and each names a cell of its kind
  near : (i : ℕ) → i < count s → beyond t s i ≡ false
  near i l = any_none (count s) (beyond t s) i l w.sized

  inside : (i : ℕ) → i < count s → Inside (kind_at t (kind_of s i)) (cell_count t s i) (cell_row t s i) (cell_column t s i)
  inside i l = sized_inside t s i (near i l)

  -- some record names each cell
  cell-had : (k n r c : ℕ) → k < kind_numbers → Inside (kind_at t k) n r c → has t s k n r c ≡ true
  unfolding missing
  cell-had k n r c l v =
      let z = kind_at t k in
      let full = (orderly-at t k w.table).full in
      let none = any_none kind_numbers (missing t s) k l w.complete in
      let cells = rw full at none in
      not-false (has t s k n r c) (any-none-cells (width z.count) (width z.row) (width z.column) (λ n r c. not (has t s k n r c)) cells n r c v.number v.row v.column)

  -- and so each number of a cell is some record's
  attained : (j : ℕ) → j < slot_count t → Attained (count s) named j
  unfolding has
  attained j l =
      let x = cell-of t j l in
      let y = any_found (count s) (is_cell t s x.kind x.number x.row x.column) (cell-had x.kind x.number x.row x.column x.below x.inside) in
      record {
        index = y.index;
        below = y.below;
        hit = eqb-true (named y.index) (slot t x.kind x.number x.row x.column) (slot-cell t s x.kind x.number x.row x.column y.index (near y.index y.below) x.inside ∙ y.passes) ∙ x.place;
      }

  -- the numbers of the records' cells rise, and are all the cells' numbers
  rising : Rising (count s) (slot_count t) named
  unfolding falls
  rising =
      record {
        short = λ i l. slot-below t (kind_of s i) (cell_count t s i) (cell_row t s i) (cell_column t s i) kind_numbers (inside i l) (w.kinds i l);
        rises = λ i l.
            let e = before-slot t s i (i + 1) w.table (near i (omega arith)) (near (i + 1) l) in
            let b = any_none (count s - 1) (λ i. not (stands_before s i (i + 1))) i (omega arith) w.order in
            ltb-true (named i) (named (i + 1)) (sym e ∙ not-false (stands_before s i (i + 1)) b);
        reaches = attained;
      }

  -- there are as many records as cells, and record i names cell number i
  canonical-count : count s ≡ slot_count t
  canonical-count = rising-all (count s) (slot_count t) named rising

  canonical-slot : (i : ℕ) → i < count s → slot t (kind_of s i) (cell_count t s i) (cell_row t s i) (cell_column t s i) ≡ i
  canonical-slot = rising-same (count s) (slot_count t) named rising

  -- its cell is written as the record that it is
  cell-back : (i : ℕ) → i < count s
      → cell_record (kind_at t (kind_of s i)) (kind_of s i) (cell_count t s i) (cell_row t s i) (cell_column t s i) (f (kind_of s i) (cell_count t s i) (cell_row t s i) (cell_column t s i))
      ≡ record_of (kind_of s i) (row_of s i) (column_of s i) (count_of s i) (bits_of s i)
  unfolding cell_record beyond
  cell-back i l =
      let k = kind_of s i in
      let z = kind_at t k in
      let v = f k (cell_count t s i) (cell_row t s i) (cell_column t s i) in
      let o = orderly-at t k w.table in
      let h = within z s i (near i l) in
      let r : field_of z.row (cell_row t s i) v.row ≡ row_of s i = field_back z.row (row_of s i) v.row o.row h.row in
      let c : field_of z.column (cell_column t s i) v.column ≡ column_of s i = field_back z.column (column_of s i) v.column o.column h.column in
      let n : field_of z.count (cell_count t s i) v.count ≡ count_of s i = field_back z.count (count_of s i) v.count (told-count z.count (numbers_matrix k) o.number) h.number in
      ap₂ (λ (x y : ℕ). record_of k x y (field_of z.count (cell_count t s i) v.count) v.bits) r c
      ∙ ap₂ (λ (x y : ℕ). record_of k (row_of s i) (column_of s i) x y) n (w.says i l)

  -- each byte of a record is the written file's
  byte-back : (i o : ℕ) → i < count s → o < 16 → byte s (16 * i + o) ≡ byte (file_of t f) (16 * i + o)
  byte-back i o l m =
      sym (record-back s w.bytes i o (w.padding i l) m)
      ∙ ap (λ (b : List ℕ). byte b o) (sym (cell-back i l))
      ∙ sym (byte-file t f (kind_of s i) (cell_count t s i) (cell_row t s i) (cell_column t s i) o (w.kinds i l) (inside i l) m)
      ∙ ap (λ (j : ℕ). byte (file_of t f) (16 * j + o)) (canonical-slot i l)

-- THE LAW: a file that rises and is complete is the written file of what its records say
pub canonical : (t : Table) (s : List ℕ) (f : ℕ → ℕ → ℕ → ℕ → Content) → Canon t s f → s ≡ file_of t f
canonical t s f w = ext_get_or 0 s (file_of t f) same at
  where
    same : length s ≡ length (file_of t f)
    same = let a = canonical-count t s f w in let b = length-file t f in let c = w.size in omega arith

    at-parts : (p : ℕ) → 16 * (p / 16) + p % 16 ≡ p
    at-parts p = omega arith

    at : (p : ℕ) → p < length s → byte s p ≡ byte (file_of t f) p
    at p l = ap (byte s) (sym (at-parts p)) ∙ byte-back t s f w (p / 16) (p % 16) (omega arith) (omega arith) ∙ ap (byte (file_of t f)) (at-parts p)
