-- Laws of the tail of a file: the records from the m-th on. Record i of the tail is record m + i of the file; in a file that rises the kinds do not fall, so that the records of the kinds from b on
-- are a tail; and of these kinds the tail has the rows, the cells and the faults that the file has.
use Prim.Native.Nat.{ℕ, zero, suc, ◌+◌, ◌-◌, ◌*◌, ◌%◌, ◌<◌, ◌≤◌}
use mathlib.Core.Path.{◌≡◌, refl, ap, ap₂, sym, ◌∙◌}
use mathlib.Core.Bool.{Bool, true, false, not, ◌||◌, ◌&&◌, cond, false≢true}
use mathlib.Core.List.{List, [], ◌++◌}
use native.Mathlib.Nat.{not-suc-le-zero, add-zero, add-suc}
use native.Mathlib.Omega.{arith}
use native.Mathlib.Decide.{dec_lt}
use lib.Dec.{eqb, ltb}
use lib.ListN.{length, take, drop, length-drop}
use lib.Seq.{get_or-drop, drop-drop, take-add, take_all}
use lib.Ieee.{binary64, of_bits}
use borrow.Author.Tests.{eqb-true, eqb-false, ltb-true, not-false, ne_eqb}
use Rattle.arithmetic.specs.Numbers.{plus_zero}
use Rattle.records.specs.format.Bytes.{byte}
use Rattle.records.specs.format.Scan.{any, most, last}
use Rattle.records.specs.format.Kinds.{Table, kind_at, width, unread}
use Rattle.records.specs.format.File.{count, kind_of, row_of, column_of, padding_of, count_of, bits_of, value_of, out_of, bad_record, cell_count, cell_row, cell_column, is_cell, again, has, cell, rows, beyond, missing, not_finite}
use Rattle.records.specs.format.Order.{matrix_of, then_by, stands_before, falls}
use Rattle.records.specs.format.Written.{sequence, record_at, records_of}
use Rattle.records.specs.readers.SecondFile.{is_test_kind}
use Rattle.records.proofs.format.ScanLaws.{any_none, none_any, any_same, any-split, most-same, most-split, most-zero, last-same, last-split, last_none, climbs}
use Rattle.records.proofs.format.WrittenLaws.{word_same, long_same}

-- ---- where no number below m has a say, each question is that of those from m on
any-later : (m n : ℕ) (p q : ℕ → Bool) → ((i : ℕ) → i < m → p i ≡ false) → ((i : ℕ) → i < n → q i ≡ p (m + i)) → any n q ≡ any (m + n) p
any-later m n p q h k = any_same n q (λ i. p (m + i)) k ∙ sym (any-split m n p ∙ ap (λ (x : Bool). x || any n (λ i. p (m + i))) (none_any m p h))

most-later : (m n : ℕ) (f g : ℕ → ℕ) → ((i : ℕ) → i < m → f i ≡ 0) → ((i : ℕ) → i < n → g i ≡ f (m + i)) → most n g ≡ most (m + n) f
most-later m n f g h k = let a = most-same n g (λ i. f (m + i)) k in let b = most-split m n f in let d = most-zero m f h in omega arith

last-later {ℓ} : {A : Type ℓ} (m n : ℕ) (p q : ℕ → Bool) (f g : ℕ → A) (d : A) → ((i : ℕ) → i < m → p i ≡ false) → ((i : ℕ) → i < n → q i ≡ p (m + i)) → ((i : ℕ) → i < n → g i ≡ f (m + i))
    → last n q g d ≡ last (m + n) p f d
last-later m n p q f g d h k j =
    last-same n q (λ i. p (m + i)) g (λ i. f (m + i)) d k (λ i l e. j i l)
    ∙ sym (last-split m n p f d ∙ ap (last n (λ i. p (m + i)) (λ i. f (m + i))) (last_none m p f d h))

-- ---- the records from the m-th on
abbrev pub records_from : List ℕ → ℕ → List ℕ
records_from s m = drop (16 * m) s

module _ (s : List ℕ) (m : ℕ) where
  -- its length, its records and its bytes
  length-tail : length (records_from s m) ≡ length s - 16 * m
  length-tail = length-drop (16 * m) s

  count-tail : count (records_from s m) ≡ count s - m
  count-tail = let e = length-tail in omega arith

  pub whole-tail : length s % 16 ≡ 0 → length (records_from s m) % 16 ≡ 0
  whole-tail h = let e = length-tail in omega arith

  byte-tail : (j : ℕ) → byte (records_from s m) j ≡ byte s (16 * m + j)
  byte-tail j = get_or-drop (16 * m) s j 0

  byte_at : (j k : ℕ) → 16 * m + j ≡ k → byte (records_from s m) j ≡ byte s k
  byte_at j k e = byte-tail j ∙ ap (byte s) e

  -- the fields of its record i
  kind-tail : (i : ℕ) → kind_of (records_from s m) i ≡ kind_of s (m + i)
  kind-tail i = byte_at (16 * i) (16 * (m + i)) (omega arith)

  row-tail : (i : ℕ) → row_of (records_from s m) i ≡ row_of s (m + i)
  row-tail i = byte_at (16 * i + 1) (16 * (m + i) + 1) (omega arith)

  column-tail : (i : ℕ) → column_of (records_from s m) i ≡ column_of s (m + i)
  column-tail i = byte_at (16 * i + 2) (16 * (m + i) + 2) (omega arith)

  padding-tail : (i : ℕ) → padding_of (records_from s m) i ≡ padding_of s (m + i)
  padding-tail i = byte_at (16 * i + 3) (16 * (m + i) + 3) (omega arith)

  number-tail : (i : ℕ) → count_of (records_from s m) i ≡ count_of s (m + i)
  number-tail i = word_same s (records_from s m) (16 * i + 4) (16 * (m + i) + 4) (λ o l. byte_at (16 * i + 4 + o) (16 * (m + i) + 4 + o) (omega arith))

  bits-tail : (i : ℕ) → bits_of (records_from s m) i ≡ bits_of s (m + i)
  bits-tail i = long_same s (records_from s m) (16 * i + 8) (16 * (m + i) + 8) (λ o l. byte_at (16 * i + 8 + o) (16 * (m + i) + 8 + o) (omega arith))

  value-tail : (i : ℕ) → value_of (records_from s m) i ≡ value_of s (m + i)
  value-tail i = ap (of_bits binary64) (bits-tail i)

  -- its order
  matrix-tail : (i : ℕ) → matrix_of (records_from s m) i ≡ matrix_of s (m + i)
  unfolding matrix_of
  matrix-tail i = rw (kind-tail i, number-tail i)

  stands-tail : (i j : ℕ) → stands_before (records_from s m) i j ≡ stands_before s (m + i) (m + j)
  unfolding stands_before
  stands-tail i j = rw (kind-tail i, kind-tail j, matrix-tail i, matrix-tail j, row-tail i, row-tail j, column-tail i, column-tail j)

  -- the tail of a file that rises rises
  pub falls-tail : falls s ≡ false → falls (records_from s m) ≡ false
  unfolding falls
  falls-tail h =
      none_any (count (records_from s m) - 1) (λ i. not (stands_before (records_from s m) i (i + 1)))
      (λ i l.
      let e = count-tail in
      ap not (stands-tail i (i + 1) ∙ ap (stands_before s (m + i)) (place i)) ∙ any_none (count s - 1) (λ j. not (stands_before s j (j + 1))) (m + i) (omega arith) h)
    where
      place : (i : ℕ) → m + (i + 1) ≡ m + i + 1
      place i = omega arith

-- ---- in a file that rises the kinds do not fall
-- the kind decides first
then_by-le : (x y : ℕ) (rest : Bool) → then_by x y rest ≡ true → x ≤ y
then_by-le x y rest e = go (ltb x y) refl (eqb x y) refl e
  where
    go : (a : Bool) → ltb x y ≡ a → (b : Bool) → eqb x y ≡ b → a || (b && rest) ≡ true → x ≤ y
    go true p b q f = let z = ltb-true x y p in omega arith
    go false p true q f = let z = eqb-true x y q in omega arith
    go false p false q f = absurd (false≢true f)

-- so a record's kind is no less than an earlier one's
kinds-rise : (s : List ℕ) → falls s ≡ false → (i j : ℕ) → i ≤ j → j < count s → kind_of s i ≤ kind_of s j
unfolding falls stands_before
kinds-rise s h =
    climbs (count s) (kind_of s)
    (λ i l. then_by-le (kind_of s i) (kind_of s (i + 1)) _ (not-false _ (any_none (count s - 1) (λ k. not (stands_before s k (k + 1))) i (omega arith) h)))

-- of the first n records those of kinds below b, the first so many, stand before the others
pub record Parted (s : List ℕ) (b n : ℕ) : Type 0 where
  pub place : ℕ
  pub inside : place ≤ n
  pub before : (i : ℕ) → i < place → kind_of s i < b
  pub after : (i : ℕ) → place ≤ i → i < n → b ≤ kind_of s i

-- which is so in a file that rises
pub parted : (s : List ℕ) → falls s ≡ false → (b n : ℕ) → n ≤ count s → Parted s b n
parted s h b zero l = record { place = 0; inside = omega arith; before = λ i q. absurd (not-suc-le-zero q); after = λ i q r. absurd (not-suc-le-zero r) }
parted s h b (suc n) l = go (dec_lt (kind_of s n) b) (parted s h b n (omega arith))
  where
    go : Dec (kind_of s n < b) → Parted s b n → Parted s b (suc n)
    go (yes q) x = record { place = suc n; inside = omega arith; before = λ i k. (let z = kinds-rise s h i n (omega arith) (omega arith) in omega arith); after = λ i k r. absurd (omega arith) }
    go (no q) x = record { place = x.place; inside = (let z = x.inside in omega arith); before = x.before; after = λ i k r. here i k r (dec_lt i n) }
      where
        here : (i : ℕ) → x.place ≤ i → i < suc n → Dec (i < n) → b ≤ kind_of s i
        here i k r (yes a) = x.after i k a
        here i k r (no a) = let e : i ≡ n = omega arith in rw e (omega arith)

-- ---- the records whose kind passes are a tail, where those from the m-th on pass and no other does
sequence-none : (m : ℕ) (f : ℕ → List ℕ) → ((i : ℕ) → i < m → f i ≡ []) → sequence m f ≡ []
unfolding sequence
sequence-none zero f h = refl
sequence-none (suc m) f h = rw (sequence-none m f (λ i l. h i (omega arith)), h m (omega arith))

module _ (passes : ℕ → Bool) (s : List ℕ) (m : ℕ) (inside : m ≤ count s) (whole : length s % 16 ≡ 0)
    (before : (i : ℕ) → i < m → passes (kind_of s i) ≡ false) (after : (i : ℕ) → m ≤ i → i < count s → passes (kind_of s i) ≡ true) where
  abbrev piece : ℕ → List ℕ
  piece i = cond (passes (kind_of s i)) (record_at s i) []

  -- so many of them as pass among the first m + d
  passing : (d : ℕ) → m + d ≤ count s → sequence (m + d) piece ≡ take (16 * d) (records_from s m)
  unfolding sequence
  passing zero l = ap (λ (k : ℕ). sequence k piece) (add-zero m) ∙ sequence-none m piece (λ i q. rw (before i q))
  passing (suc d) l =
      ap (λ (k : ℕ). sequence k piece) (add-suc m d)
      ∙ ap₂ ◌++◌ (passing d (omega arith)) (rw (after (m + d) (omega arith) (omega arith)) (ap (take 16) (ap (λ (k : ℕ). drop k s) (from d) ∙ sym (drop-drop (16 * d) (16 * m) s))))
      ∙ sym (take-add (16 * d) 16 (records_from s m))
      ∙ ap (λ (k : ℕ). take k (records_from s m)) (up d)
    where
      from : (d : ℕ) → 16 * (m + d) ≡ 16 * m + 16 * d
      from d = omega arith

      up : (d : ℕ) → 16 * d + 16 ≡ 16 * suc d
      up d = omega arith

  -- and among all
  records-tail : records_of passes s ≡ records_from s m
  unfolding records_of
  records-tail =
      let e : count s ≡ m + (count s - m) = omega arith in
      let f = length-tail s m in
      ap (λ (k : ℕ). sequence k piece) e ∙ passing (count s - m) (omega arith) ∙ take_all (16 * (count s - m)) (records_from s m) (omega arith)

-- "the series' kinds 8 to 10": where no kind is above 10 these records are the tail of the kinds from 8 on
pub tests-tail : (s : List ℕ) (x : Parted s 8 (count s)) → length s % 16 ≡ 0 → ((i : ℕ) → i < count s → kind_of s i ≤ 10) → records_of is_test_kind s ≡ records_from s x.place
unfolding is_test_kind
tests-tail s x whole low = records-tail is_test_kind s x.place x.inside whole (λ i l. early (kind_of s i) (x.before i l)) (λ i l k. late (kind_of s i) (x.after i l k) (low i k))
  where
    early : (k : ℕ) → k < 8 → eqb k 8 || eqb k 9 || eqb k 10 ≡ false
    early k l = rw (ne_eqb k 8 (λ e. omega arith), ne_eqb k 9 (λ e. omega arith), ne_eqb k 10 (λ e. omega arith))

    late : (k : ℕ) → 8 ≤ k → k ≤ 10 → eqb k 8 || eqb k 9 || eqb k 10 ≡ true
    late k l m = go (eqb k 8) refl (eqb k 9) refl (eqb k 10) refl
      where
        go : (a : Bool) → eqb k 8 ≡ a → (b : Bool) → eqb k 9 ≡ b → (c : Bool) → eqb k 10 ≡ c → a || b || c ≡ true
        go true p b q c r = refl
        go false p true q c r = refl
        go false p false q true r = refl
        go false p false q false r = absurd (let e = eqb-false k 8 p in let f = eqb-false k 9 q in let g = eqb-false k 10 r in omega arith)

-- ---- of the kinds from b on the tail has what the file has
-- a record of another kind does not name the cell
is_cell-other : (t : Table) (s : List ℕ) (k n r c i : ℕ) → (kind_of s i ≡ k → ⊥) → is_cell t s k n r c i ≡ false
unfolding is_cell
is_cell-other t s k n r c i h = rw (ne_eqb (kind_of s i) k h)

-- no cell of a kind that the table does not read is missing
pub missing-unread : (t : Table) (s : List ℕ) (k : ℕ) → kind_at t k ≡ unread → missing t s k ≡ false
unfolding missing any width
missing-unread t s k e = rw e

module _ (s : List ℕ) (b : ℕ) (x : Parted s b (count s)) where
  -- the records before the tail, and the tail
  abbrev m : ℕ
  m = x.place

  abbrev u : List ℕ
  u = records_from s m

  -- the file's records are these, and each of the tail is of such a kind
  count-parted : m + count u ≡ count s
  count-parted = let e = count-tail s m in let l = x.inside in omega arith

  inside-parted : (i : ℕ) → i < count u → m + i < count s
  inside-parted i l = let e = count-parted in omega arith

  kind-parted : (i : ℕ) → i < count u → b ≤ kind_of s (m + i)
  kind-parted i l = x.after (m + i) (omega arith) (inside-parted i l)

  -- a fault that no record of the file has no record of the tail has
  pub none-parted : (p q : ℕ → Bool) → any (count s) p ≡ false → ((i : ℕ) → i < count u → q i ≡ p (m + i)) → any (count u) q ≡ false
  none-parted p q h k = none_any (count u) q (λ i l. k i l ∙ any_none (count s) p (m + i) (inside-parted i l) h)

  -- it has the file's rows of such a kind
  pub rows-parted : (k : ℕ) → b ≤ k → rows u k ≡ rows s k
  unfolding rows
  rows-parted k l =
      most-later m (count u) (λ i. cond (eqb (kind_of s i) k) (row_of s i + 1) 0) (λ i. cond (eqb (kind_of u i) k) (row_of u i + 1) 0)
      (λ i a. rw (ne_eqb (kind_of s i) k (λ e. let z = x.before i a in omega arith)))
      (λ i a. rw (kind-tail s m i, row-tail s m i))
      ∙ ap (λ (n : ℕ). most n (λ i. cond (eqb (kind_of s i) k) (row_of s i + 1) 0)) count-parted

  -- and its values
  pub not_finite-parted : (i : ℕ) → not_finite u i ≡ not_finite s (m + i)
  unfolding not_finite
  not_finite-parted i = rw (bits-tail s m i)

  -- by a table t of the file and a table v of the tail that say the same of these kinds
  module _ (t v : Table) (agree : (k : ℕ) → b ≤ k → kind_at v k ≡ kind_at t k) where
    -- a record is bad, lies beyond the sizes, or names a cell, in both or in neither
    pub bad-parted : (i : ℕ) → i < count u → bad_record v u i ≡ bad_record t s (m + i)
    unfolding bad_record out_of
    bad-parted i l = rw (kind-tail s m i, row-tail s m i, column-tail s m i, padding-tail s m i, number-tail s m i, bits-tail s m i, agree (kind_of s (m + i)) (kind-parted i l))

    pub beyond-parted : (i : ℕ) → i < count u → beyond v u i ≡ beyond t s (m + i)
    unfolding beyond out_of
    beyond-parted i l = rw (kind-tail s m i, row-tail s m i, column-tail s m i, number-tail s m i, agree (kind_of s (m + i)) (kind-parted i l))

    is_cell-parted : (k n r c i : ℕ) → i < count u → is_cell v u k n r c i ≡ is_cell t s k n r c (m + i)
    unfolding is_cell
    is_cell-parted k n r c i l = rw (kind-tail s m i, row-tail s m i, column-tail s m i, number-tail s m i, agree (kind_of s (m + i)) (kind-parted i l))

    -- no record before the tail names a cell of such a kind
    is_cell-before : (k n r c i : ℕ) → b ≤ k → i < m → is_cell t s k n r c i ≡ false
    is_cell-before k n r c i l a = is_cell-other t s k n r c i (λ e. let z = x.before i a in omega arith)

    -- so a cell is named twice, has a record, or is missing, in both or in neither
    pub again-parted : (i : ℕ) → i < count u → again v u i ≡ again t s (m + i)
    unfolding again
    again-parted i l =
        rw (kind-tail s m i, row-tail s m i, column-tail s m i, number-tail s m i, agree (kind_of s (m + i)) (kind-parted i l))
        (any-later m i (is_cell t s (kind_of s (m + i)) (cell_count t s (m + i)) (cell_row t s (m + i)) (cell_column t s (m + i))) (is_cell v u (kind_of s (m + i)) (cell_count t s (m + i)) (cell_row t s (m + i)) (cell_column t s (m + i)))
        (λ j a. is_cell-before (kind_of s (m + i)) (cell_count t s (m + i)) (cell_row t s (m + i)) (cell_column t s (m + i)) j (kind-parted i l) a)
        (λ j a. is_cell-parted (kind_of s (m + i)) (cell_count t s (m + i)) (cell_row t s (m + i)) (cell_column t s (m + i)) j (omega arith)))

    has-parted : (k n r c : ℕ) → b ≤ k → has v u k n r c ≡ has t s k n r c
    unfolding has
    has-parted k n r c l =
        any-later m (count u) (is_cell t s k n r c) (is_cell v u k n r c) (λ i a. is_cell-before k n r c i l a) (λ i a. is_cell-parted k n r c i a)
        ∙ ap (λ (j : ℕ). any j (is_cell t s k n r c)) count-parted

    pub missing-parted : (k : ℕ) → b ≤ k → missing v u k ≡ missing t s k
    unfolding missing
    missing-parted k l =
        let z = kind_at t k in
        rw (agree k l)
        (ap (λ (y : Bool). not z.sparse && y)
        (any_same (width z.count) (λ n. any (width z.row) (λ r. any (width z.column) (λ c. not (has v u k n r c)))) (λ n. any (width z.row) (λ r. any (width z.column) (λ c. not (has t s k n r c))))
        (λ n _. any_same (width z.row) (λ r. any (width z.column) (λ c. not (has v u k n r c))) (λ r. any (width z.column) (λ c. not (has t s k n r c)))
        (λ r _. any_same (width z.column) (λ c. not (has v u k n r c)) (λ c. not (has t s k n r c))
        (λ c _. ap not (has-parted k n r c l))))))

    -- and has the same number in both
    pub cell-parted : (k n r c : ℕ) → b ≤ k → cell v u k n r c ≡ cell t s k n r c
    unfolding cell
    cell-parted k n r c l =
        last-later m (count u) (is_cell t s k n r c) (is_cell v u k n r c) (value_of s) (value_of u) plus_zero (λ i a. is_cell-before k n r c i l a) (λ i a. is_cell-parted k n r c i a) (λ i a. value-tail s m i)
        ∙ ap (λ (j : ℕ). last j (is_cell t s k n r c) (value_of s) plus_zero) count-parted
