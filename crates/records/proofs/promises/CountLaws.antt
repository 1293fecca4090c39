-- The file with its blocks' parameter counts written (specs/promises/CountsKeep.antt), by its bytes: it differs from the file in the first value byte of its blocks alone. Where each block was bare, the bits of a block
-- are then its count, and the count is right.
use Prim.Native.Nat.{ℕ, zero, suc, ◌+◌, ◌*◌, ◌/◌, ◌%◌, ◌<◌, ◌≤◌}
use mathlib.Core.Path.{◌≡◌, refl, sym, ap, ◌∙◌}
use mathlib.Core.Bool.{Bool, true, false, not, ◌||◌, cond}
use mathlib.Core.List.{List}
use native.Mathlib.Nat.{add-zero, mul-le-mul}
use native.Mathlib.Omega.{arith}
use native.Mathlib.Decide.{dec_lt}
use lib.Dec.{eqb, leb, ltb, lit<}
use lib.ListN.{length, set, length-set, get_or-eq_default}
use lib.Seq.{get_or-set_same, get_or-set_other, ext_get_or}
use lib.Ieee.{binary64, odd, of_fields, of_bits}
use borrow.Author.Tests.{eq-eqb, eqb-true, ltb-true, not-false}
use Rattle.arithmetic.specs.Numbers.{is_finite}
use Rattle.arithmetic.proofs.PlainLaws.{clash}
use Rattle.records.specs.format.Bytes.{byte, word, long}
use Rattle.records.specs.format.Scan.{any}
use Rattle.records.specs.format.File.{count, kind_of, bits_of, first_value_of}
use Rattle.records.specs.format.Alike.{Alike, Stays}
use Rattle.records.specs.format.Written.{record_at}
use Rattle.records.specs.readers.Series.{parameter_count, miscounted}
use Rattle.records.specs.promises.CountsKeep.{with_count, with_counts, uncountable, Countable}
use Rattle.records.proofs.format.ScanLaws.{or-false, any_none, none_any}
use Rattle.records.proofs.format.WrittenLaws.{word_same, long_same, sequence-length-of, byte-sequence-of}
use Rattle.records.proofs.promises.TakenFields.{length-record, byte-record}
use Rattle.records.proofs.format.SameFile.{count_same}

-- ---- a number in the first byte
-- bits below 256 are those of a finite number
odd-finite : (d : ℕ) (b : Bool) (m k l : ℕ) → is_finite (odd d b m k l) ≡ true
unfolding odd is_finite
odd-finite d b zero k l = refl
odd-finite d b (suc m) k l = refl

pub small-finite : (b : ℕ) → b < 256 → is_finite (of_bits binary64 b) ≡ true
unfolding of_bits of_fields
small-finite b l =
    let e : b % 9223372036854775808 / 4503599627370496 ≡ 0 = omega arith in
    rw e (odd-finite 53 (leb 9223372036854775808 b) (b % 4503599627370496) 0 1074)

-- k(k+1) of a k that a byte holds, and k(k+1)/2 from k = 23 on, which is above what a byte holds
pub twice-small : (k : ℕ) → k ≤ 255 → k * (k + 1) ≤ 65280
twice-small k h = let b : k + 1 ≤ 256 = omega arith in mul-le-mul h b

pub past-a-byte : (k : ℕ) → 23 ≤ k → 276 ≤ k * (k + 1) / 2
past-a-byte k l =
    let m : 23 * 24 ≤ k * (k + 1) = mul-le-mul {n₁ = 23} {m₁ = 24} {n₂ = k} {m₂ = k + 1} l (omega arith) in
    omega arith

-- ---- one record
module _ (s : List ℕ) (i : ℕ) where
  length-counted : i < count s → length (with_count s i) ≡ 16
  unfolding with_count
  length-counted l = go (eqb (kind_of s i) 3) ∙ length-record s i l
    where
      go : (b : Bool) → length (cond b (set (record_at s i) 8 (parameter_count s i)) (record_at s i)) ≡ length (record_at s i)
      go true = length-set (record_at s i) 8 (parameter_count s i)
      go false = refl

  -- a block's first value byte is its count, and every other byte stays
  first_counted : i < count s → kind_of s i ≡ 3 → byte (with_count s i) 8 ≡ parameter_count s i
  unfolding with_count
  first_counted l q = let e = length-record s i l in rw (eq-eqb (kind_of s i) 3 q) (get_or-set_same (record_at s i) 8 (parameter_count s i) 0 (omega arith))

  byte-counted : (o : ℕ) → o < 16 → (kind_of s i ≡ 3 → o ≡ 8 → ⊥) → byte (with_count s i) o ≡ byte s (16 * i + o)
  unfolding with_count
  byte-counted o l h = go (eqb (kind_of s i) 3) refl ∙ byte-record s i o l
    where
      go : (b : Bool) → eqb (kind_of s i) 3 ≡ b → byte (cond b (set (record_at s i) 8 (parameter_count s i)) (record_at s i)) o ≡ byte (record_at s i) o
      go true e = get_or-set_other (record_at s i) 8 o (parameter_count s i) 0 (h (eqb-true (kind_of s i) 3 e))
      go false e = refl

-- ---- the file, of whole records
module _ (s : List ℕ) (whole : length s % 16 ≡ 0) where
  length-counts : length (with_counts s) ≡ length s
  unfolding with_counts
  length-counts = let e = sequence-length-of 16 (count s) (with_count s) (length-counted s) in omega arith

  -- record i's bytes
  bytes-counts : (i o : ℕ) → i < count s → o < 16 → byte (with_counts s) (16 * i + o) ≡ byte (with_count s i) o
  unfolding with_counts
  bytes-counts i o l m = ap (λ (p : ℕ). byte (with_counts s) (p + o)) (turned i) ∙ byte-sequence-of 16 (count s) (with_count s) (length-counted s) i o l m
    where
      turned : (i : ℕ) → 16 * i ≡ i * 16
      turned i = omega arith

  first-counts : (i : ℕ) → i < count s → kind_of s i ≡ 3 → first_value_of (with_counts s) i ≡ parameter_count s i
  first-counts i l q = bytes-counts i 8 l (lit< tt) ∙ first_counted s i l q

  byte-counts : (i o : ℕ) → o < 16 → (kind_of s i ≡ 3 → o ≡ 8 → ⊥) → byte (with_counts s) (16 * i + o) ≡ byte s (16 * i + o)
  byte-counts i o m h = go (dec_lt i (count s))
    where
      go : Dec (i < count s) → byte (with_counts s) (16 * i + o) ≡ byte s (16 * i + o)
      go (yes l) = bytes-counts i o l m ∙ byte-counted s i o m h
      go (no l) = let e = length-counts in get_or-eq_default (with_counts s) 0 (omega arith) ∙ sym (get_or-eq_default s 0 (omega arith))

  -- the bytes before the value, and those of a record that is no block, as `word` and `long` count them
  bytes_on : (i a o : ℕ) → a + o < 16 → (kind_of s i ≡ 3 → a + o ≡ 8 → ⊥) → byte (with_counts s) (16 * i + a + o) ≡ byte s (16 * i + a + o)
  bytes_on i a o m h = ap (byte (with_counts s)) on ∙ byte-counts i (a + o) m h ∙ ap (byte s) (sym on)
    where
      on : 16 * i + a + o ≡ 16 * i + (a + o)
      on = omega arith

  pub counts-alike : Alike s (with_counts s)
  counts-alike =
      record {
        size = length-counts;
        kind = λ i. ap (byte (with_counts s)) (sym (add-zero (16 * i))) ∙ byte-counts i 0 (lit< tt) (λ q e. omega arith) ∙ ap (byte s) (add-zero (16 * i));
        place = λ i. byte-counts i 1 (lit< tt) (λ q e. omega arith);
        column = λ i. byte-counts i 2 (lit< tt) (λ q e. omega arith);
        padding = λ i. byte-counts i 3 (lit< tt) (λ q e. omega arith);
        number = λ i. word_same s (with_counts s) (16 * i + 4) (16 * i + 4) (λ o m. bytes_on i 4 o (omega arith) (λ q e. omega arith));
      }

  pub bits-stay : (i : ℕ) → (kind_of s i ≡ 3 → ⊥) → bits_of (with_counts s) i ≡ bits_of s i
  bits-stay i h = long_same s (with_counts s) (16 * i + 8) (16 * i + 8) (λ o m. bytes_on i 8 o (omega arith) (λ q e. h q))

  pub counts-stay : (k : ℕ) → (k ≡ 3 → ⊥) → Stays s (with_counts s) k
  counts-stay k h i q = ap (of_bits binary64) (bits-stay i (λ e. h (sym q ∙ e)))

  -- a bare block's bits become its count
  pub bits-block : (i : ℕ) → i < count s → kind_of s i ≡ 3 → bits_of s i ≡ 0 → bits_of (with_counts s) i ≡ parameter_count s i
  unfolding long word
  bits-block i l q z =
      let b0 = first-counts i l q in
      let b1 = bytes_on i 8 1 (lit< tt) (λ q e. omega arith) in
      let b2 = bytes_on i 8 2 (lit< tt) (λ q e. omega arith) in
      let b3 = bytes_on i 8 3 (lit< tt) (λ q e. omega arith) in
      let b4 = bytes_on i 8 4 (lit< tt) (λ q e. omega arith) in
      let b5 = upper 1 (lit< tt) in
      let b6 = upper 2 (lit< tt) in
      let b7 = upper 3 (lit< tt) in
      omega arith
    where
      on : (o : ℕ) → 16 * i + 8 + 4 + o ≡ 16 * i + 8 + (4 + o)
      on o = omega arith

      upper : (o : ℕ) → o < 4 → byte (with_counts s) (16 * i + 8 + 4 + o) ≡ byte s (16 * i + 8 + 4 + o)
      upper o m = ap (byte (with_counts s)) (on o) ∙ bytes_on i 8 (4 + o) (omega arith) (λ q e. omega arith) ∙ ap (byte s) (sym (on o))

  -- no block is miscounted
  pub counts-right : any (count (with_counts s)) (miscounted (with_counts s)) ≡ false
  unfolding miscounted
  counts-right = none_any (count (with_counts s)) (miscounted (with_counts s)) (λ i l. go i (rw (← count_same counts-alike) l) (eqb (kind_of s i) 3) refl)
    where
      go : (i : ℕ) → i < count s → (b : Bool) → eqb (kind_of s i) 3 ≡ b → miscounted (with_counts s) i ≡ false
      go i l true e = rw (counts-alike.kind i, counts-alike.column i, first-counts i l (eqb-true (kind_of s i) 3 e), e) (ap not (eq-eqb (parameter_count s i) (parameter_count s i) refl))
      go i l false e = rw (counts-alike.kind i, e)

-- ---- where no record is a block it is the file itself
pub counts-none : (s : List ℕ) → length s % 16 ≡ 0 → any (count s) (λ i. eqb (kind_of s i) 3) ≡ false → with_counts s ≡ s
counts-none s whole none = let e = length-counts s whole in ext_get_or 0 (with_counts s) s e (λ i l. at i (omega arith))
  where
    place : (i : ℕ) → 16 * (i / 16) + i % 16 ≡ i
    place i = omega arith

    at : (i : ℕ) → i < length s → byte (with_counts s) i ≡ byte s i
    at i l =
        let j : ℕ = i / 16 in
        let b : j < count s = omega arith in
        ap (byte (with_counts s)) (sym (place i))
        ∙ byte-counts s whole j (i % 16) (omega arith) (λ q e. clash (eq-eqb (kind_of s j) 3 q) (any_none (count s) (λ i. eqb (kind_of s i) 3) j b none))
        ∙ ap (byte s) (place i)

-- ---- the blocks of a file, where their counts can be written
pub record CountableBlock (s : List ℕ) (i : ℕ) : Type 0 where
  pub bare : bits_of s i ≡ 0
  pub fits : parameter_count s i < 256

pub countable-block : (s : List ℕ) → Countable s → (i : ℕ) → i < count s → kind_of s i ≡ 3 → CountableBlock s i
unfolding uncountable
countable-block s h i l q =
    let a : not (eqb (bits_of s i) 0) || not (ltb (parameter_count s i) 256) ≡ false = rw (eq-eqb (kind_of s i) 3 q) at (any_none (count s) (uncountable s) i l h.1) in
    let b = or-false (not (eqb (bits_of s i) 0)) (not (ltb (parameter_count s i) 256)) a in
    record { bare = eqb-true (bits_of s i) 0 (not-false (eqb (bits_of s i) 0) b.0); fits = ltb-true (parameter_count s i) 256 (not-false (ltb (parameter_count s i) 256) b.1) }
