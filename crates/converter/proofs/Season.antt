-- The season's file under a change of converter for each series: the same records close, and each series is what its own change makes of it. For any changes that do not rewrite kind 21.
use Prim.Native.Nat.{ℕ, zero, suc, ◌+◌, ◌-◌, ◌*◌, ◌/◌, ◌%◌, ◌≤◌, ◌<◌}
use native.Mathlib.Omega.{arith}
use native.Mathlib.Nat.{add-zero, not-suc-le-zero}
use native.Mathlib.Decide.{dec_lt}
use mathlib.Core.Path.{◌≡◌, refl, sym, ap, ap₂, ◌∙◌}
use mathlib.Core.Bool.{Bool, true, false, cond}
use mathlib.Core.List.{List, [], ◌∷◌, ◌++◌, append-nil}
use lib.Dec.{eqb, ltb, lt→ltb, lit<}
use lib.ListN.{length, get_or, take, replicate, length-append, length-replicate, get_or-append, get_or-eq_default}
use lib.Seq.{slice, ext_get_or, get_or-take, get_or-drop, get_or_at, length-slice}
use lib.Ieee.Bits.{is_true}
use borrow.Author.Tests.{eqb-true}
use Rattle.algebra.specs.Table.{row}
use Rattle.algebra.proofs.TableLaws.{row_at}
use Rattle.algebra.proofs.FoldLaws.{length-span}
use Rattle.records.specs.format.Bytes.{byte}
use Rattle.records.specs.format.File.{count, kind_of, count_of, bits_of}
use Rattle.records.specs.text.Season.{closes, begins, series_before, series_to, series_in}
use Rattle.records.proofs.format.ScanLaws.{last-same}
use Rattle.records.proofs.format.WrittenLaws.{word_same, long_same}
use Rattle.records.proofs.text.SeasonLaws.{closes-same, begins-more, left-length}
use Rattle.converter.specs.Converted.{Change, new_bits, new_byte, converted}
use Rattle.converter.specs.SeasonDemand.{series_number, converted_season, season_change, SeasonConverted, SeasonConverts}
use Rattle.converter.proofs.Bytes.{at_quotient, at_rest, length-converted, byte-converted, new_byte-kept, new_byte-other}

-- ---- a change makes the same of two records with the same sixteen bytes, wherever they stand
on : (i a o : ℕ) → 16 * i + a + o ≡ 16 * i + (a + o)
on i a o = omega arith

module _ (g : Change) (s t : List ℕ) (i j : ℕ) (same : (o : ℕ) → o < 16 → byte s (16 * i + o) ≡ byte t (16 * j + o)) where
  kind-equal : kind_of s i ≡ kind_of t j
  kind-equal = ap (byte s) (sym (add-zero (16 * i))) ∙ same 0 (lit< tt) ∙ ap (byte t) (add-zero (16 * j))

  count-equal : count_of s i ≡ count_of t j
  count-equal = word_same t s (16 * i + 4) (16 * j + 4) (λ o h. ap (byte s) (on i 4 o) ∙ same (4 + o) (omega arith) ∙ ap (byte t) (sym (on j 4 o)))

  bits-equal : bits_of s i ≡ bits_of t j
  bits-equal = long_same t s (16 * i + 8) (16 * j + 8) (λ o h. ap (byte s) (on i 8 o) ∙ same (8 + o) (omega arith) ∙ ap (byte t) (sym (on j 8 o)))

  new_bits-equal : new_bits g s i ≡ new_bits g t j
  unfolding new_bits
  new_bits-equal = rw (kind-equal, count-equal, same 1 (lit< tt), same 2 (lit< tt), bits-equal)

  pub new_byte-equal : i < count s → j < count t → (o : ℕ) → o < 16 → new_byte g s (16 * i + o) ≡ new_byte g t (16 * j + o)
  unfolding new_byte
  new_byte-equal l k o h =
      rw (at_rest i o h, at_rest j o h, at_quotient i o h, at_quotient j o h, is_true (ltb i (count s)) (lt→ltb i (count s) l), is_true (ltb j (count t)) (lt→ltb j (count t) k), kind-equal, new_bits-equal, same o h)

-- ---- one record more
begins-suc : (s : List ℕ) (n : ℕ) → begins s (suc n) ≡ cond (closes s n) (n + 1) (begins s n)
begins-suc s n = let e : suc n ≡ n + 1 = omega arith in ap (begins s) e ∙ begins-more s n

number-suc : (s : List ℕ) (n : ℕ) → series_number s (suc n) ≡ cond (closes s n) (series_number s n + 1) (series_number s n)
unfolding series_to
number-suc s n = go (closes s n)
  where
    go : (b : Bool) → length (series_to s n ++ cond b (series_before s n ∷ []) []) ≡ cond b (series_number s n + 1) (series_number s n)
    go true = length-append (series_to s n) (series_before s n ∷ [])
    go false = ap length (append-nil (series_to s n))

-- the records of one series have its number
number-within : (s : List ℕ) (n i : ℕ) → begins s n ≤ i → i ≤ n → series_number s i ≡ series_number s n
number-within s zero i h l = let e : i ≡ 0 = omega arith in ap (series_number s) e
number-within s (suc n) i h l = go (number-within s n i) (dec_lt n i) (closes s n) refl
  where
    go : (begins s n ≤ i → i ≤ n → series_number s i ≡ series_number s n) → Dec (n < i) → (b : Bool) → closes s n ≡ b → series_number s i ≡ series_number s (suc n)
    go before (yes k) b y = let e : i ≡ suc n = omega arith in ap (series_number s) e
    go before (no k) true y = let q : begins s (suc n) ≡ n + 1 = begins-suc s n ∙ ap (λ (x : Bool). cond x (n + 1) (begins s n)) y in absurd (omega arith)
    go before (no k) false y =
        let q : begins s (suc n) ≡ begins s n = begins-suc s n ∙ ap (λ (x : Bool). cond x (n + 1) (begins s n)) y in
        before (omega arith) (omega arith) ∙ sym (number-suc s n ∙ ap (λ (x : Bool). cond x (series_number s n + 1) (series_number s n)) y)

module _ (g : ℕ → Change) (other : (j : ℕ) → (g j).rewrites 21 ≡ false) (s : List ℕ) where
  abbrev s' : List ℕ
  s' = converted_season g s

  -- the change of record i: its series'
  abbrev own : ℕ → Change
  own i = g (series_number s i)

  -- ---- the bytes
  length-season : length s' ≡ length s
  unfolding converted_season row
  length-season = length-span 0 (length s) (λ p. new_byte (own (p / 16)) s p) (replicate (length s) 0) ∙ length-replicate (length s) 0

  byte-season : (i o : ℕ) → o < 16 → 16 * i + o < length s → byte s' (16 * i + o) ≡ new_byte (own i) s (16 * i + o)
  unfolding converted_season
  byte-season i o h l = row_at 0 (length s) (length s) (λ p. new_byte (own (p / 16)) s p) (16 * i + o) 0 l (omega arith) ∙ ap (λ (x : ℕ). new_byte (own x) s (16 * i + o)) (at_quotient i o h)

  -- a byte that the record's change keeps stays; past the end both files read 0
  byte-stays : (i o : ℕ) → o < 16 → new_byte (own i) s (16 * i + o) ≡ byte s (16 * i + o) → byte s' (16 * i + o) ≡ byte s (16 * i + o)
  byte-stays i o h e = go (dec_lt (16 * i + o) (length s))
    where
      go : Dec (16 * i + o < length s) → byte s' (16 * i + o) ≡ byte s (16 * i + o)
      go (yes l) = byte-season i o h l ∙ e
      go (no l) = let k = length-season in get_or-eq_default s' 0 (omega arith) ∙ sym (get_or-eq_default s 0 (omega arith))

  -- ---- what closes a series
  kind-stays : (i : ℕ) → kind_of s' i ≡ kind_of s i
  kind-stays i = ap (byte s') (sym (add-zero (16 * i))) ∙ byte-stays i 0 (lit< tt) (new_byte-kept (own i) s i 0 (lit< tt)) ∙ ap (byte s) (add-zero (16 * i))

  -- a record of kind 21 keeps all its bytes, and no other becomes one
  closes-stays : (i : ℕ) → closes s' i ≡ closes s i
  unfolding closes
  closes-stays i = go (eqb (kind_of s i) 21) refl
    where
      go : (b : Bool) → eqb (kind_of s i) 21 ≡ b → closes s' i ≡ closes s i
      go true y = closes-same s' s i i (λ o h. byte-stays i o h (new_byte-other (own i) s i o h (ap (own i).rewrites (eqb-true (kind_of s i) 21 y) ∙ other (series_number s i))))
      go false y = rw (kind-stays i, y)

  begins-stays : (n : ℕ) → begins s' n ≡ begins s n
  unfolding begins
  begins-stays n = last-same n (closes s') (closes s) (λ j. j + 1) (λ j. j + 1) 0 (λ j l. closes-stays j) (λ j l e. refl)

  number-stays : (n : ℕ) → series_number s' n ≡ series_number s n
  unfolding series_to
  number-stays zero = refl
  number-stays (suc n) = number-suc s' n ∙ ap₂ (λ (b : Bool) (x : ℕ). cond b (x + 1) x) (closes-stays n) (number-stays n) ∙ sym (number-suc s n)

  -- ---- the series before record n: each of its records has the number of n, and so the change of n
  module _ (n : ℕ) (h : n ≤ count s) where
    abbrev b : ℕ
    b = begins s n

    abbrev t : List ℕ
    t = slice (16 * b) (16 * n) s

    length_part : (r : List ℕ) → length r ≡ length s → length (slice (16 * b) (16 * n) r) ≡ 16 * n - 16 * b
    length_part r e = length-slice (16 * b) (16 * n) r (omega arith)

    -- record i of the series is the file's record b + i
    byte-part : (r : List ℕ) (i o : ℕ) → o < 16 → b + i < n → byte (slice (16 * b) (16 * n) r) (16 * i + o) ≡ byte r (16 * (b + i) + o)
    byte-part r i o k l = get_or-drop (16 * b) (take (16 * n) r) (16 * i + o) 0 ∙ get_or-take (16 * n) r (16 * b + (16 * i + o)) 0 (omega arith) ∙ ap (byte r) (over b i o)
      where
        over : (b i o : ℕ) → 16 * b + (16 * i + o) ≡ 16 * (b + i) + o
        over b i o = omega arith

    new-part : (i o : ℕ) → o < 16 → b + i < n → byte (slice (16 * b) (16 * n) s') (16 * i + o) ≡ byte (converted (own n) t) (16 * i + o)
    new-part i o k l =
        let z = length_part s refl in
        byte-part s' i o k l
        ∙ byte-season (b + i) o k (omega arith)
        ∙ ap (λ (j : ℕ). new_byte (g j) s (16 * (b + i) + o)) (number-within s n (b + i) (omega arith) (omega arith))
        ∙ new_byte-equal (own n) s t (b + i) i (λ x y. sym (byte-part s i x y l)) (omega arith) (omega arith) o k
        ∙ sym (byte-converted (own n) t (16 * i + o) (omega arith))

    series-stays : series_before s' n ≡ converted (own n) (series_before s n)
    unfolding series_before
    series-stays =
        let z = length_part s' length-season in
        rw (begins-stays n)
        (ext_get_or 0 (slice (16 * b) (16 * n) s') (converted (own n) t) (z ∙ sym (length-converted (own n) t ∙ length_part s refl)) (λ q l.
        let e : q ≡ 16 * (q / 16) + q % 16 = omega arith in
        rw e (new-part (q / 16) (q % 16) (omega arith) (omega arith))))

  -- ---- the series that the first n records close
  series-under : (n : ℕ) → n ≤ count s → (j : ℕ) → j < series_number s n → get_or (series_to s' n) j [] ≡ converted (g j) (get_or (series_to s n) j [])
  unfolding series_to
  series-under zero h j l = absurd (not-suc-le-zero l)
  series-under (suc n) h j l = rw (closes-stays n) (go (series-under n (omega arith) j) (closes s n) l (dec_lt j (series_number s n)))
    where
      go : (j < series_number s n → get_or (series_to s' n) j [] ≡ converted (g j) (get_or (series_to s n) j [])) → (b : Bool) → j < length (series_to s n ++ cond b (series_before s n ∷ []) []) → Dec (j < series_number s n)
          → get_or (series_to s' n ++ cond b (series_before s' n ∷ []) []) j [] ≡ converted (g j) (get_or (series_to s n ++ cond b (series_before s n ∷ []) []) j [])
      go before true l (yes k) =
          let e = number-stays n in
          rw (get_or-append (series_to s' n) (series_before s' n ∷ []) [] j (omega arith), get_or-append (series_to s n) (series_before s n ∷ []) [] j k) (before k)
      go before true l (no k) =
          let a = length-append (series_to s n) (series_before s n ∷ []) in
          let e : series_number s n ≡ j = omega arith in
          rw (get_or_at (series_to s' n) (series_before s' n) [] [] j (number-stays n ∙ e), get_or_at (series_to s n) (series_before s n) [] [] j e, ← e) (series-stays n (omega arith))
      go before false l d = rw (append-nil (series_to s' n), append-nil (series_to s n)) (before (let a = ap length (append-nil (series_to s n)) in omega arith))

  count-stays : count s' ≡ count s
  count-stays = ap (λ (n : ℕ). n / 16) length-season

  -- UNDER ANY CHANGES that do not rewrite kind 21, and so no record that closes
  pub season-converted : SeasonConverted g s s'
  unfolding series_in
  season-converted = record {
    closing = closes-stays;
    many = ap (series_number s') count-stays ∙ number-stays (count s);
    left = (let e = ap (begins s') count-stays ∙ begins-stays (count s) in let a = left-length s in let b = left-length s' in let l = length-season in omega arith);
    series = λ j l. ap (λ (n : ℕ). get_or (series_to s' n) j []) count-stays ∙ series-under (count s) (omega arith) j l;
  }

-- those of the Kenward–Roger call rewrite kinds 7 to 10 alone
pub season-converts : SeasonConverts
season-converts k m s = season-converted (season_change k m) (λ j. refl) s
