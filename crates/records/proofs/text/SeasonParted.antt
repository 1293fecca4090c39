-- EVERY FILE IS ONE SEASON: of its own series and bytes left, and of no others.
use Prim.Native.Nat.{ℕ, zero, suc, ◌+◌, ◌-◌, ◌*◌, ◌≤◌, ◌<◌}
use native.Mathlib.Omega.{arith}
use native.Mathlib.Nat.{eq-or-lt_of_le, le_of_suc-le-suc, not-suc-le-zero}
use native.Mathlib.Decide.{dec_lt}
use mathlib.Core.Path.{◌≡◌, refl, sym, ap, ap₂, ◌∙◌}
use mathlib.Core.Bool.{Bool, true, false, not, cond}
use mathlib.Core.Logic.{⊎_elim}
use mathlib.Core.List.{List, [], ◌∷◌, ◌++◌, append-nil, append_assoc}
use lib.Dec.{eqb}
use lib.ListN.{length, get_or, take, drop, replicate, length-append, length-drop, take-append-drop, get_or-append}
use lib.Seq.{slice, ext_get_or, take-append_seam, take-append-add, drop-append-le, drop-append-add, drop-drop, length-take-le, get_or-take, get_or-drop, get_or-append-add, length-slice}
use borrow.Author.Tests.{eqb-true, not-true, not-false}
use Rattle.records.specs.format.Bytes.{byte}
use Rattle.records.specs.format.Scan.{any, last}
use Rattle.records.specs.format.File.{count, kind_of}
use Rattle.records.specs.text.Season.{closes, begins, series_before, series_to, series_in, left_over}
use Rattle.records.specs.promises.SeasonPrints.{closing_record, season_bytes, Unclosed, OneSeries, AllSeries, SeasonParted}
use Rattle.records.proofs.format.ScanLaws.{and-true, any_none, none_any, last_none, last-split, last-both}
use Rattle.records.proofs.text.SeasonLaws.{closes-same, begins-below, begins-more}

-- ---- a record that closes has the sixteen bytes
no_byte : (n o : ℕ) → ◌≡◌ {A = ℕ} (get_or (replicate n 0) o 0) 0
no_byte zero o = refl
no_byte (suc n) zero = refl
no_byte (suc n) (suc o) = no_byte n o

closing-bytes : (s : List ℕ) (i : ℕ) → closes s i ≡ true → (o : ℕ) → o < 16 → byte s (16 * i + o) ≡ byte closing_record o
unfolding closes
closing-bytes s i e zero h =
    let p = and-true (eqb (kind_of s i) 21) (not (any 15 (λ o. not (eqb (byte s (16 * i + 1 + o)) 0)))) e in
    let f : 16 * i + 0 ≡ 16 * i = omega arith in
    ap (byte s) f ∙ eqb-true (kind_of s i) 21 p.0
closing-bytes s i e (suc o) h =
    let p = and-true (eqb (kind_of s i) 21) (not (any 15 (λ o. not (eqb (byte s (16 * i + 1 + o)) 0)))) e in
    let none = not-true (any 15 (λ o. not (eqb (byte s (16 * i + 1 + o)) 0))) p.1 in
    let f : 16 * i + suc o ≡ 16 * i + 1 + o = omega arith in
    ap (byte s) f ∙ eqb-true (byte s (16 * i + 1 + o)) 0 (not-false (eqb (byte s (16 * i + 1 + o)) 0) (any_none 15 (λ o. not (eqb (byte s (16 * i + 1 + o)) 0)) o (omega arith) none)) ∙ sym (no_byte 15 o)

closing-drop : (s : List ℕ) (i : ℕ) → i < count s → closes s i ≡ true → drop (16 * i) s ≡ closing_record ++ drop (16 * (i + 1)) s
closing-drop s i l e =
    let d = length-drop (16 * i) s in
    let long : length (take 16 (drop (16 * i) s)) ≡ 16 = length-take-le 16 (drop (16 * i) s) (omega arith) in
    let front : take 16 (drop (16 * i) s) ≡ closing_record =
    ext_get_or 0 (take 16 (drop (16 * i) s)) closing_record long (λ o h. let k : o < 16 = omega arith in get_or-take 16 (drop (16 * i) s) o 0 k ∙ get_or-drop (16 * i) s o 0 ∙ closing-bytes s i e o k) in
    let next : 16 * i + 16 ≡ 16 * (i + 1) = omega arith in
    sym (take-append-drop 16 (drop (16 * i) s)) ∙ ap₂ (λ (a b : List ℕ). a ++ b) front (drop-drop 16 (16 * i) s ∙ ap (λ (k : ℕ). drop k s) next)

-- ---- a file's own series put together again
bytes-append : (ts us : List (List ℕ)) (left : List ℕ) → season_bytes (ts ++ us) left ≡ season_bytes ts (season_bytes us left)
unfolding season_bytes
bytes-append [] us left = refl
bytes-append (t ∷ ts) us left = ap (λ (r : List ℕ). t ++ (closing_record ++ r)) (bytes-append ts us left)

-- none yet
joined-none : (s : List ℕ) → season_bytes [] (drop (16 * begins s 0) s) ≡ s
unfolding season_bytes begins last
joined-none s = refl

-- a series, the record that closes it and what is after it are what is from the series' begin on
joined-one : (s : List ℕ) (n : ℕ) → n < count s → closes s n ≡ true → season_bytes (series_before s n ∷ []) (drop (16 * (n + 1)) s) ≡ drop (16 * begins s n) s
unfolding season_bytes series_before
joined-one s n h y =
    let m = begins-below s n in
    let l : length (take (16 * n) s) ≡ 16 * n = length-take-le (16 * n) s (omega arith) in
    ap (λ (r : List ℕ). slice (16 * begins s n) (16 * n) s ++ r) (sym (closing-drop s n h y))
    ∙ sym (drop-append-le (16 * begins s n) (take (16 * n) s) (drop (16 * n) s) (omega arith))
    ∙ ap (drop (16 * begins s n)) (take-append-drop (16 * n) s)

joined_to : (s : List ℕ) (n : ℕ) → n ≤ count s → season_bytes (series_to s n) (drop (16 * begins s n) s) ≡ s
unfolding series_to
joined_to s zero h = joined-none s
joined_to s (suc n) h = go (joined_to s n (omega arith)) (closes s n) refl
  where
    e : suc n ≡ n + 1
    e = omega arith

    go : season_bytes (series_to s n) (drop (16 * begins s n) s) ≡ s → (b : Bool) → closes s n ≡ b → season_bytes (series_to s n ++ cond (closes s n) (series_before s n ∷ []) []) (drop (16 * begins s (suc n)) s) ≡ s
    go before true y =
        let b : begins s (suc n) ≡ n + 1 = ap (begins s) e ∙ begins-more s n ∙ ap (λ (x : Bool). cond x (n + 1) (begins s n)) y in
        rw (y, b, bytes-append (series_to s n) (series_before s n ∷ []) (drop (16 * (n + 1)) s)) (ap (season_bytes (series_to s n)) (joined-one s n (omega arith) y) ∙ before)
    go before false y =
        let b : begins s (suc n) ≡ begins s n = ap (begins s) e ∙ begins-more s n ∙ ap (λ (x : Bool). cond x (n + 1) (begins s n)) y in
        rw (y, append-nil (series_to s n), b) before

-- ---- no record within a series closes
begins-after : (s : List ℕ) (i k : ℕ) → begins s i ≤ k → k < i → closes s k ≡ false
begins-after s zero k h l = absurd (not-suc-le-zero l)
begins-after s (suc i) k h l = go (λ b q. begins-after s i k b q) (closes s i) refl
  where
    e : suc i ≡ i + 1
    e = omega arith

    b : begins s (suc i) ≡ cond (closes s i) (i + 1) (begins s i)
    b = ap (begins s) e ∙ begins-more s i

    go : (begins s i ≤ k → k < i → closes s k ≡ false) → (x : Bool) → closes s i ≡ x → closes s k ≡ false
    go earlier true y = let q : begins s (suc i) ≡ i + 1 = b ∙ ap (λ (x : Bool). cond x (i + 1) (begins s i)) y in absurd (omega arith)
    go earlier false y =
        let q : begins s (suc i) ≡ begins s i = b ∙ ap (λ (x : Bool). cond x (i + 1) (begins s i)) y in
        ⊎_elim (λ w. ap (closes s) w ∙ y) (λ w. earlier (omega arith) w) (eq-or-lt_of_le (le_of_suc-le-suc l))

series-one : (s : List ℕ) (n : ℕ) → n ≤ count s → OneSeries (series_before s n)
unfolding series_before
series-one s n h =
    let b = begins s n in
    let m = begins-below s n in
    let t = slice (16 * b) (16 * n) s in
    let l : length t ≡ 16 * n - 16 * b = length-slice (16 * b) (16 * n) s (omega arith) in
    record {
      whole = omega arith;
      unclosed = none_any (count t) (closes t) (λ j k.
          closes-same t s j (b + j) (λ o q. get_or-drop (16 * b) (take (16 * n) s) (16 * j + o) 0 ∙ get_or-take (16 * n) s (16 * b + (16 * j + o)) 0 (omega arith) ∙ ap (byte s) (over b j o))
          ∙ begins-after s n (b + j) (omega arith) (omega arith));
    }
  where
    over : (b j o : ℕ) → 16 * b + (16 * j + o) ≡ 16 * (b + j) + o
    over b j o = omega arith

left-unclosed : (s : List ℕ) → Unclosed (left_over s)
unfolding left_over
left-unclosed s =
    let b = begins s (count s) in
    let m = begins-below s (count s) in
    let t = drop (16 * b) s in
    let l : length t ≡ length s - 16 * b = length-drop (16 * b) s in
    none_any (count t) (closes t) (λ j k.
    closes-same t s j (b + j) (λ o q. get_or-drop (16 * b) s (16 * j + o) 0 ∙ ap (byte s) (over b j o))
    ∙ begins-after s (count s) (b + j) (omega arith) (omega arith))
  where
    over : (b j o : ℕ) → 16 * b + (16 * j + o) ≡ 16 * (b + j) + o
    over b j o = omega arith

-- each of a list and one more
each_more : (ts : List (List ℕ)) (t : List ℕ) → AllSeries ts → OneSeries t → AllSeries (ts ++ (t ∷ []))
each_more ts t h one i l = go (dec_lt i (length ts))
  where
    go : Dec (i < length ts) → OneSeries (get_or (ts ++ (t ∷ [])) i [])
    go (yes k) = rw (get_or-append ts (t ∷ []) [] i k) (h i k)
    go (no k) =
        let e = length-append ts (t ∷ []) in
        let f : i ≡ length ts + 0 = omega arith in
        rw (f, get_or-append-add ts (t ∷ []) 0 []) one

series-to : (s : List ℕ) (n : ℕ) → n ≤ count s → AllSeries (series_to s n)
unfolding series_to
series-to s zero h = λ i l. absurd (not-suc-le-zero l)
series-to s (suc n) h = go (series-to s n (omega arith)) (closes s n)
  where
    go : AllSeries (series_to s n) → (b : Bool) → AllSeries (series_to s n ++ cond b (series_before s n ∷ []) [])
    go all true = each_more (series_to s n) (series_before s n) all (series-one s n (omega arith))
    go all false = rw (append-nil (series_to s n)) all

-- ---- bytes without a record that closes
module _ (s : List ℕ) where
  none-to : (n : ℕ) → ((i : ℕ) → i < n → closes s i ≡ false) → series_to s n ≡ []
  unfolding series_to
  none-to zero h = refl
  none-to (suc n) h = rw (none-to n (λ i l. h i (omega arith)), h n (omega arith))

  begins-none : (n : ℕ) → ((i : ℕ) → i < n → closes s i ≡ false) → begins s n ≡ 0
  unfolding begins
  begins-none n h = last_none n (closes s) (λ j. j + 1) 0 h

closing-closes : closes closing_record 0 ≡ true
unfolding closes any
closing-closes = refl

-- ---- a series, the record that closes it, and more bytes
module _ (t r : List ℕ) (one : OneSeries t) where
  abbrev front : List ℕ
  front = t ++ closing_record

  abbrev n : ℕ
  n = count t

  abbrev whole : List ℕ
  whole = front ++ r

  front_long : length front ≡ 16 * n + 16
  front_long = let w = one.whole in let e = length-append t closing_record in omega arith

  within : (i : ℕ) → i < n → closes whole i ≡ false
  within i l =
      let w = one.whole in
      ap (λ (s : List ℕ). closes s i) (append_assoc t closing_record r)
      ∙ closes-same (t ++ (closing_record ++ r)) t i i (λ o h. get_or-append t (closing_record ++ r) 0 (16 * i + o) (omega arith))
      ∙ any_none n (closes t) i l one.unclosed

  at-closing : closes whole n ≡ true
  at-closing =
      let w = one.whole in
      ap (λ (s : List ℕ). closes s n) (append_assoc t closing_record r)
      ∙ closes-same (t ++ (closing_record ++ r)) closing_record n 0 (λ o h.
      let e : 16 * n + o ≡ length t + o = omega arith in
      let z : o ≡ 16 * 0 + o = omega arith in
      ap (byte (t ++ (closing_record ++ r))) e ∙ get_or-append-add t (closing_record ++ r) o 0 ∙ get_or-append closing_record r 0 o h ∙ ap (byte closing_record) z)
      ∙ closing-closes

  past : (j : ℕ) → closes whole (n + 1 + j) ≡ closes r j
  past j =
      let l = front_long in
      closes-same whole r (n + 1 + j) j (λ o h. let e : 16 * (n + 1 + j) + o ≡ length front + (16 * j + o) = omega arith in ap (byte whole) e ∙ get_or-append-add front r (16 * j + o) 0)

  begins-closing : begins whole (n + 1) ≡ n + 1
  begins-closing = begins-more whole n ∙ ap (λ (b : Bool). cond b (n + 1) (begins whole n)) at-closing

  begins-split : (j : ℕ) → begins whole (n + 1 + j) ≡ last j (λ i. closes whole (n + 1 + i)) (λ i. n + 1 + i + 1) (n + 1)
  unfolding begins
  begins-split j = last-split (n + 1) j (closes whole) (λ i. i + 1) 0 ∙ ap (last j (λ i. closes whole (n + 1 + i)) (λ i. n + 1 + i + 1)) begins-closing

  begins-past : (j : ℕ) → begins whole (n + 1 + j) ≡ n + 1 + begins r j
  unfolding begins
  begins-past j =
      begins-split j
      ∙ last-both (λ (x y : ℕ). x ≡ n + 1 + y) j (λ i. closes whole (n + 1 + i)) (closes r) (λ i. n + 1 + i + 1) (λ i. i + 1) (n + 1) 0 (λ i l. past i) (omega arith) (λ i l e. omega arith)

  series-closed : series_before whole n ≡ t
  unfolding series_before
  series-closed =
      let w = one.whole in
      let e : 16 * n ≡ length t = omega arith in
      rw (begins-none whole n within, e, append_assoc t closing_record r) (take-append_seam t (closing_record ++ r))

  first-series : series_to whole (n + 1) ≡ t ∷ []
  unfolding series_to
  first-series =
      let e : n + 1 ≡ suc n = omega arith in
      rw (e, none-to whole n within, at-closing) (ap (λ (u : List ℕ). u ∷ []) series-closed)

  series-past : (j : ℕ) → series_before whole (n + 1 + j) ≡ series_before r j
  unfolding series_before
  series-past j =
      let l = front_long in
      let a : 16 * (n + 1 + begins r j) ≡ length front + 16 * begins r j = omega arith in
      let b : 16 * (n + 1 + j) ≡ length front + 16 * j = omega arith in
      rw (begins-past j, a, b, take-append-add front r (16 * j)) (drop-append-add front (take (16 * j) r) (16 * begins r j))

  all_past : (j : ℕ) → series_to whole (n + 1 + j) ≡ t ∷ series_to r j
  unfolding series_to
  all_past zero = let e : n + 1 + 0 ≡ n + 1 = omega arith in ap (series_to whole) e ∙ first-series
  all_past (suc j) =
      let e : n + 1 + suc j ≡ suc (n + 1 + j) = omega arith in
      rw (e, all_past j, past j, series-past j)

  count_past : count whole ≡ n + 1 + count r
  count_past = let l = front_long in let e = length-append front r in omega arith

  pub one-series : series_in (t ++ (closing_record ++ r)) ≡ t ∷ series_in r
  unfolding series_in
  one-series = rw (append_assoc t closing_record r) at (ap (series_to whole) count_past ∙ all_past (count r))

  pub one_left : left_over (t ++ (closing_record ++ r)) ≡ left_over r
  unfolding left_over
  one_left =
      let l = front_long in
      let a : 16 * (n + 1 + begins r (count r)) ≡ length front + 16 * begins r (count r) = omega arith in
      let left : drop (16 * begins whole (count whole)) whole ≡ drop (16 * begins r (count r)) r = rw (count_past, begins-past (count r), a) (drop-append-add front r (16 * begins r (count r))) in
      rw (append_assoc t closing_record r) at left

-- ---- a season of given series
none_in : (left : List ℕ) → Unclosed left → series_in left ≡ []
unfolding series_in
none_in left u = none-to left (count left) (λ i l. any_none (count left) (closes left) i l u)

all_left : (left : List ℕ) → Unclosed left → left_over left ≡ left
unfolding left_over
all_left left u = rw (begins-none left (count left) (λ i l. any_none (count left) (closes left) i l u))

all_rest : (t : List ℕ) (ts : List (List ℕ)) → AllSeries (t ∷ ts) → AllSeries ts
all_rest t ts h i l = h (suc i) (omega arith)

made-series : (ts : List (List ℕ)) (left : List ℕ) → AllSeries ts → Unclosed left → series_in (season_bytes ts left) ≡ ts
unfolding season_bytes
made-series [] left h u = none_in left u
made-series (t ∷ ts) left h u = one-series t (season_bytes ts left) (h 0 (omega arith)) ∙ ap (λ (us : List (List ℕ)). t ∷ us) (made-series ts left (all_rest t ts h) u)

made-left : (ts : List (List ℕ)) (left : List ℕ) → AllSeries ts → Unclosed left → left_over (season_bytes ts left) ≡ left
unfolding season_bytes
made-left [] left h u = all_left left u
made-left (t ∷ ts) left h u = one_left t (season_bytes ts left) (h 0 (omega arith)) ∙ made-left ts left (all_rest t ts h) u

pub season-parted : SeasonParted
unfolding series_in left_over
season-parted = record {
  joined = λ s. joined_to s (count s) (omega arith);
  series = λ s. series-to s (count s) (omega arith);
  left = left-unclosed;
  same_series = made-series;
  same_left = made-left;
}
