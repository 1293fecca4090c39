-- The series of a season: bytes that come later change none that is closed; and what one byte more does.
use Prim.Native.Nat.{ℕ, zero, suc, ◌+◌, ◌-◌, ◌*◌, ◌/◌, ◌%◌, ◌≤◌, ◌<◌}
use native.Mathlib.Omega.{arith}
use native.Mathlib.Decide.{dec_lt}
use mathlib.Core.Path.{◌≡◌, refl, sym, ap, ap₂, ◌∙◌, subst}
use mathlib.Core.Bool.{Bool, true, false, not, ◌&&◌, cond}
use mathlib.Core.List.{List, [], ◌∷◌, ◌++◌, append-nil}
use lib.Dec.{eqb}
use lib.ListN.{length, take, drop, length-append, length-take, length-drop, get_or-append, get_or-eq_default}
use lib.Seq.{take-append-le, drop-append-le, take-add, drop_at, length-take-le, get_or-take, get_or-drop, drop-length}
use Rattle.records.specs.format.Bytes.{byte}
use Rattle.records.specs.format.Scan.{last}
use Rattle.records.specs.format.File.{count}
use Rattle.records.specs.text.Season.{closes, begins, series_before, series_to, series_in, left_over}
use Rattle.records.proofs.format.ScanLaws.{any_same, last-same, last_more, last-holds}

-- ---- a record closes by its sixteen bytes
pub closes-same : (s t : List ℕ) (i j : ℕ) → ((o : ℕ) → o < 16 → byte s (16 * i + o) ≡ byte t (16 * j + o)) → closes s i ≡ closes t j
unfolding closes
closes-same s t i j h =
    ap₂ ◌&&◌ (ap (λ (b : ℕ). eqb b 21) (ap (byte s) (plain i) ∙ h 0 (omega arith) ∙ ap (byte t) (sym (plain j))))
    (ap not (any_same 15 _ _ (λ o l. ap (λ (b : ℕ). not (eqb b 0)) (ap (byte s) (on i o) ∙ h (1 + o) (omega arith) ∙ ap (byte t) (sym (on j o))))))
  where
    plain : (i : ℕ) → 16 * i ≡ 16 * i + 0
    plain i = omega arith

    on : (i o : ℕ) → 16 * i + 1 + o ≡ 16 * i + (1 + o)
    on i o = omega arith

-- ---- a series begins no later than it ends
pub begins-below : (s : List ℕ) (i : ℕ) → begins s i ≤ i
unfolding begins
begins-below s i = last-holds (λ (b : ℕ). b ≤ i) i (closes s) (λ j. j + 1) 0 (omega arith) (λ j l e. omega arith)

pub begins-more : (s : List ℕ) (i : ℕ) → begins s (i + 1) ≡ cond (closes s i) (i + 1) (begins s i)
unfolding begins
begins-more s i = last_more i (closes s) (λ j. j + 1) 0

-- ---- bytes that come later
module _ (s t : List ℕ) where
  pub closes_before : (i : ℕ) → i < count s → closes (s ++ t) i ≡ closes s i
  closes_before i l = closes-same (s ++ t) s i i (λ o h. get_or-append s t 0 (16 * i + o) (omega arith))

  pub begins-before : (i : ℕ) → i ≤ count s → begins (s ++ t) i ≡ begins s i
  unfolding begins
  begins-before i l = last-same i (closes (s ++ t)) (closes s) (λ j. j + 1) (λ j. j + 1) 0 (λ j h. closes_before j (omega arith)) (λ j h e. refl)

  pub series-before : (i : ℕ) → i ≤ count s → series_before (s ++ t) i ≡ series_before s i
  unfolding series_before
  series-before i l = rw (begins-before i l, take-append-le (16 * i) s t (omega arith))

  pub series_to-before : (n : ℕ) → n ≤ count s → series_to (s ++ t) n ≡ series_to s n
  unfolding series_to
  series_to-before zero l = refl
  series_to-before (suc n) l = rw (series_to-before n (omega arith), closes_before n (omega arith), series-before n (omega arith))

-- ---- the series that are closed, and the bytes left, in front of one record more
series_to-more : (s : List ℕ) (n : ℕ) → series_to s (n + 1) ≡ series_to s n ++ cond (closes s n) (series_before s n ∷ []) []
unfolding series_to
series_to-more s n = let e : n + 1 ≡ suc n = omega arith in rw e

-- the bytes left, up to the last whole record, are the series that a record there would close
pub left-whole : (s : List ℕ) → take (16 * count (left_over s)) (left_over s) ≡ series_before s (count s)
unfolding left_over series_before
left-whole s =
    let m = 16 * begins s (count s) in
    let b = begins-below s (count s) in
    let l : length (drop m s) ≡ length s - m = length-drop m s in
    let e : 16 * (length (drop m s) / 16) ≡ 16 * count s - m = omega arith in
    let f : 16 * count s ≡ m + (16 * count s - m) = omega arith in
    let g : drop m (take (m + (16 * count s - m)) s) ≡ take (16 * count s - m) (drop m s) = ap (drop m) (take-add m (16 * count s - m) s) ∙ drop_at (take m s) (take (16 * count s - m) (drop m s)) m (length-take-le m s (omega arith)) in
    ap (λ (k : ℕ). take k (drop m s)) e ∙ sym g ∙ ap (λ (k : ℕ). drop m (take k s)) (sym f)

-- ---- one byte more
module _ (s : List ℕ) (b : ℕ) where
  abbrev s' : List ℕ
  s' = s ++ (b ∷ [])

  longer : length s' ≡ length s + 1
  longer = length-append s (b ∷ [])

  kept-left : (n : ℕ) → begins s' n ≡ begins s (count s) → drop (16 * begins s' n) s' ≡ drop (16 * begins s (count s)) s ++ (b ∷ [])
  kept-left n e = let l = begins-below s (count s) in rw e (drop-append-le (16 * begins s (count s)) s (b ∷ []) (omega arith))

  -- no record is whole with it
  pub part-series : (length s % 16 ≡ 15 → ⊥) → series_in s' ≡ series_in s
  unfolding series_in
  part-series h = let l = longer in let e : count s' ≡ count s = omega arith in rw e (series_to-before s (b ∷ []) (count s) (omega arith))

  pub part_left : (length s % 16 ≡ 15 → ⊥) → left_over s' ≡ left_over s ++ (b ∷ [])
  unfolding left_over
  part_left h = let l = longer in let e : count s' ≡ count s = omega arith in rw e (kept-left (count s) (begins-before s (b ∷ []) (count s) (omega arith)))

  -- one is
  module _ (h : length s % 16 ≡ 15) where
    one_more : count s' ≡ count s + 1
    one_more = let l = longer in omega arith

    -- and does not close
    pub whole-series : closes s' (count s) ≡ false → series_in s' ≡ series_in s
    unfolding series_in
    whole-series n = rw (one_more, series_to-more s' (count s), n, series_to-before s (b ∷ []) (count s) (omega arith)) (append-nil (series_to s (count s)))

    pub whole-left : closes s' (count s) ≡ false → left_over s' ≡ left_over s ++ (b ∷ [])
    unfolding left_over
    whole-left n = rw one_more (kept-left (count s + 1) (begins-more s' (count s) ∙ ap (λ (x : Bool). cond x (count s + 1) (begins s' (count s))) n ∙ begins-before s (b ∷ []) (count s) (omega arith)))

    -- and closes
    pub closed-series : closes s' (count s) ≡ true → series_in s' ≡ series_in s ++ (series_before s (count s) ∷ [])
    unfolding series_in
    closed-series y = rw (one_more, series_to-more s' (count s), y, series_to-before s (b ∷ []) (count s) (omega arith), series-before s (b ∷ []) (count s) (omega arith))

    pub closed-left : closes s' (count s) ≡ true → left_over s' ≡ []
    unfolding left_over
    closed-left y =
        let l = longer in
        let e : 16 * begins s' (count s') ≡ length s' = ap (λ (n : ℕ). 16 * begins s' n) one_more ∙ ap (λ (n : ℕ). 16 * n) (begins-more s' (count s) ∙ ap (λ (x : Bool). cond x (count s + 1) (begins s' (count s))) y) ∙ omega arith in
        rw e (drop-length s')

-- ---- the bytes left are the file's last
pub left-length : (s : List ℕ) → 16 * begins s (count s) + length (left_over s) ≡ length s
unfolding left_over
left-length s = let b = begins-below s (count s) in let l = length-drop (16 * begins s (count s)) s in omega arith

pub left-byte : (s : List ℕ) (i : ℕ) → byte (left_over s) i ≡ byte s (16 * begins s (count s) + i)
unfolding left_over
left-byte s i = get_or-drop (16 * begins s (count s)) s i 0

-- a series' bytes are the file's
pub series-byte : (P : ℕ → Type 0) (s : List ℕ) (n : ℕ) → P 0 → ((i : ℕ) → P (byte s i)) → (i : ℕ) → P (byte (series_before s n) i)
unfolding series_before
series-byte P s n z h i = subst P (sym (get_or-drop (16 * begins s n) (take (16 * n) s) i 0)) (go (dec_lt (16 * begins s n + i) (16 * n)))
  where
    go : Dec (16 * begins s n + i < 16 * n) → P (byte (take (16 * n) s) (16 * begins s n + i))
    go (yes l) = subst P (sym (get_or-take (16 * n) s (16 * begins s n + i) 0 l)) (h (16 * begins s n + i))
    go (no l) = let e = length-take (16 * n) s in subst P (sym (get_or-eq_default (take (16 * n) s) 0 (omega arith))) z
