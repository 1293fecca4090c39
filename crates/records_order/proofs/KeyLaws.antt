-- Keys stand in the order of the records, and a file falls where one of its records has a key that is not above the last.
use Prim.Native.Nat.{ℕ, zero, suc, ◌+◌, ◌-◌, ◌*◌, ◌<◌, ◌≤◌}
use native.Mathlib.Numerals.{add-one}
use native.Mathlib.Omega.{arith}
use native.Mathlib.Decide.{dec_lt}
use mathlib.Core.Path.{◌≡◌, refl, sym, ap, ap₂, ◌∙◌}
use mathlib.Core.Bool.{Bool, true, false, not, ◌||◌, cond}
use mathlib.Core.List.{List}
use lib.Dec.{ltb}
use borrow.Author.Tests.{lt-ltb, le-ltb}
use Rattle.records.specs.format.Bytes.{byte, word}
use Rattle.records.specs.format.Scan.{any}
use Rattle.records.specs.format.File.{count, kind_of, row_of, column_of, count_of}
use Rattle.records.specs.format.Order.{numbers_matrix, matrix_of, stands_before, falls}
use Rattle.records.proofs.format.InOrder.{by_digits}
use Rattle.records_order.specs.joints.Keys.{key_of, least_key, falls_at}

-- ---- a pass over the records, with the key of the record at hand and the least that it may have
module _ (s : List ℕ) (i key least : ℕ) (k : key ≡ key_of s i) (l : least ≡ least_key s i) where
  pub fall-here : key < least → falls_at s i ≡ true
  unfolding falls_at
  fall-here h = rw (← k, ← l) (lt-ltb key least h)

  pub rise-here : least ≤ key → falls_at s i ≡ false
  unfolding falls_at
  rise-here h = rw (← k, ← l) (le-ltb key least h)

pub next-least : (s : List ℕ) (i key : ℕ) → key ≡ key_of s i → key + 1 ≡ least_key s (i + 1)
unfolding least_key
next-least s i key k = rw (add-one i, k)

-- ---- keys, of a list of bytes
module _ (s : List ℕ) (bytes : (i : ℕ) → byte s i < 256) where
  count-below : (i : ℕ) → count_of s i < 4294967296
  unfolding word
  count-below i = omega (arith, bytes (16 * i + 4), bytes (16 * i + 4 + 1), bytes (16 * i + 4 + 2), bytes (16 * i + 4 + 3))

  matrix-below : (i : ℕ) → matrix_of s i < 4294967296
  unfolding matrix_of
  matrix-below i = go (numbers_matrix (kind_of s i))
    where
      go : (b : Bool) → cond b (count_of s i) 0 < 4294967296
      go true = count-below i
      go false = omega arith

  -- THE ORDER IS THAT OF THE KEYS
  pub before-key : (i j : ℕ) → stands_before s i j ≡ ltb (key_of s i) (key_of s j)
  unfolding stands_before key_of
  before-key i j =
      rw (
        by_digits 256 (row_of s i) (row_of s j) (column_of s i) (column_of s j) (bytes (16 * i + 2)) (bytes (16 * j + 2)),
        by_digits 65536 (matrix_of s i) (matrix_of s j) (row_of s i * 256 + column_of s i) (row_of s j * 256 + column_of s j) (places i) (places j),
      )
      (by_digits 281474976710656 (kind_of s i) (kind_of s j) (matrix_of s i * 65536 + (row_of s i * 256 + column_of s i)) (matrix_of s j * 65536 + (row_of s j * 256 + column_of s j)) (below i) (below j))
    where
      places : (i : ℕ) → row_of s i * 256 + column_of s i < 65536
      places i = omega (arith, bytes (16 * i + 1), bytes (16 * i + 2))

      below : (i : ℕ) → matrix_of s i * 65536 + (row_of s i * 256 + column_of s i) < 281474976710656
      below i = omega (arith, matrix-below i, places i)

  -- record i + 1 does not stand after record i just where its key is below the least that it may have
  next-falls : (i : ℕ) → not (stands_before s i (i + 1)) ≡ falls_at s (i + 1)
  unfolding falls_at least_key
  next-falls i = rw (before-key i (i + 1), add-one) (go (dec_lt (key_of s i) (key_of s (suc i))))
    where
      go : Dec (key_of s i < key_of s (suc i)) → not (ltb (key_of s i) (key_of s (suc i))) ≡ ltb (key_of s (suc i)) (key_of s i + 1)
      go (yes h) = rw (lt-ltb (key_of s i) (key_of s (suc i)) h) (sym (le-ltb (key_of s (suc i)) (key_of s i + 1) (omega arith)))
      go (no h) = rw (le-ltb (key_of s i) (key_of s (suc i)) (omega arith)) (sym (lt-ltb (key_of s (suc i)) (key_of s i + 1) (omega arith)))

  -- the first record rises above nothing
  first-rises : falls_at s 0 ≡ false
  unfolding falls_at least_key
  first-rises = le-ltb (key_of s 0) 0 (omega arith)

  each-falls : (n : ℕ) → any n (λ i. not (stands_before s i (i + 1))) ≡ any (suc n) (falls_at s)
  unfolding any
  each-falls zero = sym first-rises
  each-falls (suc n) = ap₂ ◌||◌ (each-falls n) (next-falls n ∙ ap (falls_at s) (add-one n))

  -- A FILE FALLS WHERE A RECORD OF IT DOES
  pub falls-each : falls s ≡ any (count s) (falls_at s)
  unfolding falls any
  falls-each = go (count s)
    where
      go : (n : ℕ) → any (n - 1) (λ i. not (stands_before s i (i + 1))) ≡ any n (falls_at s)
      go zero = refl
      go (suc n) = let e : suc n - 1 ≡ n = omega arith in rw e (each-falls n)
