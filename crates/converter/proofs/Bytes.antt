-- The bytes of the converted file by their positions: what is kept, and what a rewritten record holds. For any change and any file, its length a multiple of 16 or not.
use Prim.Native.Nat.{ℕ, ◌+◌, ◌-◌, ◌*◌, ◌/◌, ◌%◌, ◌≤◌, ◌<◌}
use native.Mathlib.Omega.{arith}
use native.Mathlib.Decide.{dec_lt}
use mathlib.Core.Path.{◌≡◌, refl, sym, ap, ◌∙◌}
use mathlib.Core.Bool.{Bool, true, false, ◌&&◌}
use mathlib.Core.List.{List}
use lib.Dec.{T, leb, ltb, leb→le, le→leb, lt→ltb}
use lib.ListN.{length, length-replicate, replicate, get_or-eq_default}
use lib.Ieee.Bits.{is_true}
use Rattle.algebra.specs.Table.{row}
use Rattle.algebra.proofs.TableLaws.{row_at}
use Rattle.algebra.proofs.FoldLaws.{length-span}
use Rattle.records.specs.format.Bytes.{byte, bytes_of}
use Rattle.records.specs.format.File.{count, kind_of}
use Rattle.converter.specs.Converted.{Change, new_bits, new_byte, converted}

-- ---- the positions of record i
pub at_quotient : (i o : ℕ) → o < 16 → (16 * i + o) / 16 ≡ i
at_quotient i o h = omega arith

pub at_rest : (i o : ℕ) → o < 16 → (16 * i + o) % 16 ≡ o
at_rest i o h = omega arith

not-from : (o : ℕ) → o < 8 → leb 8 o ≡ false
not-from o h = go (leb 8 o) (leb→le 8 o)
  where
    go : (b : Bool) → (T b → 8 ≤ o) → b ≡ false
    go true f = let k : 8 ≤ o = f tt in absurd (omega arith)
    go false f = refl

and_none : (a b : Bool) → a ≡ false → (a && b) ≡ false
and_none a b h = rw h

and_last : (a b c : Bool) → c ≡ false → (a && (b && c)) ≡ false
and_last true true c h = h
and_last true false c h = refl
and_last false b c h = refl

module _ (g : Change) (s : List ℕ) where
  pub length-converted : length (converted g s) ≡ length s
  unfolding converted row
  length-converted = length-span 0 (length s) (new_byte g s) (replicate (length s) 0) ∙ length-replicate (length s) 0

  pub byte-converted : (p : ℕ) → p < length s → byte (converted g s) p ≡ new_byte g s p
  unfolding converted
  byte-converted p h = row_at 0 (length s) (length s) (new_byte g s) p 0 h (omega arith)

  -- past the end both files read 0
  byte_past : (p : ℕ) → length s ≤ p → byte (converted g s) p ≡ byte s p
  byte_past p h = get_or-eq_default (converted g s) 0 (rw length-converted h) ∙ sym (get_or-eq_default s 0 h)

  -- record i's byte o is rewritten
  abbrev Rewritten : ℕ → ℕ → Bool
  Rewritten i o = leb 8 o && (ltb i (count s) && g.rewrites (kind_of s i))

  new_byte-old : (i o : ℕ) → o < 16 → Rewritten i o ≡ false → new_byte g s (16 * i + o) ≡ byte s (16 * i + o)
  unfolding new_byte
  new_byte-old i o h e = rw (at_rest i o h, at_quotient i o h, e)

  new_byte-new : (i o : ℕ) → o < 16 → Rewritten i o ≡ true → new_byte g s (16 * i + o) ≡ byte (bytes_of 8 (new_bits g s i)) (o - 8)
  unfolding new_byte
  new_byte-new i o h e = rw (at_rest i o h, at_quotient i o h, e)

  -- the first eight bytes of every record stay
  pub new_byte-kept : (i o : ℕ) → o < 8 → new_byte g s (16 * i + o) ≡ byte s (16 * i + o)
  new_byte-kept i o h = new_byte-old i o (omega arith) (and_none (leb 8 o) (ltb i (count s) && g.rewrites (kind_of s i)) (not-from o h))

  -- and all bytes of a record whose kind is not rewritten
  pub new_byte-other : (i o : ℕ) → o < 16 → g.rewrites (kind_of s i) ≡ false → new_byte g s (16 * i + o) ≡ byte s (16 * i + o)
  new_byte-other i o h e = new_byte-old i o h (and_last (leb 8 o) (ltb i (count s)) (g.rewrites (kind_of s i)) e)

  byte-old : (p : ℕ) → new_byte g s p ≡ byte s p → byte (converted g s) p ≡ byte s p
  byte-old p e = go (dec_lt p (length s))
    where
      go : Dec (p < length s) → byte (converted g s) p ≡ byte s p
      go (yes l) = byte-converted p l ∙ e
      go (no l) = byte_past p (omega arith)

  pub byte-kept : (i o : ℕ) → o < 8 → byte (converted g s) (16 * i + o) ≡ byte s (16 * i + o)
  byte-kept i o h = byte-old (16 * i + o) (new_byte-kept i o h)

  pub byte-other : (i o : ℕ) → o < 16 → g.rewrites (kind_of s i) ≡ false → byte (converted g s) (16 * i + o) ≡ byte s (16 * i + o)
  byte-other i o h e = byte-old (16 * i + o) (new_byte-other i o h e)

  -- a rewritten record holds the new value's bytes
  pub byte-new : (i o : ℕ) → i < count s → g.rewrites (kind_of s i) ≡ true → o < 8 → byte (converted g s) (16 * i + 8 + o) ≡ byte (bytes_of 8 (new_bits g s i)) o
  byte-new i o l e h =
      let k : i * 16 + 16 ≤ length s = whole (length s) i l in
      let r : Rewritten i (8 + o) ≡ true = rw (is_true (leb 8 (8 + o)) (le→leb 8 (8 + o) (omega arith)), is_true (ltb i (count s)) (lt→ltb i (count s) l), e) in
      ap (byte (converted g s)) (place i o) ∙ byte-converted (16 * i + (8 + o)) (omega arith) ∙ new_byte-new i (8 + o) (omega arith) r ∙ ap (byte (bytes_of 8 (new_bits g s i))) (back o)
    where
      whole : (n i : ℕ) → i < n / 16 → i * 16 + 16 ≤ n
      whole n i h = omega arith

      place : (i o : ℕ) → 16 * i + 8 + o ≡ 16 * i + (8 + o)
      place i o = omega arith

      back : (o : ℕ) → 8 + o - 8 ≡ o
      back o = omega arith
