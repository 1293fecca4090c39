-- The fields of the converted file's records: kind, row, column, unused byte and count are the file's; the value bits too where the kind is not rewritten, and else the bits of the new value.
use Prim.Native.Nat.{ℕ, ◌+◌, ◌*◌, ◌^◌, ◌<◌}
use native.Mathlib.Omega.{arith}
use native.Mathlib.Nat.{add-zero}
use mathlib.Core.Path.{◌≡◌, sym, ap, ◌∙◌}
use mathlib.Core.Bool.{true, false}
use mathlib.Core.List.{List}
use lib.Dec.{lit<}
use lib.Ieee.{Float, binary64, of_bits}
use lib.Ieee.Bits.{of_bits-to_bits, to_bits-lt}
use Rattle.records.specs.format.Bytes.{byte, bytes_of}
use Rattle.records.specs.format.File.{count, kind_of, row_of, column_of, count_of, bits_of, first_value_of, value_of}
use Rattle.records.specs.format.Alike.{Alike, Stays}
use Rattle.converter.specs.Converted.{Change, rewritten, new_bits, converted}
use Rattle.records.proofs.format.WrittenLaws.{long-bytes, word_same, long_same}
use Rattle.converter.proofs.Bytes.{length-converted, byte-kept, byte-other, byte-new}
use Rattle.converter.proofs.Rewritten.{rewritten-fits}

module _ (g : Change) (s : List ℕ) where
  pub converted-alike : Alike s (converted g s)
  converted-alike =
      record {
        size = length-converted g s;
        kind = λ i. ap (byte (converted g s)) (sym (add-zero (16 * i))) ∙ byte-kept g s i 0 (lit< tt) ∙ ap (byte s) (add-zero (16 * i));
        place = λ i. byte-kept g s i 1 (lit< tt);
        column = λ i. byte-kept g s i 2 (lit< tt);
        padding = λ i. byte-kept g s i 3 (lit< tt);
        number = λ i. word_same s (converted g s) (16 * i + 4) (16 * i + 4) (λ o h. ap (byte (converted g s)) (on i o) ∙ byte-kept g s i (4 + o) (omega arith) ∙ ap (byte s) (sym (on i o)));
      }
    where
      on : (i o : ℕ) → 16 * i + 4 + o ≡ 16 * i + (4 + o)
      on i o = omega arith

  pub bits-other : (i : ℕ) → g.rewrites (kind_of s i) ≡ false → bits_of (converted g s) i ≡ bits_of s i
  bits-other i e = long_same s (converted g s) (16 * i + 8) (16 * i + 8) (λ o h. ap (byte (converted g s)) (on i o) ∙ byte-other g s i (8 + o) (omega arith) e ∙ ap (byte s) (sym (on i o)))
    where
      on : (i o : ℕ) → 16 * i + 8 + o ≡ 16 * i + (8 + o)
      on i o = omega arith

  -- the first of them too
  pub first-other : (i : ℕ) → g.rewrites (kind_of s i) ≡ false → first_value_of (converted g s) i ≡ first_value_of s i
  first-other i e = byte-other g s i 8 (lit< tt) e

  abbrev new_value : ℕ → Float
  new_value i = rewritten g (kind_of s i) (count_of s i) (row_of s i) (column_of s i) (value_of s i)

  new_bits-small : (i : ℕ) → new_bits g s i < 2 ^ 64
  unfolding new_bits
  new_bits-small i = to_bits-lt binary64 (new_value i) (rewritten-fits g (kind_of s i) (count_of s i) (row_of s i) (column_of s i) (value_of s i))

  pub bits-new : (i : ℕ) → i < count s → g.rewrites (kind_of s i) ≡ true → bits_of (converted g s) i ≡ new_bits g s i
  bits-new i l e = long_same (bytes_of 8 (new_bits g s i)) (converted g s) (16 * i + 8) 0 (λ o h. byte-new g s i o l e h ∙ ap (byte (bytes_of 8 (new_bits g s i))) (from_start o)) ∙ long-bytes (new_bits g s i) (new_bits-small i)
    where
      from_start : (o : ℕ) → o ≡ 0 + o
      from_start o = omega arith

  -- the value of a kind that is not rewritten stays; that of one that is becomes what the change makes of it
  pub value-other : (i : ℕ) → g.rewrites (kind_of s i) ≡ false → value_of (converted g s) i ≡ value_of s i
  value-other i e = ap (of_bits binary64) (bits-other i e)

  pub kept-stays : (k : ℕ) → g.rewrites k ≡ false → Stays s (converted g s) k
  kept-stays k e i q = value-other i (ap g.rewrites q ∙ e)

  pub value-new : (i : ℕ) → i < count s → g.rewrites (kind_of s i) ≡ true → value_of (converted g s) i ≡ rewritten g (kind_of s i) (count_of s i) (row_of s i) (column_of s i) (value_of s i)
  unfolding new_bits
  value-new i l e = ap (of_bits binary64) (bits-new i l e) ∙ of_bits-to_bits binary64 (new_value i) (rewritten-fits g (kind_of s i) (count_of s i) (row_of s i) (column_of s i) (value_of s i))
