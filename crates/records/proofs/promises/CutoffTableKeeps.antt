-- What is promised of a lab's table (specs/promises/CutoffTableKeeps.antt) holds: with the built-in one each list is the old one, nine numbers that the loader takes are read back from their table, and an accepted table is
-- the table of the numbers that it holds.
use Prim.Native.Nat.{ℕ, zero, suc, ◌+◌, ◌*◌, ◌/◌, ◌%◌, ◌<◌}
use mathlib.Core.Path.{◌≡◌, refl, ap, sym, ◌∙◌}
use mathlib.Core.Bool.{true, false, not, cond}
use mathlib.Core.List.{List}
use native.Mathlib.Omega.{arith}
use lib.Dec.{eqb}
use lib.ListN.{length}
use lib.Seq.{ext_get_or}
use lib.Ieee.{binary64, to_bits, of_bits, lt}
use lib.Ieee.Bits.{of_bits-to_bits, to_bits-of_bits, to_bits-lt, of_bits-fits}
use borrow.Author.Tests.{eq-eqb}
use Rattle.arithmetic.specs.Numbers.{is_finite}
use Rattle.arithmetic_cutoffs.specs.declared.Cutoffs.{Cutoffs}
use Rattle.arithmetic_cutoffs.specs.Cutoffs.{document_cutoffs}
use Rattle.algebra.specs.Reasons.{first}
use Rattle.records.specs.format.Bytes.{byte, bytes_of}
use Rattle.records.specs.format.Scan.{any}
use Rattle.records.specs.format.File.{kind_of, row_of, column_of, padding_of, count_of, bits_of, value_of}
use Rattle.records.specs.format.Written.{record_of, sequence}
use Rattle.records.specs.readers.CutoffTable.{floor_of, bad_cutoff, bad_table, table_reasons, cutoffs_in, cutoff_at, cutoff_bytes, built_in_table}
use Rattle.records.specs.calls.Call.{Call, call_returned, call_written}
use Rattle.records.specs.before.Untabled.{untabled_returned, untabled_written}
use Rattle.records.specs.promises.CutoffTableKeeps.{LoaderTakes, CutoffTableKeeps}
use Rattle.records.proofs.before.UntabledLaws.{untabled-returned, untabled-written}
use Rattle.records.proofs.format.ScanLaws.{none_any}
use Rattle.records.proofs.format.WrittenLaws.{RecordIs, record_is, sequence-length-of, byte-sequence-of}
use Rattle.records.proofs.format.Canonical.{record-back}
use Rattle.records.proofs.promises.ArchiveAgain.{finite_number, long-below}
use Rattle.records.proofs.readers.CutoffLaws.{table-length, cutoff-is, built-in-accepted, built-in-numbers}

-- ---- "with it every old answer stands"
returned-kept : (k : Call) (lent : List ℕ) → call_returned k built_in_table lent ≡ untabled_returned k document_cutoffs lent
returned-kept k lent = untabled-returned k built_in_table lent built-in-accepted ∙ rw built-in-numbers

written-kept : (k : Call) (lent : List ℕ) → call_written k built_in_table lent ≡ untabled_written k document_cutoffs lent
written-kept k lent = untabled-written k built_in_table lent built-in-accepted ∙ rw built-in-numbers

-- ---- the table of nine numbers
module _ (c : Cutoffs) where
  -- record i of it, and its sixteen bytes
  abbrev row_bytes : ℕ → List ℕ
  row_bytes i = record_of 20 i 0 0 (to_bits binary64 (cutoff_at c i))

  sixteen : (i : ℕ) → length (row_bytes i) ≡ 16
  unfolding bytes_of
  sixteen i = refl

  table-long : length (cutoff_bytes c) ≡ 144
  unfolding cutoff_bytes
  table-long = sequence-length-of 16 9 row_bytes (λ i l. sixteen i)

  table-byte : (i o : ℕ) → i < 9 → o < 16 → byte (cutoff_bytes c) (16 * i + o) ≡ byte (row_bytes i) o
  unfolding cutoff_bytes
  table-byte i o l m =
      let e : 16 * i + o ≡ i * 16 + o = omega arith in
      ap (byte (sequence 9 row_bytes)) e ∙ byte-sequence-of 16 9 row_bytes (λ j q. sixteen j) i o l m

  -- what is read from it
  module _ (i : ℕ) (l : i < 9) (takes : LoaderTakes c i) where
    table-record : RecordIs (cutoff_bytes c) i 20 i 0 0 (to_bits binary64 (cutoff_at c i))
    table-record = record_is (cutoff_bytes c) i 20 i 0 0 (to_bits binary64 (cutoff_at c i)) (λ o m. table-byte i o l m) (omega arith) (to_bits-lt binary64 (cutoff_at c i) takes.number)

    table-value : value_of (cutoff_bytes c) i ≡ cutoff_at c i
    table-value = ap (of_bits binary64) table-record.bits ∙ of_bits-to_bits binary64 (cutoff_at c i) takes.number

    table-good : bad_cutoff (cutoff_bytes c) i ≡ false
    unfolding bad_cutoff
    table-good =
        let r = table-record in
        rw (r.kind, r.row, r.column, r.padding, r.number, table-value, takes.finite, takes.above, eq-eqb i i refl)

  module _ (takes : (i : ℕ) → i < 9 → LoaderTakes c i) where
    every-accepted : bad_table (cutoff_bytes c) ≡ false
    unfolding bad_table
    every-accepted = rw (table-long) (none_any 9 (bad_cutoff (cutoff_bytes c)) (λ i l. table-good i l (takes i l)))

    every-read : cutoffs_in (cutoff_bytes c) ≡ c
    unfolding cutoffs_in cutoff_at
    every-read =
        λ k. record {
          moment = table-value 0 (omega arith) (takes 0 (omega arith)) k;
          leading = table-value 1 (omega arith) (takes 1 (omega arith)) k;
          divisor = table-value 2 (omega arith) (takes 2 (omega arith)) k;
          excess = table-value 3 (omega arith) (takes 3 (omega arith)) k;
          near = table-value 4 (omega arith) (takes 4 (omega arith)) k;
          eigenvalue = table-value 5 (omega arith) (takes 5 (omega arith)) k;
          ridge = table-value 6 (omega arith) (takes 6 (omega arith)) k;
          rotation = table-value 7 (omega arith) (takes 7 (omega arith)) k;
          cap = table-value 8 (omega arith) (takes 8 (omega arith)) k;
        }

-- ---- an accepted table of bytes
-- the number at each of the nine places is the record's
cutoff-at : (lab : List ℕ) (i : ℕ) → i < 9 → cutoff_at (cutoffs_in lab) i ≡ value_of lab i
unfolding cutoff_at cutoffs_in
cutoff-at lab zero l = refl
cutoff-at lab (suc zero) l = refl
cutoff-at lab (suc (suc zero)) l = refl
cutoff-at lab (suc (suc (suc zero))) l = refl
cutoff-at lab (suc (suc (suc (suc zero)))) l = refl
cutoff-at lab (suc (suc (suc (suc (suc zero))))) l = refl
cutoff-at lab (suc (suc (suc (suc (suc (suc zero)))))) l = refl
cutoff-at lab (suc (suc (suc (suc (suc (suc (suc zero))))))) l = refl
cutoff-at lab (suc (suc (suc (suc (suc (suc (suc (suc zero)))))))) l = refl
cutoff-at lab (suc (suc (suc (suc (suc (suc (suc (suc (suc i))))))))) l = absurd (omega arith)

module _ (lab : List ℕ) (bytes : (i : ℕ) → byte lab i < 256) (ok : bad_table lab ≡ false) where
  only-taken : (i : ℕ) → i < 9 → LoaderTakes (cutoffs_in lab) i
  only-taken i l =
      let a = cutoff-is lab ok i l in
      record { number = rw (cutoff-at lab i l) (of_bits-fits binary64 (bits_of lab i)); finite = rw (cutoff-at lab i l) a.finite; above = rw (cutoff-at lab i l) a.above }

  -- the record of its fields is the record itself
  only-bits : (i : ℕ) → i < 9 → to_bits binary64 (cutoff_at (cutoffs_in lab) i) ≡ bits_of lab i
  only-bits i l = ap (to_bits binary64) (cutoff-at lab i l) ∙ to_bits-of_bits binary64 (bits_of lab i) (long-below lab (16 * i + 8) bytes) (finite_number (value_of lab i) (cutoff-is lab ok i l).finite)

  only-byte : (i o : ℕ) → i < 9 → o < 16 → byte (cutoff_bytes (cutoffs_in lab)) (16 * i + o) ≡ byte lab (16 * i + o)
  only-byte i o l m =
      let a = cutoff-is lab ok i l in
      table-byte (cutoffs_in lab) i o l m
      ∙ ap (λ (b : ℕ). byte (record_of 20 i 0 0 b) o) (only-bits i l)
      ∙ ap (λ (k : ℕ). byte (record_of k i 0 0 (bits_of lab i)) o) (sym a.kind)
      ∙ ap (λ (r : ℕ). byte (record_of (kind_of lab i) r 0 0 (bits_of lab i)) o) (sym a.row)
      ∙ ap (λ (d : ℕ). byte (record_of (kind_of lab i) (row_of lab i) d 0 (bits_of lab i)) o) (sym a.column)
      ∙ ap (λ (n : ℕ). byte (record_of (kind_of lab i) (row_of lab i) (column_of lab i) n (bits_of lab i)) o) (sym a.number)
      ∙ record-back lab bytes i o a.padding m

  only-table : cutoff_bytes (cutoffs_in lab) ≡ lab
  only-table =
      let a = table-long (cutoffs_in lab) in
      let b = table-length lab ok in
      ext_get_or 0 (cutoff_bytes (cutoffs_in lab)) lab (a ∙ sym b)
      (λ j l. let q : 16 * (j / 16) + j % 16 ≡ j = omega arith in
      ap (byte (cutoff_bytes (cutoffs_in lab))) (sym q) ∙ only-byte (j / 16) (j % 16) (omega arith) (omega arith) ∙ ap (byte lab) q)

-- WHAT IS PROMISED OF A LAB'S TABLE
pub cutoff-table-keeps : CutoffTableKeeps
cutoff-table-keeps =
    record {
      built_in = built-in-accepted;
      built_in_numbers = built-in-numbers;
      same_number = returned-kept;
      same_bytes = written-kept;
      every_choice = λ c takes. (every-accepted c takes, every-read c takes);
      only_table = λ lab bytes ok. (only-table lab bytes ok, only-taken lab bytes ok);
    }
