-- The laws of a lab's table (specs/readers/CutoffTable.antt): what an accepted one says record by record, and the built-in table, computed.
use Prim.Native.Nat.{ℕ, zero, suc, ◌<◌}
use mathlib.Core.Path.{◌≡◌, refl, ap, ◌∙◌}
use mathlib.Core.Bool.{true, false, not, ◌||◌, cond}
use mathlib.Core.List.{List}
use native.Mathlib.Omega.{arith}
use lib.Dec.{T, eqb}
use lib.ListN.{length}
use lib.Ieee.{binary64, fits, round, lt, to_bits, of_bits}
use lib.Ieee.Bits.{of_bits-fits}
use borrow.Author.Tests.{eqb-true, not-false}
use Rattle.arithmetic.specs.Numbers.{is_finite}
use Rattle.arithmetic_cutoffs.specs.declared.Cutoffs.{Cutoffs}
use Rattle.arithmetic_cutoffs.specs.Cutoffs.{decimal, document_cutoffs}
use Rattle.records.specs.format.Bytes.{word, long, bytes_of}
use Rattle.records.specs.format.Scan.{any}
use Rattle.records.specs.format.File.{kind_of, row_of, column_of, padding_of, count_of, value_of}
use Rattle.records.specs.format.Written.{sequence}
use Rattle.records.specs.readers.CutoffTable.{floor_of, bad_cutoff, bad_table, cutoffs_in, cutoff_at, cutoff_bytes, built_in_table}
use Rattle.algebra.specs.Reasons.{first}
use Rattle.records.specs.calls.Call.{Call, lengths_fit, call_returned}
use Rattle.records.proofs.format.ScanLaws.{or-false, any_none}
use Rattle.records.proofs.calls.CallLaws.{call-is}

-- ---- an accepted table: its length, and record i's fields and value
pub record CutoffIs (lab : List ℕ) (i : ℕ) : Type 0 where
  pub kind : kind_of lab i ≡ 20
  pub row : row_of lab i ≡ i
  pub column : column_of lab i ≡ 0
  pub padding : padding_of lab i ≡ 0
  pub number : count_of lab i ≡ 0
  pub finite : is_finite (value_of lab i) ≡ true
  pub above : lt (floor_of i) (value_of lab i) ≡ true

module _ (lab : List ℕ) (ok : bad_table lab ≡ false) where
  pub table-length : length lab ≡ 144
  unfolding bad_table
  table-length = eqb-true (length lab) 144 (not-false (eqb (length lab) 144) (or-false (not (eqb (length lab) 144)) (any 9 (bad_cutoff lab)) ok).0)

  pub cutoff-is : (i : ℕ) → i < 9 → CutoffIs lab i
  unfolding bad_table bad_cutoff
  cutoff-is i l =
      let a = any_none 9 (bad_cutoff lab) i l (or-false (not (eqb (length lab) 144)) (any 9 (bad_cutoff lab)) ok).1 in
      let g = or-false _ (not (lt (floor_of i) (value_of lab i))) a in
      let f = or-false _ (not (is_finite (value_of lab i))) g.0 in
      let e = or-false _ (not (eqb (count_of lab i) 0)) f.0 in
      let d = or-false _ (not (eqb (padding_of lab i) 0)) e.0 in
      let c = or-false _ (not (eqb (column_of lab i) 0)) d.0 in
      let b = or-false (not (eqb (kind_of lab i) 20)) (not (eqb (row_of lab i) i)) c.0 in
      record {
        kind = eqb-true (kind_of lab i) 20 (not-false (eqb (kind_of lab i) 20) b.0);
        row = eqb-true (row_of lab i) i (not-false (eqb (row_of lab i) i) b.1);
        column = eqb-true (column_of lab i) 0 (not-false (eqb (column_of lab i) 0) c.1);
        padding = eqb-true (padding_of lab i) 0 (not-false (eqb (padding_of lab i) 0) d.1);
        number = eqb-true (count_of lab i) 0 (not-false (eqb (count_of lab i) 0) e.1);
        finite = not-false (is_finite (value_of lab i)) f.1;
        above = not-false (lt (floor_of i) (value_of lab i)) g.1;
      }

-- the cutoffs in a table, accepted or not, are f64 numbers, read from bits
pub rotation-fits : (lab : List ℕ) → T (fits binary64 (cutoffs_in lab).rotation)
unfolding cutoffs_in
rotation-fits lab = of_bits-fits binary64 _

pub cap-fits : (lab : List ℕ) → T (fits binary64 (cutoffs_in lab).cap)
unfolding cutoffs_in
cap-fits lab = of_bits-fits binary64 _

-- ---- the built-in table, computed
pub built-in-accepted : bad_table built_in_table ≡ false
unfolding bad_table bad_cutoff any floor_of built_in_table cutoff_bytes cutoff_at sequence bytes_of word long document_cutoffs decimal round is_finite lt to_bits of_bits
built-in-accepted = refl

pub built-in-numbers : cutoffs_in built_in_table ≡ document_cutoffs
unfolding cutoffs_in built_in_table cutoff_bytes cutoff_at sequence bytes_of word long document_cutoffs decimal round to_bits of_bits
built-in-numbers = refl

-- so that a call with it is one with document 01's numbers
pub built-in-returned : (k : Call) (lent : List ℕ) → call_returned k built_in_table lent ≡ cond (lengths_fit k lent) (first (k.reasons document_cutoffs)) 1
built-in-returned k lent = call-is k built_in_table lent ∙ rw built-in-accepted (ap (λ (c : Cutoffs). cond (lengths_fit k lent) (first (k.reasons c)) 1) built-in-numbers)
