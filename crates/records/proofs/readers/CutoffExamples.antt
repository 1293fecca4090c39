-- Document 02, "Req 06": which tables the loader takes, by computation over the definitions. Each is the built-in table with one thing changed.
use Prim.Native.Nat.{ℕ, ◌+◌}
use mathlib.Core.Path.{◌≡◌, refl, ◌∙◌}
use mathlib.Core.Bool.{true, false, not, ◌||◌, cond}
use mathlib.Core.List.{List, [], ◌∷◌, ◌++◌}
use lib.Dec.{eqb}
use lib.IntN.{pos, negsuc}
use lib.ListN.{length, replicate, set, take, drop}
use lib.Ieee.{Float, fin, inf, nan, round, lt, to_bits, of_bits}
use Rattle.arithmetic.specs.Numbers.{plus_zero, one, is_finite}
use Rattle.arithmetic_cutoffs.specs.declared.Cutoffs.{Cutoffs}
use Rattle.arithmetic_cutoffs.specs.Cutoffs.{decimal, document_cutoffs}
use Rattle.algebra.specs.Jacobi.{two}
use Rattle.algebra.specs.Reasons.{first}
use Rattle.records.specs.format.Bytes.{word, long, bytes_of}
use Rattle.records.specs.format.Scan.{any}
use Rattle.records.specs.format.Written.{record_of, record_at, sequence}
use Rattle.records.specs.readers.CutoffTable.{floor_of, bad_cutoff, bad_table, table_reasons, cutoff_at, cutoff_bytes, built_in_table}
use Rattle.records.specs.calls.KenwardRogerCall.{returned}
use Rattle.records.specs.calls.Call.{call_returned, call_reasons}

-- the built-in table with another value in row i, and with another byte
abbrev with_value : ℕ → Float → List ℕ
with_value i x = sequence 9 (λ j. cond (eqb j i) (record_of 20 j 0 0 (to_bits lib.Ieee.binary64 x)) (record_at built_in_table j))

abbrev with_byte : ℕ → ℕ → List ℕ
with_byte i b = set built_in_table i b

-- 2 ^ -51 above 2, and the least number above 0
abbrev above_two : Float
above_two = fin false 2251799813685249 (negsuc 49)

abbrev smallest_number : Float
smallest_number = fin false 1 (negsuc 1073)

pub record Tables : Type 0 where
  -- the bytes of the built-in table: in each record kind 20 and its row, and the bits of 1e-15, 1e-10, 1e-10, 1e-12, 1e-2, 1e-10, 1e-8, 2^-100, 3000
  pub built_in : built_in_table
      ≡ record_of 20 0 0 0 0x3cd203af9ee75616
      ++ (record_of 20 1 0 0 0x3ddb7cdfd9d7bdbb
      ++ (record_of 20 2 0 0 0x3ddb7cdfd9d7bdbb
      ++ (record_of 20 3 0 0 0x3d719799812dea11
      ++ (record_of 20 4 0 0 0x3f847ae147ae147b
      ++ (record_of 20 5 0 0 0x3ddb7cdfd9d7bdbb
      ++ (record_of 20 6 0 0 0x3e45798ee2308c3a
      ++ (record_of 20 7 0 0 0x39b0000000000000
      ++ record_of 20 8 0 0 0x40a7700000000000)))))))
  -- "the last above 2": 2 is not, the next f64 number is; any other may be 2, or the least number above 0
  pub cap_two : bad_table (with_value 8 two) ≡ true
  pub cap_above_two : bad_table (with_value 8 above_two) ≡ false
  pub other_two : bad_table (with_value 0 two) ≡ false
  pub least_taken : bad_table (with_value 7 smallest_number) ≡ false
  -- "finite positive values": neither zero, nor one below it, nor an infinity, nor a NaN
  pub zero : bad_table (with_value 3 plus_zero) ≡ true
  pub minus_zero : bad_table (with_value 3 (fin true 0 (pos 0))) ≡ true
  pub negative : bad_table (with_value 5 (fin true 1 (pos 0))) ≡ true
  pub infinite : bad_table (with_value 8 (inf false)) ≡ true
  pub not_number : bad_table (with_value 6 nan) ≡ true
  -- "kind 20, row 0 to 8 .. in this order", nothing in the unused fields, nothing less and nothing more
  pub other_kind : bad_table (with_byte 0 21) ≡ true
  pub exchanged : bad_table (record_at built_in_table 1 ++ (record_at built_in_table 0 ++ drop 32 built_in_table)) ≡ true
  pub doubled : bad_table (record_at built_in_table 0 ++ (record_at built_in_table 0 ++ drop 32 built_in_table)) ≡ true
  pub column : bad_table (with_byte 18 1) ≡ true
  pub padding : bad_table (with_byte 19 1) ≡ true
  pub count : bad_table (with_byte 39 1) ≡ true
  pub empty : bad_table [] ≡ true
  pub shorter : bad_table (take 128 built_in_table) ≡ true
  pub longer : bad_table (built_in_table ++ record_of 20 9 0 0 0x3ff0000000000000) ≡ true
  -- "before the series is read": a table that is refused beside a file of one byte, which would be 2; and 1 comes before it
  pub before_series : returned 24 [] (0 ∷ []) (replicate 168 0) ≡ 14
  pub after_length : returned 24 [] (0 ∷ []) (replicate 167 0) ≡ 1

pub tables : Tables
unfolding call_returned call_reasons table_reasons first bad_table bad_cutoff any floor_of built_in_table cutoff_bytes cutoff_at sequence bytes_of word long document_cutoffs decimal round is_finite lt to_bits of_bits
tables =
    record {
      built_in = refl;
      cap_two = refl;
      cap_above_two = refl;
      other_two = refl;
      least_taken = refl;
      zero = refl;
      minus_zero = refl;
      negative = refl;
      infinite = refl;
      not_number = refl;
      other_kind = refl;
      exchanged = refl;
      doubled = refl;
      column = refl;
      padding = refl;
      count = refl;
      empty = refl;
      shorter = refl;
      longer = refl;
      before_series = refl;
      after_length = refl;
    }
