-- Document 02, "Req 06": a lab's own small numbers. "A file of 16-byte records, kind 20, row 0 to 8, holds them in this order: a2 and d; V0 and V2; div; qρ−1; df near 2; IE eigenvalue; IE diagonal; rotation
-- factor; component cap." "2^-52 and the 1e-8 of `get_fstat_ddf` stay": they are no rows, and stand in tests/Basis and tests/PooledDf. lab is such a file, a list of bytes; its records are read as every file's are.
use Rattle.std.specs.Prelude.{ℕ, Bool, not, ◌||◌, cond, List, [], ◌∷◌, eqb, length, get_or, Float}
use Rattle.std.specs.Float.{nan, binary64}
use Rattle.std.specs.Float.Ieee.{to_bits, lt}
use Rattle.arithmetic.specs.Numbers.{plus_zero, is_finite}
use Rattle.arithmetic_cutoffs.specs.declared.Cutoffs.{Cutoffs}
use Rattle.arithmetic_cutoffs.specs.Cutoffs.{document_cutoffs}
use Rattle.algebra.specs.Jacobi.{two}
use Rattle.records.specs.format.Scan.{any}
use Rattle.records.specs.format.Written.{record_of, sequence}
use Rattle.records.specs.format.File.{kind_of, row_of, column_of, padding_of, count_of, value_of}
use Rattle.records.specs.format.KindNumbers.{kind_cutoff}

-- ---- the tables that are taken
-- "The loader takes nine finite positive values, the last above 2": what the value of row i has to exceed
unfoldable pub floor_of : ℕ → Float
floor_of i = cond (eqb i 8) two plus_zero

-- record i is not "kind 20", row i, its other fields 0, with such a value
unfoldable pub bad_cutoff : List ℕ → ℕ → Bool
bad_cutoff lab i =
    not (eqb (kind_of lab i) kind_cutoff)
    || not (eqb (row_of lab i) i)
    || not (eqb (column_of lab i) 0)
    || not (eqb (padding_of lab i) 0)
    || not (eqb (count_of lab i) 0)
    || not (is_finite (value_of lab i))
    || not (lt (floor_of i) (value_of lab i))

-- nine records of 16 bytes, each in its place
unfoldable pub bad_table : List ℕ → Bool
bad_table lab = not (eqb (length lab) 144) || any 9 (bad_cutoff lab)

-- "It refuses with 14 any other table, after 1 and before the series is read": a line of each call's list
unfoldable pub table_reasons : List ℕ → List (ℕ × Bool)
table_reasons lab = (14, bad_table lab) ∷ []

-- ---- what a table holds, and the table that holds given numbers
-- "in this order: a2 and d; V0 and V2; div; qρ−1; df near 2; IE eigenvalue; IE diagonal; rotation factor; component cap"
unfoldable pub cutoffs_in : List ℕ → Cutoffs
cutoffs_in lab = record {
  moment = value_of lab 0;
  leading = value_of lab 1;
  divisor = value_of lab 2;
  excess = value_of lab 3;
  near = value_of lab 4;
  eigenvalue = value_of lab 5;
  ridge = value_of lab 6;
  rotation = value_of lab 7;
  cap = value_of lab 8;
}

-- number i in the same order; and the file of nine records that holds them
unfoldable pub cutoff_at : Cutoffs → ℕ → Float
cutoff_at c i = get_or (c.moment ∷ c.leading ∷ c.divisor ∷ c.excess ∷ c.near ∷ c.eigenvalue ∷ c.ridge ∷ c.rotation ∷ c.cap ∷ []) i nan

unfoldable pub cutoff_bytes : Cutoffs → List ℕ
cutoff_bytes c = sequence 9 (λ i. record_of 20 i 0 0 (to_bits binary64 (cutoff_at c i)))

-- "The built-in table", which the calls without a table and the programs use: document 01's numbers
unfoldable pub built_in_table : List ℕ
built_in_table = cutoff_bytes document_cutoffs
