-- Document 02, "Req 06": what is promised of a lab's table, on the bytes of tables and files, for every limit of specimens and lent bytes. What refuses a table stands in the calls' lists (14).
use Rattle.std.specs.Prelude.{ℕ, ◌<◌, ◌≡◌, true, false, not, cond, List, ◌∷◌, T, eqb}
use Rattle.std.specs.Float.{binary64}
use Rattle.std.specs.Float.Ieee.{fits, lt}
use Rattle.arithmetic.specs.Numbers.{is_finite}
use Rattle.arithmetic_cutoffs.specs.declared.Cutoffs.{Cutoffs}
use Rattle.arithmetic_cutoffs.specs.Cutoffs.{document_cutoffs}
use Rattle.records.specs.format.Bytes.{byte}
use Rattle.records.specs.calls.Call.{Call, call_returned, call_written}
use Rattle.records.specs.before.Untabled.{untabled_returned, untabled_written}
use Rattle.records.specs.readers.CutoffTable.{floor_of, bad_table, cutoffs_in, cutoff_at, cutoff_bytes, built_in_table}

-- ---- "nine finite positive values, the last above 2": number i of c is one that the loader takes, as an f64 number
pub record LoaderTakes (c : Cutoffs) (i : ℕ) : Type 0 where
  pub number : T (fits binary64 (cutoff_at c i))
  pub finite : is_finite (cutoff_at c i) ≡ true
  pub above : lt (floor_of i) (cutoff_at c i) ≡ true

pub record CutoffTableKeeps : Type 0 where
  -- "The built-in table is one accepted table", with document 01's numbers
  pub built_in : bad_table built_in_table ≡ false
  pub built_in_numbers : cutoffs_in built_in_table ≡ document_cutoffs
  -- "and with it every old answer stands": what each call returns, and the lent bytes
  pub same_number : (k : Call) (lent : List ℕ) → call_returned k built_in_table lent ≡ untabled_returned k document_cutoffs lent
  pub same_bytes : (k : Call) (lent : List ℕ) → call_written k built_in_table lent ≡ untabled_written k document_cutoffs lent
  -- "The loader takes nine finite positive values, the last above 2": any such nine, and their table holds them
  pub every_choice : (c : Cutoffs) → ((i : ℕ) → i < 9 → LoaderTakes c i) → (bad_table (cutoff_bytes c) ≡ false) × (cutoffs_in (cutoff_bytes c) ≡ c)
  -- and no others: an accepted table of bytes is the table of nine such numbers
  pub only_table : (lab : List ℕ) → ((i : ℕ) → byte lab i < 256) → bad_table lab ≡ false → (cutoff_bytes (cutoffs_in lab) ≡ lab) × ((i : ℕ) → i < 9 → LoaderTakes (cutoffs_in lab) i)
