-- Not needed to check document 01: names that join the code to its definitions.
-- A file that arrived in pieces, judged at the panel by what is kept of it.
use Rattle.std.specs.Prelude.{ℕ, ◌*◌, not, cond, List, [], ◌∷◌, eqb, take, replicate}
use Rattle.arithmetic_cutoffs.specs.declared.Cutoffs.{Cutoffs}
use Rattle.algebra.specs.Reasons.{first}
use Rattle.tests.specs.declared.Entry.{Entry}
use Rattle.tests.specs.Answer.{no_entry}
use Rattle.records.specs.calls.KenwardRogerCall.{number, entries}
use Rattle.records.specs.format.Kinds.{panel_limit}
use Rattle.records_pieces.specs.declared.Arrival.{Arrival}

-- the bytes that the programs keep of a file: room for every record within the panel's limits, and more
abbrev pub kept_length : ℕ
kept_length = 16384

-- the whole records that are kept
abbrev pub kept_file : Arrival → List ℕ → List ℕ
kept_file a kept = take (16 * a.records) kept

-- what refuses a file whatever is kept of it: bytes after its last whole record, records that do not rise, more records than are kept
unfoldable pub unkept_number : Arrival → ℕ
unkept_number a = first ((2, not (eqb a.part 0)) ∷ (12, a.fell) ∷ (2, a.longer) ∷ [])

unfoldable pub arrived_number : Cutoffs → Arrival → List ℕ → ℕ
arrived_number c a kept = cond (eqb (unkept_number a) 0) (number panel_limit c (kept_file a kept)) (unkept_number a)

unfoldable pub arrived_entries : Cutoffs → Arrival → List ℕ → List Entry
arrived_entries c a kept = cond (eqb (unkept_number a) 0) (entries panel_limit c (kept_file a kept)) (replicate 7 no_entry)
