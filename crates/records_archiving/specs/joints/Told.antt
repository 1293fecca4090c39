-- Not needed to check document 01: names that join the code to its definitions.
-- What the writer gives, as the one number that its caller in C gets.
use Rattle.std.specs.Prelude.{ℕ, Result, Ok, Err}
use Rattle.records.specs.declared.refusal.Refusal.{Refusal}
use Rattle.records.specs.format.RefusalNumbers.{refusal_number}

-- the archive's length, or the number of what refuses it
abbrev pub archive_number : Result ℕ Refusal → ℕ
archive_number (Ok length) = length
archive_number (Err e) = refusal_number e
