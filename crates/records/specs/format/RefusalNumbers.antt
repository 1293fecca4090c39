-- Document 01, "Refusals, lowest number first", and document 02: the numbers of the refusals, by what is wrong. "Each returns its number (accepted: 0)".
use Rattle.std.specs.Prelude.{ℕ, Result, Ok, Err}
use Rattle.records.specs.declared.refusal.Refusal.{Refusal}
use Rattle.records.specs.declared.refusal.Refusal.TheVariants.{LentLength, Form, Size, NotFinite, Variance, Weight, Misfit, ZeroContrast, NotDefinite, ZeroPivot, Eigenvalue, Order, BlockCount, CutoffTable}

abbrev pub refusal_number : Refusal → ℕ
-- "lent length is not the stated one"
refusal_number LentLength = 1
-- "length not a multiple of 16, bad kind, nonzero unused field, index past a limit, cell twice, missing or beyond the sizes"
refusal_number Form = 2
-- "a size outside its limits"; "a series with all weights zero"
refusal_number Size = 3
-- "an input not finite; or .. any number of its output"
refusal_number NotFinite = 4
-- "sigma2 ≤ 0"
refusal_number Variance = 5
-- "only a negative weight"
refusal_number Weight = 6
-- "sum of m·k ≠ Z columns, or theta count ≠ sum of k(k+1)/2"
refusal_number Misfit = 7
-- "Kenward–Roger contrast all zero"
refusal_number ZeroContrast = 8
-- "Cholesky diagonal not > 0"
refusal_number NotDefinite = 9
-- "zero pivot"
refusal_number ZeroPivot = 10
-- "several-row V has an eigenvalue not finite or ≤ 0"
refusal_number Eigenvalue = 11
-- "a file whose neighbouring records don't rise"
refusal_number Order = 12
-- "a block whose written number differs from k(k+1)/2"
refusal_number BlockCount = 13
-- "any other table"
refusal_number CutoffTable = 14

-- the number of a result: 0 where it is Ok
abbrev pub result_number : {A : Type 0} → Result A Refusal → ℕ
result_number (Ok _) = 0
result_number (Err e) = refusal_number e
