-- Document 01: "F, df and rank are its verdict .. the mark may change." In answer bytes an entry is "F bits, df bits (none: 0), then bytes rank, F given, df given, inside, four zeros", 24
-- in all, so that its byte 19 is the mark and each other byte belongs to the verdict.
use Rattle.std.specs.Prelude.{ℕ, ◌%◌, ◌≡◌, ◌≢◌, List, length}
use Rattle.records.specs.format.Bytes.{byte}

-- as many bytes, and every byte the same but byte 19 of each entry
pub record SameButMarks (t t' : List ℕ) : Type 0 where
  pub long : length t' ≡ length t
  pub bytes : (i : ℕ) → i % 24 ≢ 19 → byte t' i ≡ byte t i

-- a call answers for one file as for another, whatever bytes of the stated length were lent: for the second it returns 0, and what it writes has every byte but the marks of what it
-- writes for the first
pub record SameAnswer (stated : ℕ) (written : List ℕ → List ℕ) (returned' : List ℕ → ℕ) (written' : List ℕ → List ℕ) : Type 0 where
  pub returns : (answer : List ℕ) → length answer ≡ stated → returned' answer ≡ 0
  pub writes : (answer : List ℕ) → length answer ≡ stated → SameButMarks (written answer) (written' answer)
