-- Document 01: "F, df and rank are its verdict, and a run's verdict is the verdicts of all its entries. Demand 3 compares the verdicts of whole inputs; the mark may change."
use Rattle.std.specs.Prelude.{ℕ, ◌<◌, ◌≡◌, List, map, get_or, Option, Float}
use Rattle.arithmetic.specs.Marks.{MarkBears}
use Rattle.tests.specs.declared.Entry.{Entry}
use Rattle.tests.specs.Answer.{no_entry}
use Rattle.tests.specs.declared.Run.{Run}

pub record Verdict : Type 0 where
  pub f : Option Float
  pub df : Option Float
  pub rank : ℕ

abbrev pub verdict : Entry → Verdict
verdict e = record { f = e.f; df = e.df; rank = e.rank }

unfoldable pub verdicts : Run → List Verdict
verdicts r = map verdict r.entries

-- every entry in use bears shifts up to 2 ^ t: those of p coefficients, and the contrast's where it has rows
pub record RunBears (t p rows : ℕ) (r : Run) : Type 0 where
  pub coefficient : (i : ℕ) → i < p → MarkBears t (get_or r.entries i no_entry).inside
  pub contrast : 0 < rows → MarkBears t (get_or r.entries 6 no_entry).inside

-- the second run is refused where the first is (a zero pivot), and all its verdicts are the first's
pub record RunSurvives (r r' : Run) : Type 0 where
  pub refusal : r'.refused ≡ r.refused
  pub same : verdicts r' ≡ verdicts r
