-- Document 02, "Req 07": "A converter changed halfway through the season leaves each inside series' verdict as before." Demand 3 over the bytes of a season's file, with a change of its own for each series.
use Rattle.std.specs.Prelude.{ℕ, ◌+◌, ◌/◌, ◌<◌, ◌≤◌, ◌≡◌, ◌⊎◌, List, ℤ, nat_abs, length, take}
use Rattle.arithmetic_cutoffs.specs.declared.Cutoffs.{Cutoffs}
use Rattle.algebra.specs.Table.{row}
use Rattle.records.specs.readers.Series.{contrast_rows}
use Rattle.records.specs.calls.KenwardRogerCall.{number}
use Rattle.records.specs.text.Season.{closes, series_to, series_in, left_over, worst_line, latest_count}
use Rattle.records.specs.promises.SeasonPrints.{series_at}
use Rattle.converter.specs.Converted.{Change, kenward_roger_change, new_byte, converted}
use Rattle.converter.specs.SeriesDemand.{AllInside, SameVerdicts}

-- the series of record i, by its number: how many are closed before it
abbrev pub series_number : List ℕ → ℕ → ℕ
series_number s i = length (series_to s i)

-- the season's file where series j was measured with the converter of the change g j: each record's value as its own series' change makes it, all other bytes as they were; bytes after the last record that closes belong to one
-- series more
unfoldable pub converted_season : (ℕ → Change) → List ℕ → List ℕ
converted_season g s = row 0 (length s) (length s) (λ p. new_byte (g (series_number s (p / 16))) s p)

-- the change of series j by 2 ^ (k j), and of row r of its contrast by 2 ^ (m j r)
abbrev pub season_change : (ℕ → ℤ) → (ℕ → ℕ → ℤ) → ℕ → Change
season_change k m j = kenward_roger_change (k j) (m j)

-- what a season s' has of a season s, whatever the changes are: the records that close still close and no others do, there are as many series and as many bytes left, and series j is what its own change makes of series j
pub record SeasonConverted (g : ℕ → Change) (s s' : List ℕ) : Type 0 where
  pub closing : (i : ℕ) → closes s' i ≡ closes s i
  pub many : length (series_in s') ≡ length (series_in s)
  pub left : length (left_over s') ≡ length (left_over s)
  pub series : (j : ℕ) → j < length (series_in s) → series_at s' j ≡ converted (g j) (series_at s j)

abbrev pub SeasonConverts : Type 0
SeasonConverts = (k : ℕ → ℤ) (m : ℕ → ℕ → ℤ) (s : List ℕ) → SeasonConverted (season_change k m) s (converted_season (season_change k m) s)

-- THE THIRD DEMAND, of a season: each series that is accepted with all its entries inside has the same verdicts, with k and each m of its own change from -32 to 32, whatever the other series and their changes are; with any cutoffs
abbrev pub SeasonDemand : Type 0
SeasonDemand =
    (c : Cutoffs) (k : ℕ → ℤ) (m : ℕ → ℕ → ℤ) (s : List ℕ) (j : ℕ) → j < length (series_in s) → nat_abs (k j) ≤ 32 → ((r : ℕ) → r < contrast_rows (series_at s j) → nat_abs (m j r) ≤ 32)
    → number 24 c (series_at s j) ≡ 0 → AllInside 24 c (series_at s j) → SameVerdicts 24 c (series_at s j) (series_at (converted_season (season_change k m) s) j)

-- series i is accepted with all its entries inside, and k and each m of its own change are from -32 to 32
pub record SeriesNear (c : Cutoffs) (k : ℕ → ℤ) (m : ℕ → ℕ → ℤ) (s : List ℕ) (i : ℕ) : Type 0 where
  pub near : nat_abs (k i) ≤ 32
  pub nears : (r : ℕ) → r < contrast_rows (series_at s i) → nat_abs (m i r) ≤ 32
  pub accepted : number 24 c (series_at s i) ≡ 0
  pub inside : AllInside 24 c (series_at s i)

-- or else its bytes do not change, whether it is inside, outside or refused
abbrev pub SeriesKept : Cutoffs → (ℕ → ℤ) → (ℕ → ℕ → ℤ) → List ℕ → ℕ → Type 0
SeriesKept c k m s i = SeriesNear c k m s i ⊎ (series_at (converted_season (season_change k m) s) i ≡ series_at s i)

-- one or the other holds of each of the latest twenty, series j included
abbrev pub TwentyKept : Cutoffs → (ℕ → ℤ) → (ℕ → ℕ → ℤ) → List ℕ → ℕ → Type 0
TwentyKept c k m s j = (i : ℕ) → i ≤ j → j < i + latest_count → SeriesKept c k m s i

-- and the `worst` line of series j stays, where this holds of all of the latest twenty, whatever the series before them and after series j are
abbrev pub SeasonWorst : Type 0
SeasonWorst =
    (c : Cutoffs) (k : ℕ → ℤ) (m : ℕ → ℕ → ℤ) (s : List ℕ) (j : ℕ) → j < length (series_in s) → ((i : ℕ) → i ≤ j → j < i + latest_count → SeriesNear c k m s i)
    → worst_line c (take (j + 1) (series_in (converted_season (season_change k m) s))) ≡ worst_line c (take (j + 1) (series_in s))

-- and where each of the latest twenty is near or keeps its bytes
abbrev pub WorstKept : Type 0
WorstKept =
    (c : Cutoffs) (k : ℕ → ℤ) (m : ℕ → ℕ → ℤ) (s : List ℕ) (j : ℕ) → j < length (series_in s) → TwentyKept c k m s j
    → worst_line c (take (j + 1) (series_in (converted_season (season_change k m) s))) ≡ worst_line c (take (j + 1) (series_in s))
