-- Document 01, demand 3, the verdict survives a change of converter: what it says of the texts that the programs print. "F, df and rank are its verdict .. the mark may change", so that the text of
-- the converted file is the file's but for `inside` and `outside`: `pulltest`'s of a file, and `pullseason`'s of a season with a change of its own for each series.
use Rattle.std.specs.Prelude.{ℕ, ◌<◌, Bool, List, ◌++◌, ℤ, length, take}
use Rattle.arithmetic_cutoffs.specs.declared.Cutoffs.{Cutoffs}
use Rattle.records.specs.format.Kinds.{panel_limit}
use Rattle.records.specs.text.Text.{mark_text}
use Rattle.records.specs.text.Season.{series_in, series_lines, closed_text, season_text}
use Rattle.records.specs.promises.SeasonPrints.{series_at}
use Rattle.converter.specs.SeriesDemand.{SeriesBorne, SeriesWith}
use Rattle.converter.specs.SeasonDemand.{converted_season, season_change, SeriesNear, SeriesKept, TwentyKept}

-- two texts that are the same but for `inside` and `outside`, of which one ends the line of an entry: pieces one after another, each of which is the same in both, or in both the end of such a line
pub data SameButInside : List ℕ → List ℕ → Type 0 where
  as_it_was : (t : List ℕ) → SameButInside t t
  either_word : (a b : Bool) → SameButInside (mark_text a) (mark_text b)
  in_turn : {t t' u u' : List ℕ} → SameButInside t t' → SameButInside u u' → SameButInside (t ++ u) (t' ++ u')

-- so what `pulltest` prints of the file s, and what it prints of s'
abbrev pub SameLines : Cutoffs → List ℕ → List ℕ → Type 0
SameLines c s s' = SameButInside (series_lines c s) (series_lines c s')

-- THE THIRD DEMAND, in `pulltest`'s text, with any cutoffs: from one premise, what the marks bear; and for every file that is accepted with all entries inside, k and each m from -32 to 32
abbrev pub PrintedBorne : Type 0
PrintedBorne = (c : Cutoffs) → SeriesBorne (SameLines c) panel_limit c

abbrev pub PrintedDemand : Type 0
PrintedDemand = (c : Cutoffs) → SeriesWith (SameLines c) panel_limit c

-- in a season's text: each series that is accepted with all its entries inside, its own k and m from -32 to 32, has the same lines but for the marks, whatever the other series and their changes are
abbrev pub SeasonLines : Type 0
SeasonLines =
    (c : Cutoffs) (k : ℕ → ℤ) (m : ℕ → ℕ → ℤ) (s : List ℕ) (j : ℕ) → j < length (series_in s) → SeriesNear c k m s j
    → SameLines c (series_at s j) (series_at (converted_season (season_change k m) s) j)

-- all that a season prints of series j: its lines and its `worst` line, or its refusal
abbrev pub printed_at : Cutoffs → List ℕ → ℕ → List ℕ
printed_at c s j = closed_text c (take j (series_in s)) (series_at s j)

-- this is the same but for the marks where each of the latest twenty is such or keeps its bytes, whatever the other series and their changes are
abbrev pub SeriesPrinted : Type 0
SeriesPrinted =
    (c : Cutoffs) (k : ℕ → ℤ) (m : ℕ → ℕ → ℤ) (s : List ℕ) (j : ℕ) → j < length (series_in s) → TwentyKept c k m s j
    → SameButInside (printed_at c s j) (printed_at c (converted_season (season_change k m) s) j)

-- and THE WHOLE TEXT of the season is the same but for the marks, where each series is such or keeps its bytes: every line, refusal and `worst`; the bytes left over may change as they will
abbrev pub SeasonPrinted : Type 0
SeasonPrinted =
    (c : Cutoffs) (k : ℕ → ℤ) (m : ℕ → ℕ → ℤ) (s : List ℕ) → ((j : ℕ) → j < length (series_in s) → SeriesKept c k m s j)
    → SameButInside (season_text c s) (season_text c (converted_season (season_change k m) s))
