-- Document 02, "Req 07": what is promised of a season's text and of the worst of twenty. Statements alone, for any cutoffs; that of a changed converter is `converter/specs/SeasonDemand`.
use Rattle.std.specs.Prelude.{ℕ, ◌+◌, ◌%◌, ◌<◌, ◌≡◌, false, cond, List, [], ◌∷◌, ◌++◌, eqb, length, get_or, take, replicate, Option, Some, None, Float}
use Rattle.std.specs.Float.Ieee.{lt, eq, is_nan}
use Rattle.arithmetic_cutoffs.specs.declared.Cutoffs.{Cutoffs}
use Rattle.records.specs.format.Scan.{any}
use Rattle.records.specs.format.File.{count}
use Rattle.records.specs.calls.KenwardRogerCall.{number}
use Rattle.records.specs.text.Season.{closes, series_in, left_over, worst, latest, series_lines, contrast_f, fs_of, worst_line, texts_to, closed_texts, left_text, season_text, printed, added}

-- ---- a season as it is sent: each series with the record that closes it, then the bytes left
abbrev pub closing_record : List ℕ
closing_record = 21 ∷ replicate 15 0

unfoldable pub season_bytes : List (List ℕ) → List ℕ → List ℕ
season_bytes [] left = left
season_bytes (t ∷ ts) left = t ++ (closing_record ++ season_bytes ts left)

-- none of the records of t closes
abbrev pub Unclosed : List ℕ → Type 0
Unclosed t = any (count t) (closes t) ≡ false

-- whole records, none of which closes
pub record OneSeries (t : List ℕ) : Type 0 where
  pub whole : length t % 16 ≡ 0
  pub unclosed : Unclosed t

abbrev pub AllSeries : List (List ℕ) → Type 0
AllSeries ts = (i : ℕ) → i < length ts → OneSeries (get_or ts i [])

-- EVERY FILE IS ONE SEASON: of its own series and bytes left, and of no others
pub record SeasonParted : Type 0 where
  pub joined : (s : List ℕ) → season_bytes (series_in s) (left_over s) ≡ s
  pub series : (s : List ℕ) → AllSeries (series_in s)
  pub left : (s : List ℕ) → Unclosed (left_over s)
  pub same_series : (ts : List (List ℕ)) (left : List ℕ) → AllSeries ts → Unclosed left → series_in (season_bytes ts left) ≡ ts
  pub same_left : (ts : List (List ℕ)) (left : List ℕ) → AllSeries ts → Unclosed left → left_over (season_bytes ts left) ≡ left

-- ---- the worst of F's
-- it is one of the F's; "the largest": none is larger; "earliest on ties": none before it is equal
pub record LargestIn (fs : List (Option Float)) (x : Float) : Type 0 where
  pub place : ℕ
  pub there : get_or fs place None ≡ Some x
  pub largest : (j : ℕ) (y : Float) → get_or fs j None ≡ Some y → lt x y ≡ false
  pub earliest : (j : ℕ) (y : Float) → j < place → get_or fs j None ≡ Some y → eq y x ≡ false

pub record WorstOf (fs : List (Option Float)) : Type 0 where
  pub given : (x : Float) → worst fs ≡ Some x → LargestIn fs x
  -- "or `none`": where no F is given
  pub none : worst fs ≡ None → (i : ℕ) → get_or fs i None ≡ None

-- ---- what is printed
-- series i of a season, and the latest twenty with it
abbrev pub series_at : List ℕ → ℕ → List ℕ
series_at s i = get_or (series_in s) i []

abbrev pub latest_at : List ℕ → ℕ → List (List ℕ)
latest_at s i = latest (take (i + 1) (series_in s))

-- the `worst` line of series i, where it is accepted
abbrev pub worst_at : Cutoffs → List ℕ → ℕ → List ℕ
worst_at c s i = cond (eqb (number 24 c (series_at s i)) 0) (worst_line c (take (i + 1) (series_in s))) []

-- the file s prints these lines and this `worst` line for series i: after what it prints of the series before, and before all else
pub record PrintsFor (c : Cutoffs) (s : List ℕ) (i : ℕ) (lines worstPart : List ℕ) : Type 0 where
  pub rest : List ℕ
  pub text : season_text c s ≡ texts_to c (series_in s) i ++ (lines ++ (worstPart ++ rest))

pub record SeasonPrints (c : Cutoffs) : Type 0 where
  -- the series' texts one after another with their `worst` lines, then the refusal where bytes are left
  pub text : (ts : List (List ℕ)) (left : List ℕ) → AllSeries ts → Unclosed left → season_text c (season_bytes ts left) ≡ closed_texts c ts ++ left_text left
  pub each : (s : List ℕ) (i : ℕ) → i < length (series_in s) → PrintsFor c s i (series_lines c (series_at s i)) (worst_at c s i)
  -- "Two files alike in a series print the same lines for it"
  pub alike_series : (s s' : List ℕ) (i j : ℕ) → i < length (series_in s) → j < length (series_in s') → series_at s i ≡ series_at s' j
      → PrintsFor c s' j (series_lines c (series_at s i)) (worst_at c s' j)
  -- "and two alike in the twenty print the same `worst`"
  pub alike_twenty : (s s' : List ℕ) (i j : ℕ) → i < length (series_in s) → j < length (series_in s') → latest_at s i ≡ latest_at s' j
      → PrintsFor c s' j (series_lines c (series_at s i)) (worst_at c s i)
  -- the worst that is printed is one of the F's of the latest twenty, none of them is larger, and none before it is equal
  pub worst_is : (ts : List (List ℕ)) → WorstOf (latest (fs_of c ts))
  -- "an empty file prints nothing"
  pub empty : season_text c [] ≡ []
  -- "A refused series .. counts among the twenty, and gives no F"
  pub places : (ts : List (List ℕ)) → length (fs_of c ts) ≡ length ts
  pub refused : (t : List ℕ) → (number 24 c t ≡ 0 → ⊥) → contrast_f c t ≡ None
  -- document 01, "Every F and df is a number, or none where the Rust has NaN": an F among the twenty is no NaN, which no order has a place for
  pub numbers : (t : List ℕ) (x : Float) → contrast_f c t ≡ Some x → is_nan x ≡ false
  -- what is printed of a series stands there as soon as it is closed: bytes that come later add to the text, and take nothing back
  pub grows : (s t : List ℕ) → printed c (s ++ t) ≡ printed c s ++ added c s t
