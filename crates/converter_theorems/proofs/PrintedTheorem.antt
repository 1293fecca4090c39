-- THE THIRD DEMAND, in what the programs print: `pulltest`'s text of a file and the whole text of a season survive a change of converter, but for `inside` and `outside`.
use Prim.Native.Nat.{ℕ, zero, suc, ◌+◌, ◌≤◌, ◌<◌}
use native.Mathlib.Omega.{arith}
use mathlib.Core.Path.{◌≡◌, sym, ap, ◌∙◌, subst}
use mathlib.Core.Bool.{cond}
use mathlib.Core.Logic.{⊎_elim}
use mathlib.Core.List.{List, [], ◌∷◌, ◌++◌}
use lib.Dec.{eqb}
use lib.IntN.{ℤ}
use lib.ListN.{length, get_or, take}
use lib.Seq.{take-suc}
use Rattle.arithmetic_cutoffs.specs.declared.Cutoffs.{Cutoffs}
use Rattle.records.specs.text.Season.{series_in, left_over, series_lines, worst_line, closed_text, texts_to, closed_texts, left_text, season_text}
use Rattle.records.specs.promises.SeasonPrints.{series_at}
use Rattle.converter.specs.Converted.{kenward_roger_change, converted}
use Rattle.converter.specs.SeasonDemand.{converted_season, season_change, SeriesKept, TwentyKept}
use Rattle.converter.specs.PrintedDemand.{SameButInside, as_it_was, in_turn, SameLines, printed_at, PrintedBorne, PrintedDemand, SeasonLines, SeriesPrinted, SeasonPrinted}
use Rattle.converter.proofs.Season.{season-converts}
use Rattle.converter.proofs.PrintedLaws.{printed-same}
use Rattle.converter_theorems.proofs.Theorems.{borne-kenward-roger, within-kenward-roger}
use Rattle.converter_theorems.proofs.SeasonTheorem.{near-verdicts, number-stands, season-worst-kept}

-- ---- `pulltest`: any cutoffs, and every file that the call accepts with marks that bear t, with every change that t covers; or with all entries inside, k and each m r from -32 to 32. It prints of
-- the converted file what it prints of the file, but for the last word of each line.
pub printed-borne : PrintedBorne
printed-borne c t s k m near nears e bears = printed-same c s (converted (kenward_roger_change k m) s) e (borne-kenward-roger 24 c t s k m near nears e bears)

pub printed-pulltest : PrintedDemand
printed-pulltest c s k m near nears e inside = printed-same c s (converted (kenward_roger_change k m) s) e (within-kenward-roger 24 c s k m near nears e inside)

-- ---- `pullseason`: the lines of one series
pub printed-lines : SeasonLines
printed-lines c k m s j h n = printed-same c (series_at s j) (series_at (converted_season (season_change k m) s) j) n.accepted (near-verdicts c k m s j h n)

-- a series and those before it are the first j + 1
up_to : (ts : List (List ℕ)) (j : ℕ) → j < length ts → take (j + 1) ts ≡ take j ts ++ (get_or ts j [] ∷ [])
up_to ts j h = let e : j + 1 ≡ suc j = omega arith in ap (λ (n : ℕ). take n ts) e ∙ take-suc ts j [] h

module _ (c : Cutoffs) (k : ℕ → ℤ) (m : ℕ → ℕ → ℤ) (s : List ℕ) where
  abbrev s' : List ℕ
  s' = converted_season (season_change k m) s

  abbrev ts : List (List ℕ)
  ts = series_in s

  abbrev ts' : List (List ℕ)
  ts' = series_in s'

  many : length ts' ≡ length ts
  many = (season-converts k m s).many

  module _ (j : ℕ) (h : j < length ts) where
    lines-stand : SeriesKept c k m s j → SameLines c (series_at s j) (series_at s' j)
    lines-stand = ⊎_elim (printed-lines c k m s j h) (λ e. subst (SameLines c (series_at s j)) (sym e) (as_it_was (series_lines c (series_at s j))))

    worst-stands : TwentyKept c k m s j → worst_line c (take j ts' ++ (get_or ts' j [] ∷ [])) ≡ worst_line c (take j ts ++ (get_or ts j [] ∷ []))
    worst-stands kept = ap (worst_line c) (sym (up_to ts' j (omega (arith, many)))) ∙ season-worst-kept c k m s j h kept ∙ ap (worst_line c) (up_to ts j h)

    -- its lines, or its refusal; and its `worst` line where it is accepted
    closed-stands : TwentyKept c k m s j → SameButInside (printed_at c s j) (printed_at c s' j)
    unfolding closed_text
    closed-stands kept =
        let own : SeriesKept c k m s j = kept j (omega arith) (omega arith) in
        rw (worst-stands kept, number-stands c k m s j h own) (in_turn (lines-stand own) (as_it_was _))

  -- as many bytes are left over, and only their number counts
  left-stands : left_text (left_over s') ≡ left_text (left_over s)
  unfolding left_text
  left-stands = rw (season-converts k m s).left

  module _ (kept : (j : ℕ) → j < length ts → SeriesKept c k m s j) where
    texts-stand : (n : ℕ) → n ≤ length ts → SameButInside (texts_to c ts n) (texts_to c ts' n)
    unfolding texts_to
    texts-stand zero h = as_it_was []
    texts-stand (suc n) h = in_turn (texts-stand n (omega arith)) (closed-stands n (omega arith) (λ i a b. kept i (omega arith)))

    text-stands : SameButInside (season_text c s) (season_text c s')
    unfolding season_text closed_texts
    text-stands = rw (many, left-stands) (in_turn (texts-stand (length ts) (omega arith)) (as_it_was _))

-- Any cutoffs, every season's file and each of its series for which each of the latest twenty is accepted with all entries inside, with a k and m r of its own from -32 to 32, or has the bytes that it
-- had: what is printed of the series is the same in the season's new file, but for the last word of each line of an entry.
pub printed-series : SeriesPrinted
printed-series = closed-stands

-- Any cutoffs, and every season's file of which each series is accepted with all entries inside, its own k and m r from -32 to 32, or keeps its bytes: of the season's new file the same text is
-- printed, whole, but for the last word of each line of an entry.
pub printed-season : SeasonPrinted
printed-season = text-stands
