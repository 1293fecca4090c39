-- THE THIRD DEMAND, of a season: the verdict of each inside series survives changes of converter between the series, and so does the worst of twenty that are inside or whose bytes do not change.
use Prim.Native.Nat.{ℕ, ◌+◌, ◌-◌, ◌≤◌, ◌<◌}
use native.Mathlib.Omega.{arith}
use mathlib.Core.Path.{◌≡◌, sym, ap, ◌∙◌, subst}
use mathlib.Core.Logic.{inl, ⊎_elim}
use mathlib.Core.List.{List, [], ◌++◌, map}
use lib.IntN.{ℤ}
use lib.ListN.{length, get_or, take, length-drop, length-map, get_or-map}
use lib.Seq.{ext_get_or, length-take-le, get_or-take, get_or-drop}
use Rattle.arithmetic_cutoffs.specs.declared.Cutoffs.{Cutoffs}
use lib.Ieee.{Float}
use Rattle.std.specs.Prelude.{Option}
use Rattle.tests.specs.Verdict.{Verdict}
use Rattle.records.specs.calls.KenwardRogerCall.{number, entries}
use Rattle.records.specs.text.Text.{codes, number_text}
use Rattle.records.specs.text.Season.{series_in, worst, contrast_f, latest_count}
use Rattle.records.specs.promises.SeasonPrints.{series_at, latest_at}
use Rattle.records.proofs.text.SeasonTexts.{worst-latest}
use Rattle.converter.specs.SeriesDemand.{SameVerdicts}
use Rattle.converter.specs.SeasonDemand.{converted_season, season_change, SeasonDemand, SeriesNear, SeriesKept, SeasonWorst, WorstKept}
use Rattle.converter.proofs.Season.{season-converts}
use Rattle.converter.proofs.PrintedLaws.{verdict-at}
use Rattle.converter_theorems.proofs.Theorems.{within-kenward-roger}

-- Any cutoffs, every season's file and each of its series that the call accepts with all entries inside: with its own k and m r from -32 to 32, and any changes of the other series, the season's new file has in the same
-- place a series that the call accepts again, and rank, F and df of its every entry are the same bits, or none where they were none.
pub converter-season : SeasonDemand
converter-season c k m s j l near nears e inside =
    subst (SameVerdicts 24 c (series_at s j)) (sym ((season-converts k m s).series j l)) (within-kenward-roger 24 c (series_at s j) (k j) (m j) near nears e inside)

-- ---- one series, which is inside and whose own change is from -32 to 32, or whose bytes do not change
contrast_f-same : (c : Cutoffs) (s s' : List ℕ) → SameVerdicts 24 c s s' → contrast_f c s' ≡ contrast_f c s
unfolding contrast_f
contrast_f-same c s s' v = ap (λ (v : Verdict). v.f) (verdict-at (entries 24 c s) (entries 24 c s') 6 v.verdicts)

module _ (c : Cutoffs) (k : ℕ → ℤ) (m : ℕ → ℕ → ℤ) (s : List ℕ) (j : ℕ) (h : j < length (series_in s)) where
  abbrev t' : List ℕ
  t' = series_at (converted_season (season_change k m) s) j

  pub near-verdicts : SeriesNear c k m s j → SameVerdicts 24 c (series_at s j) t'
  near-verdicts n = converter-season c k m s j h n.near n.nears n.accepted n.inside

  -- it is accepted where it was, or refused with the same number, and gives the same F
  pub number-stands : SeriesKept c k m s j → number 24 c t' ≡ number 24 c (series_at s j)
  number-stands = ⊎_elim (λ n. (near-verdicts n).accepted ∙ sym n.accepted) (ap (number 24 c))

  f-stands : SeriesKept c k m s j → contrast_f c t' ≡ contrast_f c (series_at s j)
  f-stands = ⊎_elim (λ n. contrast_f-same c (series_at s j) t' (near-verdicts n)) (ap (contrast_f c))

-- ---- the worst of twenty
-- the latest twenty with series j are the series from j - 19 on
module _ (s : List ℕ) (j : ℕ) (h : j < length (series_in s)) where
  abbrev up_to : List (List ℕ)
  up_to = take (j + 1) (series_in s)

  length-up_to : length up_to ≡ j + 1
  length-up_to = length-take-le (j + 1) (series_in s) (omega arith)

  length-latest : length (latest_at s j) ≡ j + 1 - (j + 1 - latest_count)
  length-latest = let e = length-up_to in length-drop (length up_to - latest_count) up_to ∙ omega arith

  latest-at : (i : ℕ) → i < j + 1 - (j + 1 - latest_count) → get_or (latest_at s j) i [] ≡ series_at s (j + 1 - latest_count + i)
  latest-at i l =
      get_or-drop (length up_to - latest_count) up_to i []
      ∙ ap (λ (n : ℕ). get_or up_to (n - latest_count + i) []) length-up_to
      ∙ get_or-take (j + 1) (series_in s) (j + 1 - latest_count + i) [] (omega arith)

-- two seasons with as many series have the same F's of the latest twenty where each series' F is the same
latest-same : (c : Cutoffs) (s s' : List ℕ) (j : ℕ) → j < length (series_in s) → length (series_in s') ≡ length (series_in s) → ((i : ℕ) → i ≤ j → j < i + latest_count → contrast_f c (series_at s' i) ≡ contrast_f c (series_at s i))
    → map (contrast_f c) (latest_at s' j) ≡ map (contrast_f c) (latest_at s j)
latest-same c s s' j h e same =
    ext_get_or (contrast_f c []) (map (contrast_f c) (latest_at s' j)) (map (contrast_f c) (latest_at s j)) (wide' ∙ sym wide) (λ i l.
    let k : i < j + 1 - (j + 1 - latest_count) = omega (arith, wide') in
    get_or-map (contrast_f c) (latest_at s' j) i []
    ∙ ap (contrast_f c) (latest-at s' j h' i k)
    ∙ same (j + 1 - latest_count + i) (omega arith) (omega arith)
    ∙ sym (get_or-map (contrast_f c) (latest_at s j) i [] ∙ ap (contrast_f c) (latest-at s j h i k)))
  where
    h' : j < length (series_in s')
    h' = omega arith

    wide : length (map (contrast_f c) (latest_at s j)) ≡ j + 1 - (j + 1 - latest_count)
    wide = length-map (latest_at s j) (contrast_f c) ∙ length-latest s j h

    wide' : length (map (contrast_f c) (latest_at s' j)) ≡ j + 1 - (j + 1 - latest_count)
    wide' = length-map (latest_at s' j) (contrast_f c) ∙ length-latest s' j h'

-- Any cutoffs, every season's file and each of its series for which each of the latest twenty is accepted with all entries inside, with a k and m r of its own from -32 to 32, or has the bytes that it
-- had: the `worst` line of the series is the same in the season's new file.
pub season-worst-kept : WorstKept
season-worst-kept c k m s j h kept =
    let s' = converted_season (season_change k m) s in
    let same = latest-same c s s' j h (season-converts k m s).many (λ i a b. f-stands c k m s i (omega arith) (kept i a b)) in
    worst-latest c (take (j + 1) (series_in s')) ∙ ap (λ (fs : List (Option Float)). codes "worst " ++ (number_text (worst fs) ++ codes "\n")) same ∙ sym (worst-latest c (take (j + 1) (series_in s)))

-- Any cutoffs, every season's file and each of its series for which the latest twenty are all accepted with all entries inside, each with a k and m r of its own from -32 to 32: the `worst` line of the series is the same in
-- the season's new file.
pub converter-season-worst : SeasonWorst
converter-season-worst c k m s j h near = season-worst-kept c k m s j h (λ i a b. inl (near i a b))
