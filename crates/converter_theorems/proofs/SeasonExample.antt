-- Seasons by computation: `pulltest`'s example of document 01, closed, and the same series once more without the record that closes it; and a season of two series with a change of converter at the
-- second. Their lines, the worst, and the refusal of the bytes left over.
use Prim.Native.Nat.{ℕ, zero, suc, ◌%◌, ◌<◌}
use native.Mathlib.Omega.{arith}
use mathlib.Core.Path.{◌≡◌, refl, sym, ap, ap₂, ◌∙◌, subst}
use mathlib.Core.Bool.{false}
use mathlib.Core.Logic.{inl, inr}
use mathlib.Core.List.{List, [], ◌∷◌, ◌++◌, append-nil}
use lib.Dec.{lit≤}
use lib.ListN.{length, get_or}
use lib.IntN.{pos, negsuc}
use lib.Ieee.{fin, lt, to_bits}
use Rattle.tests.specs.declared.Entry.{Entry}
use lib.Ieee.{Float}
use Rattle.std.specs.Prelude.{Option, Some}
use Rattle.arithmetic_cutoffs.specs.Cutoffs.{document_cutoffs}
use Rattle.tests.specs.Answer.{no_entry}
use Rattle.records.specs.calls.KenwardRogerCall.{number, entries}
use Rattle.records.specs.format.Bytes.{bytes_of}
use Rattle.records.specs.format.Scan.{any}
use Rattle.records.specs.promises.Bench.{pull_file}
use Rattle.records.specs.text.Text.{codes, digit, hexadecimal, decimal, number_text, mark_text, fields_text, coefficient_line, test_line, coefficient_lines, refusal_text, lines_text, text_of}
use Rattle.records.specs.text.Season.{closes, series_in, worse, worst_after, series_lines, contrast_f, fs_of, worst_line, closed_text, texts_to, closed_texts, left_text, season_text}
use Rattle.records.specs.promises.SeasonPrints.{season_bytes, Unclosed, OneSeries, AllSeries, series_at}
use Rattle.records.proofs.text.SeasonParted.{season-parted}
use Rattle.records.proofs.promises.SeasonPrints.{season-prints}
use Rattle.converter.specs.SeriesDemand.{AllInside}
use Rattle.converter.specs.SeasonDemand.{converted_season, SeriesKept}
use Rattle.converter.proofs.MixedSeason.{later_file, later_shifted, season_of_two, later_power, later_rows, after_first, season-computed}
use Rattle.converter_theorems.proofs.PullExample.{pull-accepted, pull-entries, later_entries, later-accepted, later-entries, later-inside, shifted-accepted, shifted-entries}
use Rattle.converter_theorems.proofs.Lot.{lot}

-- no record of the example closes
pull-unclosed : Unclosed pull_file
unfolding any closes bytes_of
pull-unclosed = refl

pull-alone : AllSeries (pull_file ∷ [])
unfolding bytes_of
pull-alone i l = subst (λ (j : ℕ). OneSeries (get_or (pull_file ∷ []) j [])) (only i l) (record { whole = whole; unclosed = pull-unclosed })
  where
    only : (i : ℕ) → i < 1 → 0 ≡ i
    only i h = omega arith

    whole : length pull_file % 16 ≡ 0
    whole = refl

-- its lines, its F, and the worst of it alone
lines-text : series_lines document_cutoffs pull_file ≡ codes "coef 0 rank 1 F 4022000000000000 df 3ff0000000000000 inside\ntest rank 1 F 4022000000000000 df 3ff0000000000000 inside\n"
unfolding series_lines
lines-text = lot.pulltest

f-nine : contrast_f document_cutoffs pull_file ≡ Some (fin false 9 (pos 0))
unfolding contrast_f
f-nine = ap (λ (es : List Entry). (get_or es 6 no_entry).f) pull-entries

nine-text : codes "worst " ++ (number_text (Some (fin false 9 (pos 0))) ++ codes "\n") ≡ codes "worst 4022000000000000\n"
unfolding codes number_text hexadecimal digit to_bits
nine-text = refl

worst-text : worst_line document_cutoffs (pull_file ∷ []) ≡ codes "worst 4022000000000000\n"
unfolding worst_line fs_of worst_after worse
worst-text = ap (λ (n : Option Float). codes "worst " ++ (number_text n ++ codes "\n")) f-nine ∙ nine-text

first-text : closed_texts document_cutoffs (pull_file ∷ [])
    ≡ codes "coef 0 rank 1 F 4022000000000000 df 3ff0000000000000 inside\ntest rank 1 F 4022000000000000 df 3ff0000000000000 inside\n" ++ codes "worst 4022000000000000\n"
unfolding closed_texts texts_to closed_text
first-text = rw (lines-text, pull-accepted, worst-text)

left-text : left_text pull_file ≡ codes "refused 2\n"
unfolding left_text refusal_text decimal digit codes bytes_of
left-text = refl

-- THE SEASON'S TEXT
pub season-example : season_text document_cutoffs (season_bytes (pull_file ∷ []) pull_file)
    ≡ (codes "coef 0 rank 1 F 4022000000000000 df 3ff0000000000000 inside\ntest rank 1 F 4022000000000000 df 3ff0000000000000 inside\n" ++ codes "worst 4022000000000000\n") ++ codes "refused 2\n"
season-example = (season-prints document_cutoffs).text (pull_file ∷ []) pull_file pull-alone pull-unclosed ∙ rw (first-text, left-text)

-- ---- a season of two series: the example, and a series t with F 2.25
record LaterSeries (t : List ℕ) : Type 0 where
  one : OneSeries t
  accepted : number 24 document_cutoffs t ≡ 0
  judged : entries 24 document_cutoffs t ≡ later_entries

-- as it is without a change of converter, and as the change makes it
later-before : LaterSeries later_file
unfolding any closes bytes_of
later-before = record { one = record { whole = refl; unclosed = refl }; accepted = later-accepted; judged = later-entries }

later-after : LaterSeries later_shifted
unfolding any closes bytes_of
later-after = record { one = record { whole = refl; unclosed = refl }; accepted = shifted-accepted; judged = shifted-entries }

-- what is printed of both series: the first's 9 is still the worst
abbrev pub two_text : List ℕ
two_text =
    (codes "coef 0 rank 1 F 4022000000000000 df 3ff0000000000000 inside\ntest rank 1 F 4022000000000000 df 3ff0000000000000 inside\n" ++ codes "worst 4022000000000000\n")
    ++ (codes "coef 0 rank 1 F 4002000000000000 df 3ff0000000000000 inside\ntest rank 1 F 4002000000000000 df 3ff0000000000000 inside\n" ++ codes "worst 4022000000000000\n")

quarter-text : text_of 0 later_entries ≡ codes "coef 0 rank 1 F 4002000000000000 df 3ff0000000000000 inside\ntest rank 1 F 4002000000000000 df 3ff0000000000000 inside\n"
unfolding codes digit hexadecimal decimal number_text mark_text fields_text coefficient_line test_line coefficient_lines refusal_text lines_text text_of to_bits
quarter-text = refl

-- no byte is left over, and so no record that closes
nothing_left : Unclosed []
unfolding any
nothing_left = refl

module _ (t : List ℕ) (later : LaterSeries t) where
  two-alone : AllSeries (pull_file ∷ t ∷ [])
  two-alone zero l = pull-alone 0 (omega arith)
  two-alone (suc zero) l = later.one
  two-alone (suc (suc i)) l = absurd (omega arith)

  two-series : series_in (season_of_two t) ≡ pull_file ∷ t ∷ []
  two-series = season-parted.same_series (pull_file ∷ t ∷ []) [] two-alone nothing_left

  later-lines : series_lines document_cutoffs t ≡ codes "coef 0 rank 1 F 4002000000000000 df 3ff0000000000000 inside\ntest rank 1 F 4002000000000000 df 3ff0000000000000 inside\n"
  unfolding series_lines
  later-lines = ap₂ text_of later.accepted later.judged ∙ quarter-text

  f-quarter : contrast_f document_cutoffs t ≡ Some (fin false 9 (negsuc 1))
  unfolding contrast_f
  f-quarter = ap (λ (es : List Entry). (get_or es 6 no_entry).f) later.judged

  worst-of-two : worst_line document_cutoffs (pull_file ∷ t ∷ []) ≡ codes "worst 4022000000000000\n"
  unfolding worst_line fs_of worst_after worse lt
  worst-of-two = rw (f-nine, f-quarter) nine-text

  two-text : season_text document_cutoffs (season_of_two t) ≡ two_text
  unfolding closed_texts texts_to closed_text left_text
  two-text =
      (season-prints document_cutoffs).text (pull_file ∷ t ∷ []) [] two-alone nothing_left
      ∙ rw (lines-text, pull-accepted, worst-text, later-lines, later.accepted, worst-of-two) (append-nil two_text)

-- ---- the first series keeps its bytes; the second is accepted with all entries inside, and its own k and m are from -32 to 32
series-of-two : (i : ℕ) → series_at (season_of_two later_file) i ≡ get_or (pull_file ∷ later_file ∷ []) i []
series-of-two i = ap (λ (ts : List (List ℕ)). get_or ts i []) (two-series later_file later-before)

two-kept : (j : ℕ) → j < length (series_in (season_of_two later_file)) → SeriesKept document_cutoffs later_power later_rows (season_of_two later_file) j
two-kept zero l = inr (ap (λ (s : List ℕ). series_at s 0) season-computed ∙ ap (λ (ts : List (List ℕ)). get_or ts 0 []) (two-series later_shifted later-after) ∙ sym (series-of-two 0))
two-kept (suc zero) l =
    inl (record {
      near = lit≤ tt;
      nears = λ r h. lit≤ tt;
      accepted = ap (number 24 document_cutoffs) (series-of-two 1) ∙ later-accepted;
      inside = subst (AllInside 24 document_cutoffs) (sym (series-of-two 1)) later-inside;
    })
two-kept (suc (suc j)) l = let e = ap length (two-series later_file later-before) in absurd (omega arith)

-- A SEASON WITH A CHANGE AT ITS SECOND SERIES: the new file, the text of both files, which is the same whole, and that the season meets the theorem's premise
pub record SeasonChanged : Type 0 where
  pub bytes : converted_season after_first (season_of_two later_file) ≡ season_of_two later_shifted
  pub text : season_text document_cutoffs (season_of_two later_file) ≡ two_text
  pub text_again : season_text document_cutoffs (converted_season after_first (season_of_two later_file)) ≡ two_text
  pub kept : (j : ℕ) → j < length (series_in (season_of_two later_file)) → SeriesKept document_cutoffs later_power later_rows (season_of_two later_file) j

pub season-changed : SeasonChanged
season-changed = record {
  bytes = season-computed;
  text = two-text later_file later-before;
  text_again = ap (season_text document_cutoffs) season-computed ∙ two-text later_shifted later-after;
  kept = two-kept;
}
