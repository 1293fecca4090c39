-- Entries with the same verdicts have the same text but for `inside` and `outside`: the lines of two such entries differ at most in their last word.
use Prim.Native.Nat.{ℕ, zero, suc}
use mathlib.Core.Path.{◌≡◌, sym, ap, ◌∙◌, subst}
use mathlib.Core.Bool.{Bool, true, false, cond}
use mathlib.Core.List.{List, [], ◌∷◌, ◌++◌, map}
use lib.Dec.{eqb}
use lib.ListN.{get_or, get_or-map}
use Rattle.arithmetic_cutoffs.specs.declared.Cutoffs.{Cutoffs}
use Rattle.tests.specs.declared.Entry.{Entry}
use Rattle.tests.specs.Answer.{no_entry}
use Rattle.tests.specs.Verdict.{Verdict, verdict}
use Rattle.records.specs.calls.KenwardRogerCall.{number, entries}
use Rattle.records.specs.text.Text.{codes, digit, decimal, number_text, fields_text, coefficient_line, test_line, coefficient_lines, lines_text, text_of}
use Rattle.records.specs.text.Season.{series_lines}
use Rattle.converter.specs.SeriesDemand.{SameVerdicts}
use Rattle.converter.specs.PrintedDemand.{SameButInside, as_it_was, either_word, in_turn, SameLines}
use Rattle.converter.proofs.AnswerBytes.{entry_with}

-- each place has the same verdict
pub verdict-at : (es es' : List Entry) (i : ℕ) → map verdict es' ≡ map verdict es → verdict (get_or es' i no_entry) ≡ verdict (get_or es i no_entry)
verdict-at es es' i h = sym (get_or-map verdict es' i no_entry) ∙ ap (λ (vs : List Verdict). get_or vs i (verdict no_entry)) h ∙ get_or-map verdict es i no_entry

-- ---- one entry: what holds of each verdict with any two marks holds of two entries with the same verdict
with-marks : (P : Entry → Entry → Type 0) → ((v : Verdict) (a b : Bool) → P (entry_with v a) (entry_with v b)) → (x y : Entry) → verdict y ≡ verdict x → P x y
with-marks P h x y e = subst (λ (v : Verdict). P x (entry_with v y.inside)) (sym e) (h (verdict x) x.inside y.inside)

-- its fields, but for the mark
abbrev verdict_text : Verdict → List ℕ
verdict_text v = codes "rank " ++ decimal 3 v.rank ++ codes " F " ++ number_text v.f ++ codes " df " ++ number_text v.df

fields-same : (v : Verdict) (a b : Bool) → SameButInside (fields_text (entry_with v a)) (fields_text (entry_with v b))
unfolding fields_text
fields-same v a b = in_turn (as_it_was (verdict_text v)) (either_word a b)

-- a line, or none where the entry is not in use
line_same : (front : List ℕ) (v : Verdict) (a b : Bool)
    → SameButInside (cond (eqb v.rank 0) [] (front ++ fields_text (entry_with v a))) (cond (eqb v.rank 0) [] (front ++ fields_text (entry_with v b)))
line_same front v a b = go (eqb v.rank 0)
  where
    go : (c : Bool) → SameButInside (cond c [] (front ++ fields_text (entry_with v a))) (cond c [] (front ++ fields_text (entry_with v b)))
    go true = as_it_was []
    go false = in_turn (as_it_was front) (fields-same v a b)

coefficient-same : (i : ℕ) (x y : Entry) → verdict y ≡ verdict x → SameButInside (coefficient_line i x) (coefficient_line i y)
unfolding coefficient_line
coefficient-same i = with-marks (λ x y. SameButInside (coefficient_line i x) (coefficient_line i y)) (line_same (codes "coef " ++ (digit i ∷ []) ++ codes " "))

test-same : (x y : Entry) → verdict y ≡ verdict x → SameButInside (test_line x) (test_line y)
unfolding test_line
test-same = with-marks (λ x y. SameButInside (test_line x) (test_line y)) (line_same (codes "test "))

-- ---- entries
module _ (es es' : List Entry) (h : map verdict es' ≡ map verdict es) where
  coefficient-lines-same : (k : ℕ) → SameButInside (coefficient_lines k es) (coefficient_lines k es')
  unfolding coefficient_lines
  coefficient-lines-same zero = as_it_was []
  coefficient-lines-same (suc k) = in_turn (coefficient-lines-same k) (coefficient-same k (get_or es k no_entry) (get_or es' k no_entry) (verdict-at es es' k h))

  lines_same : SameButInside (lines_text es) (lines_text es')
  unfolding lines_text
  lines_same = in_turn (coefficient-lines-same 6) (test-same (get_or es 6 no_entry) (get_or es' 6 no_entry) (verdict-at es es' 6 h))

-- ---- what `pulltest` prints of two files that are accepted, with the same verdicts
pub printed-same : (c : Cutoffs) (s s' : List ℕ) → number 24 c s ≡ 0 → SameVerdicts 24 c s s' → SameLines c s s'
unfolding series_lines text_of
printed-same c s s' e v = rw (e, v.accepted) (lines_same (entries 24 c s) (entries 24 c s') v.verdicts)
