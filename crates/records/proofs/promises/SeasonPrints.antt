-- What is promised of a season's text.
use Prim.Native.Nat.{ℕ, suc, ◌+◌, ◌-◌, ◌<◌}
use native.Mathlib.Omega.{arith}
use mathlib.Core.Path.{◌≡◌, refl, sym, ap, ◌∙◌}
use mathlib.Core.Bool.{Bool, true, false, cond}
use mathlib.Core.List.{List, [], ◌∷◌, ◌++◌, map, append_assoc}
use lib.Dec.{eqb}
use borrow.Author.Tests.{ne_eqb}
use lib.ListN.{length, get_or, take, drop, replicate, length-drop}
use lib.Seq.{take-suc, length-take-le, get_or-take, get_or-drop}
use Rattle.arithmetic_cutoffs.specs.declared.Cutoffs.{Cutoffs}
use Rattle.algebra.specs.Kind.{marks}
use Rattle.std.specs.Prelude.{None}
use Rattle.tests.specs.Answer.{no_entry}
use Rattle.tests.proofs.GivenF.{NoNan, none-given, run-given}
use Rattle.records.specs.format.Scan.{last}
use Rattle.records.specs.readers.Series.{contrast_rows, beta, beta_h, contrast}
use Rattle.records.specs.calls.KenwardRogerCall.{scaled, run, number, entries}
use Rattle.records.specs.text.Text.{number_text, codes}
use Rattle.records.specs.text.Season.{begins, series_to, series_in, left_over, worst, latest, series_lines, contrast_f, fs_of, worst_line, closed_text, texts_to, closed_texts, left_text, season_text, latest_count}
use Rattle.records.specs.promises.SeasonPrints.{season_bytes, Unclosed, AllSeries, series_at, latest_at, worst_at, PrintsFor, SeasonPrints}
use Rattle.records.proofs.text.WorstLaws.{worst-of}
use Rattle.records.proofs.text.SeasonTexts.{texts-front, worst-latest, printed-grows}
use Rattle.records.proofs.text.SeasonParted.{season-parted}

module _ (c : Cutoffs) where
  made-text : (ts : List (List ℕ)) (left : List ℕ) → AllSeries ts → Unclosed left → season_text c (season_bytes ts left) ≡ closed_texts c ts ++ left_text left
  unfolding season_text
  made-text ts left h u = rw (season-parted.same_series ts left h u, season-parted.same_left ts left h u)

  -- series i's text, with its `worst` line
  closed_at : (s : List ℕ) (i : ℕ) → i < length (series_in s) → closed_text c (take i (series_in s)) (series_at s i) ≡ series_lines c (series_at s i) ++ worst_at c s i
  unfolding closed_text
  closed_at s i h =
      let e : i + 1 ≡ suc i = omega arith in
      let f : take (i + 1) (series_in s) ≡ take i (series_in s) ++ (series_at s i ∷ []) = ap (λ (k : ℕ). take k (series_in s)) e ∙ take-suc (series_in s) i [] h in
      rw f

  prints : (s : List ℕ) (i : ℕ) → i < length (series_in s) → PrintsFor c s i (series_lines c (series_at s i)) (worst_at c s i)
  unfolding season_text closed_texts texts_to
  prints s i h =
      let ts = series_in s in
      let e : suc i + (length ts - suc i) ≡ length ts = omega arith in
      let g = texts-front c ts (length ts - suc i) (suc i) in
      let lines = series_lines c (series_at s i) in
      let w = worst_at c s i in
      record {
        rest = g.rest ++ left_text (left_over s);
        text =
            ap (λ (x : List ℕ). x ++ left_text (left_over s)) (ap (texts_to c ts) (sym e) ∙ g.is ∙ ap (λ (x : List ℕ). (texts_to c ts i ++ x) ++ g.rest) (closed_at s i h))
            ∙ shifted (texts_to c ts i) lines w g.rest (left_text (left_over s));
      }
    where
      shifted : (a b d e f : List ℕ) → ((a ++ (b ++ d)) ++ e) ++ f ≡ a ++ (b ++ (d ++ (e ++ f)))
      shifted a b d e f = append_assoc (a ++ (b ++ d)) e f ∙ append_assoc a (b ++ d) (e ++ f) ∙ ap (λ (x : List ℕ). a ++ x) (append_assoc b d (e ++ f))

  alike-series : (s s' : List ℕ) (i j : ℕ) → i < length (series_in s) → j < length (series_in s') → series_at s i ≡ series_at s' j → PrintsFor c s' j (series_lines c (series_at s i)) (worst_at c s' j)
  alike-series s s' i j h k e = rw e (prints s' j k)

  -- the last of the latest is the series itself
  latest-last : (ts : List (List ℕ)) (i : ℕ) → i < length ts → get_or (latest (take (i + 1) ts)) (length (latest (take (i + 1) ts)) - 1) [] ≡ get_or ts i []
  latest-last ts i h =
      let l : length (take (i + 1) ts) ≡ i + 1 = length-take-le (i + 1) ts (omega arith) in
      let d = length-drop (length (take (i + 1) ts) - latest_count) (take (i + 1) ts) in
      let e : length (take (i + 1) ts) - latest_count + (length (drop (length (take (i + 1) ts) - latest_count) (take (i + 1) ts)) - 1) ≡ i = omega arith in
      get_or-drop (length (take (i + 1) ts) - latest_count) (take (i + 1) ts) (length (drop (length (take (i + 1) ts) - latest_count) (take (i + 1) ts)) - 1) [] ∙ ap (λ (k : ℕ). get_or (take (i + 1) ts) k []) e ∙ get_or-take (i + 1) ts i [] (omega arith)

  worst-same : (s s' : List ℕ) (i j : ℕ) → latest_at s i ≡ latest_at s' j → worst_line c (take (i + 1) (series_in s)) ≡ worst_line c (take (j + 1) (series_in s'))
  worst-same s s' i j q =
      worst-latest c (take (i + 1) (series_in s)) ∙ ap (λ (l : List (List ℕ)). codes "worst " ++ (number_text (worst (map (contrast_f c) l)) ++ codes "\n")) q ∙ sym (worst-latest c (take (j + 1) (series_in s')))

  alike-twenty : (s s' : List ℕ) (i j : ℕ) → i < length (series_in s) → j < length (series_in s') → latest_at s i ≡ latest_at s' j → PrintsFor c s' j (series_lines c (series_at s i)) (worst_at c s i)
  alike-twenty s s' i j h k e =
      let same : series_at s i ≡ series_at s' j = sym (latest-last (series_in s) i h) ∙ ap (λ (l : List (List ℕ)). get_or l (length l - 1) []) e ∙ latest-last (series_in s') j k in
      rw (same, worst-same s s' i j e) (prints s' j k)

  -- an F is no NaN
  entry-given : (t : List ℕ) → NoNan (get_or (entries 24 c t) 6 no_entry).f
  unfolding entries run
  entry-given t = go (eqb (number 24 c t) 0)
    where
      go : (b : Bool) → NoNan (get_or (cond b (run c t).entries (replicate 7 no_entry)) 6 no_entry).f
      go true = run-given marks c (scaled c t) (beta t) (beta_h t) (contrast_rows t) (contrast t) 6
      go false = none-given

  f-given : (t : List ℕ) → NoNan (contrast_f c t)
  unfolding contrast_f
  f-given t = entry-given t

  -- each series has its place, and a refused one no F
  all-places : (ts : List (List ℕ)) → length (fs_of c ts) ≡ length ts
  unfolding fs_of
  all-places [] = refl
  all-places (t ∷ ts) = ap suc (all-places ts)

  refused_none : (t : List ℕ) → (number 24 c t ≡ 0 → ⊥) → contrast_f c t ≡ None
  unfolding contrast_f entries
  refused_none t h = ap (λ (b : Bool). (get_or (cond b (run c t).entries (replicate 7 no_entry)) 6 no_entry).f) (ne_eqb (number 24 c t) 0 h)

  nothing : season_text c [] ≡ []
  unfolding season_text closed_texts texts_to series_to series_in begins last left_over left_text
  nothing = refl

pub season-prints : (c : Cutoffs) → SeasonPrints c
season-prints c = record {
  text = made-text c;
  each = prints c;
  alike_series = alike-series c;
  alike_twenty = alike-twenty c;
  worst_is = λ ts. worst-of (latest (fs_of c ts));
  empty = nothing c;
  places = all-places c;
  refused = refused_none c;
  numbers = f-given c;
  grows = printed-grows c;
}
