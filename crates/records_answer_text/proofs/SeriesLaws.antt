-- The lines of a run by its sizes: where an entry is in use exactly where its rank is not 0, each of the p coefficients has a line, and the contrast has one exactly where it has rows.
use Prim.Native.Nat.{ℕ, zero, suc, ◌+◌, ◌-◌, ◌<◌, ◌≤◌}
use native.Mathlib.Omega.{arith}
use native.Mathlib.Nat.{add-zero}
use mathlib.Core.Path.{◌≡◌, refl, sym, ap, ap₂, ◌∙◌}
use mathlib.Core.Bool.{Bool, true, false, not, cond, ◌&&◌, ◌||◌}
use mathlib.Core.List.{List, [], ◌++◌, append-nil}
use lib.Dec.{eqb}
use lib.ListN.{get_or}
use borrow.Author.Tests.{lt-ltb, le-ltb, ne_eqb}
use Rattle.tests.specs.declared.Entry.{Entry}
use Rattle.tests.specs.Answer.{no_entry}
use Rattle.tests.specs.Used.{in_use}
use Rattle.records.specs.text.Text.{coefficient_text, contrast_text, coefficient_line, test_line, coefficient_lines, lines_text, coefficient_texts, series_text}

not_back : (a b : Bool) → a ≡ not b → b ≡ not a
not_back a true e = sym (ap not e)
not_back a false e = sym (ap not e)

module _ (p rows : ℕ) (es : List Entry) (few : p ≤ 6) (used : (i : ℕ) → in_use p rows i ≡ not (eqb (get_or es i no_entry).rank 0)) where
  -- whether an entry has no rank
  unranked : (i : ℕ) → eqb (get_or es i no_entry).rank 0 ≡ not (in_use p rows i)
  unranked i = not_back (in_use p rows i) (eqb (get_or es i no_entry).rank 0) (used i)

  coefficient-ranked : (i : ℕ) → i < p → eqb (get_or es i no_entry).rank 0 ≡ false
  unfolding in_use
  coefficient-ranked i h = unranked i ∙ ap (λ (b : Bool). not (b || (eqb i 6 && not (eqb rows 0)))) (lt-ltb i p h)

  past-unranked : (i : ℕ) → p ≤ i → i < 6 → eqb (get_or es i no_entry).rank 0 ≡ true
  unfolding in_use
  past-unranked i h l =
      unranked i ∙ ap (λ (b : Bool). not (b || (eqb i 6 && not (eqb rows 0)))) (le-ltb i p h) ∙ ap (λ (b : Bool). not (b && not (eqb rows 0))) (ne_eqb i 6 (λ e. omega arith))

  contrast-ranked : eqb (get_or es 6 no_entry).rank 0 ≡ eqb rows 0
  unfolding in_use
  contrast-ranked = unranked 6 ∙ ap (λ (b : Bool). not (b || not (eqb rows 0))) (le-ltb 6 p few) ∙ twice (eqb rows 0)
    where
      twice : (b : Bool) → not (not b) ≡ b
      twice true = refl
      twice false = refl

  -- the first k of the p coefficients
  lines-used : (k : ℕ) → k ≤ p → coefficient_lines k es ≡ coefficient_texts k es
  unfolding coefficient_lines coefficient_texts coefficient_line
  lines-used zero h = refl
  lines-used (suc k) h =
      ap₂ (λ (a b : List ℕ). a ++ b) (lines-used k (omega arith)) (ap (λ (b : Bool). cond b [] (coefficient_text k (get_or es k no_entry))) (coefficient-ranked k h))

  -- no line after them
  lines-past : (d : ℕ) → p + d ≤ 6 → coefficient_lines (p + d) es ≡ coefficient_lines p es
  unfolding coefficient_lines coefficient_line
  lines-past zero h = ap (λ (k : ℕ). coefficient_lines k es) (add-zero p)
  lines-past (suc d) h =
      let e : p + suc d ≡ suc (p + d) = omega arith in
      let none = ap (λ (b : Bool). cond b [] (coefficient_text (p + d) (get_or es (p + d) no_entry))) (past-unranked (p + d) (omega arith) (omega arith)) in
      ap (λ (k : ℕ). coefficient_lines k es) e ∙ ap (λ (t : List ℕ). coefficient_lines (p + d) es ++ t) none ∙ append-nil (coefficient_lines (p + d) es) ∙ lines-past d (omega arith)

  pub lines_are : lines_text es ≡ series_text p rows es
  unfolding lines_text series_text test_line
  lines_are =
      let e : 6 ≡ p + (6 - p) = omega arith in
      ap₂ (λ (a b : List ℕ). a ++ b) (ap (λ (k : ℕ). coefficient_lines k es) e ∙ lines-past (6 - p) (omega arith) ∙ lines-used p (omega arith))
      (ap (λ (b : Bool). cond b [] (contrast_text (get_or es 6 no_entry))) contrast-ranked)
