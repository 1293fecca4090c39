-- Which entries of a run are in use: those whose rank is not 0, for a run whose contrast, if one is given, has finite cells that are not all zero.
use Prim.Native.Nat.{ℕ, zero, suc, ◌≤◌, ◌<◌}
use mathlib.Core.Path.{◌≡◌, refl, sym, ap, ◌∙◌}
use mathlib.Core.Bool.{Bool, true, false, not, cond, true≢false, ◌&&◌, ◌||◌}
use mathlib.Core.List.{List}
use native.Mathlib.Nat.{le_refl}
use native.Mathlib.Omega.{arith}
use mathlib.Core.Logic.{inr}
use lib.Dec.{eqb, ltb}
use lib.ListN.{length, get_or, replicate, length-replicate, set}
use lib.Seq.{get_or-set_same, get_or-set_other}
use lib.Ieee.{Float}
use borrow.Author.Tests.{ltb-true, ltb-false, eqb-true, eqb-false, ne_eqb}
use Rattle.algebra.specs.Kind.{marks}
use Rattle.algebra.specs.Fold.{span}
use Rattle.algebra.proofs.FoldLaws.{fold-both, span-at, span-other, length-span}
use Rattle.arithmetic.specs.declared.Marked.{Marked}
use Rattle.arithmetic_cutoffs.specs.declared.Cutoffs.{Cutoffs}
use Rattle.algebra.specs.Small.{Rows}
use Rattle.tests.specs.declared.Entry.{Entry}
use Rattle.tests.specs.Basis.{contrast_basis}
use Rattle.tests_basis.proofs.RankStart.{Contrast}
use Rattle.tests_basis.proofs.Rank.{rank-one, rank-least}
use Rattle.tests.specs.Answer.{no_entry}
use Rattle.tests.specs.declared.Run.{Run}
use Rattle.tests.specs.KenwardRoger.{Scaled, tested, unit_row, coefficient_test, contrast_test, with_test, coefficients_to, run_of}
use Rattle.tests.specs.Used.{in_use}

-- every element of a list of equals, one past the end too
pub all_alike : {A : Type 0} (n i : ℕ) (a : A) → get_or (replicate n a) i a ≡ a
all_alike zero i a = refl
all_alike (suc n) zero a = refl
all_alike (suc n) (suc i) a = all_alike n i a

module _ (c : Cutoffs) (s : Scaled Marked) (beta : List Float) where
  -- the first k coefficients fill the first k entries
  entries-span : (k : ℕ) → (coefficients_to marks k c s beta).entries ≡ span 0 k (λ i. (coefficient_test marks c s beta i).entry) (replicate 7 no_entry)
  unfolding coefficients_to with_test
  entries-span k =
      fold-both (λ (r : Run) (es : List Entry). r.entries ≡ es) 0 k (λ i r. with_test i (coefficient_test marks c s beta i) r) (λ i es. set es i (coefficient_test marks c s beta i).entry)
      (record { refused = false; entries = replicate 7 no_entry }) (replicate 7 no_entry) refl
      (λ i h l r es e. ap (λ (x : List Entry). set x i (coefficient_test marks c s beta i).entry) e)

  length-entries : (k : ℕ) → length (coefficients_to marks k c s beta).entries ≡ 7
  length-entries k =
      ap length (entries-span k) ∙ length-span 0 k (λ i. (coefficient_test marks c s beta i).entry) (replicate 7 no_entry) ∙ length-replicate 7 no_entry

  -- a coefficient's test has rank 1, and that of the contrast the rank of its basis
  pub coefficient-rank : (i : ℕ) → (coefficient_test marks c s beta i).entry.rank ≡ 1
  unfolding coefficient_test tested
  coefficient-rank i = rank-one s.p (unit_row s.p i)

  pub contrast-rank : (beta_h : List Float) (rows : ℕ) (l : Rows) → (contrast_test marks c s beta beta_h rows l).entry.rank ≡ (contrast_basis marks rows s.p l).rank
  unfolding contrast_test tested
  contrast-rank beta_h rows l = refl

  module _ (beta_h : List Float) (rows : ℕ) (l : Rows) where
    -- away from entry 6 they are the coefficients'
    before-contrast : (i : ℕ) → (i ≡ 6 → rows ≡ 0) → get_or (run_of marks c s beta beta_h rows l).entries i no_entry ≡ get_or (coefficients_to marks s.p c s beta).entries i no_entry
    unfolding run_of with_test
    before-contrast i h = go (eqb rows 0) (eqb-false rows 0)
      where
        go : (b : Bool) → (b ≡ false → rows ≡ 0 → ⊥)
            → get_or (cond b (coefficients_to marks s.p c s beta) (with_test 6 (contrast_test marks c s beta beta_h rows l) (coefficients_to marks s.p c s beta))).entries i no_entry
            ≡ get_or (coefficients_to marks s.p c s beta).entries i no_entry
        go true k = refl
        go false k = get_or-set_other (coefficients_to marks s.p c s beta).entries 6 i (contrast_test marks c s beta beta_h rows l).entry no_entry (λ e. k refl (h e))

    -- the entry of a coefficient, for at most six of them
    pub coefficient-entry : (i : ℕ) → i < s.p → s.p ≤ 6 → get_or (run_of marks c s beta beta_h rows l).entries i no_entry ≡ (coefficient_test marks c s beta i).entry
    coefficient-entry i h k =
        before-contrast i (λ e. absurd (omega arith)) ∙ ap (λ (es : List Entry). get_or es i no_entry) (entries-span s.p)
        ∙ span-at 0 s.p (λ i. (coefficient_test marks c s beta i).entry) (replicate 7 no_entry) i no_entry (omega arith) h (omega (arith, length-replicate 7 no_entry))

    -- the entry of the contrast, where it has rows
    pub contrast-entry : (rows ≡ 0 → ⊥) → get_or (run_of marks c s beta beta_h rows l).entries 6 no_entry ≡ (contrast_test marks c s beta beta_h rows l).entry
    unfolding run_of with_test
    contrast-entry h =
        rw (ne_eqb rows 0 h)
        (get_or-set_same (coefficients_to marks s.p c s beta).entries 6 (contrast_test marks c s beta beta_h rows l).entry no_entry (omega (arith, length-entries s.p)))

    -- no other entry is in use
    pub other-entry : (i : ℕ) → s.p ≤ i → (i ≡ 6 → rows ≡ 0) → get_or (run_of marks c s beta beta_h rows l).entries i no_entry ≡ no_entry
    other-entry i h k =
        before-contrast i k ∙ ap (λ (es : List Entry). get_or es i no_entry) (entries-span s.p)
        ∙ span-other 0 s.p (λ i. (coefficient_test marks c s beta i).entry) (replicate 7 no_entry) i no_entry (inr h) ∙ all_alike 7 i no_entry

    -- an entry that is not in use holds nothing
    pub unused-entry : (i : ℕ) → in_use s.p rows i ≡ false → get_or (run_of marks c s beta beta_h rows l).entries i no_entry ≡ no_entry
    unfolding in_use
    unused-entry i h = go (ltb i s.p) (eqb i 6) (eqb rows 0) (ltb-false i s.p) (eqb-false i 6) (eqb-true rows 0) h
      where
        go : (a b z : Bool) → (a ≡ false → s.p ≤ i) → (b ≡ false → i ≡ 6 → ⊥) → (z ≡ true → rows ≡ 0) → (a || (b && not z)) ≡ false
            → get_or (run_of marks c s beta beta_h rows l).entries i no_entry ≡ no_entry
        go true b z k m n e = absurd (true≢false e)
        go false false z k m n e = other-entry i (k refl) (λ q. absurd (m refl q))
        go false true true k m n e = other-entry i (k refl) (λ q. n refl)
        go false true false k m n e = absurd (true≢false e)

    module _ (P : s.p ≤ 6) (R : rows ≤ 6) (given : (rows ≡ 0 → ⊥) → Contrast rows s.p l) where
      -- the rank of the contrast's entry is at least 1
      pub contrast-least : (rows ≡ 0 → ⊥) → 1 ≤ (contrast_test marks c s beta beta_h rows l).entry.rank
      contrast-least h =
          let g = given h in
          rw (contrast-rank beta_h rows l) (rank-least rows s.p l (omega arith) R (omega (arith, g.in_columns)) P g)

      -- an entry in use has a rank
      pub used-rank : (i : ℕ) → in_use s.p rows i ≡ true → 1 ≤ (get_or (run_of marks c s beta beta_h rows l).entries i no_entry).rank
      unfolding in_use
      used-rank i h = go (ltb i s.p) (eqb i 6) (eqb rows 0) (ltb-true i s.p) (eqb-true i 6) (eqb-false rows 0) h
        where
          go : (a b z : Bool) → (a ≡ true → i < s.p) → (b ≡ true → i ≡ 6) → (z ≡ false → rows ≡ 0 → ⊥) → (a || (b && not z)) ≡ true
              → 1 ≤ (get_or (run_of marks c s beta beta_h rows l).entries i no_entry).rank
          go true b z k m n e = rw (coefficient-entry i (k refl) P, coefficient-rank i) (le_refl 1)
          go false false z k m n e = absurd (true≢false (sym e))
          go false true true k m n e = absurd (true≢false (sym e))
          go false true false k m n e = rw (m refl, contrast-entry (n refl)) (contrast-least (n refl))

      -- an entry is in use exactly where its rank is not 0
      pub in-use-is : (i : ℕ) → in_use s.p rows i ≡ not (eqb (get_or (run_of marks c s beta beta_h rows l).entries i no_entry).rank 0)
      in-use-is i = go (in_use s.p rows i) (used-rank i) (unused-entry i)
        where
          go : (b : Bool) → (b ≡ true → 1 ≤ (get_or (run_of marks c s beta beta_h rows l).entries i no_entry).rank)
              → (b ≡ false → get_or (run_of marks c s beta beta_h rows l).entries i no_entry ≡ no_entry) → b ≡ not (eqb (get_or (run_of marks c s beta beta_h rows l).entries i no_entry).rank 0)
          go true u v = let h = u refl in rw (ne_eqb (get_or (run_of marks c s beta beta_h rows l).entries i no_entry).rank 0 (λ e. omega arith))
          go false u v = rw (v refl)
