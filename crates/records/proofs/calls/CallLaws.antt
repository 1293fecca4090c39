-- The numbers of the calls by who refuses: the lent length, then the table, then the files, the reader before what is computed.
use Prim.Native.Nat.{ℕ}
use mathlib.Core.Path.{◌≡◌, refl, ap, sym, ◌∙◌}
use mathlib.Core.Bool.{Bool, true, false, not, ◌&&◌, cond}
use mathlib.Core.List.{List, [], ◌∷◌, ◌++◌}
use lib.Dec.{eqb}
use lib.ListN.{length}
use native.Mathlib.Omega.{arith}
use borrow.Author.Tests.{eq-eqb, ne_eqb, eqb-true, not-false, not-true}
use Rattle.arithmetic_cutoffs.specs.declared.Cutoffs.{Cutoffs}
use Rattle.algebra.specs.Reasons.{first}
use Rattle.algebra.proofs.ReasonLaws.{Line, named, lacks, Iff, Precisely, precisely, first-append, first_alone, passed}
use Rattle.adjustment.specs.Adjusted.{adjustment_reasons, adjustment_refusal}
use Rattle.records.specs.format.File.{length_reasons, form_reasons}
use Rattle.records.specs.format.Order.{order_reasons}
use Rattle.records.specs.readers.Series.{block_reasons, size_reasons, value_reasons, reasons, refusal, design, phi, sigma2}
use Rattle.records.specs.readers.Parameters.{value_reasons as parameterValueReasons, reasons as parameterReasons, refusal as parameterRefusal}
use Rattle.records.specs.readers.CutoffTable.{bad_table, table_reasons, cutoffs_in}
use Rattle.records.specs.calls.Call.{Call, lengths_fit, filled_by, call_reasons, call_returned, call_written}
use Rattle.records.specs.calls.KenwardRogerCall.{run, test_reasons, all_reasons, number}
use Rattle.records.specs.calls.SatterthwaiteCall.{outcome, test_reasons as satterthwaiteTestReasons, all_reasons as satterthwaiteReasons, number as satterthwaiteNumber}

-- a test the other way round
pub other_way : (b : Bool) (x y : ℕ) → cond (not b) x y ≡ cond b y x
other_way true x y = refl
other_way false x y = refl

-- a list that gives nothing leaves it to the next
pub first_next : (a b : List Line) → named a ≡ true → first a ≡ 0 → first (a ++ b) ≡ first b
first_next a b h e = first-append a b h ∙ ap (λ (n : ℕ). cond (eqb n 0) (first b) n) e

module _ (c : Cutoffs) (s : List ℕ) where
  -- the adjustment's number, 0 where it does not refuse
  abbrev pub file_adjustment_refusal : ℕ
  file_adjustment_refusal = adjustment_refusal c (design s) (phi s) (sigma2 s)

  later-is : first (adjustment_reasons c (design s) (phi s) (sigma2 s) ++ test_reasons c s) ≡ cond (eqb file_adjustment_refusal 0) (cond (run c s).refused 10 0) file_adjustment_refusal
  unfolding adjustment_refusal adjustment_reasons test_reasons first
  later-is = first-append (adjustment_reasons c (design s) (phi s) (sigma2 s)) (test_reasons c s) refl

  -- the Kenward–Roger call's number, from the reader's, the adjustment's and the run's
  pub number_is : (w : ℕ) → number w c s ≡ cond (eqb (refusal w s) 0) (cond (eqb file_adjustment_refusal 0) (cond (run c s).refused 10 0) file_adjustment_refusal) (refusal w s)
  unfolding number all_reasons refusal reasons length_reasons order_reasons form_reasons block_reasons size_reasons value_reasons
  number_is w =
      first-append (reasons w s) (adjustment_reasons c (design s) (phi s) (sigma2 s) ++ test_reasons c s) refl
      ∙ ap (λ (n : ℕ). cond (eqb (first (reasons w s)) 0) n (first (reasons w s))) later-is

  -- the Satterthwaite call's, from the reader's and the test's
  pub satterthwaite-number-is : satterthwaiteNumber c s ≡ cond (eqb (parameterRefusal s) 0) (cond (outcome c s).refused 11 0) (parameterRefusal s)
  unfolding satterthwaiteNumber satterthwaiteReasons satterthwaiteTestReasons parameterRefusal parameterReasons length_reasons order_reasons form_reasons parameterValueReasons first
  satterthwaite-number-is = first-append (parameterReasons s) (satterthwaiteTestReasons c s) refl

-- ---- EVERY CALL, by who refuses: the lent length, the table, the files
-- the number n where the table is accepted
abbrev pub past_table : List ℕ → ℕ → ℕ
past_table lab n = cond (bad_table lab) 14 n

module _ (k : Call) (lab lent : List ℕ) where
  abbrev rest : List Line
  rest = k.reasons (cutoffs_in lab)

  pub call-is : call_returned k lab lent ≡ cond (lengths_fit k lent) (past_table lab (first rest)) 1
  unfolding call_returned call_reasons table_reasons first
  call-is = other_way (lengths_fit k lent) 1 (first (table_reasons lab ++ rest))

  -- A REFUSAL KEEPS THE LENT BYTES
  pub refusal-keeps : (call_returned k lab lent ≡ 0 → ⊥) → call_written k lab lent ≡ lent
  unfolding call_written
  refusal-keeps h = rw (ne_eqb (call_returned k lab lent) 0 h)

  -- EACH NUMBER PRECISELY UNDER ITS CONDITION
  pub call-precisely : named rest ≡ true → Precisely (call_returned k lab lent) (call_reasons k lab lent)
  unfolding call_returned call_reasons table_reasons
  call-precisely h = precisely (call_reasons k lab lent) h

  -- 1 COMES FIRST: whatever the table and the files are
  pub call-one : lacks 1 rest ≡ true → Iff (call_returned k lab lent ≡ 1) (lengths_fit k lent ≡ false)
  unfolding call_returned call_reasons table_reasons first
  call-one h =
      let i = first_alone [] (table_reasons lab ++ rest) 1 (not (lengths_fit k lent)) (λ z. omega arith) refl refl h in
      record { to = λ e. not-true (lengths_fit k lent) (i.to e).1; from = λ p. rw p }

  -- 14: "any other table, after 1 and before the series is read", whatever the files are
  pub call-fourteen : lacks 14 rest ≡ true → Iff (call_returned k lab lent ≡ 14) ((lengths_fit k lent ≡ true) × (bad_table lab ≡ true))
  unfolding call_returned call_reasons table_reasons first
  call-fourteen h =
      let b = lengths_fit k lent in
      let i = first_alone ((1, not b) ∷ []) rest 14 (bad_table lab) (λ z. omega arith) refl refl h in
      record { to = λ e. let p = i.to e in (not-false b (passed 1 (not b) [] refl p.0).0, p.1); from = λ p. rw (p.0, p.1) }

  -- any other number precisely where the files give it, under an accepted table
  pub call-gives : (x : ℕ) → (x ≡ 1 → ⊥) → (x ≡ 14 → ⊥) → Iff (call_returned k lab lent ≡ x) ((lengths_fit k lent ≡ true) × (bad_table lab ≡ false) × (first rest ≡ x))
  call-gives x h g = record { to = λ e. to (lengths_fit k lent) (bad_table lab) (sym call-is ∙ e); from = λ p. call-is ∙ rw (p.0, p.1) p.2 }
    where
      to : (b d : Bool) → cond b (cond d 14 (first rest)) 1 ≡ x → (b ≡ true) × (d ≡ false) × (first rest ≡ x)
      to true true e = absurd (g (sym e))
      to true false e = (refl, refl, e)
      to false d e = absurd (h (sym e))

  pub call-accepted : call_returned k lab lent ≡ 0 → (lengths_fit k lent ≡ true) × (bad_table lab ≡ false) × (first rest ≡ 0)
  call-accepted e = (call-gives 0 (λ z. omega arith) (λ z. omega arith)).to e

  pub accepted-fills : call_returned k lab lent ≡ 0 → call_written k lab lent ≡ k.full (cutoffs_in lab) lent
  unfolding call_written
  accepted-fills e = rw e

  -- ---- what code answers, by who refuses
  refuses-with : (n : ℕ) → (n ≡ 0 → ⊥) → call_returned k lab lent ≡ n → (n ≡ call_returned k lab lent) × (lent ≡ call_written k lab lent)
  refuses-with n h e = (sym e, sym (refusal-keeps (λ z. h (sym e ∙ z))))

  pub other-lengths : lengths_fit k lent ≡ false → (1 ≡ call_returned k lab lent) × (lent ≡ call_written k lab lent)
  other-lengths h = refuses-with 1 (λ z. omega arith) (call-is ∙ rw h)

  pub other_length : (length lent ≡ k.stated → ⊥) → (1 ≡ call_returned k lab lent) × (lent ≡ call_written k lab lent)
  other_length h = other-lengths (go k.besides (ne_eqb (length lent) k.stated h))
    where
      go : (b : Bool) {d : Bool} → d ≡ false → b && d ≡ false
      go true e = e
      go false e = refl

  -- every lent length is the stated one
  module _ (others : k.besides ≡ true) (stated : length lent ≡ k.stated) where
    lengths-fit : lengths_fit k lent ≡ true
    lengths-fit = rw (others, eq-eqb (length lent) k.stated stated)

    pub files-decide : bad_table lab ≡ false → call_returned k lab lent ≡ first rest
    files-decide ok = call-is ∙ rw (lengths-fit, ok)

    pub other-table : bad_table lab ≡ true → (14 ≡ call_returned k lab lent) × (lent ≡ call_written k lab lent)
    other-table bad = refuses-with 14 (λ z. omega arith) (call-is ∙ rw (lengths-fit, bad))

    -- `c` are the cutoffs that it read from the table
    pub own-answer : bad_table lab ≡ false → (c : Cutoffs) → c ≡ cutoffs_in lab → (n : ℕ) (bytes : List ℕ) → n ≡ first (k.reasons c) → bytes ≡ filled_by (first (k.reasons c)) (k.full c lent) lent
        → (n ≡ call_returned k lab lent) × (bytes ≡ call_written k lab lent)
    unfolding call_written
    own-answer ok c e n bytes q b =
        let f = files-decide ok in
        (q ∙ ap (λ (x : Cutoffs). first (k.reasons x)) e ∙ sym f, b ∙ ap (λ (x : Cutoffs). filled_by (first (k.reasons x)) (k.full x lent) lent) e ∙ rw f)

-- a call that is lent its answer bytes alone: their length m is the stated one n
pub by_length : {A B : Type 0} (m n : ℕ) → Iff A ((eqb m n ≡ true) × B) → Iff A ((m ≡ n) × B)
by_length m n i = record { to = λ a. let p = i.to a in (eqb-true m n p.0, p.1); from = λ p. i.from (eq-eqb m n p.0, p.1) }

-- ---- TWO CALLS ANSWER ALIKE whose files give one number and, where it is 0, one answer
pub record AnswersAlike (k j : Call) (c : Cutoffs) (lent : List ℕ) : Type 0 where
  pub stated : k.stated ≡ j.stated
  pub besides : k.besides ≡ j.besides
  pub number : first (k.reasons c) ≡ first (j.reasons c)
  pub full : first (j.reasons c) ≡ 0 → k.full c lent ≡ j.full c lent

module _ (k j : Call) (lab lent : List ℕ) (a : AnswersAlike k j (cutoffs_in lab) lent) where
  pub alike-returned : call_returned k lab lent ≡ call_returned j lab lent
  alike-returned = call-is k lab lent ∙ rw (a.stated, a.besides, a.number) (sym (call-is j lab lent))

  pub alike-written : call_written k lab lent ≡ call_written j lab lent
  unfolding call_written
  alike-written = rw (alike-returned) (go (eqb (call_returned j lab lent) 0) refl)
    where
      go : (b : Bool) → eqb (call_returned j lab lent) 0 ≡ b → cond b (k.full (cutoffs_in lab) lent) lent ≡ cond b (j.full (cutoffs_in lab) lent) lent
      go true e = a.full (call-accepted j lab lent (eqb-true (call_returned j lab lent) 0 e)).2
      go false e = refl

-- ---- lent bytes that a file's number n leaves as they are, or fills
pub kept-bytes : (k n : ℕ) (full lent : List ℕ) → k ≡ n → (k ≡ 0 → ⊥) → lent ≡ cond (eqb n 0) full lent
kept-bytes k n full lent e h = rw (← e, ne_eqb k 0 h)

pub filled-bytes : (k n : ℕ) (full lent bytes : List ℕ) → k ≡ n → k ≡ 0 → bytes ≡ full → (0 ≡ n) × (bytes ≡ cond (eqb n 0) full lent)
filled-bytes k n full lent bytes e z b = let q : n ≡ 0 = sym e ∙ z in (sym q, b ∙ rw q)
