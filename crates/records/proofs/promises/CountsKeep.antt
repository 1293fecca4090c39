-- What was accepted with bare blocks is accepted with their parameter counts written, with the same answer (specs/promises/CountsKeep.antt): every reason of the reader but 13 holds of the one file where it holds of the
-- other, no block is miscounted, and the run is of the same numbers.
use Prim.Native.Nat.{ℕ, ◌+◌, ◌*◌, ◌/◌, ◌%◌, ◌<◌, ◌≤◌}
use mathlib.Core.Path.{◌≡◌, refl, sym, ap, ◌∙◌}
use mathlib.Core.Bool.{Bool, true, false, not, ◌&&◌, ◌||◌, cond, false≢true}
use mathlib.Core.List.{List, [], ◌∷◌, ◌++◌}
use native.Mathlib.Omega.{arith}
use native.Mathlib.Decide.{dec_lt}
use lib.Dec.{eqb, ltb, lit≤}
use lib.ListN.{length, replicate, get_or-eq_default}
use lib.Ieee.{Float}
use borrow.Author.Tests.{eq-eqb, eqb-true, eqb-false, ne_eqb, lt-ltb, not-false}
use Rattle.arithmetic.specs.Numbers.{is_zero, is_finite}
use Rattle.arithmetic_cutoffs.specs.declared.Cutoffs.{Cutoffs}
use Rattle.algebra.specs.Reasons.{first}
use Rattle.algebra.proofs.ReasonLaws.{Line, NoneHolds, first-none}
use Rattle.adjustment.specs.Adjusted.{adjustment_reasons}
use Rattle.tests.specs.Answer.{no_entry}
use Rattle.records.specs.format.Bytes.{byte}
use Rattle.records.specs.format.Scan.{any}
use Rattle.records.specs.format.Kinds.{Table, kind_at, index_of, value_holds, kenward_roger_kinds, kenward_roger}
use Rattle.records.specs.format.File.{count, kind_of, row_of, column_of, bits_of, again, rows, not_finite, length_reasons, form_reasons}
use Rattle.records.specs.format.Order.{order_reasons}
use Rattle.records.specs.format.Alike.{Alike, Stays}
use Rattle.records.specs.text.Text.{text_of}
use Rattle.records.specs.readers.Shortened.{all_torn, shortened}
use Rattle.records.specs.readers.Series.{block_count, kinds, sigma2, block_of, as_sent, parameter_count, miscounted, bad_size, block_reasons, size_reasons, value_reasons, reasons, refusal, design, phi}
use Rattle.records.specs.readers.CutoffTable.{bad_table, cutoffs_in}
use Rattle.records.specs.before.Untabled.{untabled_returned}
use Rattle.records.specs.calls.KenwardRogerCall.{adjusted, scaled, run, test_reasons, all_reasons, number, entries, series_call}
use Rattle.records.specs.calls.ArchiveCall.{series_archive, series_reasons, archiving_call, told, archiving_returned}
use Rattle.records.specs.before.BareBlocks.{block_bits, bare_reasons, bare_list, bare_call, bare_text, bare_archiving}
use Rattle.records.specs.promises.CountsKeep.{with_counts, uncountable, Countable, CountsKeep}
use Rattle.records.proofs.format.ScanLaws.{or-false, any_none, none_any, any_same, le-most}
use Rattle.records.proofs.format.CellLaws.{own-last}
use Rattle.records.proofs.format.SameFile.{count_same, rows_same, columns-same, length-same, falls-same, form-same}
use Rattle.records.proofs.readers.SameSeries as same
use Rattle.records.proofs.calls.CallLaws.{AnswersAlike}
use Rattle.records.proofs.before.UntabledLaws.{former-returned, former-written}
use Rattle.records.proofs.promises.SortedLaws.{told-once-accepted}
use Rattle.records.proofs.promises.CountLaws.{small-finite, past-a-byte, counts-alike, bits-stay, counts-stay, bits-block, counts-right, counts-none, CountableBlock, countable-block}

-- ---- a file of whole records whose blocks' counts can be written
module _ (s : List ℕ) (h : Countable s) where
  abbrev s' : List ℕ
  s' = with_counts s

  alike : Alike s (with_counts s)
  alike = counts-alike s h.0

  stays : (k : ℕ) → (k ≡ 3 → ⊥) → Stays s (with_counts s) k
  stays = counts-stay s h.0

  -- past its end a file reads 0, so that a block is one of its records
  block-below : (i : ℕ) → kind_of s i ≡ 3 → i < count s
  block-below i q = go (dec_lt i (count s))
    where
      go : Dec (i < count s) → i < count s
      go (yes l) = l
      go (no l) = let w = h.0 in let e : byte s (16 * i) ≡ 0 = get_or-eq_default s 0 (omega arith) in absurd (omega arith)

  block : (i : ℕ) → kind_of s i ≡ 3 → CountableBlock s i
  block i q = countable-block s h i (block-below i q) q

  block-bits : (i : ℕ) → kind_of s i ≡ 3 → bits_of s' i ≡ parameter_count s i
  block-bits i q = bits-block s h.0 i (block-below i q) q (block i q).bare

  -- ---- the reader's reasons
  -- a block's count is one byte, and every other value is as it was
  values-hold : (w i : ℕ) → value_holds (kind_at (kenward_roger w) (kind_of s i)).value (bits_of s' i) ≡ value_holds (kind_at (kenward_roger w) (kind_of s i)).value (bits_of s i)
  unfolding value_holds kind_at kenward_roger_kinds
  values-hold w i = go (eqb (kind_of s i) 3) refl
    where
      go : (b : Bool) → eqb (kind_of s i) 3 ≡ b → value_holds (kind_at (kenward_roger w) (kind_of s i)).value (bits_of s' i) ≡ value_holds (kind_at (kenward_roger w) (kind_of s i)).value (bits_of s i)
      go true e = let q = eqb-true (kind_of s i) 3 e in rw (q, block-bits i q, (block i q).bare) (lt-ltb (parameter_count s i) 256 (block i q).fits)
      go false e = ap (value_holds (kind_at (kenward_roger w) (kind_of s i)).value) (bits-stay s h.0 i (eqb-false (kind_of s i) 3 e))

  formed : (w : ℕ) → form_reasons (kenward_roger w) (kinds s') s' ≡ form_reasons (kenward_roger w) (kinds s) s
  formed w = ap (λ (t : Table). form_reasons (kenward_roger w) t s') (same.kinds-same alike) ∙ form-same alike (kenward_roger w) (kinds s) (values-hold w)

  finite : any (count s') (not_finite s') ≡ any (count s) (not_finite s)
  unfolding not_finite
  finite = ap (λ (n : ℕ). any n (not_finite s')) (count_same alike) ∙ any_same (count s) (not_finite s') (not_finite s) (λ i l. go i (eqb (kind_of s i) 3) refl)
    where
      go : (i : ℕ) (b : Bool) → eqb (kind_of s i) 3 ≡ b → not_finite s' i ≡ not_finite s i
      go i true e =
          let q = eqb-true (kind_of s i) 3 e in
          let l = (block i q).fits in
          rw (block-bits i q, (block i q).bare, small-finite (parameter_count s i) l, small-finite 0 (omega arith))
      go i false e = ap (λ (x : Float). not (is_finite x)) (stays (kind_of s i) (eqb-false (kind_of s i) 3 e) i refl)

  sent : as_sent s' ≡ as_sent s
  sent = same.sent-same alike (stays 1 (λ e. omega arith)) (stays 2 (λ e. omega arith)) (stays 4 (λ e. omega arith)) (stays 5 (λ e. omega arith))

  variance : sigma2 s' ≡ sigma2 s
  variance = same.value_same alike 7 0 0 (stays 7 (λ e. omega arith))

  -- one after another, with no block miscounted
  read-reasons : (w : ℕ) → reasons w s' ≡ length_reasons s ++ (order_reasons s ++ (form_reasons (kenward_roger w) (kinds s) s ++ (((13, false) ∷ []) ++ (size_reasons s ++ value_reasons s))))
  unfolding reasons order_reasons block_reasons size_reasons value_reasons
  read-reasons w =
      rw (length-same alike, falls-same alike, formed w, counts-right s h.0, same.bad_size-same alike, sent, finite, variance, same.bad_weight-same alike (stays 5 (λ e. omega arith)), same.misfit-same alike, same.zero_contrast-same alike (λ r c. ap is_zero (same.value_same alike 9 r c (stays 9 (λ e. omega arith)))))

  none-bits : any (count s) (block_bits s) ≡ false
  unfolding block_bits
  none-bits = none_any (count s) (block_bits s) (λ i l. go i (eqb (kind_of s i) 3) refl)
    where
      go : (i : ℕ) (b : Bool) → eqb (kind_of s i) 3 ≡ b → b && not (eqb (bits_of s i) 0) ≡ false
      go i true e = rw (block i (eqb-true (kind_of s i) 3 e)).bare
      go i false e = refl

  bare-reasons : (w : ℕ) → bare_reasons w s ≡ length_reasons s ++ (order_reasons s ++ ((2, false) ∷ (form_reasons (kenward_roger w) (kinds s) s ++ (size_reasons s ++ value_reasons s))))
  unfolding bare_reasons
  bare-reasons w = rw none-bits

  -- so the first that holds is the same, whatever reasons come after them
  passed_over : (w : ℕ) (rest : List Line) → first ((length_reasons s ++ (order_reasons s ++ (form_reasons (kenward_roger w) (kinds s) s ++ (((13, false) ∷ []) ++ (size_reasons s ++ value_reasons s))))) ++ rest)
      ≡ first ((length_reasons s ++ (order_reasons s ++ ((2, false) ∷ (form_reasons (kenward_roger w) (kinds s) s ++ (size_reasons s ++ value_reasons s))))) ++ rest)
  unfolding length_reasons order_reasons form_reasons size_reasons value_reasons first
  passed_over w rest = refl

  first-same : (w : ℕ) (rest : List Line) → first (reasons w s' ++ rest) ≡ first (bare_reasons w s ++ rest)
  first-same w rest = ap (λ (x : List Line). first (x ++ rest)) (read-reasons w) ∙ passed_over w rest ∙ ap (λ (x : List Line). first (x ++ rest)) (sym (bare-reasons w))

  refusal-same : (w : ℕ) → refusal w s' ≡ first (bare_reasons w s)
  unfolding refusal reasons bare_reasons length_reasons order_reasons form_reasons block_reasons size_reasons value_reasons first
  refusal-same w = first-same w []

  -- ---- the numbers of the run
  design-same : design s' ≡ design s
  unfolding design
  design-same = ap shortened sent

  phi-same : phi s' ≡ phi s
  phi-same = same.phi-same alike (stays 6 (λ e. omega arith))

  module _ (c : Cutoffs) where
    run-same : run c s' ≡ run c s
    unfolding run scaled adjusted
    run-same = rw (columns-same alike 1, design-same, phi-same, variance, same.beta-same alike (stays 8 (λ e. omega arith)), same.beta_h-same alike (stays 10 (λ e. omega arith)), rows_same alike 9, same.contrast-same alike (stays 9 (λ e. omega arith)))

    archive-same : series_archive c s' ≡ series_archive c s
    unfolding series_archive adjusted
    archive-same = rw (columns-same alike 1, design-same, phi-same, variance)

    -- ---- THE ANSWERS, for every limit of specimens
    module _ (w : ℕ) where
      number_same : number w c s' ≡ first (bare_list w c s)
      unfolding number all_reasons bare_list test_reasons
      number_same = rw (design-same, phi-same, variance, run-same) (first-same w (adjustment_reasons c (design s) (phi s) (sigma2 s) ++ test_reasons c s))

      text_same : text_of (number w c s') (entries w c s') ≡ bare_text w c s
      unfolding entries bare_text
      text_same = rw (← number_same, run-same) (told-once-accepted (number w c s') (run c s).entries (replicate 7 no_entry))

      -- what the calls return, and the lent bytes
      counted-alike : (answer : List ℕ) → AnswersAlike (series_call w s') (bare_call w s) c answer
      unfolding number entries
      counted-alike answer = record { stated = refl; besides = refl; number = number_same; full = λ z. rw (number_same, z, run-same) }

      archiving-alike : (lent : List ℕ) → AnswersAlike (archiving_call w s') (bare_archiving w s) c lent
      unfolding series_reasons
      archiving-alike lent = record { stated = refl; besides = refl; number = rw (design-same, phi-same, variance) (first-same w (adjustment_reasons c (design s) (phi s) (sigma2 s))); full = λ z. rw archive-same }

  archiving-told : (lab : List ℕ) → bad_table lab ≡ false → (w : ℕ) (lent : List ℕ) → archiving_returned w lab s' lent ≡ told (cutoffs_in lab) s (untabled_returned (bare_archiving w s) (cutoffs_in lab) lent)
  unfolding told
  archiving-told lab ok w lent = rw (former-returned (archiving_call w s') (bare_archiving w s) lab lent ok (archiving-alike (cutoffs_in lab) w lent), archive-same (cutoffs_in lab))

-- ---- what was accepted before
-- the k of a block's record is the block's, where no cell is named twice
effects-own : (s : List ℕ) (i : ℕ) → i < count s → any (count s) (again (kinds s) s) ≡ false → kind_of s i ≡ 3 → (block_of s (row_of s i)).effects ≡ column_of s i
unfolding block_of kind_at kenward_roger_kinds index_of
effects-own s i l once q = rw q at (own-last (kinds s) s (column_of s) 0 i l once)

block_row : (s : List ℕ) (i : ℕ) → i < count s → kind_of s i ≡ 3 → row_of s i < block_count s
unfolding rows
block_row s i l q =
    let m : cond (eqb (kind_of s i) 3) (row_of s i + 1) 0 ≤ block_count s = le-most (count s) (λ j. cond (eqb (kind_of s j) 3) (row_of s j + 1) 0) i l in
    let n : row_of s i + 1 ≤ block_count s = rw (eq-eqb (kind_of s i) 3 q) at m in
    omega arith

-- a block of one or two effects has one parameter or three
few-parameters : (k m : ℕ) → not (eqb k 1 || eqb k 2) || eqb m 0 ≡ false → k * (k + 1) / 2 < 256
few-parameters k m h = go (eqb k 1) (eqb k 2) refl refl (not-false (eqb k 1 || eqb k 2) (or-false (not (eqb k 1 || eqb k 2)) (eqb m 0) h).0)
  where
    go : (a b : Bool) → eqb k 1 ≡ a → eqb k 2 ≡ b → a || b ≡ true → k * (k + 1) / 2 < 256
    go true b e f t = rw (eqb-true k 1 e) (omega arith)
    go false true e f t = rw (eqb-true k 2 f) (omega arith)
    go false false e f t = absurd (false≢true t)

countable-accepted : (w : ℕ) (s : List ℕ) → first (bare_reasons w s) ≡ 0 → Countable s
unfolding bare_reasons length_reasons order_reasons form_reasons size_reasons value_reasons bad_size uncountable block_bits
countable-accepted w s e =
    let n : NoneHolds (bare_reasons w s) = first-none (bare_reasons w s) refl e in
    let sized : bad_size s ≡ false = (or-false (bad_size s) (all_torn (as_sent s)) (n 7 (lit≤ tt))).0 in
    (eqb-true (length s % 16) 0 (not-false (eqb (length s % 16) 0) (n 0 (lit≤ tt))), none_any (count s) (uncountable s) (λ i l. go (n 2 (lit≤ tt)) (n 4 (lit≤ tt)) sized i l (eqb (kind_of s i) 3) refl))
  where
    go : any (count s) (block_bits s) ≡ false → any (count s) (again (kinds s) s) ≡ false → bad_size s ≡ false → (i : ℕ) → i < count s → (b : Bool) → eqb (kind_of s i) 3 ≡ b
        → b && (not (eqb (bits_of s i) 0) || not (ltb (parameter_count s i) 256)) ≡ false
    go bare once sized i l false t = refl
    go bare once sized i l true t =
        let q = eqb-true (kind_of s i) 3 t in
        let x : not (eqb (bits_of s i) 0) ≡ false = rw t at (any_none (count s) (block_bits s) i l bare) in
        let d = (or-false (any (block_count s) (λ b. not (eqb (block_of s b).effects 1 || eqb (block_of s b).effects 2) || eqb (block_of s b).groups 0)) _ sized).0 in
        let y = any_none (block_count s) (λ b. not (eqb (block_of s b).effects 1 || eqb (block_of s b).effects 2) || eqb (block_of s b).groups 0) (row_of s i) (block_row s i l q) d in
        let z : parameter_count s i < 256 = few-parameters (column_of s i) (block_of s (row_of s i)).groups (rw (effects-own s i l once q) at y) in
        rw (x, lt-ltb (parameter_count s i) 256 z)

accepted-counts : (w : ℕ) (s : List ℕ) → first (bare_reasons w s) ≡ 0 → refusal w (with_counts s) ≡ 0
accepted-counts w s e = refusal-same s (countable-accepted w s e) w ∙ e

-- ---- a k whose count is no byte
never-right : (s : List ℕ) → ((i : ℕ) → byte s i < 256) → (i : ℕ) → kind_of s i ≡ 3 → 23 ≤ column_of s i → miscounted s i ≡ true
unfolding miscounted
never-right s bytes i q l =
    let b = bytes (16 * i + 8) in
    let p = past-a-byte (column_of s i) l in
    rw (eq-eqb (kind_of s i) 3 q) (ap not (ne_eqb (byte s (16 * i + 8)) (parameter_count s i) (λ e. omega arith)))

-- WHAT WAS ACCEPTED BEFORE KEEPS ITS ANSWER
pub counts-keep : CountsKeep
counts-keep = record {
  accepted = accepted-counts;
  countable = countable-accepted;
  same_number = λ w lab s answer ok h. former-returned (series_call w (with_counts s)) (bare_call w s) lab answer ok (counted-alike s h (cutoffs_in lab) w answer);
  same_bytes = λ w lab s answer ok h. former-written (series_call w (with_counts s)) (bare_call w s) lab answer ok (counted-alike s h (cutoffs_in lab) w answer);
  same_text = λ w c s h. text_same s h c w;
  same_archive = λ w lab s lent ok h. (archiving-told s h lab ok w lent, former-written (archiving_call w (with_counts s)) (bare_archiving w s) lab lent ok (archiving-alike s h (cutoffs_in lab) w lent));
  no_block = counts-none;
  never_right = never-right;
}
