-- A file that arrived in pieces, judged by what is kept of it: its number and its entries are the file's own.
use Prim.Native.Nat.{ℕ, ◌*◌, ◌/◌, ◌%◌, ◌≤◌, ◌<◌}
use native.Mathlib.Omega.{arith}
use native.Mathlib.Decide.{dec_lt}
use mathlib.Core.Path.{◌≡◌, refl, sym, ap, ◌∙◌}
use mathlib.Core.Bool.{Bool, true, false, not, cond, true≢false}
use mathlib.Core.List.{List, [], ◌∷◌}
use lib.Dec.{eqb}
use lib.ListN.{length, take, replicate}
use lib.Seq.{ext_get_or, length-take-le, get_or-take}
use borrow.Author.Tests.{eqb-true, eqb-false, ne_eqb, not-false, lt-ltb, le-ltb}
use Rattle.std.specs.Prelude.{Result, Ok, Err, IsErrAnd}
use Rattle.std.specs.Result.{result_unwrap_or}
use Rattle.arithmetic_cutoffs.specs.declared.Cutoffs.{Cutoffs}
use Rattle.arithmetic_cutoffs.specs.Cutoffs.{document_cutoffs}
use Rattle.tests.specs.declared.Entry.{Entry}
use Rattle.tests.specs.Answer.{no_entry}
use Rattle.algebra.specs.Reasons.{first}
use Rattle.algebra.proofs.ReasonLaws.{passed}
use Rattle.records.specs.declared.refusal.Refusal.{Refusal}
use Rattle.records.specs.format.Bytes.{byte}
use Rattle.records.specs.format.File.{count, length_reasons}
use Rattle.records.specs.format.Order.{falls, order_reasons}
use Rattle.records.specs.readers.Series.{reasons, refusal}
use Rattle.records.specs.calls.KenwardRogerCall.{number, entries}
use Rattle.records.specs.declared.Shape.TheVariants.{Series}
use Rattle.records.proofs.readers.Limits.{slot-count}
use Rattle.records_order.proofs.KeyLaws.{falls-each}
use Rattle.records_refusals.proofs.Length.{too_long}
use Rattle.records_kenward_roger.proofs.Numbers.{early-number, no-entries}
use Rattle.records_pieces.specs.declared.Arrival.{Arrival}
use Rattle.records_pieces.specs.joints.Arrived.{Arrived, arrived_as, nothing_yet, feds, joined_pieces, Came}
use Rattle.records_pieces.proofs.PieceLaws.{pieces-as-whole, fed-length}
use Rattle.records_pieces.proofs.CameLaws.{file-came}
use Rattle.records_arrived.specs.joints.ArrivedCall.{kept_file, unkept_number, arrived_number, arrived_entries, kept_length}

-- ---- three files of which nothing need be kept
-- one that is cut
cut-refusal : (s : List ℕ) → eqb (length s % 16) 0 ≡ false → refusal 24 s ≡ 2
unfolding refusal reasons length_reasons first
cut-refusal s h = rw h

-- one that falls
fallen-refusal : (s : List ℕ) → eqb (length s % 16) 0 ≡ true → falls s ≡ true → refusal 24 s ≡ 12
unfolding refusal reasons length_reasons order_reasons first
fallen-refusal s h f = rw (h, f)

-- one of more records than the panel's limits allow cells
long-refusal : (s : List ℕ) → kept_length ≤ length s → falls s ≡ false → refusal 24 s ≡ 2
long-refusal s h f = let e = slot-count 24 Series in too_long 24 (omega arith) s (omega arith) f

-- ---- its number and its entries, by whether something need be kept
module _ (c : Cutoffs) (a : Arrival) (kept : List ℕ) (n : ℕ) (q : n ≡ unkept_number a) where
  pub number-unkept : (n ≡ 0 → ⊥) → n ≡ arrived_number c a kept
  unfolding arrived_number
  number-unkept f = rw (← q, ne_eqb n 0 f)

  pub entries-unkept : (e : Entry) → e ≡ no_entry → (n ≡ 0 → ⊥) → replicate 7 e ≡ arrived_entries c a kept
  unfolding arrived_entries
  entries-unkept e h f = rw (h, ← q, ne_eqb n 0 f)

  pub number-kept : n ≡ 0 → number 24 c (kept_file a kept) ≡ arrived_number c a kept
  unfolding arrived_number
  number-kept z = rw (← q, z)

  pub entries-kept : n ≡ 0 → entries 24 c (kept_file a kept) ≡ arrived_entries c a kept
  unfolding arrived_entries
  entries-kept z = rw (← q, z)

-- of one that must be kept they are those of what is kept
pub arrived-kept : (a : Arrival) (kept : List ℕ) (c : Cutoffs) → 0 ≡ unkept_number a → c ≡ document_cutoffs → (number 24 c (kept_file a kept) ≡ arrived_number document_cutoffs a kept) × (entries 24 c (kept_file a kept) ≡ arrived_entries document_cutoffs a kept)
arrived-kept a kept c q e = rw e (number-kept document_cutoffs a kept 0 q refl, entries-kept document_cutoffs a kept 0 q refl)

-- what `?` passes on has no entry in use
pub none-passed : (r : Result (List Entry) Refusal) (e : Refusal) (es : List Entry) → IsErrAnd r (λ d. d ≡ e) → result_unwrap_or r es ≡ es
none-passed (Ok x) e es h = absurd h
none-passed (Err d) e es h = refl

-- ---- a file of bytes that came
module _ (c : Cutoffs) (s : List ℕ) (bytes : (i : ℕ) → byte s i < 256) (st : Arrived) (room : length st.kept ≡ kept_length) (k : Came s st) where
  abbrev a : Arrival
  a = st.arrival

  fell-is : a.fell ≡ falls s
  fell-is = k.fell ∙ sym (falls-each s bytes)

  cut-is : eqb a.part 0 ≡ eqb (length s % 16) 0
  cut-is = ap (λ (n : ℕ). eqb n 0) k.part

  longer-is : a.longer ≡ true → kept_length ≤ length s
  longer-is h = go (dec_lt (length st.kept / 16) (count s))
    where
      go : Dec (length st.kept / 16 < count s) → kept_length ≤ length s
      go (yes l) = omega arith
      go (no l) = absurd (true≢false (sym h ∙ k.longer ∙ le-ltb (length st.kept / 16) (count s) (omega arith)))

  unkept-refused : (unkept_number a ≡ 0 → ⊥) → unkept_number a ≡ refusal 24 s
  unfolding unkept_number first
  unkept-refused = go (eqb a.part 0) a.fell a.longer refl refl refl
    where
      go : (p f l : Bool) → eqb a.part 0 ≡ p → a.fell ≡ f → a.longer ≡ l → (◌≡◌ {A = ℕ} (cond (not p) 2 (cond f 12 (cond l 2 0))) 0 → ⊥) → cond (not p) 2 (cond f 12 (cond l 2 0)) ≡ refusal 24 s
      go false f l ep ef el h = sym (cut-refusal s (sym cut-is ∙ ep))
      go true true l ep ef el h = sym (fallen-refusal s (sym cut-is ∙ ep) (sym fell-is ∙ ef))
      go true false true ep ef el h = sym (long-refusal s (longer-is el) (sym fell-is ∙ ef))
      go true false false ep ef el h = absurd (h refl)

  kept-all : a.part ≡ 0 → a.longer ≡ false → kept_file a st.kept ≡ s
  kept-all e n = go (dec_lt (length st.kept / 16) (count s))
    where
      go : Dec (length st.kept / 16 < count s) → kept_file a st.kept ≡ s
      go (yes l) = absurd (true≢false (sym (k.longer ∙ lt-ltb (length st.kept / 16) (count s) l) ∙ n))
      go (no l) =
          let r = k.records in
          let p = k.part in
          let m : 16 * a.records ≡ length s = omega arith in
          let f : length (take (16 * a.records) st.kept) ≡ 16 * a.records = length-take-le (16 * a.records) st.kept (omega arith) in
          ext_get_or 0 (take (16 * a.records) st.kept) s (f ∙ m) (λ i h. let o : i < 16 * a.records = omega arith in get_or-take (16 * a.records) st.kept i 0 o ∙ k.kept i o)

  kept_whole : unkept_number a ≡ 0 → kept_file a st.kept ≡ s
  unfolding unkept_number
  kept_whole e =
      let p = passed 2 (not (eqb a.part 0)) ((12, a.fell) ∷ (2, a.longer) ∷ []) refl e in
      let q = passed 12 a.fell ((2, a.longer) ∷ []) refl p.1 in
      let r = passed 2 a.longer [] refl q.1 in
      kept-all (eqb-true a.part 0 (not-false (eqb a.part 0) p.0)) r.0

  -- THE NUMBER AND THE ENTRIES ARE THE FILE'S
  pub arrived-number : arrived_number c a st.kept ≡ number 24 c s
  unfolding arrived_number
  arrived-number = go (eqb (unkept_number a) 0) refl
    where
      go : (u : Bool) → eqb (unkept_number a) 0 ≡ u → cond u (number 24 c (kept_file a st.kept)) (unkept_number a) ≡ number 24 c s
      go true e = ap (number 24 c) (kept_whole (eqb-true (unkept_number a) 0 e))
      go false e = let f = eqb-false (unkept_number a) 0 e in early-number 24 c s (unkept_number a) (unkept-refused f) f

  pub arrived-entries : arrived_entries c a st.kept ≡ entries 24 c s
  unfolding arrived_entries
  arrived-entries = go (eqb (unkept_number a) 0) refl
    where
      go : (u : Bool) → eqb (unkept_number a) 0 ≡ u → cond u (entries 24 c (kept_file a st.kept)) (replicate 7 no_entry) ≡ entries 24 c s
      go true e = ap (entries 24 c) (kept_whole (eqb-true (unkept_number a) 0 e))
      go false e = let f = eqb-false (unkept_number a) 0 e in no-entries 24 c s no_entry refl (unkept_number a) (early-number 24 c s (unkept_number a) (unkept-refused f) f) f

-- ---- PIECES: of any number and any lengths, they leave what the file leaves that they are together, and so its number and its entries
pub pieces-came : (pieces : List (List ℕ)) (kept current : List ℕ) → length current ≡ 16 → Came (joined_pieces pieces) (feds pieces (arrived_as nothing_yet kept current))
pieces-came pieces kept current h = rw (pieces-as-whole pieces (arrived_as nothing_yet kept current)) (file-came (joined_pieces pieces) kept current h)

module _ (c : Cutoffs) (pieces : List (List ℕ)) (bytes : (i : ℕ) → byte (joined_pieces pieces) i < 256) (kept current : List ℕ) (room : length kept ≡ kept_length) (sixteen : length current ≡ 16) where
  abbrev after_pieces : Arrived
  after_pieces = feds pieces (arrived_as nothing_yet kept current)

  same-room : length after_pieces.kept ≡ kept_length
  same-room = ap (λ (st : Arrived). length st.kept) (pieces-as-whole pieces (arrived_as nothing_yet kept current)) ∙ fed-length (joined_pieces pieces) (arrived_as nothing_yet kept current) ∙ room

  pub pieces-number : arrived_number c after_pieces.arrival after_pieces.kept ≡ number 24 c (joined_pieces pieces)
  pieces-number = arrived-number c (joined_pieces pieces) bytes after_pieces same-room (pieces-came pieces kept current sixteen)

  pub pieces-entries : arrived_entries c after_pieces.arrival after_pieces.kept ≡ entries 24 c (joined_pieces pieces)
  pieces-entries = arrived-entries c (joined_pieces pieces) bytes after_pieces same-room (pieces-came pieces kept current sixteen)
