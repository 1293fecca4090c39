-- How long an archive's file is, and so what the writer returns: the length, a multiple of 16 from 128 to 7184, or a refusal's number, below 128.
use Prim.Native.Nat.{ℕ, ◌+◌, ◌*◌, ◌%◌, ◌<◌, ◌≤◌}
use mathlib.Core.Path.{◌≡◌, refl}
use mathlib.Core.Bool.{Bool, true, false, not, ◌&&◌, cond}
use mathlib.Core.List.{List, [], ◌∷◌, ◌++◌}
use native.Mathlib.Nat.{mul-le-mul}
use native.Mathlib.Omega.{arith}
use lib.Dec.{eqb, ltb}
use lib.ListN.{length}
use borrow.Author.Tests.{ne_eqb, eqb-true, eqb-false, ltb-true}
use Rattle.algebra.specs.Reasons.{first}
use Rattle.algebra.proofs.ReasonLaws.{Line, Iff}
use Rattle.adjustment.specs.Adjusted.{adjustment_reasons}
use Rattle.records.specs.format.Scan.{total}
use Rattle.records.specs.format.Kinds.{kind_at, width, archive_kinds}
use Rattle.records.specs.format.Cells.{slots, first_slot, slot_count}
use Rattle.records.specs.format.File.{length_reasons, form_reasons}
use Rattle.records.specs.format.Order.{order_reasons}
use Rattle.records.specs.readers.Series as series
use Rattle.records.specs.readers.Archive.{Archive, sizes_at, archive_content, archive_bytes}
use Rattle.records.specs.readers.CutoffTable.{table_reasons, cutoffs_in}
use Rattle.records.specs.calls.Call.{call_reasons, call_returned}
use Rattle.records.specs.calls.ArchiveCall.{series_archive, series_reasons, series_refusal, archiving_call, told, archiving_refusal, archiving_returned}
use Rattle.records.proofs.format.ScanLaws.{and-true}
use Rattle.records.proofs.format.WrittenLaws.{length-file}
use Rattle.records.proofs.calls.CallLaws.{call-accepted}
use Rattle.records.proofs.promises.ArchiveBack.{archive_kinds_of, series-archivable}

-- ---- the records: Φ and Φ_A, scaled and not, the Ps, scaled and not, W, sigma2
archive-slot-count : (p N : ℕ) → slot_count (archive_kinds (sizes_at p N)) ≡ 4 * (p * p) + 2 * (N * (p * p)) + N * N + 1
unfolding first_slot total slots width kind_at archive_kinds sizes_at
archive-slot-count p N = omega arith

-- "7,184 bytes": of sizes within the limits at most 449 records
pub archive-slots : (p N : ℕ) → p ≤ 6 → N ≤ 4 → slot_count (archive_kinds (sizes_at p N)) ≤ 449
archive-slots p N p6 N4 =
    let e = archive-slot-count p N in
    let high : p * p ≤ 36 = mul-le-mul p6 p6 in
    let highs : N * (p * p) ≤ 4 * 36 = mul-le-mul N4 high in
    let most : N * N ≤ 16 = mul-le-mul N4 N4 in
    omega arith

-- and at least 8
slots-least : (p N : ℕ) → 1 ≤ p → 1 ≤ N → 8 ≤ slot_count (archive_kinds (sizes_at p N))
slots-least p N p1 N1 =
    let e = archive-slot-count p N in
    let low : 1 ≤ p * p = mul-le-mul p1 p1 in
    let lows : 1 ≤ N * (p * p) = mul-le-mul N1 low in
    let least : 1 ≤ N * N = mul-le-mul N1 N1 in
    omega arith

-- so 128 bytes at the least, 7184 at the most
record LengthWithin (n : ℕ) : Type 0 where
  least : 128 ≤ n
  whole : n % 16 ≡ 0
  most : n ≤ 7184

length-within : (a : Archive) → 1 ≤ a.coefficients → a.coefficients ≤ 6 → 1 ≤ a.parameters → a.parameters ≤ 4 → LengthWithin (length (archive_bytes a))
unfolding archive_bytes
length-within a p1 p6 N1 N4 =
    let e = length-file (archive_kinds_of a) (archive_content a) in
    let low = slots-least a.coefficients a.parameters p1 N1 in
    let high = archive-slots a.coefficients a.parameters p6 N4 in
    record { least = omega arith; whole = omega arith; most = omega arith }

-- ---- the numbers of a list of reasons are below b
abbrev all_numbers_below : ℕ → List Line → Bool
all_numbers_below b [] = true
all_numbers_below b (x ∷ l) = ltb x.0 b && all_numbers_below b l

-- and so is the one that is given
first_below : (b : ℕ) (l : List Line) → 0 < b → all_numbers_below b l ≡ true → first l < b
unfolding first
first_below b [] h e = h
first_below b (x ∷ l) h e = let p = and-true (ltb x.0 b) (all_numbers_below b l) e in go x.1 (ltb-true x.0 b p.0) (first_below b l h p.1)
  where
    go : (c : Bool) → x.0 < b → first l < b → cond c x.0 (first l) < b
    go true m n = m
    go false m n = n

-- ---- the writer
module _ (w : ℕ) (lab s lent : List ℕ) where
  -- what refuses no call refuses no series
  archiving-series : archiving_refusal w lab s lent ≡ 0 → series_refusal w (cutoffs_in lab) s ≡ 0
  unfolding series_refusal
  archiving-series e = (call-accepted (archiving_call w s) lab lent e).2

  -- a length
  pub archiving-length : archiving_refusal w lab s lent ≡ 0
      → (128 ≤ archiving_returned w lab s lent) × (archiving_returned w lab s lent % 16 ≡ 0) × (archiving_returned w lab s lent ≤ 7184)
  unfolding told
  archiving-length e =
      let h = archiving-series e in
      let a = series-archivable w (cutoffs_in lab) s h in
      let l = length-within (series_archive (cutoffs_in lab) s) a.some_coefficients a.coefficients_below a.some_parameters a.parameters_below in
      rw e (l.least, l.whole, l.most)

  -- or a number
  refusal-below : archiving_refusal w lab s lent < 128
  unfolding call_returned call_reasons table_reasons series_reasons series.reasons length_reasons order_reasons form_reasons series.block_reasons series.size_reasons series.value_reasons adjustment_reasons
  refusal-below = first_below 128 (call_reasons (archiving_call w s) lab lent) (omega arith) refl

  pub archiving-number : (archiving_refusal w lab s lent ≡ 0 → ⊥) → archiving_returned w lab s lent < 128
  unfolding told
  archiving-number h = rw (ne_eqb (archiving_refusal w lab s lent) 0 h) refusal-below

  -- so that a number below 128 is returned precisely where it refuses, and one from 128 on precisely where nothing does
  pub archiving-refuses : (n : ℕ) → (n ≡ 0 → ⊥) → n < 128 → Iff (archiving_returned w lab s lent ≡ n) (archiving_refusal w lab s lent ≡ n)
  unfolding told
  archiving-refuses n z l = record { to = to (eqb (archiving_refusal w lab s lent) 0) refl; from = λ e. rw (e, ne_eqb n 0 z) }
    where
      to : (b : Bool) → eqb (archiving_refusal w lab s lent) 0 ≡ b → archiving_returned w lab s lent ≡ n → archiving_refusal w lab s lent ≡ n
      to true q e = let a = (archiving-length (eqb-true (archiving_refusal w lab s lent) 0 q)).0 in absurd (omega arith)
      to false q e = rw q at e

  pub archiving-accepts : Iff (128 ≤ archiving_returned w lab s lent) (archiving_refusal w lab s lent ≡ 0)
  archiving-accepts = record { to = to (eqb (archiving_refusal w lab s lent) 0) refl; from = λ e. (archiving-length e).0 }
    where
      to : (b : Bool) → eqb (archiving_refusal w lab s lent) 0 ≡ b → 128 ≤ archiving_returned w lab s lent → archiving_refusal w lab s lent ≡ 0
      to true q h = eqb-true (archiving_refusal w lab s lent) 0 q
      to false q h = let a = archiving-number (eqb-false (archiving_refusal w lab s lent) 0 q) in absurd (omega arith)
