-- Document 02, "Req 04": what is promised of blocks that hold their parameter count, on the bytes of files, for every limit of specimens, accepted table and lent bytes.
use Rattle.std.specs.Prelude.{ℕ, ◌%◌, ◌<◌, ◌≤◌, ◌≡◌, Bool, true, false, not, ◌&&◌, ◌||◌, cond, List, eqb, ltb, length, set}
use Rattle.arithmetic_cutoffs.specs.declared.Cutoffs.{Cutoffs}
use Rattle.algebra.specs.Reasons.{first}
use Rattle.records.specs.format.Bytes.{byte}
use Rattle.records.specs.format.Scan.{any}
use Rattle.records.specs.format.File.{count, kind_of, column_of, bits_of}
use Rattle.records.specs.format.KindNumbers.{kind_block}
use Rattle.records.specs.format.Written.{sequence, record_at}
use Rattle.records.specs.readers.CutoffTable.{bad_table, cutoffs_in}
use Rattle.records.specs.text.Text.{text_of}
use Rattle.records.specs.readers.Series.{parameter_count, miscounted, refusal}
use Rattle.records.specs.calls.KenwardRogerCall.{number, entries, returned, written}
use Rattle.records.specs.calls.ArchiveCall.{told, archiving_returned, archiving_written}
use Rattle.records.specs.before.Untabled.{untabled_returned, untabled_written}
use Rattle.records.specs.before.BareBlocks.{bare_reasons, bare_call, bare_text, bare_archiving}

-- ---- the file with its blocks' parameter counts written
-- record i with k(k+1)/2 in "the first of the eight value bytes", where it is a block
unfoldable pub with_count : List ℕ → ℕ → List ℕ
with_count s i = cond (eqb (kind_of s i) kind_block) (set (record_at s i) 8 (parameter_count s i)) (record_at s i)

unfoldable pub with_counts : List ℕ → List ℕ
with_counts s = sequence (count s) (with_count s)

-- a block whose count cannot be written: it is not bare, or k(k+1)/2 is more than a byte holds, as it is for every k from 23 on
unfoldable pub uncountable : List ℕ → ℕ → Bool
uncountable s i = eqb (kind_of s i) kind_block && (not (eqb (bits_of s i) 0) || not (ltb (parameter_count s i) 256))

-- a file of whole records without such a block
abbrev pub Countable : List ℕ → Type 0
Countable s = (length s % 16 ≡ 0) × (any (count s) (uncountable s) ≡ false)

pub record CountsKeep : Type 0 where
  -- what was accepted before is accepted with its blocks' counts written
  pub accepted : (w : ℕ) (s : List ℕ) → first (bare_reasons w s) ≡ 0 → refusal w (with_counts s) ≡ 0
  -- with the same answer; so it is for every file whose blocks' counts can be written, and a refused one keeps its number: what is returned, the lent bytes, the program's text, and the archive
  pub countable : (w : ℕ) (s : List ℕ) → first (bare_reasons w s) ≡ 0 → Countable s
  pub same_number : (w : ℕ) (lab s answer : List ℕ) → bad_table lab ≡ false → Countable s → returned w lab (with_counts s) answer ≡ untabled_returned (bare_call w s) (cutoffs_in lab) answer
  pub same_bytes : (w : ℕ) (lab s answer : List ℕ) → bad_table lab ≡ false → Countable s → written w lab (with_counts s) answer ≡ untabled_written (bare_call w s) (cutoffs_in lab) answer
  pub same_text : (w : ℕ) (c : Cutoffs) (s : List ℕ) → Countable s → text_of (number w c (with_counts s)) (entries w c (with_counts s)) ≡ bare_text w c s
  pub same_archive : (w : ℕ) (lab s lent : List ℕ) → bad_table lab ≡ false → Countable s
      → (archiving_returned w lab (with_counts s) lent ≡ told (cutoffs_in lab) s (untabled_returned (bare_archiving w s) (cutoffs_in lab) lent)) × (archiving_written w lab (with_counts s) lent ≡ untabled_written (bare_archiving w s) (cutoffs_in lab) lent)
  -- a series without a block is the file itself
  pub no_block : (s : List ℕ) → length s % 16 ≡ 0 → any (count s) (λ i. eqb (kind_of s i) kind_block) ≡ false → with_counts s ≡ s
  -- in a file of bytes no k from 23 on can be right
  pub never_right : (s : List ℕ) → ((i : ℕ) → byte s i < 256) → (i : ℕ) → kind_of s i ≡ 3 → 23 ≤ column_of s i → miscounted s i ≡ true
