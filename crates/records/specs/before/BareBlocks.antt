-- What the Kenward–Roger call and the archive's writer returned and wrote, and `pulltest` printed, before document 02's "Req 04", when a block was bare: by the lists of today without 13.
use Rattle.std.specs.Prelude.{ℕ, Bool, true, not, ◌&&◌, List, ◌∷◌, ◌++◌, eqb}
use Rattle.std.proofs.lemmas.List.Edits.{sets}
use Rattle.arithmetic_cutoffs.specs.declared.Cutoffs.{Cutoffs}
use Rattle.algebra.specs.Reasons.{first}
use Rattle.adjustment.specs.Adjusted.{adjustment_reasons}
use Rattle.records.specs.format.Scan.{any}
use Rattle.records.specs.format.Kinds.{kenward_roger}
use Rattle.records.specs.format.File.{count, kind_of, bits_of, length_reasons, form_reasons}
use Rattle.records.specs.format.KindNumbers.{kind_block}
use Rattle.records.specs.format.Order.{order_reasons}
use Rattle.records.specs.format.Layout.{answer_bytes, answer_length}
use Rattle.records.specs.calls.Call.{Call}
use Rattle.records.specs.text.Text.{text_of}
use Rattle.records.specs.readers.Series.{kinds, size_reasons, value_reasons, design, phi, sigma2}
use Rattle.records.specs.calls.KenwardRogerCall.{run, test_reasons}
use Rattle.records.specs.readers.Archive.{archive_bytes, archive_length}
use Rattle.records.specs.calls.ArchiveCall.{series_archive}

-- document 01: "3 block (row its number, column k, count m, bits 0)", so that any other bits were a "nonzero unused field"
unfoldable pub block_bits : List ℕ → ℕ → Bool
block_bits s i = eqb (kind_of s i) kind_block && not (eqb (bits_of s i) 0)

-- what refused a file: such a block, beside 2's other reasons, and no 13
unfoldable pub bare_reasons : ℕ → List ℕ → List (ℕ × Bool)
bare_reasons w s = length_reasons s ++ (order_reasons s ++ ((2, any (count s) (block_bits s)) ∷ (form_reasons (kenward_roger w) (kinds s) s ++ (size_reasons s ++ value_reasons s))))

-- the Kenward–Roger call: what it returned for the lent bytes, what they held then, and what `pulltest` printed
module _ (w : ℕ) (c : Cutoffs) (s : List ℕ) where
  unfoldable pub bare_list : List (ℕ × Bool)
  bare_list = bare_reasons w s ++ (adjustment_reasons c (design s) (phi s) (sigma2 s) ++ test_reasons c s)

  unfoldable pub bare_text : List ℕ
  bare_text = text_of (first bare_list) (run c s).entries

abbrev pub bare_call : ℕ → List ℕ → Call
bare_call w s = record { stated = answer_length; besides = true; reasons = λ c. bare_list w c s; full = λ c answer. answer_bytes (run c s).entries }

-- the archive's writer
abbrev pub bare_archiving : ℕ → List ℕ → Call
bare_archiving w s =
    record { stated = archive_length; besides = true; reasons = λ c. bare_reasons w s ++ adjustment_reasons c (design s) (phi s) (sigma2 s); full = λ c lent. sets lent 0 (archive_bytes (series_archive c s)) }
