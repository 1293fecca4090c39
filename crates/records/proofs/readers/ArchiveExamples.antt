-- Document 02, "Req 02": the archive of document 01's example and the second file that is lent with it, read by computation over the definitions: each number, and each pair of reasons that an exchange of two lines of the lists would answer otherwise.
use Prim.Native.Nat.{ℕ}
use mathlib.Core.Path.{◌≡◌, refl}
use mathlib.Core.List.{List, [], ◌∷◌, ◌++◌}
use lib.Ieee.{of_bits, to_bits, mul, div, le}
use Rattle.arithmetic.specs.Numbers.{is_finite, is_zero}
use Rattle.arithmetic_cutoffs.specs.Cutoffs.{document_cutoffs}
use Rattle.algebra.specs.Fold.{fold}
use Rattle.algebra.specs.Table.{row, table, blank}
use Rattle.algebra.specs.Reasons.{first}
use Rattle.adjustment.specs.Adjusted.{stack}
use Rattle.records.specs.format.Bytes.{word, long, bytes_of}
use Rattle.records.specs.format.Scan.{any, most, last}
use Rattle.records.specs.format.Kinds.{kind_at, holds, width, index_of, value_holds, archive_kinds, test_kinds, limits}
use Rattle.records.specs.format.Written.{record_of}
use Rattle.records.specs.format.File.{out_of, bad_record, is_cell, again, has, cell, rows, columns, beyond, missing, not_finite, length_reasons, form_reasons}
use Rattle.records.specs.format.Order.{numbers_matrix, matrix_of, stands_before, falls, order_reasons}
use Rattle.records.specs.readers.Archive as archive
use Rattle.records.specs.readers.SecondFile as second
use Rattle.records.specs.calls.ArchiveCall.{archive_test_reasons, from_archive_reasons, from_archive_number}
use Rattle.records.proofs.readers.Examples.{one, infinity}

-- the bits of ½, 2, 4, 8, -¼, -2, -8, and -0
abbrev half : ℕ
half = 0x3fe0000000000000

abbrev two : ℕ
two = 0x4000000000000000

abbrev four : ℕ
four = 0x4010000000000000

abbrev eight : ℕ
eight = 0x4020000000000000

abbrev minus_quarter : ℕ
minus_quarter = 0xbfd0000000000000

abbrev minus_two : ℕ
minus_two = 0xc000000000000000

abbrev minus_eight : ℕ
minus_eight = 0xc020000000000000

abbrev minus_zero : ℕ
minus_zero = 0x8000000000000000

-- eight records: Φ in response units is this, the P's in response units are these records, Φ in residual units is that, the P's in residual units are those records, and sigma2 is this
abbrev pub archive_file : ℕ → List ℕ → ℕ → List ℕ → ℕ → List ℕ
archive_file scaledPhi scaled_ps phi ps sigma2 =
    record_of 11 0 0 0 scaledPhi
    ++ (record_of 12 0 0 0 four ++ (scaled_ps ++ (record_of 14 0 0 0 two ++ (record_of 15 0 0 0 phi ++ (record_of 16 0 0 0 half ++ (ps ++ record_of 18 0 0 0 sigma2))))))

-- the example's: Φ ½, Φ_A ½, P -2, W 2 and sigma2 8
abbrev pub example_archive : List ℕ
example_archive = archive_file four (record_of 13 0 0 0 minus_quarter) half (record_of 17 0 0 0 minus_two) eight

-- two P's in response units, by their indices i and j
abbrev two_ps : ℕ → ℕ → List ℕ
two_ps i j =
    record_of 11 0 0 0 four
    ++ (record_of 12 0 0 0 four
    ++ ((record_of 13 0 0 i minus_quarter ++ record_of 13 0 0 j minus_quarter)
    ++ ((record_of 14 0 0 0 two ++ (record_of 14 0 1 0 two ++ (record_of 14 1 0 0 two ++ record_of 14 1 1 0 two)))
    ++ (record_of 15 0 0 0 half ++ (record_of 16 0 0 0 half ++ ((record_of 17 0 0 0 minus_two ++ record_of 17 0 0 1 minus_two) ++ record_of 18 0 0 0 eight))))))

-- its second file: β 6, the contrast 1
abbrev pub example_tests : List ℕ
example_tests = record_of 8 0 0 0 0x4018000000000000 ++ record_of 9 0 0 0 one

pub record ArchiveRead : Type 0 where
  pub taken : archive.refusal example_archive ≡ 0
  -- "After 5, a scaled record whose bits aren't its residual one's ..": sigma2 ≤ 0 and misscaled at once is 5; an infinity and misscaled is 4
  pub not_positive : archive.refusal (archive_file four (record_of 13 0 0 0 minus_quarter) half (record_of 17 0 0 0 minus_two) minus_eight) ≡ 5
  pub infinite : archive.refusal (archive_file infinity (record_of 13 0 0 0 minus_quarter) half (record_of 17 0 0 0 minus_two) eight) ≡ 4
  pub misscaled : archive.refusal (archive_file two (record_of 13 0 0 0 minus_quarter) half (record_of 17 0 0 0 minus_two) eight) ≡ 2
  pub divided_wrongly : archive.refusal (archive_file four (record_of 13 0 0 0 minus_two) half (record_of 17 0 0 0 minus_two) eight) ≡ 2
  -- bits are compared: +0 times sigma2 is +0, and -0 is another
  pub zero : archive.refusal (archive_file 0 (record_of 13 0 0 0 minus_quarter) 0 (record_of 17 0 0 0 minus_two) eight) ≡ 0
  pub other_zero : archive.refusal (archive_file minus_zero (record_of 13 0 0 0 minus_quarter) 0 (record_of 17 0 0 0 minus_two) eight) ≡ 2
  -- "13 P (the count field is its index)": in order by it, and two that are exchanged are 12
  pub two_taken : archive.refusal (two_ps 0 1) ≡ 0
  pub exchanged : archive.refusal (two_ps 1 0) ≡ 12
  pub cut : archive.refusal (example_archive ++ (0 ∷ [])) ≡ 2
  pub empty : archive.refusal [] ≡ 2

-- the second file, of p coefficients
pub record SecondRead : Type 0 where
  pub taken : second.refusal 1 example_tests ≡ 0
  pub beta_alone : second.refusal 1 (record_of 8 0 0 0 one) ≡ 0
  -- each 2: the length; no β; a bad kind; a nonzero unused field; an index past a limit; a contrast's cell missing, and one beyond; β_H without a contrast; a β of another length than p
  pub cut : second.refusal 1 (example_tests ++ (0 ∷ [])) ≡ 2
  pub empty : second.refusal 1 [] ≡ 2
  pub bad_kind : second.refusal 1 (example_tests ++ record_of 11 0 0 0 one) ≡ 2
  pub unused_field : second.refusal 1 (record_of 8 0 1 0 one) ≡ 2
  pub past_limit : second.refusal 1 (example_tests ++ record_of 9 6 0 0 one) ≡ 2
  pub missed : second.refusal 1 (example_tests ++ record_of 9 2 0 0 one) ≡ 2
  pub beyond_beta : second.refusal 1 (example_tests ++ record_of 9 0 1 0 one) ≡ 2
  pub hypothesis_alone : second.refusal 1 (record_of 8 0 0 0 one ++ record_of 10 0 0 0 one) ≡ 2
  pub other_length : second.refusal 2 example_tests ≡ 2
  -- 12, 4 and 8 in their places
  pub fallen : second.refusal 1 (record_of 9 0 0 0 one ++ record_of 8 0 0 0 one) ≡ 12
  pub other_length_infinite : second.refusal 2 (record_of 8 0 0 0 infinity) ≡ 2
  pub infinite : second.refusal 1 (record_of 8 0 0 0 infinity ++ record_of 9 0 0 0 0) ≡ 4
  pub zero_row : second.refusal 1 (record_of 8 0 0 0 one ++ record_of 9 0 0 0 0) ≡ 8

-- "judged after it": where both are bad the number is the archive's, also where the second file's is the lower one
pub record BothRead : Type 0 where
  pub archive_first : from_archive_number document_cutoffs (archive_file infinity (record_of 13 0 0 0 minus_quarter) half (record_of 17 0 0 0 minus_two) eight) [] ≡ 4
  pub archive_last : from_archive_number document_cutoffs (archive_file two (record_of 13 0 0 0 minus_quarter) half (record_of 17 0 0 0 minus_two) eight) (record_of 8 0 0 0 infinity) ≡ 2
  pub second_alone : from_archive_number document_cutoffs example_archive (record_of 8 0 0 0 infinity) ≡ 4

pub archive-read : ArchiveRead
unfolding archive.refusal archive.reasons archive.value_reasons archive.scaled_reasons archive.misscaled archive.archived archive.archive_of archive.sizes archive.sizes_at length_reasons order_reasons falls stands_before matrix_of numbers_matrix form_reasons first out_of bad_record is_cell again has cell rows columns beyond missing not_finite is_finite kind_at holds width index_of value_holds archive_kinds test_kinds limits any most last fold row table blank stack word long bytes_of of_bits to_bits mul div le is_zero
archive-read = record { taken = refl; not_positive = refl; infinite = refl; misscaled = refl; divided_wrongly = refl; zero = refl; other_zero = refl; two_taken = refl; exchanged = refl; cut = refl; empty = refl }

pub second-read : SecondRead
unfolding second.refusal second.reasons second.formed_for second.value_reasons second.zero_contrast second.sizes length_reasons order_reasons falls stands_before matrix_of numbers_matrix form_reasons first out_of bad_record is_cell again has cell rows columns beyond missing not_finite is_finite kind_at holds width index_of value_holds archive_kinds test_kinds limits any most last fold row table blank stack word long bytes_of of_bits to_bits mul div le is_zero
second-read = record {
  taken = refl;
  beta_alone = refl;
  cut = refl;
  empty = refl;
  bad_kind = refl;
  unused_field = refl;
  past_limit = refl;
  missed = refl;
  beyond_beta = refl;
  hypothesis_alone = refl;
  other_length = refl;
  fallen = refl;
  other_length_infinite = refl;
  infinite = refl;
  zero_row = refl;
}

pub both_read : BothRead
unfolding from_archive_number from_archive_reasons archive_test_reasons archive.reasons archive.value_reasons archive.scaled_reasons archive.misscaled archive.archived archive.archive_of archive.sizes archive.sizes_at second.reasons second.formed_for second.value_reasons second.zero_contrast second.sizes length_reasons order_reasons falls stands_before matrix_of numbers_matrix form_reasons first out_of bad_record is_cell again has cell rows columns beyond missing not_finite is_finite kind_at holds width index_of value_holds archive_kinds test_kinds limits any most last fold row table blank stack word long bytes_of of_bits to_bits mul div le is_zero
both_read = record { archive_first = refl; archive_last = refl; second_alone = refl }
