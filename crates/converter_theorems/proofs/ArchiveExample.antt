-- Demand 3 from an archive at work, on another question than the series' own: the archive of document 01's `pulltest` example, 128 bytes, with a second file that asks whether twice the
-- coefficient is 6, where the series asked whether it is 0. Both are accepted with all entries inside, and with k = 5 and m = -3 they are other bytes, accepted, with the same verdicts. All
-- by computation.
use Prim.Native.Nat.{ℕ, ◌<◌}
use native.Mathlib.Omega.{arith}
use mathlib.Core.Path.{◌≡◌, refl, sym, ap, ap₂, ◌∙◌, subst}
use mathlib.Core.Bool.{true, false}
use mathlib.Core.List.{List, [], ◌∷◌, ◌++◌, map}
use lib.Dec.{lit≤}
use lib.IntN.{pos, negsuc}
use lib.ListN.{get_or, replicate}
use lib.Ieee.{Float, fin, round, add, sub, mul, div, neg, lt, eq, le, of_int, of_bits, to_bits}
use Rattle.arithmetic.specs.Numbers.{plus_zero, one, magnitude, is_zero, is_finite, sign, is_larger, of_count}
use Rattle.arithmetic.specs.SquareRoot.{square_root, whole_root}
use Rattle.arithmetic.specs.Marks.{in_range, step_mark, lost_product, lost_quotient, marked_add, marked_sub, marked_mul, marked_div, marked_root, also}
use Rattle.algebra.specs.Fold.{fold}
use Rattle.algebra.specs.Table.{row, blank, table}
use Rattle.algebra.specs.Product.{sum, cell, product, transpose, times_number, over_number, trace, sum_cells, like_cells}
use Rattle.algebra.specs.Elimination.{larger, pivot_row, swap_rows, factor, less_by, cleared, eliminate_column, eliminate_to, zero_pivot, column_or_stop, stopping, back_sum, back_cell, back_to, joined, solution, refused}
use Rattle.algebra.specs.Small.{Rows, sandwich, given_cells, values, all_marks}
use Rattle.algebra.specs.Reasons.{first}
use Rattle.arithmetic_cutoffs.specs.Cutoffs.{decimal, document_cutoffs}
use Rattle.adjustment.specs.Adjusted.{stack, scaled_up, scaled_down}
use Rattle.tests.specs.Basis.{largest, divided_cell, divided, contrast_basis}
use Rattle.tests.specs.Both.{stack_seen, square_one, is_positive}
use Rattle.tests.specs.Moments.{weight, a1_of, a2_of, b_of, g_of, d_of, c1_of, c2_of, c3_of, leading_of, v0_of, v1_of, v2_of, div_of, less_a2, rho_of, positive, general_df, rank_one, df_of, scaling_at, scaling_of, f_of}
use Rattle.tests.specs.declared.Run.{Run}
use Rattle.tests.specs.KenwardRoger.{unit_row, coefficient_test, contrast_test, scaled_ps, scaled_by, scaling_seen, difference, theta_of, u_of, u_stack, u_values, wald_many, a_rows, x_rows, theta_phi, us, ld_rows, v_rows, y_rows, wald_marked, wald_number, test_seen, a1, a2, tested, with_test, coefficients_to, run_of}
use Rattle.std.specs.Prelude.{Some}
use Rattle.tests.specs.declared.Entry.{Entry}
use Rattle.tests.specs.Answer.{no_entry, number_of}
use Rattle.tests.specs.Verdict.{verdict}
use Rattle.records.specs.format.Bytes.{word, long, bytes_of}
use Rattle.records.specs.format.Scan.{any, most, last}
use Rattle.records.specs.format.Kinds.{kind_at, holds, width, index_of, value_holds, archive_kinds, test_kinds, limits}
use Rattle.records.specs.format.File.{out_of, bad_record, is_cell, again, has, cell as cell_of, rows, columns, beyond, missing, not_finite, length_reasons, form_reasons}
use Rattle.records.specs.format.Order.{numbers_matrix, matrix_of, stands_before, falls, order_reasons}
use Rattle.records.specs.format.Written.{record_of}
use Rattle.records.specs.readers.Archive as archive
use Rattle.records.specs.readers.Archive.{Archive, archive_of}
use Rattle.records.specs.readers.SecondFile as second
use Rattle.records.specs.readers.CutoffTable.{built_in_table}
use Rattle.records.specs.calls.ArchiveCall.{archive_run, from_archive_number, from_archive_entries}
use Rattle.records.proofs.readers.ArchiveExamples.{example_archive}
use Rattle.converter_run.specs.joints.ConvertedInput.{Input}
use Rattle.converter.specs.Converted.{kenward_roger_shift, kenward_roger_change, archive_change, rewritten, new_bits, new_byte, converted}
use Rattle.converter.specs.ArchiveDemand.{PairInside, SamePairVerdicts, SamePairAnswers}
use Rattle.converter.proofs.Answers.{archive_with, computed}
use Rattle.converter_theorems.proofs.ArchiveCall.{pair_input, run_from, pair_listed, pair-run, pair-number, pair-entries}
use Rattle.converter_theorems.proofs.ArchiveTheorem.{within-from-archive, built-in-from-archive-answer}
use Rattle.converter_theorems.proofs.PullExample.{nine_one, unused}

-- ---- the files: β 6, the contrast 2 and β_H 3; and what they become
abbrev questions : ℕ → ℕ → ℕ → List ℕ
questions b l h = record_of 8 0 0 0 b ++ (record_of 9 0 0 0 l ++ record_of 10 0 0 0 h)

abbrev pub other_question : List ℕ
other_question = questions 0x4018000000000000 0x4000000000000000 0x4008000000000000

abbrev pub question_shifted : List ℕ
question_shifted = questions 0x4068000000000000 0x3fd0000000000000 0x4058000000000000

abbrev pub archive_shifted : List ℕ
archive_shifted = archive_with 0x40b0000000000000 0x40b0000000000000 0xbf30000000000000 0x40c0000000000000

question-shifted : converted (kenward_roger_change (pos 5) (λ r. negsuc 2)) other_question ≡ question_shifted
unfolding converted new_byte new_bits rewritten kenward_roger_shift row fold word long bytes_of mul of_bits to_bits
question-shifted = refl

-- ---- what they say
-- one number, in 6 rows of 6
abbrev single : Float → Rows
single x = (x ∷ replicate 5 plus_zero) ∷ replicate 5 (replicate 6 plus_zero)

-- Φ and Φ_A ½, P -2, W 2, sigma2 8
abbrev example_read : Archive
example_read = record {
  coefficients = 1;
  parameters = 1;
  phi = single (fin false 1 (negsuc 0));
  phi_a = single (fin false 1 (negsuc 0));
  ps = single (fin true 1 (pos 1)) ∷ replicate 3 (replicate 6 (replicate 6 plus_zero));
  w = single (fin false 1 (pos 1));
  sigma2 = fin false 1 (pos 3);
}

abbrev question_read : Input
question_read = record { sigma2 = fin false 1 (pos 3); beta = fin false 3 (pos 1) ∷ replicate 5 plus_zero; beta_h = fin false 3 (pos 0) ∷ replicate 5 plus_zero; contrast = single (fin false 1 (pos 1)) }

record Read : Type 0 where
  archived : archive_of example_archive ≡ example_read
  input : pair_input example_read other_question ≡ question_read
  contrast : second.contrast_rows other_question ≡ 1
  passes : first (pair_listed (archive.reasons example_archive) (second.reasons (archive.coefficients example_archive) other_question) false) ≡ 0

read : Read
unfolding archive.reasons archive.value_reasons archive.scaled_reasons archive.misscaled archive.archived archive.archive_of archive.sizes archive.sizes_at second.reasons second.formed_for second.value_reasons second.zero_contrast second.sizes second.beta second.beta_h second.contrast length_reasons order_reasons falls stands_before matrix_of numbers_matrix form_reasons first out_of bad_record is_cell again has cell_of rows columns beyond missing not_finite is_finite kind_at holds width index_of value_holds archive_kinds test_kinds limits any most last fold row table blank stack word long bytes_of of_bits to_bits mul div le is_zero
read = record { archived = refl; input = refl; contrast = refl; passes = refl }

-- ---- what the run makes of it: 9 and 1 of the coefficient, as the series' own run, and 9/4 and 1 of the other question
abbrev other_entries : List Entry
other_entries =
    record { f = Some (fin false 9 (pos 0)); df = Some one; rank = 1; inside = true }
    ∷ no_entry ∷ no_entry ∷ no_entry ∷ no_entry ∷ no_entry
    ∷ record { f = Some (fin false 9 (negsuc 1)); df = Some one; rank = 1; inside = true }
    ∷ []

other-run : run_from document_cutoffs example_read 1 question_read ≡ record { refused = false; entries = other_entries }
unfolding scaled_down scaled_up times_number over_number document_cutoffs decimal all_marks values given_cells sandwich solution refused joined back_to back_cell back_sum stopping column_or_stop zero_pivot eliminate_to eliminate_column cleared less_by factor swap_rows pivot_row larger trace like_cells sum_cells transpose product cell sum table blank row fold marked_root marked_div marked_mul marked_sub marked_add also lost_quotient lost_product step_mark in_range square_root whole_root of_count is_larger is_finite is_zero magnitude sign round add sub mul div neg lt eq le of_int lib.Ieee.is_nan tested test_seen a1 a2 wald_number wald_marked y_rows v_rows ld_rows us theta_phi x_rows a_rows wald_many is_positive square_one stack_seen u_values u_stack u_of theta_of difference scaling_seen f_of scaling_of scaling_at df_of rank_one general_df positive rho_of less_a2 div_of v2_of v1_of v0_of leading_of c3_of c2_of c1_of d_of g_of b_of a2_of a1_of weight contrast_basis divided divided_cell largest number_of unit_row coefficient_test contrast_test scaled_ps scaled_by run_of with_test coefficients_to
other-run = refl

-- ---- together
run-here : archive_run document_cutoffs example_archive other_question ≡ record { refused = false; entries = other_entries }
run-here =
    pair-run document_cutoffs example_archive other_question
    ∙ ap (λ (a : Archive). run_from document_cutoffs a (second.contrast_rows other_question) (pair_input a other_question)) read.archived
    ∙ ap₂ (λ (n : ℕ) (x : Input). run_from document_cutoffs example_read n x) read.contrast read.input
    ∙ other-run

here-accepted : from_archive_number document_cutoffs example_archive other_question ≡ 0
here-accepted =
    pair-number document_cutoffs example_archive other_question
    ∙ ap (λ (r : Run). first (pair_listed (archive.reasons example_archive) (second.reasons (archive.coefficients example_archive) other_question) r.refused)) run-here
    ∙ read.passes

here-entries : from_archive_entries document_cutoffs example_archive other_question ≡ other_entries
here-entries = pair-entries document_cutoffs example_archive other_question here-accepted ∙ ap (λ (r : Run). r.entries) run-here

one-coefficient : archive.coefficients example_archive ≡ 1
unfolding archive_of
one-coefficient = ap (λ (a : Archive). a.coefficients) read.archived

first-only : (i : ℕ) → i < 1 → 0 ≡ i
first-only i h = omega arith

here-inside : PairInside document_cutoffs example_archive other_question
here-inside = record {
  coefficient = λ i h. ap (λ (es : List Entry). (get_or es i no_entry).inside) here-entries
      ∙ subst (λ (j : ℕ). (get_or other_entries j no_entry).inside ≡ true) (first-only i (subst (λ (n : ℕ). i < n) one-coefficient h)) refl;
  contrast = λ h. ap (λ (es : List Entry). (get_or es 6 no_entry).inside) here-entries;
}

-- NOT EMPTY: the premises of demand 3 hold of the two files, which have these verdicts; with k = 5 and m = -3 they are two other files, accepted with the same verdicts, and the answer has
-- every byte but the marks
pub record ArchiveWitness : Type 0 where
  pub accepted : from_archive_number document_cutoffs example_archive other_question ≡ 0
  pub inside : PairInside document_cutoffs example_archive other_question
  pub verdicts : map verdict (from_archive_entries document_cutoffs example_archive other_question)
      ≡ nine_one ∷ unused ∷ unused ∷ unused ∷ unused ∷ unused ∷ record { f = Some (fin false 9 (negsuc 1)); df = Some one; rank = 1 } ∷ []
  pub other_archive : converted (archive_change (pos 5)) example_archive ≡ archive_shifted
  pub other_tests : converted (kenward_roger_change (pos 5) (λ r. negsuc 2)) other_question ≡ question_shifted
  pub same : SamePairVerdicts document_cutoffs example_archive other_question archive_shifted question_shifted
  pub same_answer : SamePairAnswers built_in_table example_archive other_question archive_shifted question_shifted

pub archive-example : ArchiveWitness
archive-example = record {
  accepted = here-accepted;
  inside = here-inside;
  verdicts = ap (map verdict) here-entries;
  other_archive = computed.archive;
  other_tests = question-shifted;
  same = rw (sym computed.archive, sym question-shifted)
      (within-from-archive document_cutoffs example_archive other_question (pos 5) (λ r. negsuc 2) (lit≤ tt) (λ r h. lit≤ tt) here-accepted here-inside);
  same_answer = rw (sym computed.archive, sym question-shifted)
      (built-in-from-archive-answer example_archive other_question (pos 5) (λ r. negsuc 2) (lit≤ tt) (λ r h. lit≤ tt) here-accepted here-inside);
}
