-- The third demand at work: document 01's example (i) as a file of the Satterthwaite call is accepted with its entry inside, and with another power of two its verdict is the same.
use Prim.Native.Nat.{ℕ}
use mathlib.Core.Path.{◌≡◌, refl, ap, ◌∙◌, subst}
use mathlib.Core.Bool.{true, false}
use mathlib.Core.List.{List, [], ◌∷◌, ◌++◌}
use lib.Dec.{lit≤}
use lib.IntN.{pos, negsuc}
use lib.ListN.{replicate}
use lib.Ieee.{Float, fin, round, add, sub, mul, div, neg, lt, eq, le, of_int, of_bits, to_bits}
use Rattle.arithmetic.specs.Numbers.{plus_zero, one, magnitude, is_zero, is_finite, sign, of_count}
use Rattle.arithmetic.specs.SquareRoot.{square_root, whole_root}
use Rattle.arithmetic.specs.Marks.{in_range, step_mark, lost_product, lost_quotient, marked_add, marked_sub, marked_mul, marked_div, marked_root, marked_magnitude, also}
use Rattle.algebra.specs.Kind.{marks}
use Rattle.algebra.specs.Fold.{fold}
use Rattle.algebra.specs.Table.{row, blank, table}
use Rattle.algebra.specs.Product.{sum, cell, product, transpose, sum_cells, identity, minus_cells}
use Rattle.algebra.specs.Jacobi.{ratio, tangent, cosine, sine, turned_first, turned_second, turn_row, turn_columns, rotated_cell, rotated, squared, bound, rotate_tested, rotate, row_to, sweep_to, sweeps_to, mirrored, jacobi}
use Rattle.algebra.specs.Small.{sandwich, given_cells, all_marks}
use Rattle.records.specs.readers.CutoffTable.{built_in_table}
use Rattle.arithmetic_cutoffs.specs.Cutoffs.{decimal, document_cutoffs}
use Rattle.tests.specs.Answer.{number_of}
use Rattle.tests.specs.Order.{comes_before, place_in, index_at}
use Rattle.tests.specs.VarianceDf.{relative_gradient, gradient_values, relative_variance, df_of_relative, variance_df, gradient_seen}
use Rattle.tests.specs.Both.{is_positive, square_one, stack_seen}
use Rattle.tests.specs.PooledDf.{tolerance, all_within, any_low, expected, pooled, get_fstat_ddf}
use Rattle.tests.specs.declared.Tested.{Tested}
use Rattle.tests.specs.Satterthwaite.{Inputs, column, contrast_of, transformed, transformed_all, gradient_one, eigenvalues, not_positive, variances_of, directions_of, projected, squares_over, jx_all, gradient_at, capped, component_df, component_dfs, any_none, several_df, components_seen, ld_rows, v_rows, j_stack, rotated_v, variances, directions, jx_stack, f_one, f_several, df_one, df_several, start_seen, seen_one, seen_several, one_row, several_rows, satterthwaite as test}
use Rattle.std.specs.Prelude.{Some}
use Rattle.tests.specs.declared.Entry.{Entry}
use Rattle.records.specs.format.Bytes.{word, long, bytes_of}
use Rattle.algebra.specs.Reasons.{first}
use Rattle.records.specs.format.Scan.{any, most, last}
use Rattle.records.specs.format.Kinds.{kind_at, holds, width, index_of, value_holds, satterthwaite_kinds, limits}
use Rattle.records.specs.format.File.{out_of, bad_record, is_cell, again, has, cell as cell_of, rows, columns, beyond, missing, not_finite, length_reasons, form_reasons}
use Rattle.records.specs.format.Written.{record_of}
use Rattle.records.specs.format.Order.{numbers_matrix, matrix_of, stands_before, falls, order_reasons}
use Rattle.records.specs.readers.Parameters.{sizes, value_reasons, reasons, jacobians, inputs}
use Rattle.records.specs.calls.SatterthwaiteCall.{number, entry}
use Rattle.tests.specs.Verdict.{Verdict, verdict}
use Rattle.converter.specs.Converted.{satterthwaite_shift, satterthwaite_change, rewritten, new_bits, new_byte, converted}
use Rattle.converter.specs.ParametersDemand.{SameVerdict, SameEntryBytes}
use Rattle.converter_theorems.proofs.ParametersCall.{number_is, entry-is}
use Rattle.converter_theorems.proofs.Theorems.{within-satterthwaite, built-in-entry-answer}
use Rattle.converter_theorems.proofs.ParametersCall.{document-rotation}

-- a diagonal of two numbers as the four cells of matrix number 0 of a kind
abbrev diagonal : ℕ → ℕ → ℕ → List ℕ
diagonal kind a b = record_of kind 0 0 0 a ++ (record_of kind 0 1 0 0 ++ (record_of kind 1 0 0 0 ++ record_of kind 1 1 0 b))

-- L identity, A 0.5, and the bits of β, of v's diagonal and of the Jacobian's
abbrev pub parameter_bytes : ℕ → ℕ → ℕ → ℕ → List ℕ
parameter_bytes b0 b1 v0 v1 =
    record_of 8 0 0 0 b0
    ++ (record_of 8 1 0 0 b1 ++ (diagonal 9 0x3ff0000000000000 0x3ff0000000000000 ++ (diagonal 30 v0 v1 ++ (diagonal 31 v0 v1 ++ record_of 32 0 0 0 0x3fe0000000000000))))

-- "(i) Satterthwaite L identity, v = diag(4,1), one Jacobian equal to v, A 0.5, β (4,1)"
abbrev pub parameter_file : List ℕ
parameter_file = parameter_bytes 0x4010000000000000 0x3ff0000000000000 0x4010000000000000 0x3ff0000000000000

-- ---- what the file says
-- a diagonal of two numbers, in 6 rows of 6
abbrev two : Float → Float → List (List Float)
two a b = (a ∷ replicate 5 plus_zero) ∷ (plus_zero ∷ b ∷ replicate 4 plus_zero) ∷ replicate 4 (replicate 6 plus_zero)

abbrev four : Float
four = fin false 1 (pos 2)

abbrev parameter_inputs : Inputs
parameter_inputs = record {
  p = 2;
  q = 2;
  n = 1;
  l = two one one;
  beta = four ∷ one ∷ replicate 4 plus_zero;
  beta_h = replicate 6 plus_zero;
  v = two four one;
  js = two four one ∷ replicate 3 (replicate 6 (replicate 6 plus_zero));
  a = (fin false 1 (negsuc 0) ∷ replicate 5 plus_zero) ∷ replicate 5 (replicate 6 plus_zero);
}

record Says : Type 0 where
  pub inputs : Rattle.records.specs.readers.Parameters.inputs parameter_file ≡ parameter_inputs
  pub passes : first (reasons parameter_file ++ ((11, false) ∷ [])) ≡ 0

says : Says
unfolding inputs jacobians table row blank fold reasons length_reasons order_reasons falls stands_before matrix_of numbers_matrix form_reasons value_reasons first sizes out_of bad_record is_cell again has cell_of rows columns beyond missing not_finite kind_at holds width index_of value_holds satterthwaite_kinds limits any most last word long bytes_of is_finite is_zero of_bits le eq
says = record { inputs = refl; passes = refl }

-- ---- what the test makes of it: F 2.5, df 4, rank 2, inside
abbrev parameter_outcome : Tested
parameter_outcome = record { refused = false; entry = record { f = Some (fin false 5 (negsuc 0)); df = Some four; rank = 2; inside = true } }

tests : test marks document_cutoffs parameter_inputs ≡ parameter_outcome
unfolding test several_rows one_row seen_several seen_one start_seen df_several df_one f_several f_one jx_stack directions variances rotated_v j_stack v_rows ld_rows stack_seen components_seen several_df any_none component_dfs component_df capped gradient_at jx_all squares_over projected directions_of variances_of not_positive eigenvalues gradient_one square_one transformed_all transformed contrast_of column get_fstat_ddf pooled expected any_low all_within tolerance gradient_seen variance_df df_of_relative relative_variance gradient_values relative_gradient is_positive index_at place_in comes_before number_of document_cutoffs decimal all_marks given_cells sandwich jacobi mirrored sweeps_to sweep_to row_to rotate rotate_tested bound squared rotated rotated_cell turn_columns turn_row turned_second turned_first sine cosine tangent ratio identity minus_cells sum_cells transpose product cell sum table blank row fold marked_magnitude marked_root marked_div marked_mul marked_sub marked_add also lost_quotient lost_product step_mark in_range square_root whole_root of_count is_finite is_zero magnitude sign round add sub mul div neg lt eq le of_int lib.Ieee.is_nan
tests = refl

-- ---- together
parameter-outcome : test marks document_cutoffs (inputs parameter_file) ≡ parameter_outcome
parameter-outcome = ap (test marks document_cutoffs) says.inputs ∙ tests

parameter-accepted : number document_cutoffs parameter_file ≡ 0
parameter-accepted =
    number_is document_cutoffs parameter_file ∙ ap (λ (o : Tested). first (reasons parameter_file ++ ((11, o.refused) ∷ []))) parameter-outcome ∙ says.passes

parameter-entry : entry document_cutoffs parameter_file ≡ parameter_outcome.entry
parameter-entry = entry-is document_cutoffs parameter_file parameter-accepted ∙ ap (λ (o : Tested). o.entry) parameter-outcome

-- F 2.5, df 4, rank 2
abbrev pub two_and_a_half : Verdict
two_and_a_half = record { f = Some (fin false 5 (negsuc 0)); df = Some (fin false 1 (pos 2)); rank = 2 }

-- k = -2: β (4,1) becomes (1, 1/4), v and the Jacobian diag(4,1) become diag(1/4, 1/16)
abbrev pub parameter_shifted : List ℕ
parameter_shifted = parameter_bytes 0x3ff0000000000000 0x3fd0000000000000 0x3fd0000000000000 0x3fb0000000000000

shifted : converted (satterthwaite_change (negsuc 1)) parameter_file ≡ parameter_shifted
unfolding converted new_byte new_bits rewritten satterthwaite_shift row fold word long bytes_of mul of_bits to_bits
shifted = refl

pub record ParameterExample : Type 0 where
  -- the theorem's premises hold of the file
  pub accepted : number document_cutoffs parameter_file ≡ 0
  pub inside : (entry document_cutoffs parameter_file).inside ≡ true
  pub verdict : Rattle.tests.specs.Verdict.verdict (entry document_cutoffs parameter_file) ≡ two_and_a_half
  -- the converted file is another file, accepted with the same verdict, and its answer has every byte but the mark
  pub other : converted (satterthwaite_change (negsuc 1)) parameter_file ≡ parameter_shifted
  pub accepted_again : number document_cutoffs parameter_shifted ≡ 0
  pub same_verdict : Rattle.tests.specs.Verdict.verdict (entry document_cutoffs parameter_shifted) ≡ two_and_a_half
  pub same_answer : SameEntryBytes built_in_table parameter_file parameter_shifted

pub parameter-example : ParameterExample
parameter-example =
    let i : (entry document_cutoffs parameter_file).inside ≡ true = ap (λ (x : Entry). x.inside) parameter-entry in
    let v : verdict (entry document_cutoffs parameter_file) ≡ two_and_a_half = ap verdict parameter-entry in
    let e : SameVerdict document_cutoffs parameter_file parameter_shifted =
    subst (λ (t : List ℕ). SameVerdict document_cutoffs parameter_file t) shifted
    (within-satterthwaite document_cutoffs document-rotation parameter_file (negsuc 1) (lit≤ tt) parameter-accepted i) in
    record {
      accepted = parameter-accepted;
      inside = i;
      verdict = v;
      other = shifted;
      accepted_again = e.accepted;
      same_verdict = e.same ∙ v;
      same_answer = subst (λ (t : List ℕ). SameEntryBytes built_in_table parameter_file t) shifted
          (built-in-entry-answer parameter_file (negsuc 1) (lit≤ tt) parameter-accepted i);
    }
