-- Document 01, "Bench examples" and "Refusals": example (i) and refusal 11's as files of records, and other files that are refused. "(i) Satterthwaite L identity, v = diag(4,1), one Jacobian equal to v, A 0.5, β (4,1): F 2.5, df 4".
use Prim.Native.Nat.{ℕ}
use mathlib.Core.Path.{◌≡◌, refl, ap, sym, ◌∙◌}
use mathlib.Core.Bool.{true, false}
use mathlib.Core.List.{List, [], ◌∷◌, ◌++◌}
use native.Mathlib.Omega.{arith}
use lib.ListN.{replicate}
use lib.IntN.{pos, negsuc}
use lib.Ieee.{Float, fin, of_bits, to_bits, round, add, sub, mul, div, neg, lt, eq, le, of_int}
use Rattle.arithmetic.specs.Numbers.{plus_zero, one, magnitude, is_zero, is_finite, sign, of_count}
use Rattle.arithmetic.specs.SquareRoot.{square_root, whole_root}
use Rattle.arithmetic.specs.Marks.{in_range, step_mark, lost_product, lost_quotient, marked_add, marked_sub, marked_mul, marked_div, marked_root, marked_magnitude, also}
use Rattle.algebra.specs.Kind.{marks}
use Rattle.algebra.specs.Fold.{fold}
use Rattle.algebra.specs.Table.{row, blank, table}
use Rattle.algebra.specs.Product.{sum, cell, product, transpose, sum_cells, identity, minus_cells}
use Rattle.algebra.specs.Jacobi.{ratio, tangent, cosine, sine, turned_first, turned_second, turn_row, turn_columns, rotated_cell, rotated, squared, bound, rotate_tested, rotate, row_to, sweep_to, sweeps_to, mirrored, jacobi}
use Rattle.algebra.specs.Small.{sandwich, given_cells, all_marks}
use Rattle.arithmetic_cutoffs.specs.Cutoffs.{decimal, document_cutoffs}
use Rattle.std.specs.Prelude.{Some}
use Rattle.tests.specs.declared.Entry.{Entry}
use Rattle.tests.specs.Answer.{number_of, no_entry}
use Rattle.tests.specs.Order.{comes_before, place_in, index_at}
use Rattle.tests.specs.VarianceDf.{relative_gradient, gradient_values, relative_variance, df_of_relative, variance_df, gradient_seen}
use Rattle.tests.specs.Both.{is_positive, square_one, stack_seen}
use Rattle.tests.specs.PooledDf.{tolerance, all_within, any_low, expected, pooled, get_fstat_ddf}
use Rattle.tests.specs.declared.Tested.{Tested}
use Rattle.tests.specs.Satterthwaite.{Inputs, column, contrast_of, transformed, transformed_all, gradient_one, eigenvalues, not_positive, variances_of, directions_of, projected, squares_over, jx_all, gradient_at, capped, component_df, component_dfs, any_none, several_df, components_seen, ld_rows, v_rows, j_stack, rotated_v, variances, directions, jx_stack, f_one, f_several, df_one, df_several, start_seen, seen_one, seen_several, one_row, several_rows, satterthwaite}
use Rattle.records.specs.format.Layout.{bits_of, entry_bytes}
use Rattle.records.specs.format.Bytes.{word, long, bytes_of}
use Rattle.algebra.specs.Reasons.{first}
use Rattle.records.specs.format.Scan.{any, most, last}
use Rattle.records.specs.format.Kinds.{kind_at, holds, width, index_of, value_holds, satterthwaite_kinds, limits}
use Rattle.records.specs.format.File.{out_of, bad_record, is_cell, again, has, cell as fileCell, rows, columns, beyond, missing, not_finite, length_reasons, form_reasons}
use Rattle.records.specs.format.Written.{record_of}
use Rattle.records.specs.format.Order.{numbers_matrix, matrix_of, stands_before, falls, order_reasons}
use Rattle.records.specs.readers.Parameters.{sizes, value_reasons, reasons, refusal, jacobians, inputs}
use Rattle.records.specs.calls.Call.{call_written}
use Rattle.records.specs.calls.SatterthwaiteCall.{test_call, outcome, number, entry, returned, written}
use Rattle.records.specs.readers.CutoffTable.{built_in_table}
use Rattle.records.proofs.readers.CutoffLaws.{built-in-numbers, built-in-returned}
use Rattle.records_ddf.proofs.Judged.{judged-taken, judged-late}

abbrev one_bits : ℕ
one_bits = 0x3ff0000000000000

abbrev four_bits : ℕ
four_bits = 0x4010000000000000

abbrev half_bits : ℕ
half_bits = 0x3fe0000000000000

-- the cells (r,0) and (r,1) of a kind, of matrix n; and of (0,0), (0,1), (1,0) and (1,1)
abbrev cells_of_row : ℕ → ℕ → ℕ → ℕ → ℕ → List ℕ
cells_of_row k n r a b = record_of k r 0 n a ++ record_of k r 1 n b

abbrev square : ℕ → ℕ → ℕ → ℕ → ℕ → ℕ → List ℕ
square k n a b c d = cells_of_row k n 0 a b ++ cells_of_row k n 1 c d

-- β (4,1), L identity, then this hypothesis; v = diag of two numbers, then these Jacobians and this A
abbrev pub file_of : List ℕ → ℕ → ℕ → List ℕ → List ℕ
file_of hypothesis x y parameters =
    record_of 8 0 0 0 four_bits
    ++ (record_of 8 1 0 0 one_bits ++ (square 9 0 one_bits 0 0 one_bits ++ (hypothesis ++ (square 30 0 x 0 0 y ++ parameters))))

-- one Jacobian equal to v, A of one cell
abbrev pub one_parameter : ℕ → ℕ → ℕ → List ℕ
one_parameter x y a = square 31 0 x 0 0 y ++ record_of 32 0 0 0 a

-- v = diag(4,1), A 0.5
abbrev pub file_i : List ℕ
file_i = file_of [] four_bits one_bits (one_parameter four_bits one_bits half_bits)

-- refusal 11's example: V = diag(1,0)
abbrev pub file_eleven : List ℕ
file_eleven = file_of [] one_bits 0 (one_parameter one_bits 0 half_bits)

-- ---- what it sends
abbrev four : Float
four = fin false 1 (pos 2)

abbrev half : Float
half = fin false 1 (negsuc 0)

abbrev zeros : List Float
zeros = plus_zero ∷ plus_zero ∷ plus_zero ∷ plus_zero ∷ plus_zero ∷ plus_zero ∷ []

abbrev two : Float → Float → List Float
two a b = a ∷ b ∷ plus_zero ∷ plus_zero ∷ plus_zero ∷ plus_zero ∷ []

abbrev diagonal : Float → Float → List (List Float)
diagonal a b = two a plus_zero ∷ two plus_zero b ∷ zeros ∷ zeros ∷ zeros ∷ zeros ∷ []

abbrev pub sent : Float → Float → Inputs
sent x y = record {
  p = 2;
  q = 2;
  n = 1;
  l = diagonal one one;
  beta = two four one;
  beta_h = zeros;
  v = diagonal x y;
  js = diagonal x y ∷ diagonal plus_zero plus_zero ∷ diagonal plus_zero plus_zero ∷ diagonal plus_zero plus_zero ∷ [];
  a = diagonal half plus_zero;
}

abbrev pub answered : Entry
answered = record { f = Some (fin false 5 (negsuc 0)); df = Some four; rank = 2; inside = true }

-- the file is read
pub file-sends : (inputs file_i ≡ sent four one) × (inputs file_eleven ≡ sent one plus_zero)
unfolding inputs jacobians sizes rows columns most fileCell last is_cell kind_at index_of satterthwaite_kinds word long bytes_of of_bits table blank row fold
file-sends = (refl, refl)

pub file-taken : (refusal file_i ≡ 0) × (refusal file_eleven ≡ 0)
unfolding refusal reasons length_reasons order_reasons falls stands_before matrix_of numbers_matrix form_reasons value_reasons first sizes out_of bad_record is_cell again has fileCell rows columns beyond missing not_finite kind_at holds width index_of value_holds satterthwaite_kinds limits any most last word long bytes_of is_finite is_zero of_bits le eq
file-taken = (refl, refl)

-- the test
pub tested : (satterthwaite marks document_cutoffs (sent four one) ≡ record { refused = false; entry = answered }) × ((satterthwaite marks document_cutoffs (sent one plus_zero)).refused ≡ true)
unfolding satterthwaite several_rows one_row seen_several seen_one start_seen df_several df_one f_several f_one jx_stack directions variances rotated_v j_stack v_rows ld_rows stack_seen components_seen several_df any_none component_dfs component_df capped gradient_at jx_all squares_over projected directions_of variances_of not_positive eigenvalues gradient_one square_one transformed_all transformed contrast_of column get_fstat_ddf pooled expected any_low all_within tolerance gradient_seen variance_df df_of_relative relative_variance gradient_values relative_gradient is_positive index_at place_in comes_before number_of document_cutoffs decimal all_marks given_cells sandwich jacobi mirrored sweeps_to sweep_to row_to rotate rotate_tested bound squared rotated rotated_cell turn_columns turn_row turned_second turned_first sine cosine tangent ratio identity minus_cells sum_cells transpose product cell sum table blank row fold marked_magnitude marked_root marked_div marked_mul marked_sub marked_add also lost_quotient lost_product step_mark in_range square_root whole_root of_count is_finite is_zero magnitude sign round add sub mul div neg lt eq le of_int lib.Ieee.is_nan
tested = (refl, refl)

tested-file : outcome document_cutoffs file_i ≡ record { refused = false; entry = answered }
unfolding outcome
tested-file = ap (satterthwaite marks document_cutoffs) file-sends.0 ∙ tested.0

-- the call, whole: number 0, and in the 24 lent bytes F 2.5, df 4, rank 2, both given, inside
pub record Example : Type 0 where
  pub number-i : number document_cutoffs file_i ≡ 0
  pub entry-i : entry document_cutoffs file_i ≡ answered
  pub returned-i : returned built_in_table file_i (replicate 24 255) ≡ 0
  pub written-i : written built_in_table file_i (replicate 24 255) ≡ 0 ∷ 0 ∷ 0 ∷ 0 ∷ 0 ∷ 0 ∷ 4 ∷ 0x40 ∷ 0 ∷ 0 ∷ 0 ∷ 0 ∷ 0 ∷ 0 ∷ 0x10 ∷ 0x40 ∷ 2 ∷ 1 ∷ 1 ∷ 1 ∷ 0 ∷ 0 ∷ 0 ∷ 0 ∷ []

pub example-i : Example
unfolding number call_written entry_bytes bits_of bytes_of to_bits
example-i =
    let j = judged-taken document_cutoffs file_i answered file-taken.0 (ap (λ (o : Tested). o.refused) tested-file) (sym (ap (λ (o : Tested). o.entry) tested-file)) in
    let n : number document_cutoffs file_i ≡ 0 = sym j.1 in
    let r : returned built_in_table file_i (replicate 24 255) ≡ 0 = built-in-returned (test_call file_i) (replicate 24 255) ∙ n in
    record { number-i = n; entry-i = sym j.0; returned-i = r; written-i = rw (r, built-in-numbers, sym j.0) }

-- ---- and what is refused
eleven-file : (outcome document_cutoffs file_eleven).refused ≡ true
unfolding outcome
eleven-file = ap (λ (i : Inputs). (satterthwaite marks document_cutoffs i).refused) file-sends.1 ∙ tested.1

pub record Refused : Type 0 where
  -- 1: 23 lent bytes
  pub short : returned built_in_table file_i (replicate 23 0) ≡ 1
  -- 2: no records; X, a kind of the other call; β_H of one row where there are two coefficients; two parameters and one Jacobian
  pub empty : refusal [] ≡ 2
  pub other_call : refusal (record_of 1 0 0 0 one_bits ++ file_i) ≡ 2
  pub partly : refusal (file_of (record_of 10 0 0 0 one_bits) four_bits one_bits (one_parameter four_bits one_bits half_bits)) ≡ 2
  pub one_jacobian : refusal (file_i ++ (record_of 32 0 1 0 0 ++ cells_of_row 32 0 1 0 one_bits)) ≡ 2
  -- 12: A twice; two Jacobians row by row, which are taken one after the other
  pub twice : refusal (file_i ++ record_of 32 0 0 0 half_bits) ≡ 12
  pub by_row : refusal (file_of [] four_bits one_bits (cells_of_row 31 0 0 one_bits 0 ++ (cells_of_row 31 1 0 one_bits 0 ++ (cells_of_row 31 0 1 0 one_bits ++ (cells_of_row 31 1 1 0 one_bits ++ square 32 0 one_bits 0 0 one_bits))))) ≡ 12
  pub by_count : refusal (file_of [] four_bits one_bits (square 31 0 one_bits 0 0 one_bits ++ (square 31 1 one_bits 0 0 one_bits ++ square 32 0 one_bits 0 0 one_bits))) ≡ 0
  -- 12 after the length's 2 and before the form's
  pub after_length : refusal (file_i ++ (record_of 8 0 0 0 one_bits ++ (0 ∷ []))) ≡ 2
  pub before_form : refusal (file_i ++ record_of 1 0 0 0 one_bits) ≡ 12
  -- 4: A infinite
  pub infinite : refusal (file_of [] four_bits one_bits (one_parameter four_bits one_bits 0x7ff0000000000000)) ≡ 4
  -- 11: V = diag(1,0), L identity
  pub eleven : number document_cutoffs file_eleven ≡ 11

pub refused : Refused
unfolding refusal reasons length_reasons order_reasons falls stands_before matrix_of numbers_matrix form_reasons value_reasons first sizes out_of bad_record is_cell again has fileCell rows columns beyond missing not_finite kind_at holds width index_of value_holds satterthwaite_kinds limits any most last word long bytes_of is_finite is_zero of_bits le eq
refused = record {
  short = built-in-returned (test_call file_i) (replicate 23 0);
  empty = refl;
  other_call = refl;
  partly = refl;
  one_jacobian = refl;
  twice = refl;
  by_row = refl;
  by_count = refl;
  after_length = refl;
  before_form = refl;
  infinite = refl;
  eleven = sym (judged-late document_cutoffs file_eleven no_entry file-taken.1 eleven-file refl).1;
}
