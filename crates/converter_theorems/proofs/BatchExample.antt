-- The third demand at work on a series with all that a file can have: six pulls of two treatments on three batches, weights, a block, a contrast of two rows that are not orthogonal, and β_H.
-- The file is accepted with all entries inside, F and df of each are numbers, and with other powers of two its verdicts are the same; all by computation.
use Prim.Native.Nat.{ℕ, zero, suc, ◌<◌, ◌≤◌}
use native.Mathlib.Omega.{arith}
use mathlib.Core.Path.{◌≡◌, refl, ap}
use mathlib.Core.Bool.{Bool, true, false, cond}
use mathlib.Core.List.{List, [], ◌∷◌, ◌++◌, map}
use lib.Dec.{lit≤, eqb}
use lib.IntN.{ℤ, pos, negsuc, nat_abs}
use lib.ListN.{get_or, replicate}
use lib.Ieee.{Float, fin, round, add, sub, mul, div, neg, lt, eq, le, of_int, of_bits, to_bits}
use Rattle.arithmetic.specs.Numbers.{plus_zero, one, magnitude, is_zero, is_finite, sign, is_larger, of_count}
use Rattle.arithmetic.specs.SquareRoot.{square_root, whole_root}
use Rattle.arithmetic.specs.Marks.{in_range, step_mark, lost_product, lost_quotient, marked_add, marked_sub, marked_mul, marked_div, marked_root, also}
use Rattle.algebra.specs.Fold.{fold}
use Rattle.algebra.specs.Table.{row, blank, table}
use Rattle.algebra.specs.Product.{sum, cell, product, transpose, sum_cells, like_cells, trace, identity, plus_cells, minus_cells, times_number, over_number}
use Rattle.algebra.specs.Elimination.{larger, pivot_row, swap_rows, factor, less_by, cleared, eliminate_column, eliminate_to, zero_pivot, column_or_stop, stopping, back_sum, back_cell, back_to, joined, solution, refused}
use Rattle.algebra.specs.Small.{Rows, sandwich, given_cells, values, all_marks}
use Rattle.arithmetic_cutoffs.specs.Cutoffs.{decimal, document_cutoffs}
use Rattle.adjustment.specs.Information.{h_rows, o_rows, p_rows, q_rows, packed, k_cell, ie_cell, mirror, smallest, ridged, inverted, w_rows, w_refused}
use Rattle.adjustment.specs.Blocks.{columns_before, places_before, block_of, place_of, theta_cell, factor_of, direction}
use Rattle.adjustment.specs.Covariance.{Design, directed_cell, group_cell, block_cell, residual_cell, g_cell, factor as factorOfMatrix, g_rows, sigma_cell, sigma_rows, cholesky, inverse_factor, inverse_factor_refused, precision}
use Rattle.adjustment.specs.Adjusted.{Adjustment, stack, q_stack, u_term, u_term_at, u_above, u_rows, phi_a_rows, h_stack, o_stack, p_stack, q_stack_of, ie_rows, eigen, from_precision, information_refused, precision_of, scaled_up, scaled_down, not_all_finite, not_all_finite_marked, output_not_finite, adjustment_refusal, adjustment_reasons}
use Rattle.algebra.specs.Cholesky.{put, less_dot, below_diagonal, cholesky_column, cholesky_to, not_positive, cholesky_refused, lower}
use Rattle.algebra.specs.Jacobi.{ratio, tangent, cosine, sine, turned_first, turned_second, turn_row, turn_columns, rotated_cell, rotated, squared, bound, rotate_tested, rotate, row_to, sweep_to, sweeps_to, mirrored, jacobi}
use Rattle.tests.specs.Basis.{largest, divided_cell, divided, row_dot, turn_rows, turn_pair, pairs_to, sweep_to as sweepToRows, sweeps_to as sweepsToRows, norms, singular, tolerance as rankTolerance, rank_of, basis_rows, contrast_basis}
use Rattle.tests.specs.Order.{comes_before, place_in, index_at}
use Rattle.tests.specs.Moments.{weight, a1_of, a2_of, b_of, g_of, d_of, c1_of, c2_of, c3_of, leading_of, v0_of, v1_of, v2_of, div_of, less_a2, rho_of, positive, general_df, rank_one, df_of, scaling_at, scaling_of, f_of}
use Rattle.tests.specs.KenwardRoger.{unit_row, coefficient_test, contrast_test, scaled_ps, scaled_by, scaling_seen, difference, theta_of, u_of, u_stack, u_values, wald_many, a_rows, x_rows, theta_phi, us, ld_rows, v_rows, y_rows, wald_marked, wald_number, test_seen, a1, a2, tested, with_test, coefficients_to, run_of}
use Rattle.adjustment.specs.Blocks.{no_block}
use Rattle.std.specs.Prelude.{Some}
use Rattle.tests.specs.declared.Entry.{Entry}
use Rattle.tests.specs.Answer.{no_entry, number_of}
use Rattle.records.specs.format.Bytes.{word, long, bytes_of}
use Rattle.records.specs.format.Scan.{any, most, last, total}
use Rattle.records.specs.format.Kinds.{kind_at, holds, width, index_of, value_holds, kenward_roger_kinds, limits}
use Rattle.records.specs.format.File.{out_of, bad_record, is_cell, again, has, cell as cell_of, rows, columns, beyond, missing, not_finite, length_reasons, form_reasons}
use Rattle.records.specs.format.Order.{numbers_matrix, matrix_of, stands_before, falls, order_reasons}
use Rattle.records.specs.readers.Shortened.{torn, all_torn, kept_below, shortened}
use Rattle.records.specs.readers.Series.{coefficients, sizes, as_sent, block_of as block_at, miscounted, bad_size, bad_weight, misfit, zero_contrast, block_reasons, size_reasons, value_reasons, reasons, design, phi, beta, beta_h, contrast, sigma2}
use Rattle.records.specs.format.Written.{record_of}
use Rattle.records.specs.calls.KenwardRogerCall.{run}
use Rattle.tests.specs.Verdict.{verdict}
use Rattle.converter_run.specs.joints.ConvertedInput.{Input}
use Rattle.converter.specs.Converted.{kenward_roger_shift, kenward_roger_change, rewritten, new_bits, new_byte, converted}
use Rattle.converter.specs.SeriesDemand.{AllInside}
use Rattle.converter_theorems.proofs.ReadCall.{Reads, Runs, Witness, read-accepted, read-entries, read-inside, witness}
use Rattle.tests.specs.Both.{stack_seen, square_one, is_positive}
use Rattle.algebra.specs.Reasons.{first}

-- the records of a row before others: one value, or two in columns 0 and 1
abbrev line_of : ℕ → ℕ → ℕ → List ℕ → List ℕ
line_of kind r b others = record_of kind r 0 0 b ++ others

abbrev pair_of : ℕ → ℕ → ℕ → ℕ → List ℕ → List ℕ
pair_of kind r b0 b1 others = record_of kind r 0 0 b0 ++ (record_of kind r 1 0 b1 ++ others)

-- the bits of 1 and 2
abbrev one64 : ℕ
one64 = 0x3ff0000000000000

abbrev two64 : ℕ
two64 = 0x4000000000000000

-- X: 1, and the pull's treatment, 0 or 1
abbrev x_bytes : List ℕ → List ℕ
x_bytes others = pair_of 1 0 one64 0 (pair_of 1 1 one64 one64 (pair_of 1 2 one64 0 (pair_of 1 3 one64 one64 (pair_of 1 4 one64 0 (pair_of 1 5 one64 one64 others)))))

-- Z: pulls 0 and 1 of batch 0, 2 and 3 of batch 1, 4 and 5 of batch 2; a block of one effect in three groups; theta 1/2
abbrev z_bytes : List ℕ → List ℕ
z_bytes others =
    record_of 2 0 0 0 one64
    ++ (record_of 2 1 0 0 one64
    ++ (record_of 2 2 1 0 one64
    ++ (record_of 2 3 1 0 one64 ++ (record_of 2 4 2 0 one64 ++ (record_of 2 5 2 0 one64 ++ (record_of 3 0 1 3 1 ++ (record_of 4 0 0 0 0x3fe0000000000000 ++ others)))))))

-- weights 1, 1, 1, 2, 2, 2
abbrev weight_bytes : List ℕ → List ℕ
weight_bytes others = line_of 5 0 one64 (line_of 5 1 one64 (line_of 5 2 one64 (line_of 5 3 two64 (line_of 5 4 two64 (line_of 5 5 two64 others)))))

-- Φ = ((5/16, -1/4), (-1/4, 7/16))
abbrev phi_bytes : List ℕ → List ℕ
phi_bytes others = pair_of 6 0 0x3fd4000000000000 0xbfd0000000000000 (pair_of 6 1 0xbfd0000000000000 0x3fdc000000000000 others)

-- the whole, with the bits of sigma2, β, the contrast's rows and β_H
abbrev batch_bytes : ℕ → ℕ → ℕ → ℕ → ℕ → ℕ → ℕ → ℕ → ℕ → List ℕ
batch_bytes v b0 b1 l00 l01 l10 l11 h0 h1 =
    x_bytes (z_bytes (weight_bytes (phi_bytes (line_of 7 0 v (line_of 8 0 b0 (line_of 8 1 b1 (pair_of 9 0 l00 l01 (pair_of 9 1 l10 l11 (line_of 10 0 h0 (line_of 10 1 h1 []))))))))))

-- sigma2 4, β (12, 2), contrast (1, 0) and (1, 1), β_H (10, 1)
abbrev pub batch_file : List ℕ
batch_file = batch_bytes 0x4010000000000000 0x4028000000000000 0x4000000000000000 0x3ff0000000000000 0 0x3ff0000000000000 0x3ff0000000000000 0x4024000000000000 0x3ff0000000000000

-- ---- what the file says
abbrev batch_design : Design
batch_design = record {
  n = 6;
  p = 2;
  x = (one ∷ plus_zero ∷ []) ∷ (one ∷ one ∷ []) ∷ (one ∷ plus_zero ∷ []) ∷ (one ∷ one ∷ []) ∷ (one ∷ plus_zero ∷ []) ∷ (one ∷ one ∷ []) ∷ [];
  z = (one ∷ plus_zero ∷ plus_zero ∷ []) ∷ (one ∷ plus_zero ∷ plus_zero ∷ []) ∷ (plus_zero ∷ one ∷ plus_zero ∷ []) ∷ (plus_zero ∷ one ∷ plus_zero ∷ []) ∷ (plus_zero ∷ plus_zero ∷ one ∷ []) ∷ (plus_zero ∷ plus_zero ∷ one ∷ []) ∷ [];
  weighted = true;
  weights = one ∷ one ∷ one ∷ fin false 1 (pos 1) ∷ fin false 1 (pos 1) ∷ fin false 1 (pos 1) ∷ [];
  blocks = record { effects = 1; groups = 3 } ∷ replicate 2 no_block;
  count = 1;
  theta = fin false 1 (negsuc 0) ∷ replicate 2 plus_zero;
}

abbrev batch_phi : Rows
batch_phi = (fin false 5 (negsuc 3) ∷ fin true 1 (negsuc 1) ∷ replicate 4 plus_zero) ∷ (fin true 1 (negsuc 1) ∷ fin false 7 (negsuc 3) ∷ replicate 4 plus_zero) ∷ replicate 4 (replicate 6 plus_zero)

abbrev batch_input : Input
batch_input = record { sigma2 = fin false 1 (pos 2); beta = fin false 3 (pos 2) ∷ fin false 1 (pos 1) ∷ replicate 4 plus_zero; beta_h = fin false 5 (pos 1) ∷ one ∷ replicate 4 plus_zero; contrast = (one ∷ plus_zero ∷ replicate 4 plus_zero) ∷ (one ∷ one ∷ replicate 4 plus_zero) ∷ replicate 4 (replicate 6 plus_zero) }

reads : Reads batch_file batch_design batch_phi 2 batch_input
unfolding design as_sent shortened all_torn torn kept_below phi beta beta_h contrast table row blank fold reasons length_reasons order_reasons falls stands_before matrix_of numbers_matrix form_reasons block_reasons size_reasons value_reasons first sizes miscounted bad_size bad_weight misfit zero_contrast block_at out_of bad_record is_cell again has cell_of rows columns beyond missing not_finite kind_at holds width index_of value_holds kenward_roger_kinds limits any most last total word long bytes_of is_finite is_zero of_bits lt le eq
reads = record { design = refl; phi = refl; input = refl; contrast = refl; passes = refl }

two-coefficients : coefficients batch_file ≡ 2
unfolding columns most bytes_of
two-coefficients = refl

-- ---- what the adjustment makes of it: Φ_A, the two Ps and W, with one rotation; and the run
abbrev batch_adjusted : Adjustment
batch_adjusted = record {
  phi_a = (fin false 3563585563403099 (negsuc 52) ∷ fin true 5175337592272109 (negsuc 53) ∷ replicate 4 plus_zero) ∷ (fin true 2587668796136053 (negsuc 52) ∷ fin false 1111715126995901 (negsuc 50) ∷ replicate 4 plus_zero) ∷ replicate 4 (replicate 6 plus_zero);
  ps = ((fin true 1226745816865943 (negsuc 46) ∷ fin true 682305555790683 (negsuc 46) ∷ replicate 4 plus_zero) ∷ (fin true 682305555790683 (negsuc 46) ∷ fin true 6193726018141055 (negsuc 50) ∷ replicate 4 plus_zero) ∷ replicate 4 (replicate 6 plus_zero)) ∷ ((fin true 3229622181759455 (negsuc 49) ∷ fin true 3597262967667249 (negsuc 50) ∷ replicate 4 plus_zero) ∷ (fin true 3597262967667249 (negsuc 50) ∷ fin true 3461312468711763 (negsuc 49) ∷ replicate 4 plus_zero) ∷ replicate 4 (replicate 6 plus_zero)) ∷ replicate 2 (replicate 6 (replicate 6 plus_zero));
  w = (fin false 4279335315812963 (negsuc 52) ∷ fin true 3058761314748861 (negsuc 52) ∷ replicate 4 plus_zero) ∷ (fin true 3058761314748861 (negsuc 52) ∷ fin false 138171423069057 (negsuc 46) ∷ replicate 4 plus_zero) ∷ replicate 4 (replicate 6 plus_zero);
  rotations = 1;
}

-- an entry with numbers for F and df, inside
abbrev entry_inside : Float → Float → ℕ → Entry
entry_inside f df rank = record { f = Some f; df = Some df; rank = rank; inside = true }

-- F 90.9924 with df 4.6476, F 2.0255 with df 2.2685; the contrast of rank 2: F 2.7141 with df 2.6336
abbrev batch_entries : List Entry
batch_entries =
    entry_inside (fin false 6403020328300471 (negsuc 45)) (fin false 5232705523635173 (negsuc 49)) 1
    ∷ entry_inside (fin false 2280531350965243 (negsuc 49)) (fin false 2554073103375619 (negsuc 49)) 1
    ∷ no_entry ∷ no_entry ∷ no_entry ∷ no_entry
    ∷ entry_inside (fin false 3055857611690021 (negsuc 49)) (fin false 5930309010887717 (negsuc 50)) 2
    ∷ []

runs : Runs batch_design batch_phi 2 batch_input batch_adjusted batch_entries
unfolding adjustment_refusal adjustment_reasons first output_not_finite not_all_finite_marked not_all_finite scaled_down scaled_up precision_of information_refused from_precision eigen ie_rows q_stack_of p_stack o_stack h_stack phi_a_rows u_rows u_above u_term_at u_term q_stack stack precision inverse_factor_refused inverse_factor cholesky sigma_rows sigma_cell g_rows factorOfMatrix g_cell residual_cell block_cell group_cell directed_cell direction factor_of theta_cell place_of block_of places_before columns_before w_refused w_rows inverted ridged smallest mirror ie_cell k_cell packed q_rows p_rows o_rows h_rows lower cholesky_refused not_positive cholesky_to cholesky_column below_diagonal less_dot put jacobi mirrored sweeps_to sweep_to row_to rotate rotate_tested bound squared rotated rotated_cell turn_columns turn_row turned_second turned_first sine cosine tangent ratio identity plus_cells minus_cells times_number over_number document_cutoffs decimal all_marks values given_cells sandwich solution refused joined back_to back_cell back_sum stopping column_or_stop zero_pivot eliminate_to eliminate_column cleared less_by factor swap_rows pivot_row larger trace like_cells sum_cells transpose product cell sum table blank row fold marked_root marked_div marked_mul marked_sub marked_add also lost_quotient lost_product step_mark in_range square_root whole_root of_count is_larger is_finite is_zero magnitude sign round add sub mul div neg lt eq le of_int lib.Ieee.is_nan tested test_seen a1 a2 wald_number wald_marked y_rows v_rows ld_rows us theta_phi x_rows a_rows wald_many is_positive square_one stack_seen u_values u_stack u_of theta_of difference scaling_seen f_of scaling_of scaling_at df_of rank_one general_df positive rho_of less_a2 div_of v2_of v1_of v0_of leading_of c3_of c2_of c1_of d_of g_of b_of a2_of a1_of weight contrast_basis divided divided_cell largest number_of unit_row coefficient_test contrast_test scaled_ps scaled_by run_of with_test coefficients_to basis_rows rank_of rankTolerance singular norms sweepsToRows sweepToRows pairs_to turn_pair turn_rows row_dot index_at place_in comes_before
runs = record { refusal = refl; adjusted = refl; run = refl }

-- ---- together
first_two : (i : ℕ) → i < 2 → (get_or batch_entries i no_entry).inside ≡ true
first_two zero h = refl
first_two (suc zero) h = refl
first_two (suc (suc i)) h = absurd (omega arith)

batch-inside : AllInside 24 document_cutoffs batch_file
batch-inside = read-inside reads runs 2 two-coefficients first_two refl

-- k = 3, m 0 = -2 and m 1 = 4: sigma2 256, β (96, 16), contrast (1/4, 0) and (16, 16), β_H (80, 8)
abbrev powers : ℕ → ℤ
powers r = cond (eqb r 0) (negsuc 1) (pos 4)

powers-near : (r : ℕ) → nat_abs (powers r) ≤ 32
powers-near r = go (eqb r 0)
  where
    go : (b : Bool) → nat_abs (cond b (negsuc 1) (pos 4)) ≤ 32
    go true = lit≤ tt
    go false = lit≤ tt

abbrev pub batch_shifted : List ℕ
batch_shifted = batch_bytes 0x4070000000000000 0x4058000000000000 0x4030000000000000 0x3fd0000000000000 0 0x4030000000000000 0x4030000000000000 0x4054000000000000 0x4020000000000000

shifted : converted (kenward_roger_change (pos 3) powers) batch_file ≡ batch_shifted
unfolding converted new_byte new_bits rewritten kenward_roger_shift row fold word long bytes_of mul of_bits to_bits
shifted = refl

pub batch-example : Witness batch_file (pos 3) powers batch_shifted (map verdict batch_entries)
batch-example =
    witness batch_file (pos 3) powers batch_shifted (map verdict batch_entries) (lit≤ tt) powers-near (read-accepted reads runs) batch-inside (ap (map verdict) (read-entries reads runs)) shifted
