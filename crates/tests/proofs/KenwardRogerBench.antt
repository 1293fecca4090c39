-- Document 01, "Bench examples, one statement over the lot": those of the adjustment and of the Kenward–Roger test, computed from the definitions.
use mathlib.Core.Path.{◌≡◌, refl}
use mathlib.Core.Bool.{true, false}
use mathlib.Core.List.{List, [], ◌∷◌}
use lib.IntN.{pos, negsuc}
use lib.Ieee.{Float, fin, binary64, round, add, sub, mul, div, neg, lt, eq, le, of_int}
use lib.ListN.{replicate}
use Rattle.arithmetic.specs.declared.Marked.{Marked}
use Rattle.arithmetic.specs.Numbers.{plus_zero, one, magnitude, is_zero, is_finite, sign, is_larger, of_count}
use Rattle.arithmetic.specs.SquareRoot.{square_root, whole_root}
use Rattle.arithmetic.specs.Marks.{given, in_range, step_mark, lost_product, lost_quotient, marked_add, marked_sub, marked_mul, marked_div, marked_root, also}
use Rattle.algebra.specs.Fold.{fold}
use Rattle.algebra.specs.Table.{row, blank, table}
use Rattle.algebra.specs.Kind.{floats, marks}
use Rattle.algebra.specs.Product.{at, sum, cell, product, transpose, sum_cells, like_cells, trace, identity, plus_cells, minus_cells, times_number, over_number}
use Rattle.algebra.specs.Elimination.{larger, pivot_row, swap_rows, factor, less_by, cleared, eliminate_column, eliminate_to, zero_pivot, column_or_stop, stopping, back_sum, back_cell, back_to, joined, solution, refused}
use Rattle.algebra.specs.Reasons.{first}
use Rattle.algebra.specs.Small.{sandwich, given_cells, values, all_marks}
use Rattle.arithmetic_cutoffs.specs.Cutoffs.{decimal, document_cutoffs}
use Rattle.adjustment.specs.Information.{h_rows, o_rows, p_rows, q_rows, packed, k_cell, ie_cell, mirror, smallest, ridged, inverted, w_rows, w_refused}
use Rattle.adjustment.specs.Blocks.{columns_before, places_before, block_of, place_of, theta_cell, factor_of, direction}
use Rattle.adjustment.specs.Covariance.{Design, directed_cell, group_cell, block_cell, residual_cell, g_cell, factor as factorOfMatrix, g_rows, sigma_cell, sigma_rows, cholesky, inverse_factor, inverse_factor_refused, precision}
use Rattle.adjustment.specs.Adjusted.{stack, q_stack, u_term, u_term_at, u_above, u_rows, phi_a_rows, h_stack, o_stack, p_stack, q_stack_of, ie_rows, eigen, from_precision, information_refused, precision_of, adjustment, scaled_up, scaled_down, not_all_finite, not_all_finite_marked, output_not_finite, adjustment_reasons, adjustment_refusal}
use Rattle.algebra.specs.Cholesky.{put, less_dot, below_diagonal, cholesky_column, cholesky_to, not_positive, cholesky_refused, lower}
use Rattle.algebra.specs.Jacobi.{ratio, tangent, cosine, sine, turned_first, turned_second, turn_row, turn_columns, rotated_cell, rotated, squared, bound, rotate_tested, rotate, row_to, sweep_to, sweeps_to, mirrored, jacobi}
use Rattle.std.specs.Prelude.{Some}
use Rattle.tests.specs.Answer.{number_of}
use Rattle.tests.specs.Basis.{largest, divided_cell, divided, contrast_basis}
use Rattle.tests.specs.Moments.{weight, a1_of, a2_of, b_of, g_of, d_of, c1_of, c2_of, c3_of, leading_of, v0_of, v1_of, v2_of, div_of, less_a2, rho_of, positive, general_df, rank_one, df_of, scaling_at, scaling_of, f_of}
use Rattle.tests.specs.declared.Tested.{Tested}
use Rattle.tests.specs.KenwardRoger.{Scaled, unit_row, coefficient_test, contrast_test, scaled_ps, scaled_by, scaling_seen, difference, theta_of, u_of, u_stack, u_values, wald_many, a_rows, x_rows, theta_phi, us, ld_rows, v_rows, y_rows, wald_marked, wald_number, test_seen, a1, a2, tested}
use Rattle.tests.specs.Both.{square_one, is_positive, stack_seen}

-- ---- what the examples are run on
-- one cell
abbrev pub single : Float → List (List Marked)
single x = (given x ∷ replicate 5 (given plus_zero)) ∷ replicate 5 (replicate 6 (given plus_zero))

-- (h): Φ 1, Φ_A 4, P -1, W 2
abbrev pub scaled_h : Scaled Marked
scaled_h = record { p = 1; matrices = 1; phi = single one; phi_a = single (fin false 1 (pos 2)); ps = single (fin true 1 (pos 0)) ∷ []; w = (fin false 1 (pos 1) ∷ []) ∷ [] }

-- rank 1, F 9 and df 1, inside
abbrev pub nine_and_one : Tested
nine_and_one = record { refused = false; entry = record { f = Some (fin false 9 (pos 0)); df = Some one; rank = 1; inside = true } }

-- 1, 1 as a column; Φ 0.5; β 6
abbrev pub ones : List (List Float)
ones = (one ∷ []) ∷ (one ∷ []) ∷ []

abbrev pub half_phi : List (List Float)
half_phi = (fin false 1 (negsuc 0) ∷ []) ∷ []

abbrev pub beta_six : List Float
beta_six = fin false 3 (pos 1) ∷ []

-- (k): n 2, X 1,1, Z 1,1, one group, theta 0
abbrev pub design_k : Design
design_k = record { n = 2; p = 1; x = ones; z = ones; weighted = false; weights = []; blocks = record { effects = 1; groups = 1 } ∷ []; count = 1; theta = plus_zero ∷ [] }

-- `pulltest`: X 1,1, no random columns; sigma2 8
abbrev pub design_pull : Design
design_pull = record { n = 2; p = 1; x = ones; z = [] ∷ [] ∷ []; weighted = false; weights = []; blocks = []; count = 0; theta = [] }

abbrev pub eight : Float
eight = fin false 1 (pos 3)

abbrev pub scaled_pull : Scaled Marked
scaled_pull = scaled_by marks 1 1 half_phi eight (adjustment document_cutoffs design_pull half_phi)

-- ---- the statement
pub record KenwardRogerExamples : Type 0 where
  -- (a) N = 3: (1,2) and (2,1) pack at 4; (b) (2,2) at 5
  pub a : (packed 3 1 2 ≡ 4) × (packed 3 2 1 ≡ 4)
  pub b : packed 3 2 2 ≡ 5
  -- (h) Φ 1, Φ_A 4, P -1, W 2, L -8, β 6: F 9, df 1
  pub h : tested marks document_cutoffs scaled_h beta_six (plus_zero ∷ []) (contrast_basis marks 1 1 ((fin true 1 (pos 3) ∷ []) ∷ [])) ≡ nine_and_one
  -- (k) n 2, X 1,1, Z 1,1, one group, theta 0, Φ 0.5: Φ_A 0.5, W_00 200000000; nothing refuses it
  pub k : (adjustment_refusal document_cutoffs design_k half_phi one ≡ 0) × (at floats (adjustment document_cutoffs design_k half_phi).phi_a 0 0 ≡ fin false 1 (negsuc 0))
      × (at floats (adjustment document_cutoffs design_k half_phi).w 0 0 ≡ decimal 200000000 0)
  -- the `pulltest` example: X 1,1, Φ 0.5, sigma2 8, β 6, contrast 1: coefficient 0 and the contrast have rank 1, F 9, df 1, inside
  pub pull : (adjustment_refusal document_cutoffs design_pull half_phi eight ≡ 0) × (coefficient_test marks document_cutoffs scaled_pull beta_six 0 ≡ nine_and_one)
      × (contrast_test marks document_cutoffs scaled_pull beta_six (plus_zero ∷ []) 1 ((one ∷ []) ∷ []) ≡ nine_and_one)

pub bench : KenwardRogerExamples
unfolding adjustment_refusal adjustment_reasons first output_not_finite not_all_finite_marked not_all_finite scaled_down scaled_up precision_of information_refused from_precision eigen ie_rows q_stack_of p_stack o_stack h_stack phi_a_rows u_rows u_above u_term_at u_term q_stack stack precision inverse_factor_refused inverse_factor cholesky sigma_rows sigma_cell g_rows factorOfMatrix g_cell residual_cell block_cell group_cell directed_cell direction factor_of theta_cell place_of block_of places_before columns_before w_refused w_rows inverted ridged smallest mirror ie_cell k_cell packed q_rows p_rows o_rows h_rows lower cholesky_refused not_positive cholesky_to cholesky_column below_diagonal less_dot put jacobi mirrored sweeps_to sweep_to row_to rotate rotate_tested bound squared rotated rotated_cell turn_columns turn_row turned_second turned_first sine cosine tangent ratio identity plus_cells minus_cells times_number over_number document_cutoffs decimal all_marks values given_cells sandwich solution refused joined back_to back_cell back_sum stopping column_or_stop zero_pivot eliminate_to eliminate_column cleared less_by factor swap_rows pivot_row larger trace like_cells sum_cells transpose product cell sum table blank row fold marked_root marked_div marked_mul marked_sub marked_add also lost_quotient lost_product step_mark in_range square_root whole_root of_count is_larger is_finite is_zero magnitude sign round add sub mul div neg lt eq le of_int lib.Ieee.is_nan tested test_seen a1 a2 wald_number wald_marked y_rows v_rows ld_rows us theta_phi x_rows a_rows wald_many u_values u_stack u_of theta_of difference scaling_seen f_of scaling_of scaling_at df_of rank_one general_df positive rho_of less_a2 div_of v2_of v1_of v0_of leading_of c3_of c2_of c1_of d_of g_of b_of a2_of a1_of weight contrast_basis divided divided_cell largest number_of unit_row coefficient_test contrast_test scaled_ps scaled_by is_positive square_one stack_seen
bench = record { a = (refl, refl); b = refl; h = refl; k = (refl, refl, refl); pull = (refl, refl, refl) }
