-- "Everything up to and with g is marked, for one row or several": a Satterthwaite test in which nothing but the products of Jacobi's rotation test leaves the marked range is outside.
use mathlib.Core.Path.{◌≡◌, refl}
use mathlib.Core.Bool.{false}
use mathlib.Core.List.{List, [], ◌∷◌}
use lib.IntN.{pos}
use lib.Ieee.{Float, fin, round, add, sub, mul, div, neg, lt, eq, le, of_int}
use Rattle.arithmetic.specs.Numbers.{plus_zero, one, magnitude, is_zero, is_finite, sign, of_count}
use Rattle.arithmetic.specs.SquareRoot.{square_root, whole_root}
use Rattle.arithmetic.specs.Marks.{in_range, step_mark, lost_product, lost_quotient, marked_add, marked_sub, marked_mul, marked_div, marked_root, marked_magnitude, also}
use Rattle.algebra.specs.Kind.{marks}
use Rattle.algebra.specs.Fold.{fold}
use Rattle.algebra.specs.Table.{row, blank, table}
use Rattle.algebra.specs.Product.{sum, cell, product, transpose, sum_cells, identity, minus_cells}
use Rattle.algebra.specs.Jacobi.{ratio, tangent, cosine, sine, turned_first, turned_second, turn_row, turn_columns, rotated_cell, rotated, squared, bound, rotate_tested, rotate, row_to, sweep_to, sweeps_to, mirrored, jacobi}
use Rattle.algebra.specs.Small.{sandwich, given_cells, all_marks}
use Rattle.arithmetic_cutoffs.specs.Cutoffs.{decimal, document_cutoffs}
use Rattle.tests.specs.Answer.{number_of}
use Rattle.tests.specs.Order.{comes_before, place_in, index_at}
use Rattle.tests.specs.VarianceDf.{relative_gradient, gradient_values, relative_variance, df_of_relative, variance_df, gradient_seen}
use Rattle.tests.specs.PooledDf.{tolerance, all_within, any_low, expected, pooled, get_fstat_ddf}
use Rattle.tests.specs.Satterthwaite.{Inputs, column, contrast_of, transformed, transformed_all, gradient_one, eigenvalues, not_positive, variances_of, directions_of, projected, squares_over, jx_all, gradient_at, capped, component_df, component_dfs, any_none, several_df, components_seen, ld_rows, v_rows, j_stack, rotated_v, variances, directions, jx_stack, f_one, f_several, df_one, df_several, start_seen, seen_one, seen_several, one_row, several_rows, satterthwaite}
use Rattle.tests.specs.Both.{is_positive, square_one, stack_seen}

-- V = ((2^450, 2^440), (2^440, 2^450)): A_aa × A_bb is 2^900; the rotation itself has z = 0 and t = 1, and all that follows is near 2^450 or 1
abbrev large : Float
large = fin false 1 (pos 450)

abbrev beside : Float
beside = fin false 1 (pos 440)

abbrev unit : List (List Float)
unit = (one ∷ plus_zero ∷ []) ∷ (plus_zero ∷ one ∷ []) ∷ []

abbrev wide : List (List Float)
wide = (large ∷ beside ∷ []) ∷ (beside ∷ large ∷ []) ∷ []

abbrev pub rotating : Inputs
rotating = record { p = 2; q = 2; n = 1; l = unit; beta = one ∷ one ∷ []; beta_h = plus_zero ∷ plus_zero ∷ []; v = wide; js = wide ∷ []; a = (one ∷ []) ∷ [] }

pub rotation-counts : (satterthwaite marks document_cutoffs rotating).entry.inside ≡ false
unfolding satterthwaite several_rows one_row seen_several seen_one start_seen df_several df_one f_several f_one jx_stack directions variances rotated_v j_stack v_rows ld_rows stack_seen components_seen several_df any_none component_dfs component_df capped gradient_at jx_all squares_over projected directions_of variances_of not_positive eigenvalues gradient_one square_one transformed_all transformed contrast_of column get_fstat_ddf pooled expected any_low all_within tolerance gradient_seen variance_df df_of_relative relative_variance gradient_values relative_gradient is_positive index_at place_in comes_before number_of document_cutoffs decimal all_marks given_cells sandwich jacobi mirrored sweeps_to sweep_to row_to rotate rotate_tested bound squared rotated rotated_cell turn_columns turn_row turned_second turned_first sine cosine tangent ratio identity minus_cells sum_cells transpose product cell sum table blank row fold marked_magnitude marked_root marked_div marked_mul marked_sub marked_add also lost_quotient lost_product step_mark in_range square_root whole_root of_count is_finite is_zero magnitude sign round add sub mul div neg lt eq le of_int lib.Ieee.is_nan
rotation-counts = refl
