-- Document 01, "Bench examples, one statement over the lot": those of the Satterthwaite test, computed from the definitions.
use mathlib.Core.Path.{◌≡◌, refl}
use mathlib.Core.Bool.{true, false}
use mathlib.Core.List.{List, [], ◌∷◌}
use Prim.Native.Nat.{ℕ}
use lib.IntN.{pos, negsuc}
use lib.Ieee.{Float, fin, binary64, round, add, sub, mul, div, neg, lt, eq, le, of_int}
use Rattle.arithmetic.specs.Numbers.{plus_zero, one, magnitude, is_zero, is_finite, sign, of_count}
use Rattle.arithmetic.specs.SquareRoot.{square_root, whole_root}
use Rattle.arithmetic.specs.Marks.{given, in_range, step_mark, lost_product, lost_quotient, marked_add, marked_sub, marked_mul, marked_div, marked_root, marked_magnitude, also}
use Rattle.algebra.specs.Kind.{marks}
use Rattle.algebra.specs.Fold.{fold}
use Rattle.algebra.specs.Table.{row, blank, table}
use Rattle.algebra.specs.Product.{sum, cell, product, transpose, sum_cells, identity, minus_cells}
use Rattle.algebra.specs.Jacobi.{ratio, tangent, cosine, sine, turned_first, turned_second, turn_row, turn_columns, rotated_cell, rotated, squared, bound, rotate_tested, rotate, row_to, sweep_to, sweeps_to, mirrored, jacobi}
use Rattle.algebra.specs.Small.{sandwich, given_cells, all_marks}
use Rattle.arithmetic_cutoffs.specs.Cutoffs.{decimal, document_cutoffs}
use Rattle.std.specs.Prelude.{Some, None}
use Rattle.tests.specs.Answer.{number_of}
use Rattle.tests.specs.Order.{comes_before, place_in, index_at}
use Rattle.tests.specs.VarianceDf.{relative_gradient, gradient_values, relative_variance, df_of_relative, variance_df, gradient_seen}
use Rattle.tests.specs.Both.{is_positive, square_one, stack_seen}
use Rattle.tests.specs.PooledDf.{tolerance, all_within, any_low, expected, pooled, get_fstat_ddf}
use Rattle.tests.specs.declared.Tested.{Tested}
use Rattle.tests.specs.Satterthwaite.{Inputs, column, contrast_of, transformed, transformed_all, gradient_one, eigenvalues, not_positive, variances_of, directions_of, projected, squares_over, jx_all, gradient_at, capped, component_df, component_dfs, any_none, several_df, components_seen, ld_rows, v_rows, j_stack, rotated_v, variances, directions, jx_stack, f_one, f_several, df_one, df_several, start_seen, seen_one, seen_several, one_row, several_rows, satterthwaite}

-- ---- what the examples are run on
abbrev pub four : Float
four = fin false 1 (pos 2)

abbrev pub two : Float
two = fin false 1 (pos 1)

abbrev pub five : Float
five = fin false 5 (pos 0)

abbrev pub six : Float
six = fin false 3 (pos 1)

abbrev pub half : Float
half = fin false 1 (negsuc 0)

-- diag(4, 1) and the identity of two rows
abbrev pub four_one : List (List Float)
four_one = (four ∷ plus_zero ∷ []) ∷ (plus_zero ∷ one ∷ []) ∷ []

abbrev pub unit : List (List Float)
unit = (one ∷ plus_zero ∷ []) ∷ (plus_zero ∷ one ∷ []) ∷ []

-- (i) and (j): v = diag(4,1), one Jacobian equal to v, β (4,1), with q rows of the identity and A of one cell
abbrev pub example : ℕ → Float → Inputs
example q a = record { p = 2; q = q; n = 1; l = unit; beta = four ∷ one ∷ []; beta_h = plus_zero ∷ plus_zero ∷ []; v = four_one; js = four_one ∷ []; a = (a ∷ []) ∷ [] }

abbrev pub tiny : Float
tiny = fin false 1 (negsuc 11)

-- accepted, inside
abbrev pub accepted : Float → Float → ℕ → Tested
accepted f df rank = record { refused = false; entry = record { f = Some f; df = Some df; rank = rank; inside = true } }

-- ---- the statement
pub record SatterthwaiteExamples : Type 0 where
  -- (c) ν 6,6,4 give 5; (d) 1,1 give 1; (e) 2,5 give 2
  pub c : get_fstat_ddf 3 (six ∷ six ∷ four ∷ []) tolerance ≡ five
  pub d : get_fstat_ddf 2 (one ∷ one ∷ []) tolerance ≡ one
  pub e : get_fstat_ddf 2 (two ∷ five ∷ []) tolerance ≡ two
  -- (f) V 2, J 2, A 4 give 0.5; (g) V 0 gives none
  pub f : variance_df marks 1 ((four ∷ []) ∷ []) (given two) (given two ∷ []) ≡ Some half
  pub g : variance_df marks 1 ((four ∷ []) ∷ []) (given plus_zero) (given two ∷ []) ≡ None
  -- (i) L identity, v = diag(4,1), one Jacobian equal to v, A 0.5, β (4,1): F 2.5, df 4
  pub i : satterthwaite marks document_cutoffs (example 2 half) ≡ accepted (fin false 5 (negsuc 0)) four 2
  -- (j) as (i), A 2^-12: df 3000; one row: 8192
  pub j : (satterthwaite marks document_cutoffs (example 2 tiny) ≡ accepted (fin false 5 (negsuc 0)) (fin false 375 (pos 3)) 2)
      × (satterthwaite marks document_cutoffs (example 1 tiny) ≡ accepted four (fin false 1 (pos 13)) 1)

pub bench : SatterthwaiteExamples
unfolding satterthwaite several_rows one_row seen_several seen_one start_seen df_several df_one f_several f_one jx_stack directions variances rotated_v j_stack v_rows ld_rows stack_seen components_seen several_df any_none component_dfs component_df capped gradient_at jx_all squares_over projected directions_of variances_of not_positive eigenvalues gradient_one square_one transformed_all transformed contrast_of column get_fstat_ddf pooled expected any_low all_within tolerance gradient_seen variance_df df_of_relative relative_variance gradient_values relative_gradient is_positive index_at place_in comes_before number_of document_cutoffs decimal all_marks given_cells sandwich jacobi mirrored sweeps_to sweep_to row_to rotate rotate_tested bound squared rotated rotated_cell turn_columns turn_row turned_second turned_first sine cosine tangent ratio identity minus_cells sum_cells transpose product cell sum table blank row fold marked_magnitude marked_root marked_div marked_mul marked_sub marked_add also lost_quotient lost_product step_mark in_range square_root whole_root of_count is_finite is_zero magnitude sign round add sub mul div neg lt eq le of_int lib.Ieee.is_nan
bench = record { c = refl; d = refl; e = refl; f = refl; g = refl; i = refl; j = (refl, refl) }
