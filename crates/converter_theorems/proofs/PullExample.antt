-- The third demand at work: document 01's `pulltest` example as a file of bytes is accepted with all entries inside, and with other powers of two its verdicts are the same. So it is with a torn pull
-- between the two (document 02, "Req 03"): of weight -0 and with another number in X, it is absent, and the verdicts are the example's. All by computation.
use Prim.Native.Nat.{ℕ, ◌*◌, ◌<◌, ◌≤◌}
use native.Mathlib.Omega.{arith}
use mathlib.Core.Path.{◌≡◌, refl, ap, ◌∙◌, subst}
use mathlib.Core.Bool.{Bool, true, false}
use mathlib.Core.List.{List, [], ◌∷◌, ◌++◌, map}
use lib.Dec.{lit≤}
use lib.IntN.{ℤ, pos, negsuc, nat_abs}
use lib.ListN.{get_or, replicate}
use lib.Ieee.{Float, fin, round, add, sub, mul, div, neg, lt, eq, le, of_int, of_bits, to_bits}
use Rattle.arithmetic.specs.Numbers.{plus_zero, one, magnitude, is_zero, is_finite, sign, is_larger, of_count}
use Rattle.arithmetic.specs.SquareRoot.{square_root, whole_root}
use Rattle.arithmetic.specs.Marks.{most_borne, in_range, step_mark, lost_product, lost_quotient, marked_add, marked_sub, marked_mul, marked_div, marked_root, also}
use Rattle.algebra.specs.Fold.{fold}
use Rattle.algebra.specs.Table.{row, blank, table}
use Rattle.algebra.specs.Product.{sum, cell, product, transpose, sum_cells, like_cells, trace, identity, plus_cells, minus_cells, times_number, over_number}
use Rattle.algebra.specs.Elimination.{larger, pivot_row, swap_rows, factor, less_by, cleared, eliminate_column, eliminate_to, zero_pivot, column_or_stop, stopping, back_sum, back_cell, back_to, joined, solution, refused}
use Rattle.algebra.specs.Small.{Rows, sandwich, given_cells, values, all_marks}
use Rattle.arithmetic_cutoffs.specs.Cutoffs.{decimal, document_cutoffs}
use Rattle.adjustment.specs.Information.{h_rows, o_rows, p_rows, q_rows, packed, k_cell, ie_cell, mirror, smallest, ridged, inverted, w_rows, w_refused}
use Rattle.adjustment.specs.Blocks.{columns_before, places_before, block_of, place_of, theta_cell, factor_of, direction}
use Rattle.adjustment.specs.Covariance.{Design, directed_cell, group_cell, block_cell, residual_cell, g_cell, factor as factorOfMatrix, g_rows, sigma_cell, sigma_rows, cholesky, inverse_factor, inverse_factor_refused, precision}
use Rattle.adjustment.specs.Adjusted.{stack, q_stack, u_term, u_term_at, u_above, u_rows, phi_a_rows, h_stack, o_stack, p_stack, q_stack_of, ie_rows, eigen, from_precision, information_refused, precision_of, adjustment, scaled_up, scaled_down, not_all_finite, not_all_finite_marked, output_not_finite, adjustment_refusal, adjustment_reasons}
use Rattle.algebra.specs.Cholesky.{put, less_dot, below_diagonal, cholesky_column, cholesky_to, not_positive, cholesky_refused, lower}
use Rattle.algebra.specs.Jacobi.{ratio, tangent, cosine, sine, turned_first, turned_second, turn_row, turn_columns, rotated_cell, rotated, squared, bound, rotate_tested, rotate, row_to, sweep_to, sweeps_to, mirrored, jacobi}
use Rattle.tests.specs.Basis.{largest, divided_cell, divided, contrast_basis}
use Rattle.tests.specs.Moments.{weight, a1_of, a2_of, b_of, g_of, d_of, c1_of, c2_of, c3_of, leading_of, v0_of, v1_of, v2_of, div_of, less_a2, rho_of, positive, general_df, rank_one, df_of, scaling_at, scaling_of, f_of}
use Rattle.tests.specs.KenwardRoger.{unit_row, coefficient_test, contrast_test, scaled_ps, scaled_by, scaling_seen, difference, theta_of, u_of, u_stack, u_values, wald_many, a_rows, x_rows, theta_phi, us, ld_rows, v_rows, y_rows, wald_marked, wald_number, test_seen, a1, a2, tested, with_test, coefficients_to, run_of}
use Rattle.adjustment.specs.Blocks.{no_block}
use Rattle.std.specs.Prelude.{Some, None}
use Rattle.tests.specs.declared.Entry.{Entry}
use Rattle.tests.specs.Answer.{no_entry, number_of}
use Rattle.records.specs.format.Bytes.{word, long, bytes_of}
use Rattle.records.specs.format.Scan.{any, most, last, total}
use Rattle.records.specs.format.Kinds.{kind_at, holds, width, index_of, value_holds, kenward_roger_kinds, limits}
use Rattle.records.specs.format.File.{out_of, bad_record, is_cell, again, has, cell as cell_of, rows, columns, beyond, missing, not_finite, length_reasons, form_reasons}
use Rattle.records.specs.format.Order.{numbers_matrix, matrix_of, stands_before, falls, order_reasons}
use Rattle.records.specs.readers.Shortened.{torn as isTorn, all_torn, kept_below, shortened}
use Rattle.records.specs.readers.Series.{coefficients, sizes, as_sent, block_of as block_at, miscounted, bad_size, bad_weight, misfit, zero_contrast, block_reasons, size_reasons, value_reasons, reasons, design, phi, beta, beta_h, contrast, sigma2}
use Rattle.records.specs.format.Written.{record_of}
use Rattle.records.specs.promises.Bench.{pull_bytes, pull_file}
use Rattle.records.specs.calls.KenwardRogerCall.{run, number, entries}
use Rattle.tests.specs.Verdict.{Verdict, verdict}
use Rattle.converter_run.specs.joints.ConvertedInput.{Input}
use Rattle.converter.specs.Converted.{kenward_roger_shift, kenward_roger_change, rewritten, new_bits, new_byte, converted}
use Rattle.converter.specs.SeriesDemand.{AllInside}
use Rattle.converter.proofs.MixedSeason.{later_file, later_shifted}
use Rattle.converter_theorems.proofs.Theorems.{borne-kenward-roger, inside-bear}
use Rattle.converter_theorems.proofs.ReadCall.{Reads, Runs, Witness, read-accepted, read-entries, read-inside, witness}
use Rattle.tests.specs.Both.{stack_seen, square_one, is_positive}
use Rattle.algebra.specs.Reasons.{first}

-- ---- what the files say
-- two pulls of X 1,1, without weights or with these
abbrev two_pulls : Bool → List Float → Design
two_pulls weighted weights = record {
  n = 2;
  p = 1;
  x = (one ∷ []) ∷ (one ∷ []) ∷ [];
  z = [] ∷ [] ∷ [];
  weighted = weighted;
  weights = weights;
  blocks = replicate 3 no_block;
  count = 0;
  theta = replicate 3 plus_zero;
}

abbrev pull_design : Design
pull_design = two_pulls false []

-- with a torn pull between the two: X 1,7,1 and the weights 1, -0, 1; then Φ 0.5 and the bits of sigma2, β and the contrast
abbrev pub torn_bytes : ℕ → ℕ → ℕ → List ℕ
torn_bytes v b l =
    record_of 1 0 0 0 0x3ff0000000000000
    ++ (record_of 1 1 0 0 0x401c000000000000
    ++ (record_of 1 2 0 0 0x3ff0000000000000
    ++ (record_of 5 0 0 0 0x3ff0000000000000
    ++ (record_of 5 1 0 0 0x8000000000000000
    ++ (record_of 5 2 0 0 0x3ff0000000000000 ++ (record_of 6 0 0 0 0x3fe0000000000000 ++ (record_of 7 0 0 0 v ++ (record_of 8 0 0 0 b ++ record_of 9 0 0 0 l))))))))

abbrev pub torn_file : List ℕ
torn_file = torn_bytes 0x4020000000000000 0x4018000000000000 0x3ff0000000000000

-- the shortened series has the two others, with their weights
abbrev torn_design : Design
torn_design = two_pulls true (one ∷ one ∷ [])

-- one number, in 6 rows of 6
abbrev single : Float → Rows
single x = (x ∷ replicate 5 plus_zero) ∷ replicate 5 (replicate 6 plus_zero)

abbrev pull_phi : Rows
pull_phi = single (fin false 1 (negsuc 0))

-- sigma2, β and the contrast's one number
abbrev input_of_three : Float → Float → Float → Input
input_of_three v b l = record { sigma2 = v; beta = b ∷ replicate 5 plus_zero; beta_h = replicate 6 plus_zero; contrast = single l }

abbrev pull_input : Input
pull_input = input_of_three (fin false 1 (pos 3)) (fin false 3 (pos 1)) one

-- of the second series of a season (converter, MixedSeason), with β 3; and with k = 5 and m = -3
abbrev later_input : Input
later_input = input_of_three (fin false 1 (pos 3)) (fin false 3 (pos 0)) one

abbrev shifted_input : Input
shifted_input = input_of_three (fin false 1 (pos 13)) (fin false 3 (pos 5)) (fin false 1 (negsuc 2))

-- the example, the example with the torn pull, and the second series of a season before and after a change of converter
record AllRead : Type 0 where
  whole : Reads pull_file pull_design pull_phi 1 pull_input
  torn : Reads torn_file torn_design pull_phi 1 pull_input
  later : Reads later_file pull_design pull_phi 1 later_input
  shifted : Reads later_shifted pull_design pull_phi 1 shifted_input

reads : AllRead
unfolding design as_sent shortened all_torn isTorn kept_below phi beta beta_h contrast table row blank fold reasons length_reasons order_reasons falls stands_before matrix_of numbers_matrix form_reasons block_reasons size_reasons value_reasons first sizes miscounted bad_size bad_weight misfit zero_contrast block_at out_of bad_record is_cell again has cell_of rows columns beyond missing not_finite kind_at holds width index_of value_holds kenward_roger_kinds limits any most last total word long bytes_of is_finite is_zero of_bits lt le eq
reads = record {
  whole = record { design = refl; phi = refl; input = refl; contrast = refl; passes = refl };
  torn = record { design = refl; phi = refl; input = refl; contrast = refl; passes = refl };
  later = record { design = refl; phi = refl; input = refl; contrast = refl; passes = refl };
  shifted = record { design = refl; phi = refl; input = refl; contrast = refl; passes = refl };
}

one-coefficient : (coefficients pull_file ≡ 1) × (coefficients torn_file ≡ 1) × (coefficients later_file ≡ 1)
unfolding columns most bytes_of
one-coefficient = (refl, refl, refl)

-- ---- what the run makes of them
-- F and df 1 of the one coefficient, and of the contrast
abbrev entries_of_f : Float → List Entry
entries_of_f f =
    let e : Entry = record { f = Some f; df = Some one; rank = 1; inside = true } in
    e ∷ no_entry ∷ no_entry ∷ no_entry ∷ no_entry ∷ no_entry ∷ e ∷ []

abbrev pub pull_entries : List Entry
pull_entries = entries_of_f (fin false 9 (pos 0))

-- half the β, a quarter of the F: 2.25
abbrev pub later_entries : List Entry
later_entries = entries_of_f (fin false 9 (negsuc 1))

record AllRun : Type 0 where
  whole : Runs pull_design pull_phi 1 pull_input (adjustment document_cutoffs pull_design pull_phi) pull_entries
  torn : Runs torn_design pull_phi 1 pull_input (adjustment document_cutoffs torn_design pull_phi) pull_entries
  later : Runs pull_design pull_phi 1 later_input (adjustment document_cutoffs pull_design pull_phi) later_entries
  shifted : Runs pull_design pull_phi 1 shifted_input (adjustment document_cutoffs pull_design pull_phi) later_entries

runs : AllRun
unfolding adjustment_refusal adjustment_reasons first output_not_finite not_all_finite_marked not_all_finite scaled_down scaled_up precision_of information_refused from_precision eigen ie_rows q_stack_of p_stack o_stack h_stack phi_a_rows u_rows u_above u_term_at u_term q_stack stack precision inverse_factor_refused inverse_factor cholesky sigma_rows sigma_cell g_rows factorOfMatrix g_cell residual_cell block_cell group_cell directed_cell direction factor_of theta_cell place_of block_of places_before columns_before w_refused w_rows inverted ridged smallest mirror ie_cell k_cell packed q_rows p_rows o_rows h_rows lower cholesky_refused not_positive cholesky_to cholesky_column below_diagonal less_dot put jacobi mirrored sweeps_to sweep_to row_to rotate rotate_tested bound squared rotated rotated_cell turn_columns turn_row turned_second turned_first sine cosine tangent ratio identity plus_cells minus_cells times_number over_number document_cutoffs decimal all_marks values given_cells sandwich solution refused joined back_to back_cell back_sum stopping column_or_stop zero_pivot eliminate_to eliminate_column cleared less_by factor swap_rows pivot_row larger trace like_cells sum_cells transpose product cell sum table blank row fold marked_root marked_div marked_mul marked_sub marked_add also lost_quotient lost_product step_mark in_range square_root whole_root of_count is_larger is_finite is_zero magnitude sign round add sub mul div neg lt eq le of_int lib.Ieee.is_nan tested test_seen a1 a2 wald_number wald_marked y_rows v_rows ld_rows us theta_phi x_rows a_rows wald_many is_positive square_one stack_seen u_values u_stack u_of theta_of difference scaling_seen f_of scaling_of scaling_at df_of rank_one general_df positive rho_of less_a2 div_of v2_of v1_of v0_of leading_of c3_of c2_of c1_of d_of g_of b_of a2_of a1_of weight contrast_basis divided divided_cell largest number_of unit_row coefficient_test contrast_test scaled_ps scaled_by run_of with_test coefficients_to
runs = record {
  whole = record { refusal = refl; adjusted = refl; run = refl };
  torn = record { refusal = refl; adjusted = refl; run = refl };
  later = record { refusal = refl; adjusted = refl; run = refl };
  shifted = record { refusal = refl; adjusted = refl; run = refl };
}

-- ---- together
pub pull-accepted : number 24 document_cutoffs pull_file ≡ 0
pull-accepted = read-accepted reads.whole runs.whole

pub pull-entries : entries 24 document_cutoffs pull_file ≡ pull_entries
pull-entries = read-entries reads.whole runs.whole

first-only : (i : ℕ) → i < 1 → 0 ≡ i
first-only i h = omega arith

-- entry 0 is inside, and there is no other coefficient
first-inside : (f : Float) (i : ℕ) → i < 1 → (get_or (entries_of_f f) i no_entry).inside ≡ true
first-inside f i h = subst (λ (j : ℕ). (get_or (entries_of_f f) j no_entry).inside ≡ true) (first-only i h) refl

pull-inside : AllInside 24 document_cutoffs pull_file
pull-inside = read-inside reads.whole runs.whole 1 one-coefficient.0 (first-inside (fin false 9 (pos 0))) refl

-- rank 1, F 9, df 1; and no verdict in an entry that is not in use
abbrev pub nine_one : Verdict
nine_one = record { f = Some (fin false 9 (pos 0)); df = Some one; rank = 1 }

abbrev pub unused : Verdict
unused = record { f = None; df = None; rank = 0 }

abbrev pub pull_verdicts : List Verdict
pull_verdicts = nine_one ∷ unused ∷ unused ∷ unused ∷ unused ∷ unused ∷ nine_one ∷ []

-- k = 5 and m = -3: sigma2 8 becomes 8192, β 6 becomes 192, contrast 1 becomes 1/8
abbrev pub pull_shifted : List ℕ
pull_shifted = pull_bytes 0x40c0000000000000 0x4068000000000000 0x3fc0000000000000

shifted : converted (kenward_roger_change (pos 5) (λ r. negsuc 2)) pull_file ≡ pull_shifted
unfolding converted new_byte new_bits rewritten kenward_roger_shift row fold word long bytes_of mul of_bits to_bits
shifted = refl

pub pull-example : Witness pull_file (pos 5) (λ r. negsuc 2) pull_shifted pull_verdicts
pull-example =
    witness pull_file (pos 5) (λ r. negsuc 2) pull_shifted pull_verdicts (lit≤ tt) (λ r. lit≤ tt) pull-accepted pull-inside (ap (map verdict) pull-entries) shifted

-- ---- with the torn pull: accepted with all entries inside, the example's entries, and the same verdicts after the same change
pub torn-accepted : number 24 document_cutoffs torn_file ≡ 0
torn-accepted = read-accepted reads.torn runs.torn

pub torn-entries : entries 24 document_cutoffs torn_file ≡ pull_entries
torn-entries = read-entries reads.torn runs.torn

torn-inside : AllInside 24 document_cutoffs torn_file
torn-inside = read-inside reads.torn runs.torn 1 one-coefficient.1 (first-inside (fin false 9 (pos 0))) refl

abbrev pub torn_shifted : List ℕ
torn_shifted = torn_bytes 0x40c0000000000000 0x4068000000000000 0x3fc0000000000000

torn-shifted : converted (kenward_roger_change (pos 5) (λ r. negsuc 2)) torn_file ≡ torn_shifted
unfolding converted new_byte new_bits rewritten kenward_roger_shift row fold word long bytes_of mul of_bits to_bits
torn-shifted = refl

pub torn-example : Witness torn_file (pos 5) (λ r. negsuc 2) torn_shifted pull_verdicts
torn-example =
    witness torn_file (pos 5) (λ r. negsuc 2) torn_shifted pull_verdicts (lit≤ tt) (λ r. lit≤ tt) torn-accepted torn-inside (ap (map verdict) torn-entries) torn-shifted

-- with every k and m that an inside mark covers, k from -110 to 110 and m from -221 to 221, the example has rank 1, F 9 and df 1 in both entries
pub pull-every : (k m : ℤ) → 2 * nat_abs k ≤ most_borne → nat_abs m ≤ most_borne → map verdict (entries 24 document_cutoffs (converted (kenward_roger_change k (λ r. m)) pull_file)) ≡ pull_verdicts
pull-every k m near nearM =
    (borne-kenward-roger 24 document_cutoffs most_borne pull_file k (λ r. m) near (λ r h. nearM) pull-accepted (inside-bear 24 document_cutoffs pull_file (lit≤ tt) pull-inside)).verdicts ∙ ap (map verdict) pull-entries

-- ---- the second series of a season before and after its change, accepted with its entries; marked inside in both
pub later-accepted : number 24 document_cutoffs later_file ≡ 0
later-accepted = read-accepted reads.later runs.later

pub later-entries : entries 24 document_cutoffs later_file ≡ later_entries
later-entries = read-entries reads.later runs.later

pub later-inside : AllInside 24 document_cutoffs later_file
later-inside = read-inside reads.later runs.later 1 one-coefficient.2 (first-inside (fin false 9 (negsuc 1))) refl

pub shifted-accepted : number 24 document_cutoffs later_shifted ≡ 0
shifted-accepted = read-accepted reads.shifted runs.shifted

pub shifted-entries : entries 24 document_cutoffs later_shifted ≡ later_entries
shifted-entries = read-entries reads.shifted runs.shifted
