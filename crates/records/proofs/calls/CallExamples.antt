-- Document 01, "Refusals": the table's own examples for the numbers that need the call whole, 1, 9 and 10, by computation over the definitions. (11 stands with the Satterthwaite call's
-- examples, 2 to 8 in Examples.antt.)
use Prim.Native.Nat.{ℕ}
use mathlib.Core.Path.{◌≡◌, refl, ap, ◌∙◌}
use mathlib.Core.Bool.{true, false, cond}
use mathlib.Core.List.{List, [], ◌∷◌, ◌++◌}
use lib.Dec.{eqb}
use lib.IntN.{pos, negsuc}
use lib.ListN.{replicate}
use lib.Ieee.{Float, fin, round, add, sub, mul, div, neg, lt, eq, le, of_int, of_bits, to_bits}
use Rattle.arithmetic.specs.Numbers.{plus_zero, one, magnitude, is_zero, is_finite, sign, is_larger, of_count}
use Rattle.arithmetic.specs.SquareRoot.{square_root, whole_root}
use Rattle.arithmetic.specs.Marks.{in_range, step_mark, lost_product, lost_quotient, marked_add, marked_sub, marked_mul, marked_div, marked_root, also}
use Rattle.algebra.specs.Kind.{marks}
use Rattle.algebra.specs.Fold.{fold}
use Rattle.algebra.specs.Table.{row, blank, table}
use Rattle.algebra.specs.Product.{sum, cell, product, transpose, sum_cells, like_cells, trace, identity, plus_cells, minus_cells, times_number, over_number}
use Rattle.algebra.specs.Elimination.{larger, pivot_row, swap_rows, factor, less_by, cleared, eliminate_column, eliminate_to, zero_pivot, column_or_stop, stopping, back_sum, back_cell, back_to, joined, solution, refused}
use Rattle.algebra.specs.Small.{Rows, sandwich, given_cells, values, all_marks}
use Rattle.algebra.specs.Reasons.{first}
use Rattle.arithmetic_cutoffs.specs.declared.Cutoffs.{Cutoffs}
use Rattle.arithmetic_cutoffs.specs.Cutoffs.{decimal, document_cutoffs}
use Rattle.adjustment.specs.declared.Block.{Block}
use Rattle.adjustment.specs.Information.{h_rows, o_rows, p_rows, q_rows, packed, k_cell, ie_cell, mirror, smallest, ridged, inverted, w_rows, w_refused}
use Rattle.adjustment.specs.Blocks.{no_block, columns_before, places_before, block_of, place_of, theta_cell, factor_of, direction}
use Rattle.adjustment.specs.Covariance.{Design, matrices, directed_cell, group_cell, block_cell, residual_cell, g_cell, factor as factorOfMatrix, g_rows, sigma_cell, sigma_rows, cholesky, inverse_factor, inverse_factor_refused, precision}
use Rattle.adjustment.specs.Adjusted.{stack, q_stack, u_term, u_term_at, u_above, u_rows, phi_a_rows, h_stack, o_stack, p_stack, q_stack_of, ie_rows, eigen, from_precision, information_refused, precision_of, adjustment, scaled_up, scaled_down, not_all_finite, not_all_finite_marked, output_not_finite, adjustment_reasons, adjustment_refusal}
use Rattle.algebra.specs.Cholesky.{put, less_dot, below_diagonal, cholesky_column, cholesky_to, not_positive, cholesky_refused, lower}
use Rattle.algebra.specs.Jacobi.{ratio, tangent, cosine, sine, turned_first, turned_second, turn_row, turn_columns, rotated_cell, rotated, squared, bound, rotate_tested, rotate, row_to, sweep_to, sweeps_to, mirrored, jacobi}
use Rattle.tests.specs.Basis.{largest, divided_cell, divided, contrast_basis}
use Rattle.tests.specs.declared.Run.{Run}
use Rattle.tests.specs.KenwardRoger.{unit_row, coefficient_test, scaled_ps, scaled_by, a_rows, v_rows, tested, with_test, coefficients_to, run_of}
use Rattle.records.specs.format.Bytes.{word, long, bytes_of}
use Rattle.records.specs.format.Scan.{any, most, last, total}
use Rattle.records.specs.format.Kinds.{kind_at, holds, width, index_of, value_holds, kenward_roger_kinds, archive_kinds, limits}
use Rattle.records.specs.format.Written.{field_of, cell_record, record_of, sequence, kind_file, file_of}
use Rattle.records.specs.format.File.{out_of, bad_record, is_cell, again, has, cell as cell_of, rows, columns, beyond, missing, not_finite, length_reasons, form_reasons}
use Rattle.records.specs.format.Order.{numbers_matrix, matrix_of, stands_before, falls, order_reasons}
use Rattle.records.specs.readers.Shortened.{torn, all_torn, kept_below, shortened}
use Rattle.records.specs.readers.Series.{contrast_rows, sizes, as_sent, block_of as block_read, miscounted, bad_size, bad_weight, misfit, zero_contrast, block_reasons, size_reasons, value_reasons, reasons, refusal, design, phi, beta, beta_h, contrast, sigma2}
use Rattle.records.specs.readers.Archive.{Archive, sizes_at, archived, archive_content, archive_bytes}
use Rattle.records.specs.readers.CutoffTable.{built_in_table}
use Rattle.records.specs.calls.ArchiveCall.{series_archive}
use Rattle.records.specs.calls.KenwardRogerCall.{adjusted, scaled, run, number, series_call, returned}
use Rattle.records.proofs.calls.CallLaws.{file_adjustment_refusal, number_is}
use Rattle.records.proofs.readers.CutoffLaws.{built-in-returned}
use Rattle.records.proofs.readers.Examples.{one as one_bits, pulled}
use Rattle.records.proofs.readers.ArchiveExamples.{example_archive}

-- 9: "n = 2, one group, Z = 1, 1, theta 1e10"
abbrev pub nine_file : List ℕ
nine_file = pulled (record_of 2 0 0 0 one_bits ++ (record_of 2 1 0 0 one_bits ++ (record_of 3 0 1 1 1 ++ record_of 4 0 0 0 0x4202a05f20000000))) []

-- 10: "p = 1, Φ = 0"
abbrev pub ten_file : List ℕ
ten_file = record_of 1 0 0 0 one_bits ++ (record_of 1 1 0 0 one_bits ++ (record_of 6 0 0 0 0 ++ (record_of 7 0 0 0 0x4020000000000000 ++ record_of 8 0 0 0 0x4018000000000000)))

-- ---- what the files say
-- two specimens, one coefficient; with this Z, these blocks and this theta
abbrev two_specimens : Rows → List Block → ℕ → Float → Design
two_specimens z blocks count theta = record {
  n = 2;
  p = 1;
  x = (one ∷ []) ∷ (one ∷ []) ∷ [];
  z = z;
  weighted = false;
  weights = [];
  blocks = blocks;
  count = count;
  theta = theta ∷ plus_zero ∷ plus_zero ∷ [];
}

abbrev nine_design : Design
nine_design = two_specimens ((one ∷ []) ∷ (one ∷ []) ∷ []) (record { effects = 1; groups = 1 } ∷ no_block ∷ no_block ∷ []) 1 (fin false 9765625 (pos 10))

abbrev ten_design : Design
ten_design = two_specimens ([] ∷ [] ∷ []) (replicate 3 no_block) 0 plus_zero

-- one number, in 6 rows of 6
abbrev single : Float → Rows
single x = (x ∷ replicate 5 plus_zero) ∷ replicate 5 (replicate 6 plus_zero)

abbrev half : Float
half = fin false 1 (negsuc 0)

abbrev eight : Float
eight = fin false 1 (pos 3)

abbrev six : Float
six = fin false 3 (pos 1)

record Says : Type 0 where
  pub nine_taken : refusal 24 nine_file ≡ 0
  pub nine_designed : design nine_file ≡ nine_design
  pub nine_phi : phi nine_file ≡ single half
  pub nine_variance : sigma2 nine_file ≡ eight
  pub ten_taken : refusal 24 ten_file ≡ 0
  pub ten_designed : design ten_file ≡ ten_design
  pub ten_phi : phi ten_file ≡ single plus_zero
  pub ten_variance : sigma2 ten_file ≡ eight
  pub ten_beta : beta ten_file ≡ six ∷ replicate 5 plus_zero
  pub ten_rows : contrast_rows ten_file ≡ 0

says : Says
unfolding design as_sent shortened all_torn torn kept_below phi beta beta_h contrast table row blank fold refusal reasons length_reasons order_reasons falls stands_before matrix_of numbers_matrix form_reasons block_reasons size_reasons value_reasons first sizes miscounted bad_size bad_weight misfit zero_contrast block_read out_of bad_record is_cell again has cell_of rows columns beyond missing not_finite kind_at holds width index_of value_holds kenward_roger_kinds limits any most last total word long bytes_of is_finite is_zero of_bits lt le eq
says = record {
  nine_taken = refl;
  nine_designed = refl;
  nine_phi = refl;
  nine_variance = refl;
  ten_taken = refl;
  ten_designed = refl;
  ten_phi = refl;
  ten_variance = refl;
  ten_beta = refl;
  ten_rows = refl;
}

-- ---- what is made of them
abbrev run_at : Design → Rows → Float → List Float → List Float → ℕ → Rows → Run
run_at d f v b h r l = run_of marks document_cutoffs (scaled_by marks d.p (matrices d) f v (adjustment document_cutoffs d f)) b h r l

record Makes : Type 0 where
  pub nine : adjustment_refusal document_cutoffs nine_design (single half) eight ≡ 9
  pub ten : adjustment_refusal document_cutoffs ten_design (single plus_zero) eight ≡ 0
  pub ten_refused : (h : List Float) (l : Rows) → (run_at ten_design (single plus_zero) eight (six ∷ replicate 5 plus_zero) h 0 l).refused ≡ true

makes : Makes
unfolding adjustment_refusal adjustment_reasons first output_not_finite not_all_finite_marked not_all_finite scaled_down scaled_up precision_of information_refused from_precision eigen ie_rows q_stack_of p_stack o_stack h_stack phi_a_rows u_rows u_above u_term_at u_term q_stack stack precision inverse_factor_refused inverse_factor cholesky sigma_rows sigma_cell g_rows factorOfMatrix g_cell residual_cell block_cell group_cell directed_cell direction factor_of theta_cell place_of block_of places_before columns_before w_refused w_rows inverted ridged smallest mirror ie_cell k_cell packed q_rows p_rows o_rows h_rows lower cholesky_refused not_positive cholesky_to cholesky_column below_diagonal less_dot put jacobi mirrored sweeps_to sweep_to row_to rotate rotate_tested bound squared rotated rotated_cell turn_columns turn_row turned_second turned_first sine cosine tangent ratio identity plus_cells minus_cells times_number over_number document_cutoffs decimal all_marks values given_cells sandwich solution refused joined back_to back_cell back_sum stopping column_or_stop zero_pivot eliminate_to eliminate_column cleared less_by factor swap_rows pivot_row larger trace like_cells sum_cells transpose product cell sum table blank row fold marked_root marked_div marked_mul marked_sub marked_add also lost_quotient lost_product step_mark in_range square_root whole_root of_count is_larger is_finite is_zero magnitude sign round add sub mul div neg lt eq le of_int lib.Ieee.is_nan tested v_rows a_rows contrast_basis divided divided_cell largest unit_row coefficient_test scaled_ps scaled_by run_of with_test coefficients_to
makes = record { nine = refl; ten = refl; ten_refused = λ h l. refl }

-- ---- together
nine-adjustment : file_adjustment_refusal document_cutoffs nine_file ≡ 9
nine-adjustment =
    ap (λ (d : Design). adjustment_refusal document_cutoffs d (phi nine_file) (sigma2 nine_file)) says.nine_designed
    ∙ ap (λ (f : Rows). adjustment_refusal document_cutoffs nine_design f (sigma2 nine_file)) says.nine_phi
    ∙ ap (λ (v : Float). adjustment_refusal document_cutoffs nine_design (single half) v) says.nine_variance
    ∙ makes.nine

ten-adjustment : file_adjustment_refusal document_cutoffs ten_file ≡ 0
ten-adjustment =
    ap (λ (d : Design). adjustment_refusal document_cutoffs d (phi ten_file) (sigma2 ten_file)) says.ten_designed
    ∙ ap (λ (f : Rows). adjustment_refusal document_cutoffs ten_design f (sigma2 ten_file)) says.ten_phi
    ∙ ap (λ (v : Float). adjustment_refusal document_cutoffs ten_design (single plus_zero) v) says.ten_variance
    ∙ makes.ten

run-at : (s : List ℕ) → run document_cutoffs s ≡ run_at (design s) (phi s) (sigma2 s) (beta s) (beta_h s) (contrast_rows s) (contrast s)
unfolding run scaled adjusted design as_sent shortened
run-at s = refl

ten-run : (run document_cutoffs ten_file).refused ≡ true
ten-run =
    ap (λ (r : Run). r.refused) (run-at ten_file)
    ∙ ap (λ (d : Design). (run_at d (phi ten_file) (sigma2 ten_file) (beta ten_file) (beta_h ten_file) (contrast_rows ten_file) (contrast ten_file)).refused) says.ten_designed
    ∙ ap (λ (f : Rows). (run_at ten_design f (sigma2 ten_file) (beta ten_file) (beta_h ten_file) (contrast_rows ten_file) (contrast ten_file)).refused) says.ten_phi
    ∙ ap (λ (v : Float). (run_at ten_design (single plus_zero) v (beta ten_file) (beta_h ten_file) (contrast_rows ten_file) (contrast ten_file)).refused) says.ten_variance
    ∙ ap (λ (b : List Float). (run_at ten_design (single plus_zero) eight b (beta_h ten_file) (contrast_rows ten_file) (contrast ten_file)).refused) says.ten_beta
    ∙ ap (λ (n : ℕ). (run_at ten_design (single plus_zero) eight (six ∷ replicate 5 plus_zero) (beta_h ten_file) n (contrast ten_file)).refused) says.ten_rows
    ∙ makes.ten_refused (beta_h ten_file) (contrast ten_file)

late : (s : List ℕ) (n : ℕ) → refusal 24 s ≡ 0
    → cond (eqb (file_adjustment_refusal document_cutoffs s) 0) (cond (run document_cutoffs s).refused 10 0) (file_adjustment_refusal document_cutoffs s) ≡ n
    → returned 24 built_in_table s (replicate 168 0) ≡ n
unfolding number
late s n h e = built-in-returned (series_call 24 s) (replicate 168 0) ∙ number_is document_cutoffs s 24 ∙ rw h e

pub record Refused : Type 0 where
  -- 1, "100 answer bytes": whatever the file is
  pub short : (s : List ℕ) → returned 24 built_in_table s (replicate 100 0) ≡ 1
  -- 9, "n = 2, one group, Z = 1, 1, theta 1e10"
  pub not_definite : returned 24 built_in_table nine_file (replicate 168 0) ≡ 9
  -- 10, "p = 1, Φ = 0"
  pub zero_pivot : returned 24 built_in_table ten_file (replicate 168 0) ≡ 10

pub refused-calls : Refused
refused-calls = record {
  short = λ s. built-in-returned (series_call 24 s) (replicate 100 0);
  not_definite = late nine_file 9 says.nine_taken (rw nine-adjustment);
  zero_pivot = late ten_file 10 says.ten_taken (rw (ten-adjustment, ten-run));
}

-- ---- the archive of document 01's example: X 1,1, Φ 0.5, sigma2 8, β 6, contrast 1
abbrev pub pull_file : List ℕ
pull_file = pulled [] (record_of 9 0 0 0 one_bits)

record PullSays : Type 0 where
  pub designed : design pull_file ≡ ten_design
  pub phi_read : phi pull_file ≡ single half
  pub variance_read : sigma2 pull_file ≡ eight

pull-says : PullSays
unfolding design as_sent shortened all_torn torn kept_below phi beta beta_h contrast table row blank fold refusal reasons length_reasons order_reasons falls stands_before matrix_of numbers_matrix form_reasons block_reasons size_reasons value_reasons first sizes miscounted bad_size bad_weight misfit zero_contrast block_read out_of bad_record is_cell again has cell_of rows columns beyond missing not_finite kind_at holds width index_of value_holds kenward_roger_kinds limits any most last total word long bytes_of is_finite is_zero of_bits lt le eq
pull-says = record { designed = refl; phi_read = refl; variance_read = refl }

-- what is archived of a design of one coefficient
abbrev archive_at : Design → Rows → Float → Archive
archive_at d f v =
    record {
      coefficients = 1;
      parameters = matrices d;
      phi = f;
      phi_a = (adjustment document_cutoffs d f).phi_a;
      ps = (adjustment document_cutoffs d f).ps;
      w = (adjustment document_cutoffs d f).w;
      sigma2 = v;
    }

pull-archive : series_archive document_cutoffs pull_file ≡ archive_at (design pull_file) (phi pull_file) (sigma2 pull_file)
unfolding series_archive adjusted columns most word bytes_of
pull-archive = refl

pull-archive-bytes : archive_bytes (archive_at ten_design (single half) eight) ≡ example_archive
unfolding archive_bytes archive_content archived sizes_at file_of kind_file sequence cell_record field_of kind_at width archive_kinds to_bits bytes_of adjustment_refusal adjustment_reasons first output_not_finite not_all_finite_marked not_all_finite scaled_down scaled_up precision_of information_refused from_precision eigen ie_rows q_stack_of p_stack o_stack h_stack phi_a_rows u_rows u_above u_term_at u_term q_stack stack precision inverse_factor_refused inverse_factor cholesky sigma_rows sigma_cell g_rows factorOfMatrix g_cell residual_cell block_cell group_cell directed_cell direction factor_of theta_cell place_of block_of places_before columns_before w_refused w_rows inverted ridged smallest mirror ie_cell k_cell packed q_rows p_rows o_rows h_rows lower cholesky_refused not_positive cholesky_to cholesky_column below_diagonal less_dot put jacobi mirrored sweeps_to sweep_to row_to rotate rotate_tested bound squared rotated rotated_cell turn_columns turn_row turned_second turned_first sine cosine tangent ratio identity plus_cells minus_cells times_number over_number document_cutoffs decimal all_marks values given_cells sandwich solution refused joined back_to back_cell back_sum stopping column_or_stop zero_pivot eliminate_to eliminate_column cleared less_by factor swap_rows pivot_row larger trace like_cells sum_cells transpose product cell sum table blank row fold marked_root marked_div marked_mul marked_sub marked_add also lost_quotient lost_product step_mark in_range square_root whole_root of_count is_larger is_finite is_zero magnitude sign round add sub mul div neg lt eq le of_int lib.Ieee.is_nan tested v_rows a_rows contrast_basis divided divided_cell largest unit_row coefficient_test scaled_ps scaled_by run_of with_test coefficients_to
pull-archive-bytes = refl

-- ITS 128 BYTES
pub example-archived : archive_bytes (series_archive document_cutoffs pull_file) ≡ example_archive
example-archived =
    ap archive_bytes pull-archive
    ∙ ap (λ (d : Design). archive_bytes (archive_at d (phi pull_file) (sigma2 pull_file))) pull-says.designed
    ∙ ap (λ (f : Rows). archive_bytes (archive_at ten_design f (sigma2 pull_file))) pull-says.phi_read
    ∙ ap (λ (v : Float). archive_bytes (archive_at ten_design (single half) v)) pull-says.variance_read
    ∙ pull-archive-bytes
