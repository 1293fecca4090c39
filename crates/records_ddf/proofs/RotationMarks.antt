-- Document 02, "Req 06": "in a marked step every nonzero operand, constant and cutoff too, counts as an input". The rotation factor is an operand of V's rotation test: with an exponent outside -800 to 800 it puts a Satterthwaite test outside
-- once such a test is made, and a diagonal V, for which none is, stays inside. By computation: tables in the lab's bytes, files of example (i) with v = diag(4,1) and with 1 beside the diagonal.
use Prim.Native.Nat.{ℕ}
use mathlib.Core.Path.{◌≡◌, refl, ap, sym, ◌∙◌}
use mathlib.Core.Bool.{Bool, true, false}
use mathlib.Core.List.{List, [], ◌∷◌, ◌++◌}
use lib.IntN.{pos, negsuc}
use lib.Ieee.{Float, fin, of_bits, to_bits, round, add, sub, mul, div, neg, lt, eq, le, of_int}
use Rattle.arithmetic.specs.Numbers.{plus_zero, one, magnitude, is_zero, is_finite, sign, of_count}
use Rattle.arithmetic.specs.SquareRoot.{square_root, whole_root}
use Rattle.arithmetic.specs.Marks.{in_range, step_mark, lost_product, lost_quotient, marked_add, marked_sub, marked_mul, marked_div, marked_root, marked_magnitude, also}
use Rattle.algebra.specs.Kind.{marks}
use Rattle.algebra.specs.Fold.{fold}
use Rattle.algebra.specs.Table.{row, blank, table}
use Rattle.algebra.specs.Product.{sum, cell, product, transpose, sum_cells, identity, minus_cells}
use Rattle.algebra.specs.Jacobi.{ratio, tangent, cosine, sine, turned_first, turned_second, turn_row, turn_columns, rotated_cell, rotated, squared, bound, rotate_tested, rotate, row_to, sweep_to, sweeps_to, mirrored, jacobi}
use Rattle.algebra.specs.Small.{sandwich, given_cells, all_marks}
use Rattle.arithmetic_cutoffs.specs.declared.Cutoffs.{Cutoffs}
use Rattle.arithmetic_cutoffs.specs.Cutoffs.{decimal, document_cutoffs}
use Rattle.tests.specs.declared.Entry.{Entry}
use Rattle.tests.specs.Answer.{number_of}
use Rattle.tests.specs.Order.{comes_before, place_in, index_at}
use Rattle.tests.specs.VarianceDf.{relative_gradient, gradient_values, relative_variance, df_of_relative, variance_df, gradient_seen}
use Rattle.tests.specs.Both.{is_positive, square_one, stack_seen}
use Rattle.tests.specs.PooledDf.{tolerance, all_within, any_low, expected, pooled, get_fstat_ddf}
use Rattle.tests.specs.declared.Tested.{Tested as Outcome}
use Rattle.tests.specs.Satterthwaite.{Inputs, column, contrast_of, transformed, transformed_all, gradient_one, eigenvalues, not_positive, variances_of, directions_of, projected, squares_over, jx_all, gradient_at, capped, component_df, component_dfs, any_none, several_df, components_seen, ld_rows, v_rows, j_stack, rotated_v, variances, directions, jx_stack, f_one, f_several, df_one, df_several, start_seen, seen_one, seen_several, one_row, several_rows, satterthwaite}
use Rattle.records.specs.format.Bytes.{word, long, bytes_of}
use Rattle.algebra.specs.Reasons.{first}
use Rattle.records.specs.format.Scan.{any, most, last}
use Rattle.records.specs.format.Kinds.{kind_at, holds, width, index_of, value_holds, satterthwaite_kinds, limits}
use Rattle.records.specs.format.File.{out_of, bad_record, is_cell, again, has, cell as fileCell, rows, columns, beyond, missing, not_finite, length_reasons, form_reasons}
use Rattle.records.specs.format.Written.{record_of, sequence}
use Rattle.records.specs.format.Order.{numbers_matrix, matrix_of, stands_before, falls, order_reasons}
use Rattle.records.specs.readers.Parameters.{sizes, value_reasons, reasons, refusal, jacobians, inputs}
use Rattle.records.specs.calls.SatterthwaiteCall.{outcome, number, entry}
use Rattle.records.specs.readers.CutoffTable.{floor_of, bad_cutoff, bad_table, cutoffs_in, cutoff_at, cutoff_bytes}
use Rattle.records_ddf.proofs.Judged.{judged-taken}
use Rattle.records_ddf.proofs.Bench.{file_i, sent, answered, file-sends, file-taken}

-- ---- a lab's table: the built-in one with another rotation factor
abbrev factored : Float → Cutoffs
factored x = record {
  moment = document_cutoffs.moment;
  leading = document_cutoffs.leading;
  divisor = document_cutoffs.divisor;
  excess = document_cutoffs.excess;
  near = document_cutoffs.near;
  eigenvalue = document_cutoffs.eigenvalue;
  ridge = document_cutoffs.ridge;
  rotation = x;
  cap = document_cutoffs.cap;
}

-- 2 ^ -801 and 2 ^ 801, outside; 2 ^ -800, the least inside; and 2 ^ 798, whose product with V's 4 is 2 ^ 800
abbrev below : Float
below = fin false 1 (negsuc 800)

abbrev lowest : Float
lowest = fin false 1 (negsuc 799)

abbrev highest : Float
highest = fin false 1 (pos 798)

abbrev beyond_all : Float
beyond_all = fin false 1 (pos 801)

abbrev factor_table : Float → List ℕ
factor_table x = cutoff_bytes (factored x)

record TableSays (x : Float) : Type 0 where
  taken : bad_table (factor_table x) ≡ false
  numbers : cutoffs_in (factor_table x) ≡ factored x

record TablesSay : Type 0 where
  at_below : TableSays below
  at_lowest : TableSays lowest
  at_highest : TableSays highest
  at_beyond : TableSays beyond_all

tables-say : TablesSay
unfolding bad_table bad_cutoff any floor_of cutoffs_in cutoff_bytes cutoff_at sequence bytes_of word long document_cutoffs decimal round is_finite lt to_bits of_bits
tables-say = record {
  at_below = record { taken = refl; numbers = refl };
  at_lowest = record { taken = refl; numbers = refl };
  at_highest = record { taken = refl; numbers = refl };
  at_beyond = record { taken = refl; numbers = refl };
}

-- ---- example (i) with 1 beside the diagonal of v: a rotation test is made of V
abbrev one_bits : ℕ
one_bits = 0x3ff0000000000000

abbrev four_bits : ℕ
four_bits = 0x4010000000000000

abbrev square_of : ℕ → ℕ → ℕ → ℕ → List ℕ
square_of k a b d = record_of k 0 0 0 a ++ (record_of k 0 1 0 b ++ (record_of k 1 0 0 b ++ record_of k 1 1 0 d))

abbrev pub beside_file : List ℕ
beside_file = record_of 8 0 0 0 four_bits ++ (record_of 8 1 0 0 one_bits ++ (square_of 9 one_bits 0 one_bits ++ (square_of 30 four_bits one_bits one_bits ++ (square_of 31 four_bits one_bits one_bits ++ record_of 32 0 0 0 0x3fe0000000000000))))

abbrev four : Float
four = fin false 1 (pos 2)

abbrev zeros : List Float
zeros = plus_zero ∷ plus_zero ∷ plus_zero ∷ plus_zero ∷ plus_zero ∷ plus_zero ∷ []

abbrev two_cells : Float → Float → List Float
two_cells a b = a ∷ b ∷ plus_zero ∷ plus_zero ∷ plus_zero ∷ plus_zero ∷ []

abbrev beside : List (List Float)
beside = two_cells four one ∷ two_cells one one ∷ zeros ∷ zeros ∷ zeros ∷ zeros ∷ []

abbrev beside_sent : Inputs
beside_sent = record {
  p = (sent four one).p;
  q = (sent four one).q;
  n = (sent four one).n;
  l = (sent four one).l;
  beta = (sent four one).beta;
  beta_h = (sent four one).beta_h;
  v = beside;
  js = beside ∷ (zeros ∷ zeros ∷ zeros ∷ zeros ∷ zeros ∷ zeros ∷ []) ∷ (zeros ∷ zeros ∷ zeros ∷ zeros ∷ zeros ∷ zeros ∷ []) ∷ (zeros ∷ zeros ∷ zeros ∷ zeros ∷ zeros ∷ zeros ∷ []) ∷ [];
  a = (sent four one).a;
}

beside-sends : inputs beside_file ≡ beside_sent
unfolding inputs jacobians sizes rows columns most fileCell last is_cell kind_at index_of satterthwaite_kinds word long bytes_of of_bits table blank row fold
beside-sends = refl

beside-taken : refusal beside_file ≡ 0
unfolding refusal reasons length_reasons order_reasons falls stands_before matrix_of numbers_matrix form_reasons value_reasons first sizes out_of bad_record is_cell again has fileCell rows columns beyond missing not_finite kind_at holds width index_of value_holds satterthwaite_kinds limits any most last word long bytes_of is_finite is_zero of_bits le eq
beside-taken = refl

-- ---- the test, with document 01's numbers but for the rotation factor
abbrev Marks : Float → Inputs → Bool → Type 0
Marks x i m = ((satterthwaite marks (factored x) i).refused ≡ false) × ((satterthwaite marks (factored x) i).entry.inside ≡ m)

record Tested : Type 0 where
  beside_below : Marks below beside_sent false
  beside_lowest : Marks lowest beside_sent true
  beside_highest : Marks highest beside_sent true
  beside_beyond : Marks beyond_all beside_sent false
  diagonal_below : satterthwaite marks (factored below) (sent four one) ≡ record { refused = false; entry = answered }
  diagonal_beyond : satterthwaite marks (factored beyond_all) (sent four one) ≡ record { refused = false; entry = answered }

tested : Tested
unfolding satterthwaite several_rows one_row seen_several seen_one start_seen df_several df_one f_several f_one jx_stack directions variances rotated_v j_stack v_rows ld_rows stack_seen components_seen several_df any_none component_dfs component_df capped gradient_at jx_all squares_over projected directions_of variances_of not_positive eigenvalues gradient_one square_one transformed_all transformed contrast_of column get_fstat_ddf pooled expected any_low all_within tolerance gradient_seen variance_df df_of_relative relative_variance gradient_values relative_gradient is_positive index_at place_in comes_before number_of document_cutoffs decimal all_marks given_cells sandwich jacobi mirrored sweeps_to sweep_to row_to rotate rotate_tested bound squared rotated rotated_cell turn_columns turn_row turned_second turned_first sine cosine tangent ratio identity minus_cells sum_cells transpose product cell sum table blank row fold marked_magnitude marked_root marked_div marked_mul marked_sub marked_add also lost_quotient lost_product step_mark in_range square_root whole_root of_count is_finite is_zero magnitude sign round add sub mul div neg lt eq le of_int lib.Ieee.is_nan
tested = record { beside_below = (refl, refl); beside_lowest = (refl, refl); beside_highest = (refl, refl); beside_beyond = (refl, refl); diagonal_below = refl; diagonal_beyond = refl }

-- ---- on the bytes of tables and files
-- a file that the reader takes, whose test with these cutoffs is not refused
judged : (lab s : List ℕ) (i : Inputs) (c : Cutoffs) (e : Entry) → cutoffs_in lab ≡ c → refusal s ≡ 0 → inputs s ≡ i → (satterthwaite marks c i).refused ≡ false → e ≡ (satterthwaite marks c i).entry
    → (number (cutoffs_in lab) s ≡ 0) × (entry (cutoffs_in lab) s ≡ e)
unfolding outcome
judged lab s i c e q r f n p =
    let o : outcome (cutoffs_in lab) s ≡ satterthwaite marks c i = ap (λ (x : Cutoffs). satterthwaite marks x (inputs s)) q ∙ ap (satterthwaite marks c) f in
    let j = judged-taken (cutoffs_in lab) s e r (ap (λ (x : Outcome). x.refused) o ∙ n) (p ∙ sym (ap (λ (x : Outcome). x.entry) o)) in
    (sym j.1, sym j.0)

-- an accepted table with this rotation factor, and this mark of the test of a file that is accepted with it
pub record MarkedSo (x : Float) (s : List ℕ) (m : Bool) : Type 0 where
  pub table : bad_table (factor_table x) ≡ false
  pub accepted : number (cutoffs_in (factor_table x)) s ≡ 0
  pub mark : (entry (cutoffs_in (factor_table x)) s).inside ≡ m

marked-beside : (x : Float) (m : Bool) → TableSays x → Marks x beside_sent m → MarkedSo x beside_file m
marked-beside x m t h =
    let j = judged (factor_table x) beside_file beside_sent (factored x) (satterthwaite marks (factored x) beside_sent).entry t.numbers beside-taken beside-sends h.0 refl in
    record { table = t.taken; accepted = j.0; mark = ap (λ (e : Entry). e.inside) j.1 ∙ h.1 }

marked-diagonal : (x : Float) → TableSays x → satterthwaite marks (factored x) (sent four one) ≡ record { refused = false; entry = answered } → MarkedSo x file_i true
marked-diagonal x t h =
    let j = judged (factor_table x) file_i (sent four one) (factored x) answered t.numbers file-taken.0 file-sends.0 (ap (λ (o : Outcome). o.refused) h) (sym (ap (λ (o : Outcome). o.entry) h)) in
    record { table = t.taken; accepted = j.0; mark = ap (λ (e : Entry). e.inside) j.1 }

pub record RotationMarks : Type 0 where
  -- once a rotation test is made: a factor outside -800 to 800 puts the test outside, one at the end of the range does not
  pub tested_below : MarkedSo below beside_file false
  pub tested_beyond : MarkedSo beyond_all beside_file false
  pub tested_lowest : MarkedSo lowest beside_file true
  pub tested_highest : MarkedSo highest beside_file true
  -- a diagonal V: none is made, and the factor is no operand
  pub diagonal_below : MarkedSo below file_i true
  pub diagonal_beyond : MarkedSo beyond_all file_i true

pub rotation-marks : RotationMarks
rotation-marks = record {
  tested_below = marked-beside below false tables-say.at_below tested.beside_below;
  tested_beyond = marked-beside beyond_all false tables-say.at_beyond tested.beside_beyond;
  tested_lowest = marked-beside lowest true tables-say.at_lowest tested.beside_lowest;
  tested_highest = marked-beside highest true tables-say.at_highest tested.beside_highest;
  diagonal_below = marked-diagonal below tables-say.at_below tested.diagonal_below;
  diagonal_beyond = marked-diagonal beyond_all tables-say.at_beyond tested.diagonal_beyond;
}
