-- The third demand at work on a file of the Satterthwaite call with all that it can have, under a lab's own table: three coefficients with a correlated v, two Jacobians, β_H and three contrast rows.
-- Jacobi turns V six times, the cap of the lab's table holds one component's df, and with another power of two the answer bytes are the same; all by computation, of the converted file too.
use Prim.Native.Nat.{ℕ, ◌+◌, ◌*◌}
use native.Mathlib.Omega.{arith}
use mathlib.Core.Path.{◌≡◌, refl, ap, ◌∙◌}
use mathlib.Core.Bool.{Bool, true, false}
use mathlib.Core.List.{List, [], ◌∷◌, ◌++◌}
use lib.IntN.{ℤ, pos, negsuc, ◌+ℤ◌}
use lib.ListN.{length, replicate}
use lib.Ieee.{Float, fin, round, add, sub, mul, div, neg, lt, eq, le, of_int, of_bits, to_bits}
use Rattle.arithmetic.specs.Numbers.{plus_zero, one, magnitude, is_zero, is_finite, sign, of_count}
use Rattle.arithmetic.specs.Scale.{scale}
use Rattle.arithmetic.specs.SquareRoot.{square_root, whole_root}
use Rattle.arithmetic.specs.Marks.{in_range, step_mark, lost_product, lost_quotient, marked_add, marked_sub, marked_mul, marked_div, marked_root, marked_magnitude, also}
use Rattle.arithmetic_cutoffs.specs.declared.Cutoffs.{Cutoffs}
use Rattle.arithmetic_cutoffs.specs.Cutoffs.{decimal, document_cutoffs}
use Rattle.algebra.specs.Kind.{marks}
use Rattle.algebra.specs.Fold.{fold}
use Rattle.algebra.specs.Table.{row, blank, table}
use Rattle.algebra.specs.Product.{sum, cell, product, transpose, sum_cells, identity, minus_cells}
use Rattle.algebra.specs.Jacobi.{ratio, tangent, cosine, sine, turned_first, turned_second, turn_row, turn_columns, rotated_cell, rotated, squared, bound, rotate_tested, rotate, row_to, sweep_to, sweeps_to, mirrored, jacobi}
use Rattle.algebra.specs.Small.{Rows, sandwich, given_cells, all_marks}
use Rattle.algebra.specs.Reasons.{first}
use Rattle.tests.specs.Answer.{number_of}
use Rattle.tests.specs.Order.{comes_before, place_in, index_at}
use Rattle.tests.specs.VarianceDf.{relative_gradient, gradient_values, relative_variance, df_of_relative, variance_df, gradient_seen}
use Rattle.tests.specs.Both.{is_positive, square_one, stack_seen}
use Rattle.tests.specs.PooledDf.{tolerance, all_within, any_low, expected, pooled, get_fstat_ddf}
use Rattle.tests.specs.Satterthwaite.{Inputs, column, contrast_of, transformed, transformed_all, gradient_one, eigenvalues, not_positive, variances_of, directions_of, projected, squares_over, jx_all, gradient_at, capped, component_df, component_dfs, any_none, several_df, components_seen, ld_rows, v_rows, j_stack, rotated_v, variances, directions, jx_stack, f_one, f_several, df_one, df_several, start_seen, seen_one, seen_several, one_row, several_rows, satterthwaite as test}
use Rattle.std.specs.Prelude.{Some}
use Rattle.tests.specs.declared.Entry.{Entry}
use Rattle.records.specs.format.Bytes.{byte, word, long, bytes_of}
use Rattle.records.specs.format.Layout.{bits_of, entry_bytes}
use Rattle.records.specs.format.Scan.{any, most, last}
use Rattle.records.specs.format.Kinds.{kind_at, holds, width, index_of, value_holds, satterthwaite_kinds, limits}
use Rattle.records.specs.format.File.{out_of, bad_record, is_cell, again, has, cell as cell_of, rows, columns, beyond, missing, not_finite, length_reasons, form_reasons}
use Rattle.records.specs.format.Written.{record_of}
use Rattle.records.specs.format.Order.{numbers_matrix, matrix_of, stands_before, falls, order_reasons}
use Rattle.records.specs.readers.CutoffTable.{floor_of, bad_cutoff, bad_table, cutoffs_in}
use Rattle.records.specs.readers.Parameters.{sizes, value_reasons, reasons, jacobians, inputs}
use Rattle.records.specs.calls.SatterthwaiteCall.{test_call, number, entry, returned, written}
use Rattle.records.proofs.calls.CallLaws.{accepted-fills}
use Rattle.converter.specs.Converted.{satterthwaite_shift, satterthwaite_change, rewritten, new_bits, new_byte, converted}
use Rattle.converter_theorems.proofs.Theorems.{parameters-returns}
use Rattle.converter_theorems.proofs.ReadParameters.{Says, said-accepted, said-entry}

-- ---- the lab's table, 144 bytes: a2 and d 2^-48, V0 and V2 2^-32, div 2^-32, qρ − 1 2^-40, df near 2 2^-6, eigenvalue 2^-32, diagonal 2^-26; the rotation factor is 2^-20 and the cap 8
abbrev lab_line : ℕ → ℕ → List ℕ → List ℕ
lab_line i b others = record_of 20 i 0 0 b ++ others

abbrev pub lab_table : List ℕ
lab_table =
    lab_line 0 0x3cf0000000000000 (lab_line 1 0x3df0000000000000 (lab_line 2 0x3df0000000000000 (lab_line 3 0x3d70000000000000 (lab_line 4 0x3f90000000000000 (lab_line 5 0x3df0000000000000
    (lab_line 6 0x3e50000000000000 (lab_line 7 0x3eb0000000000000 (lab_line 8 0x4020000000000000 []))))))))

abbrev pub lab_cutoffs : Cutoffs
lab_cutoffs = record {
  moment = fin false 1 (negsuc 47);
  leading = fin false 1 (negsuc 31);
  divisor = fin false 1 (negsuc 31);
  excess = fin false 1 (negsuc 39);
  near = fin false 1 (negsuc 5);
  eigenvalue = fin false 1 (negsuc 31);
  ridge = fin false 1 (negsuc 25);
  rotation = fin false 1 (negsuc 19);
  cap = fin false 1 (pos 3);
}

lab-accepted : bad_table lab_table ≡ false
unfolding bad_table bad_cutoff any floor_of bytes_of word long is_finite lt of_bits
lab-accepted = refl

lab-numbers : cutoffs_in lab_table ≡ lab_cutoffs
unfolding cutoffs_in bytes_of word long of_bits
lab-numbers = refl

-- ---- the file, 46 records; β and β_H times 2 ^ e, v and the Jacobians times 4 ^ e
-- the bits of a nonzero number times 2 ^ e: its exponent field is e more
abbrev raised : ℕ → ℕ → ℕ
raised e b = b + e * 0x10000000000000

-- a row of three numbers of matrix n of a kind, before others
abbrev three_of : ℕ → ℕ → ℕ → ℕ → ℕ → ℕ → List ℕ → List ℕ
three_of kind n r b0 b1 b2 others = record_of kind r 0 n b0 ++ (record_of kind r 1 n b1 ++ (record_of kind r 2 n b2 ++ others))

-- the same down the rows of one column
abbrev three_down : ℕ → ℕ → ℕ → ℕ → List ℕ → List ℕ
three_down kind b0 b1 b2 others = record_of kind 0 0 0 b0 ++ (record_of kind 1 0 0 b1 ++ (record_of kind 2 0 0 b2 ++ others))

-- a symmetric matrix by its upper half, each number times 2 ^ e
abbrev symmetric_bytes : ℕ → ℕ → ℕ → ℕ → ℕ → ℕ → ℕ → ℕ → ℕ → List ℕ → List ℕ
symmetric_bytes kind n e b00 b01 b02 b11 b12 b22 others =
    three_of kind n 0 (raised e b00) (raised e b01) (raised e b02)
    (three_of kind n 1 (raised e b01) (raised e b11) (raised e b12) (three_of kind n 2 (raised e b02) (raised e b12) (raised e b22) others))

-- the bits of 1/8, 1/4, 1/2, 1 and 2
abbrev eighth64 : ℕ
eighth64 = 0x3fc0000000000000

abbrev fourth64 : ℕ
fourth64 = 0x3fd0000000000000

abbrev half64 : ℕ
half64 = 0x3fe0000000000000

abbrev one64 : ℕ
one64 = 0x3ff0000000000000

abbrev two64 : ℕ
two64 = 0x4000000000000000

-- those of -1/8, -1/2 and -1
abbrev less_eighth64 : ℕ
less_eighth64 = 0xbfc0000000000000

abbrev less_half64 : ℕ
less_half64 = 0xbfe0000000000000

abbrev less_one64 : ℕ
less_one64 = 0xbff0000000000000

-- β (12, 2, -1); contrast rows (1, 0, 0), (0, 1, 0) and (0, 1, -1); β_H (10, 1, -1/2)
abbrev coefficient_bytes : ℕ → List ℕ → List ℕ
coefficient_bytes e others =
    three_down 8 (raised e 0x4028000000000000) (raised e two64) (raised e less_one64)
    (three_of 9 0 0 one64 0 0 (three_of 9 0 1 0 one64 0 (three_of 9 0 2 0 one64 less_one64
    (three_down 10 (raised e 0x4024000000000000) (raised e one64) (raised e less_half64) others))))

-- v = ((4, -1, 1/2), (-1, 3, 1), (1/2, 1, 2)); Jacobians ((2, 1, 1/4), (1, 2, 1/2), (1/4, 1/2, 1)) and ((1, 1/2, 1/4), (1/2, 1, 1/8), (1/4, 1/8, 2)); A = ((1/2, -1/8), (-1/8, 1/4))
abbrev correlated_bytes : ℕ → List ℕ
correlated_bytes e =
    coefficient_bytes e
    (symmetric_bytes 30 0 (e + e) 0x4010000000000000 less_one64 half64 0x4008000000000000 one64 two64
    (symmetric_bytes 31 0 (e + e) two64 one64 fourth64 two64 half64 one64
    (symmetric_bytes 31 1 (e + e) one64 half64 fourth64 one64 eighth64 two64
    (record_of 32 0 0 0 half64 ++ (record_of 32 0 1 0 less_eighth64 ++ (record_of 32 1 0 0 less_eighth64 ++ record_of 32 1 1 0 fourth64))))))

abbrev pub correlated_file : List ℕ
correlated_file = correlated_bytes 0

-- k = 3
abbrev pub correlated_shifted : List ℕ
correlated_shifted = correlated_bytes 3

shifted : converted (satterthwaite_change (pos 3)) correlated_file ≡ correlated_shifted
unfolding converted new_byte new_bits rewritten satterthwaite_shift row fold word long bytes_of mul of_bits to_bits
shifted = refl

-- byte 14 has four bits of the first number's exponent
first-differs : correlated_shifted ≡ correlated_file → ⊥
unfolding bytes_of
first-differs e = let z : ◌≡◌ {A = ℕ} 88 40 = ap (λ (s : List ℕ). byte s 14) e in omega arith

-- ---- what the files say: three numbers to a row, and a symmetric matrix by its upper half, times 2 ^ u
abbrev scaled_row : ℤ → Float → Float → Float → List Float
scaled_row u a b c = scale u a ∷ scale u b ∷ scale u c ∷ replicate 3 plus_zero

abbrev symmetric_rows : ℤ → Float → Float → Float → Float → Float → Float → Rows
symmetric_rows u a b c d e f = scaled_row u a b c ∷ scaled_row u b d e ∷ scaled_row u c e f ∷ replicate 3 (replicate 6 plus_zero)

abbrev eighth : Float
eighth = fin false 1 (negsuc 2)

abbrev fourth : Float
fourth = fin false 1 (negsuc 1)

abbrev half : Float
half = fin false 1 (negsuc 0)

abbrev two : Float
two = fin false 1 (pos 1)

abbrev less_eighth : Float
less_eighth = fin true 1 (negsuc 2)

abbrev less_half : Float
less_half = fin true 1 (negsuc 0)

abbrev less_one : Float
less_one = fin true 1 (pos 0)

abbrev correlated_inputs : ℤ → Inputs
correlated_inputs k = record {
  p = 3;
  q = 3;
  n = 2;
  l = scaled_row (pos 0) one plus_zero plus_zero ∷ scaled_row (pos 0) plus_zero one plus_zero ∷ scaled_row (pos 0) plus_zero one less_one ∷ replicate 3 (replicate 6 plus_zero);
  beta = scaled_row k (fin false 3 (pos 2)) two less_one;
  beta_h = scaled_row k (fin false 5 (pos 1)) one less_half;
  v = symmetric_rows (k +ℤ k) (fin false 1 (pos 2)) less_one half (fin false 3 (pos 0)) one two;
  js = symmetric_rows (k +ℤ k) two one fourth two half one ∷ symmetric_rows (k +ℤ k) one half fourth one eighth two ∷ replicate 2 (replicate 6 (replicate 6 plus_zero));
  a = (half ∷ less_eighth ∷ replicate 4 plus_zero) ∷ (less_eighth ∷ fourth ∷ replicate 4 plus_zero) ∷ replicate 4 (replicate 6 plus_zero);
}

record Read : Type 0 where
  pub sent : Says correlated_file (correlated_inputs (pos 0))
  pub again : Says correlated_shifted (correlated_inputs (pos 3))

read : Read
unfolding inputs jacobians table row blank fold reasons length_reasons order_reasons falls stands_before matrix_of numbers_matrix form_reasons value_reasons first sizes out_of bad_record is_cell again has cell_of rows columns beyond missing not_finite kind_at holds width index_of value_holds satterthwaite_kinds limits any most last word long bytes_of is_finite is_zero of_bits le eq
read = record { sent = record { inputs = refl; passes = refl }; again = record { inputs = refl; passes = refl } }

-- ---- what the test makes of them under the lab's table, and of the first under the built-in one
-- F 1.0256, df 3.0950, rank 3, inside
abbrev pub lab_entry : Entry
lab_entry = record { f = Some (fin false 4618942727994299 (negsuc 51)); df = Some (fin false 6969419658154273 (negsuc 50)); rank = 3; inside = true }

-- F 1.0256 in other bits, df 3.1546
abbrev pub built_in_entry : Entry
built_in_entry = record { f = Some (fin false 2309538270446409 (negsuc 50)); df = Some (fin false 7103554210604397 (negsuc 50)); rank = 3; inside = true }

record Tested : Type 0 where
  pub sent : test marks lab_cutoffs (correlated_inputs (pos 0)) ≡ record { refused = false; entry = lab_entry }
  pub again : test marks lab_cutoffs (correlated_inputs (pos 3)) ≡ record { refused = false; entry = lab_entry }
  pub built_in : test marks document_cutoffs (correlated_inputs (pos 0)) ≡ record { refused = false; entry = built_in_entry }
  pub rotations : (rotated_v marks lab_cutoffs (correlated_inputs (pos 0))).count ≡ 6
  pub built_in_rotations : (rotated_v marks document_cutoffs (correlated_inputs (pos 0))).count ≡ 10

tested : Tested
unfolding test several_rows one_row seen_several seen_one start_seen df_several df_one f_several f_one jx_stack directions variances rotated_v j_stack v_rows ld_rows stack_seen components_seen several_df any_none component_dfs component_df capped gradient_at jx_all squares_over projected directions_of variances_of not_positive eigenvalues gradient_one square_one transformed_all transformed contrast_of column get_fstat_ddf pooled expected any_low all_within tolerance gradient_seen variance_df df_of_relative relative_variance gradient_values relative_gradient is_positive index_at place_in comes_before number_of document_cutoffs decimal all_marks given_cells sandwich jacobi mirrored sweeps_to sweep_to row_to rotate rotate_tested bound squared rotated rotated_cell turn_columns turn_row turned_second turned_first sine cosine tangent ratio identity minus_cells sum_cells transpose product cell sum table blank row fold marked_magnitude marked_root marked_div marked_mul marked_sub marked_add also lost_quotient lost_product step_mark in_range square_root whole_root of_count is_finite is_zero magnitude sign round add sub mul div neg lt eq le of_int lib.Ieee.is_nan
tested = record { sent = refl; again = refl; built_in = refl; rotations = refl; built_in_rotations = refl }

-- ---- together
-- "F bits, df bits (none: 0), then bytes rank, F given, df given, inside, four zeros"
abbrev pub lab_answer : List ℕ
lab_answer = bytes_of 8 0x3ff068e7688a3bbb ++ (bytes_of 8 0x4008c2a67703d121 ++ (3 ∷ 1 ∷ 1 ∷ 1 ∷ 0 ∷ 0 ∷ 0 ∷ 0 ∷ []))

lab-answer : entry_bytes lab_entry ≡ lab_answer
unfolding entry_bytes bits_of bytes_of to_bits
lab-answer = refl

-- a file's answer under the lab's table: number 0, the entry, and its bytes whatever was lent
pub record LabAnswers (s : List ℕ) : Type 0 where
  pub accepted : number (cutoffs_in lab_table) s ≡ 0
  pub answered : entry (cutoffs_in lab_table) s ≡ lab_entry
  pub returns : (lent : List ℕ) → length lent ≡ 24 → returned lab_table s lent ≡ 0
  pub writes : (lent : List ℕ) → length lent ≡ 24 → written lab_table s lent ≡ lab_answer

lab-answers : {s : List ℕ} {i : Inputs} → Says s i → test marks lab_cutoffs i ≡ record { refused = false; entry = lab_entry } → LabAnswers s
lab-answers {s} {i} f t =
    let o : test marks (cutoffs_in lab_table) i ≡ record { refused = false; entry = lab_entry } = rw lab-numbers t in
    let n = said-accepted (cutoffs_in lab_table) f o in
    let e = said-entry (cutoffs_in lab_table) f o in
    let r = parameters-returns lab_table lab-accepted s n in
    record { accepted = n; answered = e; returns = r; writes = λ lent h. accepted-fills (test_call s) lab_table lent (r lent h) ∙ ap entry_bytes e ∙ lab-answer }

pub record CorrelatedExample : Type 0 where
  -- the lab's table is accepted; this call reads its rotation factor, 2^-20, and its cap, 8
  pub table : bad_table lab_table ≡ false
  pub numbers : cutoffs_in lab_table ≡ lab_cutoffs
  -- under it the file is accepted, inside, with numbers for F and df; V is turned six times
  pub sent : LabAnswers correlated_file
  pub rotations : (rotated_v marks (cutoffs_in lab_table) (inputs correlated_file)).count ≡ 6
  -- the table counts: under the built-in one V is turned ten times, no df is capped, and F and df are others
  pub built_in : entry document_cutoffs correlated_file ≡ built_in_entry
  pub built_in_rotations : (rotated_v marks document_cutoffs (inputs correlated_file)).count ≡ 10
  -- k = 3: the converted file is another file, and its answer is the same
  pub other : converted (satterthwaite_change (pos 3)) correlated_file ≡ correlated_shifted
  pub differs : correlated_shifted ≡ correlated_file → ⊥
  pub again : LabAnswers correlated_shifted

pub correlated-example : CorrelatedExample
correlated-example = record {
  table = lab-accepted;
  numbers = lab-numbers;
  sent = lab-answers (read.sent) (tested.sent);
  rotations = rw (lab-numbers, read.sent.inputs) (tested.rotations);
  built_in = said-entry document_cutoffs (read.sent) (tested.built_in);
  built_in_rotations = rw (read.sent.inputs) (tested.built_in_rotations);
  other = shifted;
  differs = first-differs;
  again = lab-answers (read.again) (tested.again);
}
