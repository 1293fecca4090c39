-- Document 01's `pulltest` example, the refusal table's own examples and examples of document 02's order, torn specimens and blocks' parameter counts, read by computation over the definitions.
use Prim.Native.Nat.{ℕ, ◌+◌}
use mathlib.Core.Path.{◌≡◌, refl}
use mathlib.Core.Bool.{true, false}
use mathlib.Core.List.{List, [], ◌∷◌, ◌++◌}
use lib.Ieee.{of_bits, lt, le, eq}
use Rattle.arithmetic.specs.Numbers.{plus_zero as zeroNumber, is_finite, is_zero}
use Rattle.records.specs.format.Bytes.{word, long, bytes_of}
use Rattle.algebra.specs.Fold.{fold}
use Rattle.algebra.specs.Table.{row, blank, table}
use Rattle.algebra.specs.Reasons.{first}
use Rattle.adjustment.specs.Covariance.{Design}
use Rattle.records.specs.format.Scan.{any, most, last, total}
use Rattle.records.specs.format.Kinds.{kind_at, kind_numbers, holds, width, index_of, value_holds, kenward_roger_kinds, kenward_roger, limits}
use Rattle.records.specs.format.Written.{record_of, sequence}
use Rattle.records.specs.format.File.{count, out_of, bad_record, is_cell, again, has, cell, rows, columns, beyond, missing, not_finite, length_reasons, form_reasons}
use Rattle.records.specs.format.Order.{numbers_matrix, matrix_of, stands_before, falls, order_reasons}
use Rattle.records.specs.readers.Shortened.{torn, all_torn, kept_below, shortened}
use Rattle.records.specs.readers.Series.{sizes, kinds, block_of, as_sent, design, miscounted, bad_size, bad_weight, misfit, zero_contrast, block_reasons, size_reasons, value_reasons, reasons, refusal}
use Rattle.records.specs.promises.TornKeeps.{of_specimen, of_torn, new_row, renumbered, without_torn, column_lost}

-- the bits of some numbers
abbrev pub one : ℕ
one = 0x3ff0000000000000

abbrev pub minus_one : ℕ
minus_one = 0xbff0000000000000

abbrev pub infinity : ℕ
infinity = 0x7ff0000000000000

-- X 1,1, then records of the kinds 2 to 5; Φ 0.5, this sigma2 and this β, then records of later kinds
abbrev pub series_file : List ℕ → ℕ → ℕ → List ℕ → List ℕ
series_file random sigma2 beta tests =
    record_of 1 0 0 0 one ++ (record_of 1 1 0 0 one ++ (random ++ (record_of 6 0 0 0 0x3fe0000000000000 ++ (record_of 7 0 0 0 sigma2 ++ (record_of 8 0 0 0 beta ++ tests)))))

-- `pulltest`'s sigma2 8 and β 6
abbrev pub pulled : List ℕ → List ℕ → List ℕ
pulled random tests = series_file random 0x4020000000000000 0x4018000000000000 tests

abbrev pub plain : List ℕ
plain = pulled [] []

-- and its contrast, 1, with further records of the kinds 2 to 5, and of later ones
abbrev pub with : List ℕ → List ℕ → List ℕ
with random more = pulled random (record_of 9 0 0 0 one ++ more)

-- a block of one group with this k and this number in its value bytes
abbrev pub block_of_one : ℕ → ℕ → List ℕ
block_of_one k bits = record_of 3 0 k 1 bits

-- the weights 1 and -1, and a block of k = 2 with one group, two columns of Z and two thetas
abbrev pub one_bad_weight : List ℕ
one_bad_weight = record_of 5 0 0 0 one ++ record_of 5 1 0 0 minus_one

abbrev pub two_thetas : List ℕ
two_thetas = record_of 2 0 1 0 one ++ (block_of_one 2 3 ++ (record_of 4 0 0 0 one ++ record_of 4 1 0 0 one))

-- one block's number with two k's, and two records of one block that differ in the groups alone
abbrev pub block_twice : List ℕ
block_twice = with (block_of_one 1 1 ++ block_of_one 2 3) []

abbrev pub other_groups : List ℕ
other_groups = with (block_of_one 1 1 ++ record_of 3 0 1 2 1) []

pub record Read : Type 0 where
  pub taken : refusal 24 (with [] []) ≡ 0
  pub no_contrast : refusal 24 plain ≡ 0
  -- 2, "empty file", and the other causes
  pub empty : refusal 24 [] ≡ 2
  pub cut_short : refusal 24 (0 ∷ []) ≡ 2
  pub twice : refusal 24 block_twice ≡ 2
  pub beyond_n : refusal 24 (with (record_of 2 2 0 0 one) []) ≡ 2
  pub bad_kind : refusal 24 (with [] (record_of 11 0 0 0 one)) ≡ 2
  -- "10 without 9 counts as beyond the sizes"; with 9 it is taken
  pub hypothesis_alone : refusal 24 (pulled [] (record_of 10 0 0 0 one)) ≡ 2
  pub hypothesis : refusal 24 (with [] (record_of 10 0 0 0 one)) ≡ 0
  -- 3, "block of k = 3"
  pub many_effects : refusal 24 (with (block_of_one 3 6) []) ≡ 3
  pub most_effects : refusal 24 (with (block_of_one 22 253) []) ≡ 3
  -- 4, "β = infinity"
  pub infinite : refusal 24 (series_file [] one infinity []) ≡ 4
  -- 5, "0"
  pub zero_variance : refusal 24 (series_file [] 0 one []) ≡ 5
  -- 6, "-1"
  pub negative_weight : refusal 24 (with one_bad_weight []) ≡ 6
  -- 7, "k = 2, two thetas"
  pub few_thetas : refusal 24 (with two_thetas []) ≡ 7
  pub no_group : refusal 24 (with (block_of_one 1 1) []) ≡ 7
  -- 8, "row 0"
  pub zero_row : refusal 24 (pulled [] (record_of 9 0 0 0 0)) ≡ 8
  -- "lowest number first": a file with two faults gives the lower number
  pub lowest_first : refusal 24 (series_file one_bad_weight 0 one []) ≡ 5

-- 12, "a file whose neighbouring records don't rise"
pub record InOrder : Type 0 where
  -- a column, a row and a kind that fall, in the first, a middle and the last pair
  pub column : refusal 24 (record_of 1 0 1 0 one ++ with [] []) ≡ 12
  pub row : refusal 24 (with (record_of 5 1 0 0 one ++ record_of 5 0 0 0 one) []) ≡ 12
  pub kind : refusal 24 (with [] (record_of 8 1 0 0 one)) ≡ 12
  -- equal neighbours: a cell twice, with another value; a block that differs in its groups alone
  pub equal : refusal 24 (with [] (record_of 9 0 0 0 minus_one)) ≡ 12
  pub groups : refusal 24 other_groups ≡ 12
  -- "then by the count where it numbers a matrix", "alike in every call": here a Jacobian is a bad kind, and in order by its count
  pub by_count : refusal 24 (with [] (record_of 31 1 0 0 one ++ record_of 31 0 0 1 one)) ≡ 2
  pub count_falls : refusal 24 (with [] (record_of 31 0 0 1 one ++ record_of 31 1 0 0 one)) ≡ 12
  -- "directly after the multiple-of-16 test of 2 and before 2's other reasons": a falling file with a byte too many, and one with a bad kind
  pub after_length : refusal 24 (with [] (record_of 8 0 0 0 one ++ (0 ∷ []))) ≡ 2
  pub before_form : refusal 24 (with [] (record_of 11 0 0 0 one ++ record_of 9 0 0 0 one)) ≡ 12
  -- "read from the bytes as they stand": row and column count where the kind does not use them, so that two sigma2's of other rows, and two β_H's of other columns, rise, and are 2 as unused fields
  pub unused_row : refusal 24 (record_of 7 0 0 0 one ++ record_of 7 1 0 0 one) ≡ 2
  pub unused_row_falls : refusal 24 (record_of 7 1 0 0 one ++ record_of 7 0 0 0 one) ≡ 12
  pub unused_column : refusal 24 (with [] (record_of 10 0 0 0 one ++ record_of 10 0 1 0 one)) ≡ 2
  -- byte 3 and the value do not count: neighbours that differ in them alone are equal
  pub byte_three : refusal 24 (with [] (9 ∷ 0 ∷ 0 ∷ 1 ∷ (bytes_of 4 0 ++ bytes_of 8 one))) ≡ 12
  pub value : refusal 24 (with [] (record_of 9 0 0 0 infinity)) ≡ 12

-- 2's "cell twice" is still reached: one block with two k's rises, and no other reason holds
pub record Reached : Type 0 where
  pub rising : falls block_twice ≡ false
  pub good : any (count block_twice) (bad_record (kenward_roger 24) block_twice) ≡ false
  pub cell_twice : any (count block_twice) (again (kinds block_twice) block_twice) ≡ true
  pub complete : any kind_numbers (missing (kinds block_twice) block_twice) ≡ false
  pub within : any (count block_twice) (beyond (kinds block_twice) block_twice) ≡ false

pub reached : Reached
unfolding falls stands_before matrix_of numbers_matrix sizes out_of bad_record is_cell again has rows columns beyond missing kind_at holds width index_of value_holds kenward_roger_kinds limits any most word long bytes_of
reached = record { rising = refl; good = refl; cell_twice = refl; complete = refl; within = refl }

pub in_order : InOrder
unfolding refusal reasons length_reasons order_reasons falls stands_before matrix_of numbers_matrix form_reasons block_reasons size_reasons value_reasons first sizes out_of bad_record is_cell again has rows columns beyond missing kind_at holds width index_of value_holds kenward_roger_kinds limits any most word long bytes_of
in_order = record { column = refl; row = refl; kind = refl; equal = refl; groups = refl; by_count = refl; count_falls = refl; after_length = refl; before_form = refl; unused_row = refl; unused_row_falls = refl; unused_column = refl; byte_three = refl; value = refl }

pub read : Read
unfolding refusal reasons length_reasons order_reasons falls stands_before matrix_of numbers_matrix form_reasons block_reasons size_reasons value_reasons first sizes as_sent torn all_torn row fold miscounted bad_size bad_weight misfit zero_contrast block_of out_of bad_record is_cell again has cell rows columns beyond missing not_finite kind_at holds width index_of value_holds kenward_roger_kinds limits any most last total word long bytes_of is_finite is_zero of_bits lt le eq
read = record {
  taken = refl;
  no_contrast = refl;
  empty = refl;
  cut_short = refl;
  twice = refl;
  beyond_n = refl;
  bad_kind = refl;
  hypothesis_alone = refl;
  hypothesis = refl;
  many_effects = refl;
  most_effects = refl;
  infinite = refl;
  zero_variance = refl;
  negative_weight = refl;
  few_thetas = refl;
  no_group = refl;
  zero_row = refl;
  lowest_first = refl;
}

-- ---- document 02, "Req 03"
-- the bits of -0
abbrev minus_zero : ℕ
minus_zero = 0x8000000000000000

-- the weights of the two specimens
abbrev weights : ℕ → ℕ → List ℕ
weights a b = record_of 5 0 0 0 a ++ record_of 5 1 0 0 b

-- the series with this number in the second row of X, and the other records of `plain`
abbrev second_row : ℕ → List ℕ → List ℕ
second_row x random = record_of 1 0 0 0 one ++ (record_of 1 1 0 0 x ++ (random ++ (record_of 6 0 0 0 one ++ (record_of 7 0 0 0 one ++ record_of 8 0 0 0 one))))

-- a column of Z whose one record is the torn specimen's, a block of one group, and a theta
abbrev column_of_torn : List ℕ → List ℕ
column_of_torn theta = with (record_of 2 1 0 0 one ++ (block_of_one 1 1 ++ (theta ++ weights one 0))) []

-- three specimens of which the second is torn, and the first and the third as two; the other records of `second_row`
abbrev others : List ℕ
others = record_of 6 0 0 0 one ++ (record_of 7 0 0 0 one ++ record_of 8 0 0 0 one)

abbrev middle_torn : List ℕ
middle_torn = record_of 1 0 0 0 one ++ (record_of 1 1 0 0 minus_one ++ (record_of 1 2 0 0 0x4000000000000000 ++ (record_of 5 0 0 0 one ++ (record_of 5 1 0 0 minus_zero ++ (record_of 5 2 0 0 one ++ others)))))

abbrev middle_taken : List ℕ
middle_taken = record_of 1 0 0 0 one ++ (record_of 1 1 0 0 0x4000000000000000 ++ (record_of 5 0 0 0 one ++ (record_of 5 1 0 0 one ++ others)))

pub record TornRead : Type 0 where
  -- "Operators enter weight 0": either zero is taken, and "Only a negative weight is refused with 6"
  pub torn_plus : refusal 24 (with (weights one 0) []) ≡ 0
  pub torn_minus : refusal 24 (with (weights minus_zero one) []) ≡ 0
  pub beside_negative : refusal 24 (with (weights 0 minus_one) []) ≡ 6
  -- "A series with all weights zero falls under 3, in 3's place": before 4
  pub all_zero : refusal 24 (with (weights 0 minus_zero) []) ≡ 3
  pub before_four : refusal 24 (second_row infinity (weights 0 0)) ≡ 3
  -- "dropped after 4 is checked": an infinite number in a torn row is 4; a finite one is of no account
  pub in_torn_row : refusal 24 (second_row infinity (weights one 0)) ≡ 4
  pub finite : refusal 24 (second_row minus_one (weights one 0)) ≡ 0
  -- "sizes but n stay as sent": a torn specimen's weight is asked for, and a column of Z that only it has counts in 7
  pub weight_missing : refusal 24 (with (record_of 5 0 0 0 0) []) ≡ 2
  pub column_counts : refusal 24 (column_of_torn (record_of 4 0 0 0 one)) ≡ 0
  pub theta_missing : refusal 24 (column_of_torn []) ≡ 7
  -- the run has the one specimen that is kept, and the column as zero
  pub specimens : (design (column_of_torn (record_of 4 0 0 0 one))).n ≡ 1
  pub column : (design (column_of_torn (record_of 4 0 0 0 one))).z ≡ (zeroNumber ∷ []) ∷ []
  -- the file with the torn rows' records taken out and the others numbered anew; where a column of Z loses its last record it is another series, here one with a group too many
  pub taken_out : without_torn middle_torn ≡ middle_taken
  pub lost : any (count (column_of_torn (record_of 4 0 0 0 one))) (column_lost (column_of_torn (record_of 4 0 0 0 one))) ≡ true
  pub lost_taken : refusal 24 (without_torn (column_of_torn (record_of 4 0 0 0 one))) ≡ 7

pub torn-read : TornRead
unfolding without_torn sequence of_torn of_specimen renumbered new_row column_lost refusal reasons length_reasons order_reasons falls stands_before matrix_of numbers_matrix form_reasons block_reasons size_reasons value_reasons first sizes as_sent design shortened kept_below torn all_torn table blank row fold miscounted bad_size bad_weight misfit zero_contrast block_of out_of bad_record is_cell again has cell rows columns beyond missing not_finite kind_at holds width index_of value_holds kenward_roger_kinds limits any most last total word long bytes_of is_finite is_zero of_bits lt le eq
torn-read = record {
  torn_plus = refl;
  torn_minus = refl;
  beside_negative = refl;
  all_zero = refl;
  before_four = refl;
  in_torn_row = refl;
  finite = refl;
  weight_missing = refl;
  column_counts = refl;
  theta_missing = refl;
  specimens = refl;
  column = refl;
  taken_out = refl;
  lost = refl;
  lost_taken = refl;
}

-- ---- document 02, "Req 04"
-- a series of one column of Z, with this block and one theta
abbrev one_column : List ℕ → List ℕ
one_column block = with (record_of 2 0 0 0 one ++ (block ++ record_of 4 0 0 0 one)) []

-- a series of two columns of Z and a block of k = 2, which has three thetas, with this number in its value bytes
abbrev two_columns : ℕ → List ℕ
two_columns number = with (record_of 2 0 1 0 one ++ (block_of_one 2 number ++ (record_of 4 0 0 0 one ++ (record_of 4 1 0 0 0 ++ record_of 4 2 0 0 one)))) []

-- two blocks of one group each, with these numbers in their value bytes
abbrev two_blocks : ℕ → ℕ → List ℕ
two_blocks a b = with (record_of 2 0 1 0 one ++ (record_of 3 0 1 1 a ++ (record_of 3 1 1 1 b ++ (record_of 4 0 0 0 one ++ record_of 4 1 0 0 one)))) []

pub record CountRead : Type 0 where
  -- "The first of the eight value bytes now holds that number, k(k+1)/2": 1 for k = 1; a block without it, as before, is 13
  pub right : refusal 24 (one_column (block_of_one 1 1)) ≡ 0
  pub bare : refusal 24 (one_column (block_of_one 1 0)) ≡ 13
  pub wrong : refusal 24 (one_column (block_of_one 1 2)) ≡ 13
  -- "the theta values of k = 2 without correlation": they are three, of which the middle one is 0, and 2 is 13
  pub uncorrelated : refusal 24 (two_columns 3) ≡ 0
  pub two_for_three : refusal 24 (two_columns 2) ≡ 13
  -- in any block
  pub both : refusal 24 (two_blocks 1 1) ≡ 0
  pub second : refusal 24 (two_blocks 1 3) ≡ 13
  -- "and the other seven are zero": the second and the last of the eight, and the number as an f64
  pub second_byte : refusal 24 (one_column (block_of_one 1 0x101)) ≡ 2
  pub last_byte : refusal 24 (one_column (block_of_one 1 0x0100000000000001)) ≡ 2
  pub as_float : refusal 24 (one_column (block_of_one 1 one)) ≡ 2
  -- "after 2": a cell missing, beyond the sizes; and before that 12
  pub after_two : refusal 24 (with (block_of_one 1 0 ++ record_of 5 0 0 0 one) []) ≡ 2
  pub after_order : refusal 24 (with (block_of_one 1 0 ++ block_of_one 1 1) []) ≡ 12
  -- "before 3": k = 3, k = 0, no group, all weights zero
  pub three : refusal 24 (with (block_of_one 3 0) []) ≡ 13
  pub no_effect : refusal 24 (with (block_of_one 0 0) []) ≡ 3
  pub no_effect_one : refusal 24 (with (block_of_one 0 1) []) ≡ 13
  pub no_group_right : refusal 24 (with (record_of 3 0 1 0 1) []) ≡ 3
  pub no_group_wrong : refusal 24 (with (record_of 3 0 1 0 0) []) ≡ 13
  pub torn_wrong : refusal 24 (with (block_of_one 1 0 ++ weights 0 0) []) ≡ 13
  -- whole numbers: 276 is 20 beyond 256, and 32640 is 128 beyond a multiple of it
  pub wrapped : refusal 24 (with (block_of_one 23 20) []) ≡ 13
  pub most : refusal 24 (with (block_of_one 255 128) []) ≡ 13
  pub whole : refusal 24 (with (block_of_one 23 276) []) ≡ 2

pub count-read : CountRead
unfolding refusal reasons length_reasons order_reasons falls stands_before matrix_of numbers_matrix form_reasons block_reasons size_reasons value_reasons first sizes as_sent torn all_torn row fold miscounted bad_size bad_weight misfit zero_contrast block_of out_of bad_record is_cell again has cell rows columns beyond missing not_finite kind_at holds width index_of value_holds kenward_roger_kinds limits any most last total word long bytes_of is_finite is_zero of_bits lt le eq
count-read = record {
  right = refl;
  bare = refl;
  wrong = refl;
  uncorrelated = refl;
  two_for_three = refl;
  both = refl;
  second = refl;
  second_byte = refl;
  last_byte = refl;
  as_float = refl;
  after_two = refl;
  after_order = refl;
  three = refl;
  no_effect = refl;
  no_effect_one = refl;
  no_group_right = refl;
  no_group_wrong = refl;
  torn_wrong = refl;
  wrapped = refl;
  most = refl;
  whole = refl;
}
