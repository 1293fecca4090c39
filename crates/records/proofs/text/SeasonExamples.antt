-- Document 02, "Req 07", by computation over the definitions: which records close a series, the series of a small season, and the worst of F's.
use Prim.Native.Nat.{ℕ}
use mathlib.Core.Path.{◌≡◌, refl}
use mathlib.Core.Bool.{true, false}
use mathlib.Core.List.{List, [], ◌∷◌, ◌++◌}
use lib.IntN.{pos}
use lib.ListN.{replicate}
use lib.Ieee.{inf, fin, lt}
use Rattle.arithmetic_cutoffs.specs.declared.Cutoffs.{Cutoffs}
use Rattle.algebra.specs.Reasons.{first}
use lib.Ieee.{Float}
use Rattle.std.specs.Prelude.{Option, Some, None}
use Rattle.records.specs.format.Bytes.{word, long, bytes_of}
use Rattle.records.specs.format.Scan.{any, most, last}
use Rattle.records.specs.format.Kinds.{kind_at, holds, width, kenward_roger_kinds, limits}
use Rattle.records.specs.format.Written.{record_of}
use Rattle.records.specs.format.File.{out_of, bad_record, is_cell, has, rows, columns, missing, length_reasons, form_reasons}
use Rattle.records.specs.format.Order.{numbers_matrix, matrix_of, stands_before, falls, order_reasons}
use Rattle.records.specs.readers.Series.{sizes, reasons}
use Rattle.records.specs.calls.KenwardRogerCall.{all_reasons, number, entries}
use Rattle.records.specs.text.Text.{codes, digit, decimal, refusal_text, text_of}
use Rattle.records.specs.text.Season.{closes, begins, series_before, series_to, series_in, left_over, worse, worst_after, worst, latest, series_lines, contrast_f, fs_of, closed_text, texts_to, closed_texts, left_text, season_text}
use Rattle.records.specs.promises.SeasonPrints.{closing_record}

-- ---- records
-- a record of kind 21 with one byte set after n zero bytes, and m after it
abbrev with_byte : ℕ → ℕ → List ℕ
with_byte n m = 21 ∷ (replicate n 0 ++ (1 ∷ replicate m 0))

-- two records of a series, of kinds 1 and 7
abbrev one : List ℕ
one = record_of 1 0 0 0 0x3ff0000000000000

abbrev seven : List ℕ
seven = record_of 7 0 0 0 0x4020000000000000

pub record ClosingExamples : Type 0 where
  -- "a record of kind 21, its other bytes zero"
  pub zeros : closes closing_record 0 ≡ true
  -- "A kind 21 with another byte set doesn't close": the first and the last of the fifteen, and one within
  pub row : closes (with_byte 0 14) 0 ≡ false
  pub within : closes (with_byte 7 7) 0 ≡ false
  pub end : closes (with_byte 14 0) 0 ≡ false
  -- nor does another kind
  pub other : closes (20 ∷ replicate 15 0) 0 ≡ false
  -- one within a series closes it, and the next one closes an empty series
  pub series : series_in (one ++ (closing_record ++ (closing_record ++ seven))) ≡ one ∷ [] ∷ []
  pub left : left_over (one ++ (closing_record ++ (closing_record ++ seven))) ≡ seven
  -- sixteen such bytes that are no record, since they stand across two, close nothing
  pub across : series_in (0 ∷ (closing_record ++ replicate 15 0)) ≡ []
  -- a file without one has no series: all of it is left over
  pub unclosed : (series_in (one ++ seven) ≡ []) × (left_over (one ++ seven) ≡ one ++ seven)

pub closing-examples : ClosingExamples
unfolding closes begins series_before series_to series_in left_over any last word bytes_of
closing-examples = record { zeros = refl; row = refl; within = refl; end = refl; other = refl; series = refl; left = refl; across = refl; unclosed = (refl, refl) }

-- ---- bytes left over
-- "Bytes after the last closing record are answered with 2": also where they fall, as these two records do, and a file of them is refused with 12
pub fallen-left : (c : Cutoffs) → (season_text c (seven ++ one) ≡ codes "refused 2\n") × (series_lines c (seven ++ one) ≡ codes "refused 12\n")
unfolding season_text closed_texts texts_to closed_text closes begins series_before series_to series_in left_over left_text series_lines text_of refusal_text decimal digit codes number all_reasons reasons length_reasons order_reasons falls stands_before matrix_of numbers_matrix first any last word bytes_of
fallen-left c = (refl, refl)

-- a kind 21 that does not close is a record of its series, and a bad kind: it prints `refused 2`
pub unclosing-printed : (c : Cutoffs) → season_text c (with_byte 0 14 ++ closing_record) ≡ codes "refused 2\n"
unfolding season_text closed_texts texts_to closed_text closes begins series_before series_to series_in left_over left_text series_lines text_of refusal_text decimal digit codes number all_reasons reasons length_reasons order_reasons falls stands_before matrix_of numbers_matrix form_reasons out_of bad_record kind_at holds kenward_roger_kinds limits first any last word long bytes_of
unclosing-printed c = refl

-- an empty series is refused with 2: it has a place among the F's, and none in it
pub empty-place : (c : Cutoffs) → fs_of c ([] ∷ [] ∷ []) ≡ None ∷ None ∷ []
unfolding fs_of contrast_f entries number all_reasons reasons length_reasons order_reasons falls form_reasons missing kind_at has width is_cell kenward_roger_kinds sizes rows columns most first any
empty-place c = refl

-- ---- F's
abbrev f : ℕ → Option Float
f n = Some (fin false n (pos 0))

abbrev minus_zero : Option Float
minus_zero = Some (fin true 0 (pos 0))

abbrev zero_f : Option Float
zero_f = Some (fin false 0 (pos 0))

pub record WorstExamples : Type 0 where
  -- "the largest F number"
  pub largest : worst (f 3 ∷ None ∷ f 9 ∷ f 4 ∷ []) ≡ f 9
  -- "earliest on ties": -0 and +0 tie, and so do 2 and 1 times 2 ^ 1, which are the same number
  pub minus_first : worst (minus_zero ∷ zero_f ∷ []) ≡ minus_zero
  pub zero_first : worst (zero_f ∷ minus_zero ∷ []) ≡ zero_f
  pub same_first : worst (f 2 ∷ Some (fin false 1 (pos 1)) ∷ []) ≡ f 2
  -- an infinite F counts, and one below zero
  pub infinite : worst (f 9 ∷ Some (inf false) ∷ f 4 ∷ []) ≡ Some (inf false)
  pub below : worst (Some (fin true 2 (pos 0)) ∷ None ∷ Some (fin true 3 (pos 0)) ∷ []) ≡ Some (fin true 2 (pos 0))
  -- "or `none`"
  pub none : worst (None ∷ None ∷ []) ≡ None
  -- "the latest twenty series": of twenty the first still counts, of twenty-one it does not, and a series that gives no F has its place
  pub twenty : worst (latest (f 9 ∷ replicate 19 None)) ≡ f 9
  pub more : worst (latest (f 9 ∷ replicate 20 None)) ≡ None

pub worst-examples : WorstExamples
unfolding worse worst_after lt
worst-examples = record { largest = refl; minus_first = refl; zero_first = refl; same_first = refl; infinite = refl; below = refl; none = refl; twenty = refl; more = refl }
