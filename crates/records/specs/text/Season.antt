-- Document 02, "Req 07": "A season's file, and the worst of twenty." A season's file s is a list of bytes, in records of 16 as any file is. Each of its series is judged by itself, as a file of its own bytes,
-- so that "numbering and order start again" after each record that closes one. c are the cutoffs: the program has the built-in ones.
use Rattle.std.specs.Prelude.{ℕ, zero, suc, ◌+◌, ◌-◌, ◌*◌, Bool, not, ◌&&◌, cond, List, [], ◌∷◌, ◌++◌, eqb, length, get_or, take, drop, Option, Some, None, Float}
use Rattle.std.proofs.Math.Seq.{slice}
use Rattle.std.specs.Float.Ieee.{lt}
use Rattle.arithmetic_cutoffs.specs.declared.Cutoffs.{Cutoffs}
use Rattle.tests.specs.Answer.{no_entry}
use Rattle.records.specs.format.Scan.{any, last}
use Rattle.records.specs.format.Bytes.{byte}
use Rattle.records.specs.format.File.{count, kind_of}
use Rattle.records.specs.format.KindNumbers.{kind_closing}
use Rattle.records.specs.format.Kinds.{panel_limit}
use Rattle.records.specs.calls.KenwardRogerCall.{number, entries}
use Rattle.records.specs.text.Text.{codes, number_text, refusal_text, text_of}

-- ---- the series of a season
-- record i closes a series: "a record of kind 21, its other bytes zero"; "A kind 21 with another byte set doesn't close"
unfoldable pub closes : List ℕ → ℕ → Bool
closes s i = eqb (kind_of s i) kind_closing && not (any 15 (λ o. not (eqb (byte s (16 * i + 1 + o)) 0)))

-- the record with which the series of record i begins: the one after the last that closes before it, or the file's first
unfoldable pub begins : List ℕ → ℕ → ℕ
begins s i = last i (closes s) (λ j. j + 1) 0

-- the series before record i: the bytes from there up to it. "That record stands outside the order": the one that closes a series is none of it
unfoldable pub series_before : List ℕ → ℕ → List ℕ
series_before s i = slice (16 * begins s i) (16 * i) s

-- the series that the first n records close, in their order, and all of a season
unfoldable pub series_to : List ℕ → ℕ → List (List ℕ)
series_to s zero = []
series_to s (suc n) = series_to s n ++ cond (closes s n) (series_before s n ∷ []) []

unfoldable pub series_in : List ℕ → List (List ℕ)
series_in s = series_to s (count s)

-- "Bytes after the last closing record"
unfoldable pub left_over : List ℕ → List ℕ
left_over s = drop (16 * begins s (count s)) s

-- ---- the worst of twenty
-- the worst so far, and a series' F after it: "the largest F number .. (earliest on ties)", so that only a strictly larger one takes its place. A series that "gives no F" changes nothing.
unfoldable pub worse : Option Float → Option Float → Option Float
worse None f = f
worse (Some x) None = Some x
worse (Some x) (Some y) = cond (lt x y) (Some y) (Some x)

-- after further F's, the oldest first; and of F's alone: none where none is given
unfoldable pub worst_after : Option Float → List (Option Float) → Option Float
worst_after w [] = w
worst_after w (f ∷ fs) = worst_after (worse w f) fs

abbrev pub worst : List (Option Float) → Option Float
worst fs = worst_after None fs

-- "the latest twenty"
abbrev pub latest_count : ℕ
latest_count = 20

-- of all so far, "the latest twenty .., this one included", the last: all of them where there are fewer
abbrev pub latest {ℓ} : {A : Type ℓ} → List A → List A
latest ts = drop (length ts - latest_count) ts

-- ---- what is printed
-- "Bytes after the last closing record are answered with 2"; "an empty file prints nothing"
unfoldable pub left_text : List ℕ → List ℕ
left_text left = cond (eqb (length left) 0) [] (refusal_text 2)

module _ (c : Cutoffs) where
  -- of one series: what `pulltest` prints of its bytes, "each accepted series' lines" or "only its refusal"
  unfoldable pub series_lines : List ℕ → List ℕ
  series_lines t = text_of (number panel_limit c t) (entries panel_limit c t)

  -- "the .. F number of the contrast", which is entry 6. "A refused series .. gives no F", nor does one without a contrast or whose F is none.
  unfoldable pub contrast_f : List ℕ → Option Float
  contrast_f t = (get_or (entries panel_limit c t) 6 no_entry).f

  -- of series, one for each: "A refused series .. counts among the twenty, and gives no F"
  unfoldable pub fs_of : List (List ℕ) → List (Option Float)
  fs_of [] = []
  fs_of (t ∷ ts) = contrast_f t ∷ fs_of ts

  -- "`worst` with the bits of the largest F number of the contrast .. among the latest twenty series, this one included, or `none`": ts are the series so far, this one the last
  unfoldable pub worst_line : List (List ℕ) → List ℕ
  worst_line ts = codes "worst " ++ (number_text (worst (latest (fs_of ts))) ++ codes "\n")

  -- what the season prints of the series t after the series ts: "each accepted series' lines, then `worst` .."; "A refused series prints only its refusal"
  unfoldable pub closed_text : List (List ℕ) → List ℕ → List ℕ
  closed_text ts t = series_lines t ++ cond (eqb (number panel_limit c t) 0) (worst_line (ts ++ (t ∷ []))) []

  -- of the first n of the series ts, one after another, and of all of them
  unfoldable pub texts_to : List (List ℕ) → ℕ → List ℕ
  texts_to ts zero = []
  texts_to ts (suc n) = texts_to ts n ++ closed_text (take n ts) (get_or ts n [])

  unfoldable pub closed_texts : List (List ℕ) → List ℕ
  closed_texts ts = texts_to ts (length ts)

  -- THE WHOLE TEXT of a season's file
  unfoldable pub season_text : List ℕ → List ℕ
  season_text s = closed_texts (series_in s) ++ left_text (left_over s)

  -- what it has printed when the bytes s have come: of the series that are closed by then
  abbrev pub printed : List ℕ → List ℕ
  printed s = closed_texts (series_in s)

  -- and what further bytes t make it print
  unfoldable pub added : List ℕ → List ℕ → List ℕ
  added s t = drop (length (printed s)) (printed (s ++ t))
