-- Document 01: "For X 1,1, Φ 0.5, sigma2 8, β 6, contrast 1 it prints, whole:
--   coef 0 rank 1 F 4022000000000000 df 3ff0000000000000 inside
--   test rank 1 F 4022000000000000 df 3ff0000000000000 inside
-- Fields: index, rank, f64 bits in hexadecimal or `none`, `inside` or `outside`. No contrast, no `test` line. A refusal prints `refused` and its number."
-- Bits are 16 lower-case digits, and each line ends in one newline. A text is the list of its characters' codes.
use Rattle.std.specs.Prelude.{ℕ, zero, suc, ◌+◌, ◌-◌, ◌/◌, ◌%◌, Bool, cond, List, [], ◌∷◌, ◌++◌, eqb, ltb, get_or, Option, Some, None, Float}
use Prim.Native.Char.{code}
use Prim.Native.String.{String, [] as none, ◌∷◌ as ◌before◌}
use Rattle.std.specs.Float.Ieee.{to_bits}
use Rattle.std.specs.Float.{binary64}
use Rattle.tests.specs.declared.Entry.{Entry}
use Rattle.tests.specs.Answer.{no_entry}

-- a quoted text
unfoldable pub codes : String → List ℕ
codes none = []
codes (c before s) = code c ∷ codes s

-- a digit below 16: 0 to 9, then a to f
unfoldable pub digit : ℕ → ℕ
digit d = cond (ltb d 10) (code "0" + d) (code "a" + (d - 10))

-- the low n hexadecimal digits of w, the leading one first
unfoldable pub hexadecimal : ℕ → ℕ → List ℕ
hexadecimal zero w = []
hexadecimal (suc n) w = hexadecimal n (w / 16) ++ (digit (w % 16) ∷ [])

-- w in decimal digits, the leading one first and no zero unless alone; of a number that has more than n digits, the last n
unfoldable pub decimal : ℕ → ℕ → List ℕ
decimal zero w = []
decimal (suc n) w = cond (ltb w 10) [] (decimal n (w / 10)) ++ (digit (w % 10) ∷ [])

-- "f64 bits in hexadecimal or `none`"
unfoldable pub number_text : Option Float → List ℕ
number_text (Some x) = hexadecimal 16 (to_bits binary64 x)
number_text None = codes "none"

-- "`inside` or `outside`", and the end of the line
unfoldable pub mark_text : Bool → List ℕ
mark_text inside = cond inside (codes " inside\n") (codes " outside\n")

-- the fields that a coefficient and the contrast have alike; a rank has three digits at most
unfoldable pub fields_text : Entry → List ℕ
fields_text e = codes "rank " ++ decimal 3 e.rank ++ codes " F " ++ number_text e.f ++ codes " df " ++ number_text e.df ++ mark_text e.inside

-- the line of coefficient i, and that of the contrast
abbrev pub coefficient_text : ℕ → Entry → List ℕ
coefficient_text i e = codes "coef " ++ (digit i ∷ []) ++ codes " " ++ fields_text e

abbrev pub contrast_text : Entry → List ℕ
contrast_text e = codes "test " ++ fields_text e

-- an entry that is not in use has rank 0, and no line
unfoldable pub coefficient_line : ℕ → Entry → List ℕ
coefficient_line i e = cond (eqb e.rank 0) [] (coefficient_text i e)

-- "No contrast, no `test` line."
unfoldable pub test_line : Entry → List ℕ
test_line e = cond (eqb e.rank 0) [] (contrast_text e)

-- the lines of the first k coefficients
unfoldable pub coefficient_lines : ℕ → List Entry → List ℕ
coefficient_lines zero es = []
coefficient_lines (suc k) es = coefficient_lines k es ++ coefficient_line k (get_or es k no_entry)

-- "A refusal prints `refused` and its number."
unfoldable pub refusal_text : ℕ → List ℕ
refusal_text number = codes "refused " ++ decimal 10 number ++ codes "\n"

-- coefficients 0 to 5, then the contrast, which is entry 6
unfoldable pub lines_text : List Entry → List ℕ
lines_text es = coefficient_lines 6 es ++ test_line (get_or es 6 no_entry)

-- the whole text: an accepted run has the number 0
unfoldable pub text_of : ℕ → List Entry → List ℕ
text_of number es = cond (eqb number 0) (lines_text es) (refusal_text number)

-- What stands there for an accepted series, by its sizes and with no look at a rank: a line for each of its p coefficients, and the contrast's where it has rows
-- (`text-is`, records_kenward_roger, Answers).
unfoldable pub coefficient_texts : ℕ → List Entry → List ℕ
coefficient_texts zero es = []
coefficient_texts (suc k) es = coefficient_texts k es ++ coefficient_text k (get_or es k no_entry)

unfoldable pub series_text : ℕ → ℕ → List Entry → List ℕ
series_text p rows es = coefficient_texts p es ++ cond (eqb rows 0) [] (contrast_text (get_or es 6 no_entry))
