-- Marked numbers (document 01: "A marked number is a value together with its mark") and the marked steps, those that bear an M.
use Rattle.std.specs.Prelude.{ℕ, ◌≤◌, ◌≡◌, Bool, true, false, not, ◌&&◌, ◌||◌, pos, negsuc, Float}
use Rattle.std.specs.Float.{fin, binary64}
use Rattle.std.specs.Float.Ieee.{add, sub, mul, div, lt, le}
use Rattle.arithmetic.specs.declared.Marked.{Marked}
use Rattle.arithmetic.specs.Numbers.{magnitude, is_zero}
use Rattle.arithmetic.specs.SquareRoot.{square_root}

-- 2 ^ -800 and 2 ^ 801
abbrev pub least : Float
least = fin false 1 (negsuc 799)

abbrev pub limit : Float
limit = fin false 1 (pos 801)

-- x is a zero, or finite with a binary exponent from -800 to 800: 2 ^ -800 ≤ |x| < 2 ^ 801
unfoldable pub in_range : Float → Bool
in_range x = is_zero x || (le least (magnitude x) && lt (magnitude x) limit)

-- a value and a mark
abbrev pub marked : Float → Bool → Marked
marked x b = record { value = x; inside = b }

-- A mark by itself, and names for what it is made of.
abbrev pub Mark : Type 0
Mark = Bool

-- the mark that counts nothing, and the one that counts what either does
abbrev pub no_mark : Mark
no_mark = true

abbrev pub join_marks : Mark → Mark → Mark
join_marks m n = m && n

-- what a number counts by itself, as an operand or a result
abbrev pub own_mark : Float → Mark
own_mark x = in_range x

-- HOW FAR A MARK BEARS. Exponents from -800 to 800, moved by up to 221 either way, stay from -1021 to 1022: the numbers are normal f64 numbers again, and the same steps round alike.
abbrev pub most_borne : ℕ
most_borne = 221

-- m bears every shift up to 2 ^ t, either way, of the numbers that it counts
pub record MarkBears (t : ℕ) (m : Mark) : Type 0 where
  pub inside : m ≡ true
  pub covered : t ≤ most_borne

-- an input or a constant: no step led to it
abbrev pub given : Float → Marked
given x = marked x true

-- whether it is inside: every step up to it was
abbrev pub is_inside : Marked → Bool
is_inside a = a.inside

-- the mark of a step on a and b with the rounded result r: both operands are inside and in range, and the result is in range
unfoldable pub step_mark : Marked → Marked → Float → Bool
step_mark a b r = a.inside && b.inside && (in_range a.value && in_range b.value) && in_range r

-- "no product of nonzero factors, nor quotient of a nonzero numerator, is zero"
unfoldable pub lost_product : Float → Float → Float → Bool
lost_product x y r = is_zero r && (not (is_zero x) && not (is_zero y))

unfoldable pub lost_quotient : Float → Float → Bool
lost_quotient x r = is_zero r && not (is_zero x)

-- what a counts as an operand: its mark, and its number's own
abbrev pub reported : Marked → Mark
reported a = join_marks a.inside (own_mark a.value)

-- what the result p of x times y counts, with nothing of x and y
abbrev pub product_mark : Float → Float → Float → Mark
product_mark x y p = join_marks (own_mark p) (not (lost_product x y p))

-- a + x y, whose mark counts a's and the two results, and nothing of x and y
abbrev pub with_product : Marked → Float → Float → Marked
with_product a x y =
    let p = mul binary64 x y in
    let r = add binary64 a.value p in
    marked r (join_marks (join_marks a.inside (product_mark x y p)) (own_mark r))

unfoldable pub marked_add : Marked → Marked → Marked
marked_add a b = let r = add binary64 a.value b.value in marked r (step_mark a b r)

unfoldable pub marked_sub : Marked → Marked → Marked
marked_sub a b = let r = sub binary64 a.value b.value in marked r (step_mark a b r)

unfoldable pub marked_mul : Marked → Marked → Marked
marked_mul a b = let r = mul binary64 a.value b.value in marked r (step_mark a b r && not (lost_product a.value b.value r))

unfoldable pub marked_div : Marked → Marked → Marked
marked_div a b = let r = div binary64 a.value b.value in marked r (step_mark a b r && not (lost_quotient a.value r))

unfoldable pub marked_root : Marked → Marked
marked_root a = let r = square_root a.value in marked r (a.inside && in_range a.value && in_range r)

-- ---- what rounds nothing is no step and keeps the mark
-- the sign cleared
unfoldable pub marked_magnitude : Marked → Marked
marked_magnitude a = marked (magnitude a.value) a.inside

-- the number a, whose mark counts b's too: what is compared or dropped is still counted
unfoldable pub also : Marked → Marked → Marked
also a b = marked a.value (a.inside && b.inside)

-- the number a, whose mark counts m too
abbrev pub also_mark : Marked → Mark → Marked
also_mark a m = marked a.value (join_marks a.inside m)
