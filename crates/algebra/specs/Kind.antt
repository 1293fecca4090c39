-- The two kinds of number that an algorithm runs on: plain f64 numbers, and marked ones. Each algorithm is stated once, over a record of operations.
use Rattle.std.specs.Prelude.{Bool, true, false, Float}
use Rattle.std.specs.Float.{nan, binary64}
use Rattle.std.specs.Float.Ieee.{add, sub, mul, div}
use Rattle.arithmetic.specs.declared.Marked.{Marked}
use Rattle.arithmetic.specs.Numbers.{plus_zero, magnitude}
use Rattle.arithmetic.specs.SquareRoot.{square_root}
use Rattle.arithmetic.specs.Marks.{marked, given, marked_add, marked_sub, marked_mul, marked_div, marked_root, marked_magnitude, also, is_inside}

-- `value` is the f64 that comparisons look at; `of` makes a constant; `void` stands past the end of a list; `also a b` is a, with b's mark counted;
-- `inside` is the mark that an entry shows: a plain number has none, and shows true
pub record Arith (A : Type 0) : Type 0 where
  pub value : A → Float
  pub of : Float → A
  pub void : A
  pub plus : A → A → A
  pub minus : A → A → A
  pub times : A → A → A
  pub over : A → A → A
  pub root : A → A
  pub unsigned : A → A
  pub also : A → A → A
  pub inside : A → Bool

abbrev pub floats : Arith Float
floats = record {
  value = λ x. x;
  of = λ x. x;
  void = nan;
  plus = add binary64;
  minus = sub binary64;
  times = mul binary64;
  over = div binary64;
  root = square_root;
  unsigned = magnitude;
  also = λ x y. x;
  inside = λ x. true;
}

abbrev pub marks : Arith Marked
marks = record {
  value = λ x. x.value;
  of = given;
  void = marked nan false;
  plus = marked_add;
  minus = marked_sub;
  times = marked_mul;
  over = marked_div;
  root = marked_root;
  unsigned = marked_magnitude;
  also = also;
  inside = is_inside;
}

-- +0
abbrev pub zero_of : {A : Type 0} → Arith A → A
zero_of N = N.of plus_zero
