-- Not needed to check document 01: names that join the code to its definitions.
-- The mark of a product's cell in three parts, each counted apart: the row of the left factor, the column of the right one, and the results of the steps.
use Rattle.std.specs.Prelude.{ℕ, ◌<◌, Bool, ◌&&◌, List, T, Float}
use Rattle.std.specs.Float.{binary64}
use Rattle.std.specs.Float.Ieee.{add, mul}
use Rattle.arithmetic.specs.declared.Marked.{Marked}
use Rattle.arithmetic.specs.Numbers.{is_zero, is_finite}
use Rattle.arithmetic.specs.Marks.{Mark, marked, no_mark, join_marks, own_mark, reported, product_mark}
use Rattle.algebra.specs.Fold.{fold}
use Rattle.algebra.specs.Table.{row}
use Rattle.algebra.specs.Kind.{Arith, marks}
use Rattle.algebra.specs.Product.{at, cell}
use Rattle.algebra.specs.Small.{MarkedRows}

-- what row i of a reports over n cells, and column j of b
unfoldable pub row_mark : ℕ → MarkedRows → ℕ → Mark
row_mark n a i = fold 0 n (λ k m. join_marks m (reported (at marks a i k))) no_mark

unfoldable pub column_mark : ℕ → MarkedRows → ℕ → Mark
column_mark n b j = fold 0 n (λ k m. join_marks m (reported (at marks b k j))) no_mark

-- those of c columns, in C places
unfoldable pub column_marks : ℕ → ℕ → ℕ → MarkedRows → List Mark
column_marks C c n b = row no_mark C c (column_mark n b)

-- The marked numbers again, but a product counts nothing of its factors: over this kind a cell's mark is what the inner results report.
abbrev pub results : Arith Marked
results = record {
  value = marks.value;
  of = marks.of;
  void = marks.void;
  plus = λ a b. let r = add binary64 a.value b.value in marked r (join_marks (join_marks a.inside b.inside) (own_mark r));
  minus = marks.minus;
  times = λ a b. let p = mul binary64 a.value b.value in marked p (product_mark a.value b.value p);
  over = marks.over;
  root = marks.root;
  unsigned = marks.unsigned;
  also = marks.also;
  inside = marks.inside;
}

-- the three together
abbrev pub in_parts : ℕ → MarkedRows → MarkedRows → ℕ → ℕ → Marked
in_parts n a b i j = let s = cell results n a b i j in marked s.value (join_marks s.inside (join_marks (row_mark n a i) (column_mark n b j)))

-- where `finite` is true, so is every number of r rows and c columns
pub record Finite (finite : Bool) (r c : ℕ) (m : MarkedRows) : Type 0 where
  pub each : T finite → (i j : ℕ) → i < r → j < c → T (is_finite (at marks m i j).value)

-- x is a zero, and all that it is to be multiplied by is finite
unfoldable pub adds_nothing : Float → Bool → Bool
adds_nothing x finite = finite && is_zero x
