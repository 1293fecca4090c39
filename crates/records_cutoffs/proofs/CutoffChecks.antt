-- What each look at a record of a table tells: one that is wrong makes it bad, and where none is the value decides.
use Prim.Native.Nat.{ℕ}
use mathlib.Core.Path.{◌≡◌, refl}
use mathlib.Core.Bool.{Bool, true, false, not, ◌||◌}
use mathlib.Core.List.{List}
use lib.Dec.{eqb}
use lib.Ieee.{Float, lt}
use borrow.Author.Tests.{eq-eqb, ne_eqb}
use Rattle.arithmetic.specs.Numbers.{is_finite}
use Rattle.records.specs.format.File.{kind_of, row_of, column_of, padding_of, count_of, value_of}
use Rattle.records.specs.readers.CutoffTable.{floor_of, bad_cutoff}

-- seven conditions, of which one holds
module _ (k r d p n f v : Bool) where
  abbrev one_of : Bool
  one_of = k || r || d || p || n || f || v

  first_holds : k ≡ true → true ≡ one_of
  first_holds e = rw e

  or-true : (b : Bool) → b || true ≡ true
  or-true true = refl
  or-true false = refl

  second_holds : r ≡ true → true ≡ one_of
  second_holds e = rw (e, or-true k)

  third-holds : d ≡ true → true ≡ one_of
  third-holds e = rw (e, or-true (k || r))

  fourth-holds : p ≡ true → true ≡ one_of
  fourth-holds e = rw (e, or-true (k || r || d))

  fifth-holds : n ≡ true → true ≡ one_of
  fifth-holds e = rw (e, or-true (k || r || d || p))

  sixth-holds : f ≡ true → true ≡ one_of
  sixth-holds e = rw (e, or-true (k || r || d || p || n))

-- a number that is not the one asked for
other : (x n m : ℕ) → x ≡ n → (x ≡ m → ⊥) → not (eqb n m) ≡ true
other x n m e h = rw (ne_eqb n m (λ q. h (rw e q)))

module _ (lab : List ℕ) (i : ℕ) where
  pub wrong-kind : (x : ℕ) → x ≡ kind_of lab i → (x ≡ 20 → ⊥) → true ≡ bad_cutoff lab i
  unfolding bad_cutoff
  wrong-kind x e h = first_holds (not (eqb (kind_of lab i) 20)) (not (eqb (row_of lab i) i)) (not (eqb (column_of lab i) 0)) (not (eqb (padding_of lab i) 0)) (not (eqb (count_of lab i) 0)) (not (is_finite (value_of lab i))) (not (lt (floor_of i) (value_of lab i))) (other x (kind_of lab i) 20 e h)

  pub wrong_row : (x : ℕ) → x ≡ row_of lab i → (x ≡ i → ⊥) → true ≡ bad_cutoff lab i
  unfolding bad_cutoff
  wrong_row x e h = second_holds (not (eqb (kind_of lab i) 20)) (not (eqb (row_of lab i) i)) (not (eqb (column_of lab i) 0)) (not (eqb (padding_of lab i) 0)) (not (eqb (count_of lab i) 0)) (not (is_finite (value_of lab i))) (not (lt (floor_of i) (value_of lab i))) (other x (row_of lab i) i e h)

  pub wrong-column : (x : ℕ) → x ≡ column_of lab i → (x ≡ 0 → ⊥) → true ≡ bad_cutoff lab i
  unfolding bad_cutoff
  wrong-column x e h = third-holds (not (eqb (kind_of lab i) 20)) (not (eqb (row_of lab i) i)) (not (eqb (column_of lab i) 0)) (not (eqb (padding_of lab i) 0)) (not (eqb (count_of lab i) 0)) (not (is_finite (value_of lab i))) (not (lt (floor_of i) (value_of lab i))) (other x (column_of lab i) 0 e h)

  pub wrong-padding : (x : ℕ) → x ≡ padding_of lab i → (x ≡ 0 → ⊥) → true ≡ bad_cutoff lab i
  unfolding bad_cutoff
  wrong-padding x e h = fourth-holds (not (eqb (kind_of lab i) 20)) (not (eqb (row_of lab i) i)) (not (eqb (column_of lab i) 0)) (not (eqb (padding_of lab i) 0)) (not (eqb (count_of lab i) 0)) (not (is_finite (value_of lab i))) (not (lt (floor_of i) (value_of lab i))) (other x (padding_of lab i) 0 e h)

  pub wrong-count : (x : ℕ) → x ≡ count_of lab i → (x ≡ 0 → ⊥) → true ≡ bad_cutoff lab i
  unfolding bad_cutoff
  wrong-count x e h = fifth-holds (not (eqb (kind_of lab i) 20)) (not (eqb (row_of lab i) i)) (not (eqb (column_of lab i) 0)) (not (eqb (padding_of lab i) 0)) (not (eqb (count_of lab i) 0)) (not (is_finite (value_of lab i))) (not (lt (floor_of i) (value_of lab i))) (other x (count_of lab i) 0 e h)

  pub not_finite : (x : Bool) → x ≡ is_finite (value_of lab i) → not x ≡ true → true ≡ bad_cutoff lab i
  unfolding bad_cutoff
  not_finite x e h = sixth-holds (not (eqb (kind_of lab i) 20)) (not (eqb (row_of lab i) i)) (not (eqb (column_of lab i) 0)) (not (eqb (padding_of lab i) 0)) (not (eqb (count_of lab i) 0)) (not (is_finite (value_of lab i))) (not (lt (floor_of i) (value_of lab i))) (rw (← e) h)

  -- the fields are those of row i, and the value is finite
  pub record Found : Type 0 where
    pub kind : kind_of lab i ≡ 20
    pub row : row_of lab i ≡ i
    pub column : column_of lab i ≡ 0
    pub padding : padding_of lab i ≡ 0
    pub number : count_of lab i ≡ 0
    pub finite : is_finite (value_of lab i) ≡ true

  pub value-decides : (x v : Float) → Found → x ≡ floor_of i → v ≡ value_of lab i → not (lt x v) ≡ bad_cutoff lab i
  unfolding bad_cutoff
  value-decides x v f e q = rw (e, q, f.kind, eq-eqb (row_of lab i) i f.row, f.column, f.padding, f.number, f.finite)
