-- The contrast with each row over its largest magnitude: each cell is at most 1, and some cell is 1.
use mathlib.Core.Path.{◌≡◌, refl, sym, ap, ◌∙◌, subst}
use mathlib.Core.Logic.{◌⊎◌, inl, inr}
use mathlib.Core.Bool.{Bool, true, false, cond}
use mathlib.Core.List.{List, []}
use Prim.Native.Nat.{ℕ, zero, ◌+◌, ◌*◌, ◌^◌, ◌≤◌, ◌<◌}
use native.Mathlib.Nat.{le_trans, le_of_eq, le_refl, le_of_lt, lt_of_lt_of_le, lt_irrefl, mul-le-mul_right, pos_of_ne-zero}
use native.Mathlib.Decide.{ℕ_discrete, dec_lt}
use native.Mathlib.Omega.{arith}
use lib.Dec.{T, ltb, lit≤, lit<}
use lib.ListN.{length, get_or}
use lib.Ieee.{Float, nan, binary64, unlike, div, lt, fits}
use borrow.Author.Tests.{lt-ltb, le-ltb}
use Rattle.arithmetic.specs.declared.Marked.{Marked}
use Rattle.arithmetic.specs.Numbers.{plus_zero, magnitude, is_zero, is_finite}
use Rattle.arithmetic.specs.Marks.{given, marked, marked_div}
use Rattle.arithmetic.proofs.MarkLaws.{div_value}
use Rattle.algebra.specs.Kind.{floats, marks}
use Rattle.algebra.specs.Product.{at}
use Rattle.algebra.proofs.FoldLaws.{fold-steps}
use Rattle.algebra.proofs.TableLaws.{table_at, length-table}
use Rattle.algebra.specs.Small.{Rows, values}
use Rattle.tests.specs.Basis.{largest, divided_cell, divided}
use Rattle.tests_basis.proofs.RankRounding.{fl}
use Rattle.tests_basis.proofs.RankUnits.{unit, Is, units_of, zero-units, nil-units, magnitude-units, lt-units, div-rounds}
use Rattle.tests_basis.proofs.RankBounds.{Most, rounds-most, fl-least}
use Rattle.tests_basis.proofs.RankTurn.{Least, same_size}
use Rattle.tests_basis.proofs.RankSweeps.{Good}

-- a contrast of finite cells, not all of them zero
pub record Contrast (rows p : ℕ) (l : Rows) : Type 0 where
  pub finite : (i j : ℕ) → i < rows → j < p → T (is_finite (at floats l i j))
  pub fine : (i j : ℕ) → i < rows → j < p → T (fits binary64 (at floats l i j))
  pub i : ℕ
  pub j : ℕ
  pub in_rows : i < rows
  pub in_columns : j < p
  pub some : is_zero (at floats l i j) ≡ false

-- ---- the largest magnitude of a row
-- s is the largest magnitude of the first q cells, and 0 or that of a cell
record Largest (xs : List Float) (p q : ℕ) (s : Float) : Type 0 where
  size : ℕ
  is : Is s false size
  most : (b : ℕ) → b < q → (t : Bool) (a : ℕ) → Is (get_or xs b nan) t a → a ≤ size
  met : (size ≡ 0) ⊎ ((b : ℕ) × (b < p) × (t : Bool) × Is (get_or xs b nan) t size)

largest-is : (p : ℕ) (xs : List Float) → ((b : ℕ) → b < p → (t : Bool) × (a : ℕ) × Is (get_or xs b nan) t a) → Largest xs p p (largest p xs)
unfolding largest
largest-is p xs u =
    fold-steps (λ q s. Largest xs p q s) 0 p (λ j s. cond (lt s (magnitude (get_or xs j nan))) (magnitude (get_or xs j nan)) s) plus_zero (omega arith)
    (record { size = 0; is = nil-units; most = λ b h t a i. absurd (omega arith); met = inl refl })
    (λ j h l s r. step j s l r)
  where
    step : (j : ℕ) (s : Float) → j < p → Largest xs p j s → Largest xs p (j + 1) (cond (lt s (magnitude (get_or xs j nan))) (magnitude (get_or xs j nan)) s)
    step j s l r = go (dec_lt r.size a)
      where
        a : ℕ
        a = (u j l).1

        i : Is (get_or xs j nan) (u j l).0 a
        i = (u j l).2

        test : lt s (magnitude (get_or xs j nan)) ≡ ltb r.size a
        test = lt-units r.is (magnitude-units i)

        most : (n : ℕ) → r.size ≤ n → a ≤ n → (b : ℕ) → b < j + 1 → (t : Bool) (c : ℕ) → Is (get_or xs b nan) t c → c ≤ n
        most n h k b m t c o = at_last (ℕ_discrete b j)
          where
            at_last : Dec (b ≡ j) → c ≤ n
            at_last (yes e) = le_trans (le_of_eq (same_size (subst (λ (z : ℕ). Is (get_or xs z nan) t c) e o) i)) k
            at_last (no e) = le_trans (r.most b (omega arith) t c o) h

        go : Dec (r.size < a) → Largest xs p (j + 1) (cond (lt s (magnitude (get_or xs j nan))) (magnitude (get_or xs j nan)) s)
        go (yes h) =
            subst (λ (z : Bool). Largest xs p (j + 1) (cond z (magnitude (get_or xs j nan)) s)) (sym (test ∙ lt-ltb r.size a h))
            (record { size = a; is = magnitude-units i; most = most a (le_of_lt h) (le_refl a); met = inr (j, l, (u j l).0, i) })
        go (no h) =
            subst (λ (z : Bool). Largest xs p (j + 1) (cond z (magnitude (get_or xs j nan)) s)) (sym (test ∙ le-ltb r.size a (omega arith)))
            (record { size = r.size; is = r.is; most = most r.size (le_refl r.size) (omega arith); met = r.met })

-- ---- a divided cell
over-cell : (p : ℕ) (l : Rows) (i j : ℕ) → lt plus_zero (largest p (get_or l i [])) ≡ true → (divided_cell marks p l i j).value ≡ div binary64 (at floats l i j) (largest p (get_or l i []))
unfolding divided_cell
over-cell p l i j e = rw e (div_value (given (at floats l i j)) (given (largest p (get_or l i []))))

as-cell : (p : ℕ) (l : Rows) (i j : ℕ) → lt plus_zero (largest p (get_or l i [])) ≡ false → (divided_cell marks p l i j).value ≡ at floats l i j
unfolding divided_cell
as-cell p l i j e = rw e

value-at : (rows p : ℕ) (l : Rows) (i j : ℕ) → rows ≤ 6 → p ≤ 6 → i < rows → j < p → at floats (values marks 6 6 rows p (divided marks rows p l)) i j ≡ (divided_cell marks p l i j).value
unfolding values divided
value-at rows p l i j R C h k =
    table_at plus_zero 6 6 rows p _ i j nan h k R C
    ∙ ap (λ (x : Marked). x.value) (table_at (given plus_zero) 6 6 rows p (divided_cell marks p l) i j (marked nan false) h k R C)

values-six : (rows p : ℕ) (d : List (List Marked)) → length (values marks 6 6 rows p d) ≡ 6
unfolding values
values-six rows p d = length-table plus_zero 6 6 rows p (λ i j. (at marks d i j).value)

-- a / n, for a at most n
quotient-most : (a n U : ℕ) → a ≤ n → a * U ≤ U * 2 ^ 0 * n
quotient-most a n U h =
    let e : a * U ≤ n * U = mul-le-mul_right U h in
    omega arith

quotient-least : (n U : ℕ) → U * n ≤ n * U * 2 ^ 0
quotient-least n U = omega arith

module _ {rows p : ℕ} {l : Rows} (R : rows ≤ 6) (P : p ≤ 6) (c : Contrast rows p l) where
  cell-units : (i j : ℕ) → i < rows → j < p → (s : Bool) × (n : ℕ) × Is (at floats l i j) s n
  cell-units i j h k = units_of (at floats l i j) (c.finite i j h k) (c.fine i j h k)

  scale-is : (i : ℕ) → i < rows → Largest (get_or l i []) p p (largest p (get_or l i []))
  scale-is i h = largest-is p (get_or l i []) (λ b k. cell-units i b h k)

  start-most : (i j : ℕ) → i < rows → j < p → Most (divided_cell marks p l i j).value (unit * 2 ^ 0)
  start-most i j h k = go (dec_lt 0 n)
    where
      s : Largest (get_or l i []) p p (largest p (get_or l i []))
      s = scale-is i h

      n : ℕ
      n = s.size

      test : lt plus_zero (largest p (get_or l i [])) ≡ ltb 0 n
      test = lt-units nil-units s.is

      u : (s : Bool) × (n : ℕ) × Is (at floats l i j) s n
      u = cell-units i j h k

      below : u.1 ≤ n
      below = s.most j k u.0 u.1 u.2

      none : (n U : ℕ) → (0 < n → ⊥) → n ≤ U * 2 ^ 0
      none n U g = omega arith

      go : Dec (0 < n) → Most (divided_cell marks p l i j).value (unit * 2 ^ 0)
      go (yes g) =
          let r = rounds-most 0 (div-rounds u.2 s.is g) g (lit< tt) (quotient-most u.1 n unit below) in
          subst (λ (x : Float). Most x (unit * 2 ^ 0)) (sym (over-cell p l i j (test ∙ lt-ltb 0 n g)))
          (record { sign = unlike u.0 false; size = fl (u.1 * unit) n; is = r.0; most = r.1 })
      go (no g) =
          subst (λ (x : Float). Most x (unit * 2 ^ 0)) (sym (as-cell p l i j (test ∙ le-ltb 0 n (omega arith))))
          (record { sign = u.0; size = u.1; is = u.2; most = le_trans below (none n unit g) })

  -- the cell with the largest magnitude of the row of a cell that is not zero
  start-least : (b : ℕ) × (b < p) × Least (divided_cell marks p l c.i b).value 0
  start-least = go s.met
    where
      s : Largest (get_or l c.i []) p p (largest p (get_or l c.i []))
      s = scale-is c.i c.in_rows

      n : ℕ
      n = s.size

      u : (s : Bool) × (n : ℕ) × Is (at floats l c.i c.j) s n
      u = cell-units c.i c.j c.in_rows c.in_columns

      cell-pos : 0 < u.1
      cell-pos = pos_of_ne-zero (λ e. subst T c.some (zero-units u.2 e))

      above : 0 < n
      above = lt_of_lt_of_le cell-pos (s.most c.j c.in_columns u.0 u.1 u.2)

      test : lt plus_zero (largest p (get_or l c.i [])) ≡ true
      test = lt-units nil-units s.is ∙ lt-ltb 0 n above

      go : (n ≡ 0) ⊎ ((b : ℕ) × (b < p) × (t : Bool) × Is (at floats l c.i b) t n) → (b : ℕ) × (b < p) × Least (divided_cell marks p l c.i b).value 0
      go (inl e) = absurd (lt_irrefl 0 (subst (λ (z : ℕ). 0 < z) e above))
      go (inr (b, h, t, i)) =
          let r = rounds-most 0 (div-rounds i s.is above) above (lit< tt) (quotient-most n n unit (le_refl n)) in (
            b,
            h,
            subst (λ (x : Float). Least x 0) (sym (over-cell p l c.i b test))
                (record { sign = unlike t false; size = fl (n * unit) n; is = r.0; least = fl-least (n * unit) n 0 above (lit≤ tt) (quotient-least n unit) }),
          )

  pub good_start : Good rows p 0 (values marks 6 6 rows p (divided marks rows p l))
  good_start =
      let w = start-least in
      record {
        six = values-six rows p (divided marks rows p l);
        cells = λ i j h k. subst (λ (x : Float). Most x (unit * 2 ^ 0)) (sym (value-at rows p l i j R P h k)) (start-most i j h k);
        i = c.i;
        j = w.0;
        in_rows = c.in_rows;
        in_columns = w.1;
        large = subst (λ (x : Float). Least x 0) (sym (value-at rows p l c.i w.0 R P c.in_rows w.1)) w.2;
      }
