-- The row norms after the sweeps: finite, not negative, and not all zero.
use mathlib.Core.Path.{◌≡◌, sym, ap, ◌∙◌, subst}
use mathlib.Core.Logic.{◌⊎◌, inl, inr}
use mathlib.Core.Bool.{Bool, false}
use Prim.Native.Nat.{ℕ, zero, suc, ◌+◌, ◌*◌, ◌/◌, ◌^◌, ◌≤◌, ◌<◌, zero-le}
use native.Mathlib.Nat.{le_trans, le_of_eq, lt_of_lt_of_le, lt_irrefl, mul-pos, zero-mul, mul-le-mul, mul-le-mul_left, mul-le-mul_right, mul-div_cancel, eq-zero-or-pos}
use native.Mathlib.Decide.{dec_le}
use native.Mathlib.Omega.{arith}
use lib.Dec.{T, lit≤, lit<}
use lib.Pow.{pow_pos, pow_mono, pow-add}
use lib.ListN.{get_or}
use lib.Ieee.{Float, nan, inf, fin, binary64, up, down, add, mul, fits}
use lib.Ieee.Fits.{up_pos, down_pos, add-fits}
use lib.Ieee.Positive.{num, den}
use Rattle.arithmetic.specs.Numbers.{plus_zero}
use Rattle.arithmetic.specs.SquareRoot.{square_root}
use Rattle.algebra.specs.Table.{row}
use Rattle.algebra.specs.Kind.{floats}
use Rattle.algebra.specs.Product.{at, sum}
use Rattle.algebra.proofs.FoldLaws.{fold-steps, fold-keeps}
use Rattle.algebra.proofs.TableLaws.{row_at}
use Rattle.algebra.specs.Small.{Rows}
use Rattle.tests.specs.Basis.{row_dot, norms}
use Rattle.tests_basis.proofs.RankRounding.{fl, fl-ge}
use Rattle.tests_basis.proofs.RankUnits.{unit, unit-pos, Is, like, Rounds, first-zero, nil-units, mul-rounds, add_same}
use Rattle.tests_basis.proofs.RankRoot.{root-units}
use Rattle.tests_basis.proofs.RankBounds.{Most, rounds-most, product-most, fl-least}
use Rattle.tests_basis.proofs.RankTurn.{Least, same_size}
use Rattle.tests_basis.proofs.RankSweeps.{Good}

-- ---- the size of a number, in units
unfoldable pub sized : Float → ℕ
sized x = num x * unit / den x

pub sized-is : {x : Float} {s : Bool} {n : ℕ} → Is x s n → sized x ≡ n
unfolding sized
sized-is {x = nan} i = absurd i.val
sized-is {x = inf w} i = absurd i.val
sized-is {x = fin w m e} {n = n} i = ap (λ (z : ℕ). z / down e) i.val.1 ∙ mul-div_cancel n (down_pos e)

-- ---- the square of a row
-- the first q squares of row i: not negative, and not zero where a cell of them is large
record Square (m : Rows) (i b q : ℕ) (x : Float) : Type 0 where
  size : ℕ
  is : Is x false size
  most : size ≤ unit * 2 ^ (b + q)
  some : (j : ℕ) → j < q → Least (at floats m i j) 450 → 0 < size

square-large : (a U K L : ℕ) → L ≡ K * K → U ≤ a * K → U * U ≤ a * a * L
square-large a U K L e h = le_trans (mul-le-mul h h) (le_of_eq (turn a K L e))
  where
    turn : (a K L : ℕ) → L ≡ K * K → a * K * (a * K) ≡ a * a * L
    turn a K L e = omega (arith, ap (λ (z : ℕ). a * a * z) e)

positive : (U g K : ℕ) → 0 < U → U ≤ g * K → 0 < g
positive U zero K h l = absurd (lt_irrefl 0 (lt_of_lt_of_le h (le_trans l (le_of_eq (zero-mul K)))))
positive U (suc g) K h l = native.Mathlib.Nat.zero-lt-suc g

module _ {rows p : ℕ} {m : Rows} (P : p ≤ 6) (g : Good rows p 450 m) (i : ℕ) (I : i < rows) where
  step : (j : ℕ) (x : Float) → j < p → Square m i 900 j x → Square m i 900 (j + 1) (add binary64 x (mul binary64 (at floats m i j) (at floats m i j)))
  step j x l q =
      record {
        size = fl (q.size + w) 1;
        is = r.0;
        most = le_trans r.1 (le_of_eq (ap (λ (z : ℕ). unit * 2 ^ z) (next j)));
        some = λ h b e. fl-ge (q.size + w) 1 0 (pow_pos 0) (some h b e (native.Mathlib.Decide.ℕ_discrete h j));
      }
    where
      c : Most (at floats m i j) (unit * 2 ^ 450)
      c = g.cells i j I l

      a : ℕ
      a = c.size

      w : ℕ
      w = fl (a * a) unit

      t : Is (mul binary64 (at floats m i j) (at floats m i j)) false w × (w ≤ unit * 2 ^ 900)
      t =
          rounds-most 900 (subst (λ (b : Bool). Rounds (mul binary64 (at floats m i j) (at floats m i j)) b (a * a) unit) (like c.sign) (mul-rounds c.is c.is)) unit-pos (lit< tt)
          (product-most a a 450 450 c.most c.most)

      double : (x y U K J L : ℕ) → L ≡ 2 * K → J ≤ K → x ≤ U * K → y ≤ U * J → x + y ≤ U * L * 1
      double x y U K J L e k h l =
          let f : U * J ≤ U * K = mul-le-mul_left U k in
          omega (arith, ap (λ (z : ℕ). U * z) e, f)

      small : (j : ℕ) → j < p → suc (900 + j) < 1024
      small j l = omega arith

      more : (j : ℕ) → 900 ≤ 900 + j
      more j = omega arith

      next : (j : ℕ) → suc (900 + j) ≡ 900 + (j + 1)
      next j = omega arith

      r : Is (add binary64 x (mul binary64 (at floats m i j) (at floats m i j))) false (fl (q.size + w) 1) × (fl (q.size + w) 1 ≤ unit * 2 ^ suc (900 + j))
      r =
          rounds-most (suc (900 + j)) (add_same q.is t.0) (pow_pos 0) (small j l)
          (double q.size w unit (2 ^ (900 + j)) (2 ^ 900) (2 ^ suc (900 + j)) (native.Mathlib.Nat.pow-succ' 2 (900 + j)) (pow_mono (more j)) q.most t.1)

      some : (h : ℕ) → h < j + 1 → Least (at floats m i h) 450 → Dec (h ≡ j) → 2 ^ 0 * 1 ≤ q.size + w
      some h b e (yes d) =
          let f : Least (at floats m i j) 450 = subst (λ (z : ℕ). Least (at floats m i z) 450) d e in
          let k : unit ≤ a * 2 ^ 450 = subst (λ (z : ℕ). unit ≤ z * 2 ^ 450) (same_size f.is c.is) f.least in
          let n : unit ≤ w * 2 ^ 900 = fl-least (a * a) unit 900 unit-pos (lit≤ tt) (square-large a unit (2 ^ 450) (2 ^ 900) (pow-add 2 450 450) k) in
          above q.size w (positive unit w (2 ^ 900) unit-pos n)
        where
          above : (x y : ℕ) → 0 < y → 2 ^ 0 * 1 ≤ x + y
          above x y h = omega arith
      some h b e (no d) = above q.size w (q.some h (omega arith) e)
        where
          above : (x y : ℕ) → 0 < x → 2 ^ 0 * 1 ≤ x + y
          above x y h = omega arith

  square : Square m i 900 p (row_dot p m i i)
  unfolding row_dot sum
  square =
      fold-steps (λ j x. Square m i 900 j x) 0 p (λ j x. add binary64 x (mul binary64 (at floats m i j) (at floats m i j))) plus_zero (omega arith)
      (record { size = 0; is = nil-units; most = zero-le; some = λ j h e. absurd (omega arith) }) (λ j a b x q. step j x b q)

-- ---- the root of it
root-nil : {x : Float} {n : ℕ} → n ≡ 0 → Is x false n → Is (square_root x) false 0
unfolding square_root
root-nil {x = nan} z i = absurd i.val
root-nil {x = inf w} z i = absurd i.val
root-nil {x = fin w zero e} {n} z i = subst (λ (k : ℕ). Is (fin w zero e) false k) z i
root-nil {x = fin w (suc k) e} {n} z i =
    absurd (native.Mathlib.Nat.suc-ne-zero k (first-zero (suc k) (up e) unit (up_pos e) unit-pos (i.val.1 ∙ ap (λ (j : ℕ). j * down e) z ∙ zero-mul (down e))))

-- the root of at most B is at most B, B above 1
root-most : (U B n r : ℕ) → 0 < U → 2 ≤ B → n ≤ U * B → 999 * (r * r) ≤ 1000 * (n * U) → r ≤ U * B
root-most U B n r P h l k = go (dec_le r (U * B))
  where
    close : (x : ℕ) → 0 < x → 1998 * x ≤ 1000 * x → ⊥
    close x p q = omega arith

    go : Dec (r ≤ U * B) → r ≤ U * B
    go (yes a) = a
    go (no a) =
        let b : U * B * (U * B) ≤ r * r = mul-le-mul (native.Mathlib.Nat.le_of_lt (native.Mathlib.Nat.lt_of_not-le a)) (native.Mathlib.Nat.le_of_lt (native.Mathlib.Nat.lt_of_not-le a)) in
        let c : n * U ≤ U * B * U = mul-le-mul_right U l in
        let d : 2 * (U * U * B) ≤ B * (U * U * B) = mul-le-mul_right (U * U * B) h in
        absurd (close (U * U * B) (mul-pos (mul-pos P P) (lt_of_lt_of_le (pow_pos 0) (le_trans (lit≤ tt) h))) (omega (arith, b, c, d, k)))

positive-root : (U n r : ℕ) → 0 < U → 0 < n → 1000 * (n * U) ≤ 1001 * (r * r) → 0 < r
positive-root U n zero P h l = absurd (lt_irrefl 0 (lt_of_lt_of_le (mul-pos h P) (none (n * U) l)))
  where
    none : (x : ℕ) → 1000 * x ≤ 1001 * (0 * 0) → x ≤ 0
    none x h = omega arith
positive-root U n (suc r) P h l = native.Mathlib.Nat.zero-lt-suc r

pub record Norm (m : Rows) (p i : ℕ) (x : Float) : Type 0 where
  pub size : ℕ
  pub is : Is x false size
  pub most : size ≤ unit * 2 ^ 910
  pub some : (j : ℕ) → j < p → Least (at floats m i j) 450 → 0 < size

dot-fits : (p : ℕ) (m : Rows) (i j : ℕ) → T (fits binary64 (row_dot p m i j))
unfolding row_dot sum fits
dot-fits p m i j = fold-keeps (λ x. T (fits binary64 x)) 0 p (λ k s. add binary64 s (mul binary64 (at floats m i k) (at floats m j k))) plus_zero tt (λ k a b x t. add-fits binary64 x (mul binary64 (at floats m i k) (at floats m j k)))

module _ {rows p : ℕ} {m : Rows} (R : rows ≤ 6) (P : p ≤ 6) (g : Good rows p 450 m) where
  norm-root : (i : ℕ) → i < rows → Norm m p i (square_root (row_dot p m i i))
  norm-root i I = go (eq-zero-or-pos q.size)
    where
      q : Square m i 900 p (row_dot p m i i)
      q = square P g i I

      wide : (p : ℕ) → p ≤ 6 → 900 + p ≤ 910
      wide p h = omega arith

      go : (q.size ≡ 0) ⊎ (0 < q.size) → Norm m p i (square_root (row_dot p m i i))
      go (inl z) =
          record { size = 0; is = root-nil z q.is; most = zero-le; some = λ j h e. absurd (lt_irrefl 0 (subst (λ (k : ℕ). 0 < k) z (q.some j h e))) }
      go (inr a) =
          let r = root-units (dot-fits p m i i) q.is a in
          record {
            size = r.0;
            is = r.1;
            most = root-most unit (2 ^ 910) q.size r.0 unit-pos (pow_mono {i = 1} {j = 910} (lit≤ tt)) (le_trans q.most (mul-le-mul_left unit (pow_mono (wide p P)))) r.2.most;
            some = λ j h e. positive-root unit q.size r.0 unit-pos a r.2.least;
          }

  pub norm-at : (i : ℕ) → i < rows → Norm m p i (get_or (norms rows p m) i nan)
  unfolding norms
  norm-at i I = subst (λ (x : Float). Norm m p i x) (sym (row_at plus_zero 6 rows (λ i. square_root (row_dot p m i i)) i nan I R)) (norm-root i I)
