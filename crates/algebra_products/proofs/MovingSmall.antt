-- Small matrices of marked numbers: what a count of all marks says of each cell, and how given cells, chained products and taken values go with scaled inputs.
use Prim.Native.Nat.{ℕ, ◌≤◌, ◌<◌}
use native.Mathlib.Omega.{arith}
use mathlib.Core.Path.{◌≡◌, refl, sym, subst}
use mathlib.Core.List.{List, []}
use lib.Dec.{T}
use lib.IntN.{ℤ, pos, nat_abs, ◌+ℤ◌, +ℤ_idl, +ℤ_idr}
use lib.ListN.{get_or}
use lib.Ieee.{Float, binary64, fits}
use Rattle.arithmetic.specs.declared.Marked.{Marked}
use Rattle.arithmetic.specs.Numbers.{plus_zero}
use Rattle.arithmetic.specs.Marks.{given, also}
use Rattle.arithmetic.proofs.Tied.{Tied}
use Rattle.arithmetic.proofs.ScaleLaws.{scale-zero}
use Rattle.arithmetic.proofs.MarkLaws.{Bears, given-moves, also-bears}
use Rattle.algebra.specs.Fold.{fold}
use Rattle.algebra.specs.Kind.{floats, marks}
use Rattle.algebra.specs.Product.{at, product, transpose}
use Rattle.algebra.proofs.TableLaws.{table-ext}
use Rattle.algebra.proofs.MovingCells.{BearsCells, MovesCells, first-bears, step-bears, still-value, table-moves}
use Rattle.algebra.proofs.MovingProducts.{product-moves, transpose-moves}
use Rattle.algebra.specs.Small.{sandwich, given_cells, values, all_marks}

abbrev Matrix : Type 0
Matrix = List (List Marked)

-- what is not scaled is tied to itself
pub tied-still : (x : Float) → T (fits binary64 x) → Tied (pos 0) x x
tied-still x f = record { fine = f; moved = sym (scale-zero x) }

-- +0 is tied to itself by every shift
pub tied-nil : (u : ℤ) → Tied u plus_zero plus_zero
unfolding fits
tied-nil u = record { fine = tt; moved = refl }

-- one shift written in two ways
pub cells-by : {t r c : ℕ} {u v : ℤ} {a a' : Matrix} → u ≡ v → MovesCells t u r c a a' → MovesCells t v r c a a'
cells-by {t} {r} {c} {u} {v} {a} {a'} e p = subst (λ (z : ℤ). MovesCells t z r c a a') e p

module _ {t : ℕ} where
  -- a count of all marks: what was seen before it bears as much, and so does every cell
  pub all_marks-first : (r c : ℕ) (a : Matrix) (seen : Marked) → Bears t (all_marks marks r c a seen) → Bears t seen
  unfolding all_marks
  all_marks-first r c a seen h =
      let s : ℕ → ℕ → Marked → Marked = λ i j s. also s (at marks a i j) in
      first-bears 0 r (λ i x. fold 0 c (s i) x) seen (λ i b y. first-bears 0 c (s i) b (λ j x z. (also-bears x (at marks a i j) z).0) y) h

  pub all_marks-cells : (r c : ℕ) (a : Matrix) (seen : Marked) → Bears t (all_marks marks r c a seen) → BearsCells t r c a
  unfolding all_marks
  all_marks-cells r c a seen h =
      let s : ℕ → ℕ → Marked → Marked = λ i j s. also s (at marks a i j) in
      let o : ℕ → Marked → Marked = λ i x. fold 0 c (s i) x in
      let back : (i j : ℕ) (b : Marked) → Bears t (s i j b) → Bears t b = λ i j b y. (also-bears b (at marks a i j) y).0 in
      record {
        cell = λ i j k l.
            let b : Marked = fold 0 i o seen in
            let e : Bears t (fold 0 c (s i) b) = step-bears 0 r o seen (λ i b y. first-bears 0 c (s i) b (back i) y) h i (omega arith) k in
            (also-bears (fold 0 j (s i) b) (at marks a i j) (step-bears 0 c (s i) b (back i) e j (omega arith) l)).1;
      }

  -- the same of the first N matrices of several
  pub stack-first : (N r c : ℕ) (st : List Matrix) (seen : Marked) → Bears t (fold 0 N (λ i x. all_marks marks r c (get_or st i []) x) seen) → Bears t seen
  stack-first N r c st seen h = first-bears 0 N (λ i x. all_marks marks r c (get_or st i []) x) seen (λ i b y. all_marks-first r c (get_or st i []) b y) h

  pub stack-cells : (N r c : ℕ) (st : List Matrix) (seen : Marked) → Bears t (fold 0 N (λ i x. all_marks marks r c (get_or st i []) x) seen) → (i : ℕ) → i < N
      → BearsCells t r c (get_or st i [])
  stack-cells N r c st seen h i l =
      let o : ℕ → Marked → Marked = λ i x. all_marks marks r c (get_or st i []) x in
      all_marks-cells r c (get_or st i []) (fold 0 i o seen) (step-bears 0 N o seen (λ i b y. all_marks-first r c (get_or st i []) b y) h i (omega arith) l)

  -- given cells move as the numbers do
  pub given-cells : (R C r c : ℕ) → r ≤ R → c ≤ C → (u : ℤ) (a a' : List (List Float)) → ((i j : ℕ) → i < r → j < c → Tied u (at floats a i j) (at floats a' i j))
      → MovesCells t u r c (given_cells marks R C r c a) (given_cells marks R C r c a')
  unfolding given_cells
  given-cells R C r c hr hc u a a' p =
      table-moves u R C r c (λ i j. given (at floats a i j)) (λ i j. given (at floats a' i j)) hr hc
      (λ i j h l. given-moves u (at floats a i j) (at floats a' i j) (p i j h l))

  -- (l m) lᵀ moves as m does, where l stays
  pub sandwich-moves : (R C q p : ℕ) → q ≤ R → q ≤ C → p ≤ R → p ≤ C → (u : ℤ) → nat_abs u ≤ t → (l m l' m' : Matrix) → MovesCells t (pos 0) q p l l'
      → MovesCells t u p p m m' → MovesCells t u q q (sandwich marks R C q p l m) (sandwich marks R C q p l' m')
  unfolding sandwich
  sandwich-moves R C q p qr qc pr pc u n l m l' m' f g =
      let a : MovesCells t (pos 0 +ℤ u) q p (product marks R C q p p l m) (product marks R C q p p l' m') =
      product-moves R C q p qr pc (pos 0) u (rw +ℤ_idl n) p l m l' m' f g in
      let b : MovesCells t (pos 0) p q (transpose marks R C q p l) (transpose marks R C q p l') = transpose-moves R C p q pr qc (pos 0) l l' f in
      cells-by (+ℤ_idr u)
      (product-moves R C q q qr qc u (pos 0) (rw +ℤ_idr n) p (product marks R C q p p l m) (transpose marks R C q p l) (product marks R C q p p l' m')
      (transpose marks R C q p l') (cells-by (+ℤ_idl u) a) b)

  -- the values of cells that do not move
  pub values_agree : (R C r c : ℕ) (a a' : Matrix) → MovesCells t (pos 0) r c a a' → BearsCells t r c a → values marks R C r c a' ≡ values marks R C r c a
  unfolding values
  values_agree R C r c a a' p b =
      table-ext plus_zero R C r c (λ i j. (at marks a' i j).value) (λ i j. (at marks a i j).value)
      (λ i j h l. still-value (at marks a i j) (at marks a' i j) (p.cell i j h l) (b.cell i j h l))
