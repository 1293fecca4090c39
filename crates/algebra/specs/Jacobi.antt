-- Document 01: "Jacobi, symmetric, upper half read: 30 sweeps over pairs (a,b), a < b, row by row. Where A_ab ≠ 0, rotate if A_ab² > 2^-100 × (A_aa × A_bb).
-- z = (A_bb − A_aa)/(2A_ab); t = sign(z)/(|z| + sqrt(z² + 1)), sign(0) = 1; c = 1/sqrt(t² + 1); s = t × c. A_aa loses t × A_ab, A_bb gains it, A_ab becomes +0;
-- for other r, (A_ra, A_rb) becomes (cA_ra − sA_rb, sA_ra + cA_rb), as do vector columns, from the identity. The diagonal is the answer, with the number of
-- rotations made, at most 450." The matrix is kept whole and symmetric; 2^-100 is the parameter `limit`.
use Rattle.std.specs.Prelude.{ℕ, ◌+◌, Bool, true, false, not, cond, ◌&&◌, List, [], eqb, ltb, pos, get_or, set, Float}
use Rattle.std.specs.Float.{fin}
use Rattle.std.specs.Float.Ieee.{lt}
use Rattle.arithmetic.specs.Numbers.{one, is_zero, sign}
use Rattle.algebra.specs.Fold.{fold}
use Rattle.algebra.specs.Table.{table}
use Rattle.algebra.specs.Kind.{Arith, zero_of}
use Rattle.algebra.specs.Product.{at, identity}

-- the matrix, the vectors, the rotations made, and a number whose mark counts every product of the rotation test
pub record State (A : Type 0) : Type 0 where
  pub a : List (List A)
  pub v : List (List A)
  pub count : ℕ
  pub seen : A

abbrev pub two : Float
two = fin false 1 (pos 1)

module _ {A : Type 0} (N : Arith A) where
  -- z, t, c and s of a rotation; `contrast_basis` uses the same four
  unfoldable pub ratio : A → A → A → A
  ratio aa bb ab = N.over (N.minus bb aa) (N.times (N.of two) ab)

  unfoldable pub tangent : A → A
  tangent z = N.over (N.of (sign (N.value z))) (N.plus (N.unsigned z) (N.root (N.plus (N.times z z) (N.of one))))

  unfoldable pub cosine : A → A
  cosine t = N.over (N.of one) (N.root (N.plus (N.times t t) (N.of one)))

  unfoldable pub sine : A → A → A
  sine t c = N.times t c

  -- c x − s y, and s x + c y
  unfoldable pub turned_first : A → A → A → A → A
  turned_first c s x y = N.minus (N.times c x) (N.times s y)

  unfoldable pub turned_second : A → A → A → A → A
  turned_second c s x y = N.plus (N.times s x) (N.times c y)

  -- a row whose cells p and q are turned
  unfoldable pub turn_row : ℕ → ℕ → A → A → List A → List A
  turn_row p q c s r =
      set (set r p (turned_first c s (get_or r p N.void) (get_or r q N.void))) q (turned_second c s (get_or r p N.void) (get_or r q N.void))

  -- columns p and q of the first n rows turned
  unfoldable pub turn_columns : ℕ → ℕ → ℕ → A → A → List (List A) → List (List A)
  turn_columns n p q c s m = fold 0 n (λ i y. set y i (turn_row p q c s (get_or m i []))) m

  -- cell (i, j) of the rotated matrix, from m and from w, which is m with its columns p and q turned; rows p and q mirror the columns
  unfoldable pub rotated_cell : ℕ → ℕ → A → List (List A) → List (List A) → ℕ → ℕ → A
  rotated_cell p q t m w i j =
      cond (eqb i p) (cond (eqb j p) (N.minus (at N m p p) (N.times t (at N m p q))) (cond (eqb j q) (zero_of N) (at N w j p)))
      (cond (eqb i q) (cond (eqb j q) (N.plus (at N m q q) (N.times t (at N m p q))) (cond (eqb j p) (zero_of N) (at N w j q)))
      (at N w i j))

  unfoldable pub rotated : ℕ → ℕ → ℕ → ℕ → ℕ → A → A → A → List (List A) → List (List A)
  rotated R C n p q t c s m = table (zero_of N) R C n n (rotated_cell p q t m (turn_columns n p q c s m))

  -- the two sides of the rotation test
  unfoldable pub squared : ℕ → ℕ → List (List A) → A
  squared p q m = N.times (at N m p q) (at N m p q)

  unfoldable pub bound : Float → ℕ → ℕ → List (List A) → A
  bound limit p q m = N.times (N.of limit) (N.times (at N m p p) (at N m q q))

  -- the pair (p, q) with A_pq ≠ 0: tested, and rotated if the test says so
  unfoldable pub rotate_tested : Float → ℕ → ℕ → ℕ → ℕ → ℕ → State A → State A
  rotate_tested limit R C n p q x =
      let l : A = squared p q x.a in
      let r : A = bound limit p q x.a in
      let seen : A = N.also x.seen (N.also l r) in
      let t : A = tangent (ratio (at N x.a p p) (at N x.a q q) (at N x.a p q)) in
      let c : A = cosine t in
      let s : A = sine t c in
      cond (lt (N.value r) (N.value l))
      (record { a = rotated R C n p q t c s x.a; v = turn_columns n p q c s x.v; count = x.count + 1; seen = seen })
      (record { a = x.a; v = x.v; count = x.count; seen = seen })

  unfoldable pub rotate : Float → ℕ → ℕ → ℕ → ℕ → ℕ → State A → State A
  rotate limit R C n p q x = cond (is_zero (N.value (at N x.a p q))) x (rotate_tested limit R C n p q x)

  -- the pairs of row p up to column k; the rows up to k of a sweep; k sweeps
  unfoldable pub row_to : ℕ → Float → ℕ → ℕ → ℕ → ℕ → State A → State A
  row_to k limit R C n p x = fold (p + 1) k (λ q y. rotate limit R C n p q y) x

  unfoldable pub sweep_to : ℕ → Float → ℕ → ℕ → ℕ → State A → State A
  sweep_to k limit R C n x = fold 0 k (λ p y. row_to n limit R C n p y) x

  unfoldable pub sweeps_to : ℕ → Float → ℕ → ℕ → ℕ → State A → State A
  sweeps_to k limit R C n x = fold 0 k (λ i y. sweep_to n limit R C n y) x

  -- the matrix with its lower half taken from the upper
  unfoldable pub mirrored : ℕ → ℕ → ℕ → List (List A) → List (List A)
  mirrored R C n m = table (zero_of N) R C n n (λ i j. cond (ltb j i) (at N m j i) (at N m i j))

  -- 30 sweeps, with the vectors from the identity
  unfoldable pub jacobi : Float → ℕ → ℕ → ℕ → List (List A) → State A
  jacobi limit R C n m = sweeps_to 30 limit R C n (record { a = mirrored R C n m; v = identity N R C n; count = 0; seen = zero_of N })
