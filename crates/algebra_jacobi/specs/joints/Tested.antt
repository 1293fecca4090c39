-- Not needed to check document 01: names that join the code to its definitions.
-- A pair of Jacobi's sweeps as the code goes about it: the rotation test on three cells, and the two matrices rotated.
use Rattle.std.specs.Prelude.{ℕ, Bool, not, cond, ◌&&◌, Float}
use Rattle.std.specs.Float.Ieee.{lt}
use Rattle.arithmetic.specs.Numbers.{is_zero}
use Rattle.algebra.specs.Kind.{Arith}
use Rattle.algebra.specs.Product.{at}
use Rattle.algebra.specs.Jacobi.{State, ratio, tangent, cosine, sine, turn_columns, rotated}

module _ {A : Type 0} (N : Arith A) where
  -- the two sides of the rotation test
  abbrev pub left : A → A
  left pq = N.times pq pq

  abbrev pub right : Float → A → A → A
  right limit pp qq = N.times (N.of limit) (N.times pp qq)

  -- whether the pair rotates, by its cells A_pp, A_qq and A_pq
  unfoldable pub rotates : Float → A → A → A → Bool
  rotates limit pp qq pq = not (is_zero (N.value pq)) && lt (N.value (right limit pp qq)) (N.value (left pq))

  -- the state's `seen` after the pair: the two sides counted where a test is made, which is where A_pq ≠ 0
  unfoldable pub seen_after : Float → A → A → A → A → A
  seen_after limit pp qq pq seen = cond (is_zero (N.value pq)) seen (N.also seen (N.also (left pq) (right limit pp qq)))

  -- the matrix and the vectors rotated at the pair (p, q)
  unfoldable pub rotated_pair : ℕ → ℕ → ℕ → ℕ → ℕ → State A → State A
  rotated_pair R C n p q x =
      let t : A = tangent N (ratio N (at N x.a p p) (at N x.a q q) (at N x.a p q)) in
      let c : A = cosine N t in
      let s : A = sine N t c in
      record { a = rotated N R C n p q t c s x.a; v = turn_columns N n p q c s x.v; count = x.count; seen = x.seen }
