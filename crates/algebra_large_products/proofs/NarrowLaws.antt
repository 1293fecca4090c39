-- Laws of a large matrix times a narrow one in another slice.
use Prim.Native.Nat.{ℕ, ◌+◌, ◌*◌, ◌<◌, ◌≤◌}
use native.Mathlib.Omega.{arith}
use mathlib.Core.Path.{◌≡◌, sym, ap, ◌∙◌}
use mathlib.Core.List.{List}
use lib.ListN.{get_or, length}
use lib.Ieee.{Float, nan}
use Rattle.arithmetic.specs.Numbers.{plus_zero}
use Rattle.algebra.specs.Kind.{floats}
use Rattle.algebra.specs.Product.{at, product}
use Rattle.algebra_large.specs.joints.Slab.{rows_at, put_row}
use Rattle.algebra_large.specs.joints.Steps.{gained_to}
use Rattle.algebra_large.proofs.SlabLaws.{put_row-at, row-over, rows_at-at}
use Rattle.algebra_large.proofs.ProductLaws.{terms-more, gained-sum, product_at}

-- one more row
pub by-more : (x : ℕ → Float) (d c p q t k b : ℕ) (f : Float) (ws bs xs ys zs : List Float) → d + c ≤ length xs → b ≡ q + k * t → f ≡ get_or ws (p + k) nan
    → ys ≡ put_row d c (λ j. gained_to k ws p 1 0 bs q t (x j) j) xs
    → zs ≡ put_row d c (λ j. floats.plus (get_or ys (d + j) nan) (floats.times f (get_or bs (b + j) nan))) ys
    → zs ≡ put_row d c (λ j. gained_to (k + 1) ws p 1 0 bs q t (x j) j) xs
unfolding gained_to
by-more x d c p q t k b f ws bs xs ys zs hl eb ef ey ez =
    terms-more (λ k j. floats.times (get_or ws (p + k * 1 + 0) nan) (get_or bs (q + k * t + j) nan)) x (λ j. floats.times f (get_or bs (b + j) nan)) d c k xs ys zs hl ey ez
    (λ j l. let z : p + k * 1 + 0 ≡ p + k = omega arith in rw (ef, eb, z))

-- the gains of a row that was cleared first
pub by-cleared : (d c p u o q t n : ℕ) (ws bs xs ys zs : List Float) → d + c ≤ length xs → ys ≡ put_row d c (λ j. plus_zero) xs
    → zs ≡ put_row d c (λ j. gained_to n ws p u o bs q t (get_or ys (d + j) nan) j) ys → zs ≡ put_row d c (gained_to n ws p u o bs q t plus_zero) xs
by-cleared d c p u o q t n ws bs xs ys zs hl ey ez =
    row-over d c (λ j. plus_zero) (λ j. gained_to n ws p u o bs q t (get_or ys (d + j) nan) j) (gained_to n ws p u o bs q t plus_zero) xs ys zs hl ey ez
    (λ j l.
    ap (λ (x : Float). gained_to n ws p u o bs q t x j)
    (ap (λ (zs : List Float). get_or zs (d + j) nan) ey ∙ put_row-at d c (λ j. plus_zero) xs j l hl))

-- row i of the product
pub narrow-row : (s p t q r n c i b : ℕ) (ws bs : List Float) → i < r → b ≡ p + i * s → (j : ℕ) → j < c
    → gained_to n ws b 1 0 bs q t plus_zero j ≡ at floats (product floats r c r n c (rows_at s p r n ws) (rows_at t q n c bs)) i j
narrow-row s p t q r n c i b ws bs hi eb j hj =
    gained-sum (λ k. floats.times (at floats (rows_at s p r n ws) i k) (at floats (rows_at t q n c bs) k j)) n ws b 1 0 bs q t j
    (λ k hk.
    let e : b + k * 1 + 0 ≡ p + i * s + k = omega arith in
    rw (e, rows_at-at s p r n ws i k hi hk, rows_at-at t q n c bs k j hk hj))
    ∙ sym (product_at r n c (rows_at s p r n ws) (rows_at t q n c bs) i j hi hj)
