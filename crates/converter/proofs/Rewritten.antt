-- What a change makes of one value. The quotient by 2 ^ u is the product with 2 ^ -u, so that one power of two says it; and where the value scaled by this power is an f64 number, it is that number.
use Prim.Native.Nat.{ℕ, ◌*◌}
use native.Mathlib.Omega.{arith}
use mathlib.Core.Path.{◌≡◌, refl, sym, ap₂, ◌∙◌, subst}
use mathlib.Core.Bool.{Bool, true, false, cond}
use lib.Dec.{T}
use lib.IntN.{ℤ, neg_ℤ}
use lib.Ieee.{Float, nan, inf, fin, Format, binary64, up, down, round, fits, mul, div, unlike}
use lib.Ieee.Fits.{mul-fits}
use Rattle.arithmetic.specs.Numbers.{plus_zero}
use Rattle.arithmetic.specs.Scale.{scale, power_of_two}
use Rattle.arithmetic.proofs.Operations.{up_neg, down-neg}
use Rattle.arithmetic.proofs.PowerOfTwo.{scale-is-mul}
use Rattle.converter.specs.Converted.{Change, rewritten}
use Rattle.converter.specs.ReadAlike.{moves}

pub quotient-is-product : (f : Format) (u : ℤ) (x : Float) → div f x (power_of_two u) ≡ mul f x (power_of_two (neg_ℤ u))
unfolding div mul
quotient-is-product f u nan = refl
quotient-is-product f u (inf s) = refl
quotient-is-product f u (fin s m e) =
    ap₂ (round f (unlike s false)) (over (m * up e) (up (neg_ℤ u)) (down u) (up_neg u)) (under (up u) (down e) (down (neg_ℤ u)) (down-neg u))
  where
    over : (a b d : ℕ) → b ≡ d → a * d ≡ a * (1 * b)
    over a b d h = rw h (omega arith)

    under : (a e d : ℕ) → d ≡ a → 1 * a * e ≡ e * d
    under a e d h = rw h (omega arith)

module _ (g : Change) (k n r c : ℕ) where
  pub rewritten-product : (x : Float) → rewritten g k n r c x ≡ mul binary64 x (power_of_two (moves g k n r c))
  unfolding rewritten
  rewritten-product x = go (g.divides k)
    where
      go : (b : Bool) → cond b (div binary64 x (power_of_two (g.shift k n r c))) (mul binary64 x (power_of_two (g.shift k n r c))) ≡ mul binary64 x (power_of_two (cond b (neg_ℤ (g.shift k n r c)) (g.shift k n r c)))
      go true = quotient-is-product binary64 (g.shift k n r c) x
      go false = refl

  pub rewritten-fits : (x : Float) → T (fits binary64 (rewritten g k n r c x))
  rewritten-fits x = subst (λ (y : Float). T (fits binary64 y)) (sym (rewritten-product x)) (mul-fits binary64 x (power_of_two (moves g k n r c)))

  -- exact scaling by powers of two
  pub rewritten-scales : (x : Float) → T (fits binary64 (scale (moves g k n r c) x)) → rewritten g k n r c x ≡ scale (moves g k n r c) x
  rewritten-scales x t = rewritten-product x ∙ scale-is-mul binary64 (moves g k n r c) x t

  pub rewritten-zero : plus_zero ≡ rewritten g k n r c plus_zero
  unfolding fits
  rewritten-zero = sym (rewritten-scales plus_zero tt)
