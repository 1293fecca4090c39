-- Two values, the second the first times 2 ^ u: kept by each operation whose result can be scaled. No marks here.
use mathlib.Core.Path.{◌≡◌, ap, ◌∙◌}
use mathlib.Core.Logic.{◌⊎◌}
use lib.IntN.{ℤ, ◌+ℤ◌, ◌-ℤ◌}
use lib.Dec.{T}
use lib.Ieee.{Float, binary64, fits, add, sub, mul, div}
use lib.Ieee.Fits.{add-fits, sub-fits, mul-fits, div-fits}
use Rattle.arithmetic.specs.Scale.{scale}
use Rattle.arithmetic.proofs.Operations.{Zero, Safe, add-scale, sub-scale, mul-scale, div-scale}

pub record Tied (u : ℤ) (x x' : Float) : Type 0 where
  pub fine : T (fits binary64 x)
  pub moved : x' ≡ scale u x

pub add-tied : (u : ℤ) {x y x' y' : Float} → Tied u x x' → Tied u y y' → Safe binary64 u (add binary64 x y) → Tied u (add binary64 x y) (add binary64 x' y')
add-tied u {x} {y} {x'} {y'} p q k = record {
  fine = add-fits binary64 x y;
  moved = ap (λ (z : Float). add binary64 z y') p.moved ∙ ap (add binary64 (scale u x)) q.moved ∙ add-scale binary64 u x y p.fine q.fine k;
}

pub sub-tied : (u : ℤ) {x y x' y' : Float} → Tied u x x' → Tied u y y' → Safe binary64 u (sub binary64 x y) → Tied u (sub binary64 x y) (sub binary64 x' y')
sub-tied u {x} {y} {x'} {y'} p q k = record {
  fine = sub-fits binary64 x y;
  moved = ap (λ (z : Float). sub binary64 z y') p.moved ∙ ap (sub binary64 (scale u x)) q.moved ∙ sub-scale binary64 u x y p.fine q.fine k;
}

pub mul-tied : (u v : ℤ) {x y x' y' : Float} → Tied u x x' → Tied v y y' → Safe binary64 (u +ℤ v) (mul binary64 x y) → (Zero (mul binary64 x y) → Zero x ⊎ Zero y) → Tied (u +ℤ v) (mul binary64 x y) (mul binary64 x' y')
mul-tied u v {x} {y} {x'} {y'} p q k z = record {
  fine = mul-fits binary64 x y;
  moved = ap (λ (w : Float). mul binary64 w y') p.moved ∙ ap (mul binary64 (scale u x)) q.moved ∙ mul-scale binary64 u v x y k z;
}

pub div-tied : (u v : ℤ) {x y x' y' : Float} → Tied u x x' → Tied v y y' → Safe binary64 (u -ℤ v) (div binary64 x y) → (Zero (div binary64 x y) → Zero x) → Tied (u -ℤ v) (div binary64 x y) (div binary64 x' y')
div-tied u v {x} {y} {x'} {y'} p q k z = record {
  fine = div-fits binary64 x y;
  moved = ap (λ (w : Float). div binary64 w y') p.moved ∙ ap (div binary64 (scale u x)) q.moved ∙ div-scale binary64 u v x y k z;
}
