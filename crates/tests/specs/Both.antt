-- What both tests take: document 01, "kr_modcomp.rs" and "ddf.rs". The marked steps of both are stated over a kind of number; the contracts cite them on marked numbers.
use Rattle.std.specs.Prelude.{ℕ, Bool, ◌&&◌, List, [], get_or, Float}
use Rattle.std.specs.Float.Ieee.{lt}
use Rattle.arithmetic.specs.Numbers.{plus_zero, is_finite}
use Rattle.algebra.specs.Fold.{fold}
use Rattle.algebra.specs.Kind.{Arith}
use Rattle.algebra.specs.Small.{all_marks}

-- "finite and > 0": what one row's variance, a2, r and an eigenvalue have to be
unfoldable pub is_positive : Float → Bool
is_positive x = is_finite x && lt plus_zero x

-- "(LD/sqrt v)²" and "(LβD/sqrt V)²": the square of one row
unfoldable pub square_one : {A : Type 0} → Arith A → A → A → A
square_one {A} N ld v = let t : A = N.over ld (N.root v) in N.times t t

-- `seen`, with the marks of n matrices of r rows and columns counted
unfoldable pub stack_seen : {A : Type 0} → Arith A → ℕ → ℕ → List (List (List A)) → A → A
stack_seen N n r ms seen = fold 0 n (λ i s. all_marks N r r (get_or ms i []) s) seen
