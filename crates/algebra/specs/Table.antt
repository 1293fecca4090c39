-- Matrices as lists of rows (document 01: "A small matrix travels as an array of rows"), of any element.
use Rattle.std.specs.Prelude.{ℕ, List, replicate}
use Rattle.algebra.specs.Fold.{span}

-- C elements: f 0, .., f (c - 1), and z after them
unfoldable pub row : {A : Type 0} → A → ℕ → ℕ → (ℕ → A) → List A
row z C c f = span 0 c f (replicate C z)

-- R rows of C elements z
unfoldable pub blank : {A : Type 0} → A → ℕ → ℕ → List (List A)
blank z R C = replicate R (replicate C z)

-- R rows of C elements: f i j where i < r and j < c, and z past these sizes
unfoldable pub table : {A : Type 0} → A → ℕ → ℕ → ℕ → ℕ → (ℕ → ℕ → A) → List (List A)
table z R C r c f = span 0 r (λ i. row z C c (f i)) (blank z R C)
