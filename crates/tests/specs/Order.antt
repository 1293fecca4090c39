-- Document 01: "falling, ties by index", said of the singular values of a contrast ("kr_modcomp.rs") and of the eigenvalues of V ("ddf.rs").
use Rattle.std.specs.Prelude.{ℕ, ◌+◌, Bool, cond, ◌&&◌, ◌||◌, List, eqb, ltb, get_or, Float}
use Rattle.std.specs.Float.{nan}
use Rattle.std.specs.Float.Ieee.{lt, eq}
use Rattle.algebra.specs.Fold.{fold}

-- number j stands before number i: it is larger, or equal with the lower index
unfoldable pub comes_before : List Float → ℕ → ℕ → Bool
comes_before xs j i = lt (get_or xs i nan) (get_or xs j nan) || (eq (get_or xs i nan) (get_or xs j nan) && ltb j i)

-- how many of the first n stand before number i: its place
unfoldable pub place_in : ℕ → List Float → ℕ → ℕ
place_in n xs i = fold 0 n (λ j s. cond (comes_before xs j i) (s + 1) s) 0

-- the index of the number in place k
unfoldable pub index_at : ℕ → List Float → ℕ → ℕ
index_at n xs k = fold 0 n (λ i found. cond (eqb (place_in n xs i) k) i found) 0
