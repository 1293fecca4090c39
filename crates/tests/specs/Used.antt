-- Document 01: "The run tests each coefficient alone (β_H = 0), then the contrast if given."
use Rattle.std.specs.Prelude.{ℕ, Bool, not, ◌&&◌, ◌||◌, eqb, ltb}

-- whether entry i of a run is in use: those of the p coefficients, and entry 6 where the contrast has rows
unfoldable pub in_use : ℕ → ℕ → ℕ → Bool
in_use p rows i = ltb i p || (eqb i 6 && not (eqb rows 0))
