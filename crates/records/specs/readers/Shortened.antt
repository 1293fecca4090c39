-- Document 02, "Req 03": "Operators enter weight 0 when the film tore outside the glue. From now on that means that the specimen is absent: its X and Z rows and its weight are dropped ..; sizes but n stay as
-- sent." A series without its torn specimens, from the design of a series in memory.
use Rattle.std.specs.Prelude.{ℕ, zero, suc, Bool, not, ◌&&◌, cond, List, [], ◌∷◌, ◌++◌, map, length, get_or}
use Rattle.std.specs.Float.{nan}
use Rattle.arithmetic.specs.Numbers.{is_zero}
use Rattle.adjustment.specs.Covariance.{Design}
use Rattle.records.specs.format.Scan.{any}

-- specimen i has "weight 0", +0 or -0; a series without weights has no torn specimen
unfoldable pub torn : Design → ℕ → Bool
torn d i = d.weighted && is_zero (get_or d.weights i nan)

-- "A series with all weights zero"
unfoldable pub all_torn : Design → Bool
all_torn d = not (any d.n (λ i. not (torn d i)))

-- the numbers below n that are not left out, in their order
unfoldable pub kept_below : ℕ → (ℕ → Bool) → List ℕ
kept_below zero out = []
kept_below (suc n) out = kept_below n out ++ cond (out n) [] (n ∷ [])

-- the specimens that are not torn
abbrev pub kept_specimens : Design → List ℕ
kept_specimens d = kept_below d.n (torn d)

-- THE SHORTENED SERIES: the X and Z rows and the weights of the specimens that are not torn; "sizes but n stay as sent"
unfoldable pub shortened : Design → Design
shortened d = record {
  n = length (kept_specimens d);
  p = d.p;
  x = map (λ i. get_or d.x i []) (kept_specimens d);
  z = map (λ i. get_or d.z i []) (kept_specimens d);
  weighted = d.weighted;
  weights = cond d.weighted (map (λ i. get_or d.weights i nan) (kept_specimens d)) [];
  blocks = d.blocks;
  count = d.count;
  theta = d.theta;
}
