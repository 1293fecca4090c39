-- The nine small numbers, as document 01 writes them.
use Rattle.std.specs.Prelude.{ℕ, ◌^◌, false, pos, negsuc, Float}
use Rattle.std.specs.Float.{fin, binary64}
use Rattle.std.specs.Float.Ieee.{round}
use Rattle.arithmetic_cutoffs.specs.declared.Cutoffs.{Cutoffs}

-- the f64 nearest to n / 10 ^ k
unfoldable pub decimal : ℕ → ℕ → Float
decimal n k = round binary64 false n (10 ^ k)

-- |a2| and |d| > 1e-15; |V0| and |V2| < 1e-10; div < 1e-10; |qρ − 1| > 1e-12; |df − 2| < 1e-2; eigenvalue > 1e-10; ridge 1e-8; 2^-100; 3000
unfoldable pub document_cutoffs : Cutoffs
document_cutoffs = record {
  moment = decimal 1 15;
  leading = decimal 1 10;
  divisor = decimal 1 10;
  excess = decimal 1 12;
  near = decimal 1 2;
  eigenvalue = decimal 1 10;
  ridge = decimal 1 8;
  rotation = fin false 1 (negsuc 99);
  cap = decimal 3000 0;
}
