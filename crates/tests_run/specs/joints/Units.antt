-- Not needed to check document 01: names that join the code to its definitions.
-- Document 01: "M: Φ and Φ_A times sigma2, each P divided by it; W unchanged (`kenward_roger_modcomp_data`)."
use Rattle.std.specs.Prelude.{List, Float}
use Rattle.adjustment.specs.Adjusted.{scaled_up}
use Rattle.algebra.specs.Kind.{marks}
use Rattle.algebra.specs.Small.{Rows}
use Rattle.arithmetic.specs.declared.Marked.{Marked}
use Rattle.tests.specs.declared.Covariances.{Covariances}
use Rattle.tests.specs.KenwardRoger.{Scaled, scaled_ps}

-- what the tests start from, in response units, from Φ, Φ_A, W and the Ps in residual units
unfoldable pub response_units : Covariances Float → List Rows → Float → Scaled Marked
response_units s ps sigma2 = record {
  p = s.p;
  matrices = s.matrices;
  phi = scaled_up marks s.p s.phi sigma2;
  phi_a = scaled_up marks s.p s.phi_a sigma2;
  ps = scaled_ps marks s.p s.matrices ps sigma2;
  w = s.w;
}
