-- Not needed to check document 01: names that join the code to its definitions.
-- The adjustment from IE on, a part of `adjustment` and `adjustment_refusal` of crates/adjustment/specs/Adjusted.antt.
use Rattle.std.specs.Prelude.{ℕ, cond, eqb, Float}
use Rattle.algebra.specs.Kind.{floats}
use Rattle.algebra.specs.Jacobi.{State, jacobi}
use Rattle.arithmetic_cutoffs.specs.declared.Cutoffs.{Cutoffs}
use Rattle.algebra.specs.Small.{Rows}
use Rattle.adjustment.specs.declared.AdjustedPhi.{AdjustedPhi}
use Rattle.adjustment.specs.Information.{inverted, w_rows, w_refused}
use Rattle.adjustment.specs.Adjusted.{Stack, Adjustment, u_rows, phi_a_rows, output_not_finite}

-- the matrix that is inverted for W
unfoldable pub inverted_of : Cutoffs → ℕ → Rows → Rows
inverted_of c N ie = inverted c N ie (jacobi floats c.rotation 6 6 N ie).a

-- from IE on: W, U, Φ_A and the rotations
unfoldable pub from_information : Cutoffs → ℕ → ℕ → Rows → Stack → Stack → Rows → Adjustment
from_information c p N phi ps qs ie =
    let w : Rows = w_rows N (inverted_of c N ie) in
    record { phi_a = phi_a_rows p phi (u_rows p N phi ps qs w); ps = ps; w = w; rotations = (jacobi floats c.rotation 6 6 N ie).count }

-- document 01: 10 where a pivot of IE is zero, then 4 where the output is not finite
unfoldable pub information_refusal : Cutoffs → ℕ → ℕ → Rows → Float → Stack → Stack → Rows → ℕ
information_refusal c p N phi sigma2 ps qs ie =
    cond (w_refused N (inverted_of c N ie)) 10 (cond (output_not_finite p N phi sigma2 (from_information c p N phi ps qs ie)) 4 0)

-- an adjustment without its Ps, as the code returns it
abbrev pub phi_side : Adjustment → AdjustedPhi
phi_side a = record { phi_a = a.phi_a; w = a.w; rotations = a.rotations }

-- what is lent for an answer: the new contents where the number says accepted, 0, and the other where it says refused
unfoldable pub accepted : {A : Type 0} → ℕ → A → A → A
accepted number new old = cond (eqb number 0) new old
