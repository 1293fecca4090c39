-- Not needed to check document 01: names that join the code to its definitions.
-- The adjustment in parts: up to S, and from S on. Each is a part of `adjustment` and `adjustment_refusal` of crates/adjustment/specs/Adjusted.antt.
use Rattle.std.specs.Prelude.{ℕ, cond, Float}
use Rattle.arithmetic_cutoffs.specs.declared.Cutoffs.{Cutoffs}
use Rattle.algebra.specs.Small.{Rows}
use Rattle.adjustment.specs.Covariance.{Design, matrices, sigma_rows, cholesky, not_definite, inverse_factor_refused}
use Rattle.adjustment.specs.Adjusted.{Stack, h_stack, o_stack, p_stack, q_stack_of, ie_rows, from_precision, information_refused, output_not_finite}

-- document 01: 9 where a Cholesky diagonal of Σ is not > 0, 10 where a pivot of L is zero
unfoldable pub precision_refusal : Design → ℕ
precision_refusal d = cond (not_definite d.n (sigma_rows d)) 9 (cond (inverse_factor_refused d.n (cholesky d.n (sigma_rows d))) 10 0)

-- the Ps, the Qs and IE, given S
unfoldable pub ps_of : Design → Rows → Stack
ps_of d s = p_stack d (o_stack d (h_stack d s)) s

unfoldable pub qs_of : Design → Rows → Stack
qs_of d s = q_stack_of d (o_stack d (h_stack d s)) s

unfoldable pub ie_of : Design → Rows → Rows → Rows
ie_of d phi s = ie_rows d phi (h_stack d s) (ps_of d s) (qs_of d s)

-- from S on: 10 where a pivot of IE is zero, then 4 where the output is not finite
unfoldable pub after_precision : Cutoffs → Design → Rows → Float → Rows → ℕ
after_precision c d phi sigma2 s =
    cond (information_refused c d phi s) 10 (cond (output_not_finite d.p (matrices d) phi sigma2 (from_precision c d phi s)) 4 0)
