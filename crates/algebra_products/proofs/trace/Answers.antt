-- `algebra_products::trace` meets its contract.
use mathlib.Core.Path.{◌∙◌}
use lib.Ieee.{of_bits}
use Rattle.algebra.specs.Product.{trace}
use Rattle.algebra_products.proofs.LoopLaws.{sum-none, sum_more, sum-end}
use Rattle.std.proofs.Common.{rules}
use Rattle.std.proofs.lemmas.Grind.{common_steps}
use native.Mathlib.Omega.{arith}
use Rattle.algebra_products.proofs.trace.Goals as goal

pub loop-i-init : goal.loop-i-init
unfolding trace of_bits
loop-i-init g c = (omega arith, c.of-sum.ensures ∙ sum-none g.T.Scalar.arith _)

pub loop-i-preserved : goal.loop-i-preserved
unfolding trace
loop-i-preserved g c = (omega arith, sum_more g.T.Scalar.arith _ _ _ _ c.loop-i.invariant.1 (search (rules, common_steps)))

pub returns : goal.returns
unfolding trace
returns g c = sum-end g.T.Scalar.arith _ _ _ _ c.loop-i.invariant.0 c.loop-i-test.false c.loop-i.invariant.1
