-- `algebra_products::cell` meets its contract.
use mathlib.Core.Path.{◌∙◌}
use lib.Ieee.{of_bits}
use Rattle.algebra.specs.Product.{cell}
use Rattle.algebra_products.proofs.LoopLaws.{sum-none, sum_more, sum-end}
use Rattle.std.proofs.Common.{rules}
use Rattle.std.proofs.lemmas.Grind.{common_steps}
use native.Mathlib.Omega.{arith}
use Rattle.algebra_products.proofs.cell.Goals as goal

pub loop-k-init : goal.loop-k-init
unfolding cell of_bits
loop-k-init g c = (omega arith, c.of-sum.ensures ∙ sum-none g.T.Scalar.arith _)

pub loop-k-preserved : goal.loop-k-preserved
unfolding cell
loop-k-preserved g c = (omega arith, sum_more g.T.Scalar.arith _ _ _ _ c.loop-k.invariant.1 (search (rules, common_steps)))

pub returns : goal.returns
unfolding cell
returns g c = sum-end g.T.Scalar.arith _ _ _ _ c.loop-k.invariant.0 c.loop-k-test.false c.loop-k.invariant.1
