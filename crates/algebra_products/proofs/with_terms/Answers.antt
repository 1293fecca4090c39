-- `algebra_products::with_terms` meets its contract.
use Rattle.std.proofs.Common.{rules}
use Rattle.std.proofs.lemmas.Grind.{common_steps}
use Rattle.algebra_products.proofs.RowLaws.{gaining-none, gaining-more, gaining-end}
use native.Mathlib.Omega.{arith}
use Rattle.algebra_products.proofs.with_terms.Goals as goal

pub loop-j-init : goal.loop-j-init
loop-j-init g c = (omega arith, gaining-none g.T.Scalar.arith)

pub loop-j-preserved : goal.loop-j-preserved
loop-j-preserved g c = (omega arith, gaining-more g.T.Scalar.arith c.loop-j.invariant.1 (search (rules, common_steps)))

pub returns : goal.returns
returns g c = gaining-end g.T.Scalar.arith c.loop-j.invariant.0 c.loop-j-test.false c.loop-j.invariant.1
