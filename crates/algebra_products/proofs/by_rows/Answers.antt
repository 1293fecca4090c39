-- `algebra_products::by_rows` meets its contract.
use Rattle.algebra.specs.Product.{product}
use Rattle.algebra.proofs.TableLaws.{table_none}
use Rattle.algebra_products.proofs.LoopLaws.{table-end}
use Rattle.algebra_products.proofs.RowLaws.{summing-none, summing-more, summing-row}
use Rattle.std.proofs.Common.{rules}
use Rattle.std.proofs.lemmas.Grind.{common_steps}
use native.Mathlib.Omega.{arith}
use Rattle.algebra_products.proofs.by_rows.Goals as goal

pub loop-i-init : goal.loop-i-init
loop-i-init g c = (omega arith, table_none _ _ _ _ _ _ c.zeros-out.ensures)

pub loop-k-init : goal.loop-k-init
loop-k-init g c = (omega arith, omega arith, summing-none g.T.Scalar.arith (omega arith) (omega arith) c.loop-i.invariant.1)

pub loop-k-preserved : goal.loop-k-preserved
loop-k-preserved g c = (omega arith, omega arith, summing-more g.T.Scalar.arith (omega arith) (omega arith) c.loop-k.invariant.2 (search (rules, common_steps)))

pub loop-i-preserved : goal.loop-i-preserved
loop-i-preserved g c = (omega arith, summing-row g.T.Scalar.arith c.loop-k.invariant.2 c.loop-k.invariant.1 c.loop-k-test.false)

pub returns : goal.returns
unfolding product
returns g c = table-end _ _ _ _ _ _ _ _ c.loop-i.invariant.0 c.loop-i-test.false c.loop-i.invariant.1
