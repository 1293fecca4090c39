-- `algebra_products::times_number` meets its contract.
use Rattle.algebra.specs.Product.{times_number}
use Rattle.algebra.proofs.TableLaws.{table_none, filling-none, filling-more, filling-row}
use Rattle.algebra_products.proofs.LoopLaws.{table-end}
use Rattle.std.proofs.Common.{rules}
use Rattle.std.proofs.lemmas.Grind.{common_steps}
use native.Mathlib.Omega.{arith}
use Rattle.algebra_products.proofs.times_number.Goals as goal

pub loop-i-init : goal.loop-i-init
loop-i-init g c = (omega arith, table_none _ _ _ _ _ _ c.zeros-out.ensures)

pub loop-j-init : goal.loop-j-init
loop-j-init g c = (omega arith, omega arith, filling-none (omega arith) c.loop-i.invariant.1)

pub loop-j-preserved : goal.loop-j-preserved
loop-j-preserved g c = (omega arith, omega arith, filling-more (omega arith) c.loop-j.invariant.2 (search (rules, common_steps)))

pub loop-i-preserved : goal.loop-i-preserved
loop-i-preserved g c = (omega arith, filling-row c.loop-j.invariant.2 c.loop-j.invariant.1 c.loop-j-test.false)

pub returns : goal.returns
unfolding times_number
returns g c = table-end _ _ _ _ _ _ _ _ c.loop-i.invariant.0 c.loop-i-test.false c.loop-i.invariant.1
