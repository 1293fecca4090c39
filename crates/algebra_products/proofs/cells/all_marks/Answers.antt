-- `algebra_products::cells::all_marks` meets its contract.
use Rattle.algebra.specs.Small.{all_marks}
use Rattle.algebra.proofs.FoldLaws.{fold_start, fold_next}
use Rattle.algebra_products.proofs.LoopLaws.{rows_none, rows_more, rows_end}
use Rattle.std.proofs.Common.{rules}
use Rattle.std.proofs.lemmas.Grind.{common_steps}
use native.Mathlib.Omega.{arith}
use Rattle.algebra_products.proofs.cells.all_marks.Goals as goal

pub loop-i-init : goal.loop-i-init
loop-i-init g c = (omega arith, rows_none _ _ _)

pub loop-j-init : goal.loop-j-init
loop-j-init g c = (omega arith, omega arith, fold_start _ _ _)

pub loop-j-preserved : goal.loop-j-preserved
loop-j-preserved g c = (omega arith, omega arith, fold_next _ _ _ _ _ _ (omega arith) c.loop-j.invariant.2 (search (rules, common_steps)))

pub loop-i-preserved : goal.loop-i-preserved
loop-i-preserved g c = (omega arith, rows_more _ _ _ _ _ _ _ c.loop-i.invariant.1 c.loop-j.invariant.2 c.loop-j.invariant.1 c.loop-j-test.false)

pub returns : goal.returns
unfolding all_marks
returns g c = rows_end _ _ _ _ _ _ c.loop-i.invariant.0 c.loop-i-test.false c.loop-i.invariant.1
