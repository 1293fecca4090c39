-- `tests_run::coefficients` meets its contract.
use Rattle.tests_run.proofs.RunLaws.{coefficients-start, coefficients-next, coefficients-end}
use native.Mathlib.Omega.{arith}
use borrow.Author.Rules.{rules}
use Rattle.tests_run.proofs.coefficients.Goals as goal

pub loop-i-init : goal.loop-i-init
loop-i-init c = (omega arith, coefficients-start _ _ _ _ c.no_entry.ensures)

pub loop-i-preserved : goal.loop-i-preserved
loop-i-preserved c = (omega arith, coefficients-next _ _ _ _ _ _ _ c.loop-i.invariant.1 c.coefficient_test-t.ensures c.with_test-run.ensures)

pub returns : goal.returns
returns c =
    let l = c.loop-i in
    coefficients-end _ _ _ l.i _ l.run l.invariant.0 c.loop-i-test.false l.invariant.1
