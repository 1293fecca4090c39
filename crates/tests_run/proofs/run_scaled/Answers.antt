-- `tests_run::run_scaled` meets its contract.
use borrow.Author.Tests.{eq-eqb, ne_eqb}
use Rattle.tests_run.proofs.RunLaws.{without-contrast, with-contrast}
use borrow.Author.Rules.{rules}
use Rattle.tests_run.proofs.run_scaled.Goals as goal

pub returns-then-h-eq0 : goal.returns-then-h-eq0
returns-then-h-eq0 c = without-contrast _ _ _ _ _ _ _ (eq-eqb _ _ c.if-h-eq0.true) c.coefficients-run.ensures

pub returns : goal.returns
returns c = with-contrast _ _ _ _ _ _ _ _ _ (ne_eqb _ _ c.if-h-eq0.false) c.coefficients-run.ensures c.kr_modcomp_test.ensures c.with_test.ensures
