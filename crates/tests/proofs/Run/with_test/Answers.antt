-- `tests::Run::with_test` meets its contract.
use mathlib.Core.Path.{refl}
use Rattle.tests.specs.KenwardRoger.{with_test}
use borrow.Author.Rules.{rules}
use Rattle.tests.proofs.Run.with_test.Goals as goal

pub returns : goal.returns
unfolding with_test
returns c = refl
