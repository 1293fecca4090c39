-- `tests_kr_modcomp::full_rank::scaling_seen` meets its contract.
use Rattle.tests.specs.KenwardRoger.{scaling_seen}
use borrow.Author.Rules.{rules}
use Rattle.tests_kr_modcomp.proofs.full_rank.scaling_seen.Goals as goal

pub returns : goal.returns
unfolding scaling_seen
returns c = rw (← c.all_marks-first.ensures, ← c.all_marks-second.ensures) c.stack_seen.ensures
