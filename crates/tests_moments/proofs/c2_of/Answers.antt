-- `tests_moments::c2_of` meets its contract.
use Rattle.tests.specs.Moments.{c2_of}
use borrow.Author.Rules.{rules}
use Rattle.tests_moments.proofs.c2_of.Goals as goal

pub returns : goal.returns
unfolding c2_of
returns c = rw (← c.of_count.ensures, ← c.g_of.ensures, ← c.d_of.ensures)
