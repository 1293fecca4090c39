-- `tests_ddf::starts::contrast_of` meets its contract.
use Rattle.tests.specs.Satterthwaite.{contrast_of}
use borrow.Author.Rules.{rules}
use Rattle.tests_ddf.proofs.starts.contrast_of.Goals as goal

pub returns : goal.returns
unfolding contrast_of
returns c = rw (← c.applied-first.ensures, ← c.applied-second.ensures) c.minus_cells.ensures
