-- `tests_ddf::starts::start_seen` meets its contract.
use lib.Ieee.{of_bits}
use Rattle.tests_ddf.specs.joints.Parts.{start_seen_of}
use borrow.Author.Rules.{rules}
use Rattle.tests_ddf.proofs.starts.start_seen.Goals as goal

pub returns : goal.returns
unfolding start_seen_of of_bits
returns c = rw (← c.given.ensures, ← c.all_marks-first.ensures, ← c.all_marks-second.ensures) c.stack_seen.ensures
