-- `tests_ddf::satterthwaite::rotations_seen` meets its contract.
use Rattle.tests_ddf.specs.joints.Parts.{rotations_seen_of}
use borrow.Author.Rules.{rules}
use Rattle.tests_ddf.proofs.satterthwaite.rotations_seen.Goals as goal

pub returns : goal.returns
unfolding rotations_seen_of
returns c = rw (← c.all_marks-first.ensures, ← c.all_marks-second.ensures) c.also.ensures
