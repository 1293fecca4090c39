-- `tests_ddf::satterthwaite::several_rows` meets its contract.
use Rattle.algebra_jacobi.specs.joints.States.{state_of}
use Rattle.tests_ddf.proofs.PartsLaws.{several-tested-is}
use borrow.Author.Rules.{rules}
use Rattle.tests_ddf.proofs.satterthwaite.several_rows.Goals as goal

pub returns : goal.returns
returns c =
    several-tested-is _ _ _ _ _ _ _ (state_of c.jacobi-rotated.result) c.jacobi-rotated.ensures.0 _ _ _ _ _ c.start_seen.ensures c.eigenvalues.ensures c.not_positive-refused.ensures c.rotations_seen-seen.ensures c.several_entry-entry.ensures
