-- `tests::both::square_one` meets its contract.
use Rattle.tests.specs.Both.{square_one}
use Rattle.tests.proofs.both.square_one.Goals as goal

pub returns : goal.returns
unfolding square_one
returns c = rw (← c.square_root.ensures, ← c.div-t.ensures) c.mul.ensures
