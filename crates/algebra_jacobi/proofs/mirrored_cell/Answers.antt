-- `algebra_jacobi::mirrored_cell` meets its contract.
use borrow.Author.Tests.{lt-ltb, le-ltb}
use Rattle.std.proofs.Common.{rules}
use Rattle.std.proofs.lemmas.Grind.{common_steps}
use Rattle.algebra_jacobi.proofs.mirrored_cell.Goals as goal

pub returns-then-j-i : goal.returns-then-j-i
returns-then-j-i g c = rw (lt-ltb _ _ c.if-j-i.true) (search (rules, common_steps))

pub returns : goal.returns
returns g c = rw (le-ltb _ _ c.if-j-i.false) (search (rules, common_steps))
