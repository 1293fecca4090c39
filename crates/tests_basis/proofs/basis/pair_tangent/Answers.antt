-- `tests_basis::basis::pair_tangent` meets its contract.
use borrow.Author.Rules.{rules}
use Rattle.tests_basis.proofs.basis.pair_tangent.Goals as goal

pub returns : goal.returns
returns c =
    let xx = c.row_dot.ensures in
    let yy = c.row_dot-2.ensures in
    rw (← xx, ← yy, ← c.ratio.ensures) c.tangent.ensures
