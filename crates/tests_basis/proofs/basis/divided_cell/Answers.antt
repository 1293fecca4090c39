-- `tests_basis::basis::divided_cell` meets its contract.
use lib.Ieee.{of_bits}
use Rattle.tests_basis.proofs.BasisLaws.{divided-over, divided-stays}
use borrow.Author.Rules.{rules}
use Rattle.tests_basis.proofs.basis.divided_cell.Goals as goal

pub returns-then-scale : goal.returns-then-scale
unfolding of_bits
returns-then-scale c = divided-over _ _ _ _ _ _ c.largest-scale.ensures c.given-x.ensures _ _ c.if-scale.true c.given.ensures c.div.ensures

pub returns : goal.returns
unfolding of_bits
returns c = divided-stays _ _ _ _ _ _ c.largest-scale.ensures c.given-x.ensures c.if-scale.false
