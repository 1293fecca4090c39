-- `algebra_jacobi::tested_rotation::rotated_cell` meets its contract.
use lib.Ieee.{of_bits}
use Rattle.algebra_jacobi.proofs.tested_rotation.Cells.{first-diagonal, first-cleared, first-mirror, second-diagonal, second-cleared, second-mirror, elsewhere}
use Rattle.algebra_jacobi.proofs.tested_rotation.rotated_cell.Goals as goal

pub returns-then-j-p : goal.returns-then-j-p
returns-then-j-p g c = first-diagonal g.T.Scalar.arith _ _ _ _ _ _ _ _ _ c.if-i-p.true c.if-j-p.true

pub returns-then-j-q : goal.returns-then-j-q
unfolding of_bits
returns-then-j-q g c = first-cleared g.T.Scalar.arith _ _ _ _ _ _ _ _ _ _ c.of.ensures c.if-i-p.true c.if-j-p.false c.if-j-q.true

pub returns-then-i-p : goal.returns-then-i-p
returns-then-i-p g c = first-mirror g.T.Scalar.arith _ _ _ _ _ _ _ _ _ c.if-i-p.true c.if-j-p.false c.if-j-q.false

pub returns-then-j-q-2 : goal.returns-then-j-q-2
returns-then-j-q-2 g c = second-diagonal g.T.Scalar.arith _ _ _ _ _ _ _ _ _ c.if-i-p.false c.if-i-q.true c.if-j-q-2.true

pub returns-then-j-p-2 : goal.returns-then-j-p-2
unfolding of_bits
returns-then-j-p-2 g c = second-cleared g.T.Scalar.arith _ _ _ _ _ _ _ _ _ _ c.of-then-j-p-2.ensures c.if-i-p.false c.if-i-q.true c.if-j-q-2.false c.if-j-p-2.true

pub returns-then-i-q : goal.returns-then-i-q
returns-then-i-q g c = second-mirror g.T.Scalar.arith _ _ _ _ _ _ _ _ _ c.if-i-p.false c.if-i-q.true c.if-j-q-2.false c.if-j-p-2.false

pub returns : goal.returns
returns g c = elsewhere g.T.Scalar.arith _ _ _ _ _ _ _ _ _ c.if-i-p.false c.if-i-q.false
