-- `records_order::matrix_at` meets its contract.
use mathlib.Core.Path.{◌≡◌}
use mathlib.Core.Bool.{true, false}
use native.Mathlib.Omega.{arith}
use Rattle.records.specs.format.File.{kind_of}
use Rattle.records.specs.format.Order.{numbers_matrix, matrix_of}
use Rattle.records_order.proofs.matrix_at.Goals as goal

pub returns-then-numbers_matrix : goal.returns-then-numbers_matrix
unfolding matrix_of
returns-then-numbers_matrix c =
    let e : numbers_matrix (kind_of c.args.s.now c.args.i) ≡ true = cc in
    (rw e (cc), omega arith)

pub returns : goal.returns
unfolding matrix_of
returns c =
    let e : numbers_matrix (kind_of c.args.s.now c.args.i) ≡ false = cc in
    (rw e, omega arith)
