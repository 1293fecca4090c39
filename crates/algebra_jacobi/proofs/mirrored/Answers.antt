-- `algebra_jacobi::mirrored` meets its contract.
use native.Mathlib.Nat.{le_antisymm}
use mathlib.Core.Path.{refl}
use Rattle.algebra.specs.Table.{blank}
use Rattle.algebra.specs.Jacobi.{mirrored}
use Rattle.algebra.proofs.TableLaws.{table_none, filling-none, filling-more, filling-row}
use native.Mathlib.Omega.{arith}
use lib.Ieee.{of_bits}
use Rattle.algebra_jacobi.proofs.mirrored.Goals as goal

pub loop-i-init : goal.loop-i-init
unfolding blank of_bits
loop-i-init g c = (omega arith, rw c.of.ensures (table_none _ _ _ _ _ _ refl))

pub loop-j-init : goal.loop-j-init
loop-j-init g c = (omega arith, omega arith, filling-none (omega arith) c.loop-i.invariant.1)

pub loop-j-preserved : goal.loop-j-preserved
loop-j-preserved g c = (omega arith, omega arith, filling-more (omega arith) c.loop-j.invariant.2 c.mirrored_cell.ensures)

pub loop-i-preserved : goal.loop-i-preserved
loop-i-preserved g c =
    let v = c.loop-j.invariant in
    (omega arith, filling-row v.2 v.1 c.loop-j-test.false)

pub returns : goal.returns
unfolding mirrored
returns g c =
    let v = c.loop-i.invariant in
    rw (le_antisymm v.0 c.loop-i-test.false) at v.1
