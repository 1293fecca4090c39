-- `algebra_elimination::joined_row` meets its contract.
use native.Mathlib.Omega.{arith}
use Rattle.algebra.specs.Table.{row}
use Rattle.algebra.proofs.FoldLaws.{fold_start, fold_next}
use lib.Ieee.{of_bits}
use Rattle.algebra_elimination.proofs.Steps.{joined-next, joined-row-is}
use Rattle.std.proofs.Common.{rules}
use Rattle.std.proofs.lemmas.Grind.{common_steps}
use Rattle.algebra_elimination.proofs.joined_row.Goals as goal

pub loop-j-init : goal.loop-j-init
unfolding row of_bits
loop-j-init g c = (omega arith, rw c.of-out.ensures (fold_start _ _ _))

pub loop-j-preserved : goal.loop-j-preserved
loop-j-preserved g c =
    let a = c.args in
    let e = joined-next g.T.Scalar.arith _ _ _ a.a a.b _ c.loop-j-test.true c.loop-j.invariant.1 in
    (omega arith, search (rules, common_steps))

pub loop-k-init : goal.loop-k-init
loop-k-init g c = (omega arith, fold_start _ _ _)

pub loop-k-preserved : goal.loop-k-preserved
loop-k-preserved g c = (omega arith, fold_next _ _ _ _ _ _ (omega arith) c.loop-k.invariant.1 (search (rules, common_steps)))

pub returns : goal.returns
returns g c =
    let u = c.loop-j.invariant in
    let v = c.loop-k.invariant in
    let args = c.args in
    joined-row-is g.T.Scalar.arith _ _ _ _ _ args.a args.b _ _ u.0 c.loop-j-test.false u.1 v.0 c.loop-k-test.false v.1
