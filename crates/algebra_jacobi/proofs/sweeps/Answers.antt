-- `algebra_jacobi::sweeps` meets its contract.
use mathlib.Core.Path.{◌≡◌}
use Rattle.algebra.specs.Jacobi.{row_to, sweep_to, sweeps_to}
use Rattle.algebra.proofs.FoldLaws.{fold_start, fold_next, fold_end}
use Rattle.algebra_jacobi.specs.joints.States.{state_of}
use Rattle.algebra_jacobi.proofs.Counts.{row-limit, sweep-limit, sweeps-limit}
use Rattle.algebra_jacobi.proofs.tested_rotation.Pairs.{pair-rotated, pair_left}
use native.Mathlib.Omega.{arith}
use lib.Ieee.{of_bits}
use Rattle.algebra.specs.Product.{at}
use Rattle.algebra_jacobi.specs.joints.Tested.{rotates, seen_after}
use Rattle.std.proofs.Common.{rules}
use Rattle.std.proofs.lemmas.Grind.{common_steps}
use Rattle.algebra_jacobi.proofs.sweeps.Goals as goal
use Rattle.algebra_jacobi.proofs.sweeps.Goals.{then-rotates, else-rotates}

pub loop-i-init : goal.loop-i-init
unfolding sweeps_to
loop-i-init g c = (omega arith, fold_start _ _ _)

pub loop-p-init : goal.loop-p-init
unfolding sweep_to
loop-p-init g c = (omega arith, omega arith, fold_start _ _ _)

pub loop-q-init : goal.loop-q-init
unfolding row_to
loop-q-init g c = (omega arith, omega arith, omega arith, fold_start _ _ _)

pub overflow_add-out : goal.overflow_add-out
overflow_add-out g c =
    let u = c.loop-q.invariant in
    let v = c.loop-p.invariant in
    let w = c.loop-i.invariant in
    omega (arith, row-limit g.T.Scalar.arith _ _ _ _ _ _ _ _ u.3 u.1, sweep-limit g.T.Scalar.arith _ _ _ _ _ _ _ v.2 v.1 (omega arith), sweeps-limit g.T.Scalar.arith _ _ _ _ _ _ _ w.1 (omega arith))

pub loop-q-preserved : goal.loop-q-preserved
unfolding row_to
loop-q-preserved g c =
    let N = g.T.Scalar.arith in
    let l = c.loop-q in
    let v = l.invariant in
    let m = l.out.matrix in
    let p = c.loop-p.p in
    let tested : c.tested_mark-out.result ≡ seen_after N c.args.limit (at N m p p) (at N m l.q l.q) (at N m p l.q) l.out.seen = search (rules, common_steps) in
    let rotating : c.rotates.result ≡ rotates N c.args.limit (at N m p p) (at N m l.q l.q) (at N m p l.q) = search (rules, common_steps) in (
      omega arith,
      omega arith,
      omega arith,
      fold_next _ _ _ _ _ _ v.1 v.3
          (elim c.if-rotates.branch [
            | then-rotates w ↦ rw w.out-is (pair-rotated N _ _ _ _ _ _ (state_of l.out) _ _ rotating tested _ w.if-rotates.true w.rotated_pair-next.ensures)
            | else-rotates w ↦ rw w.out-is (pair_left N _ _ _ _ _ _ (state_of l.out) _ _ rotating tested w.if-rotates.false)
          ]),
    )

pub loop-p-preserved : goal.loop-p-preserved
unfolding sweep_to row_to
loop-p-preserved g c =
    let v = c.loop-q.invariant in
    let w = c.loop-p.invariant in
    (omega arith, omega arith, fold_next _ _ _ _ _ _ (omega arith) w.2 (fold_end _ _ _ _ _ _ v.2 c.loop-q-test.false v.3))

pub loop-i-preserved : goal.loop-i-preserved
unfolding sweeps_to sweep_to
loop-i-preserved g c =
    let v = c.loop-p.invariant in
    let w = c.loop-i.invariant in
    (omega arith, fold_next _ _ _ _ _ _ (omega arith) w.1 (fold_end _ _ _ _ _ _ v.1 c.loop-p-test.false v.2))

pub returns : goal.returns
unfolding sweeps_to of_bits
returns g c =
    let v = c.loop-i.invariant in
    rw c.of.ensures at (fold_end _ _ _ _ _ _ v.0 c.loop-i-test.false v.1)
