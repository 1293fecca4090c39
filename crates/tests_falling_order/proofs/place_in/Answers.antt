-- `tests_falling_order::place_in` meets its contract.
use Prim.Native.Nat.{◌≤◌, ◌+◌}
use mathlib.Core.Path.{◌≡◌}
use mathlib.Core.Bool.{cond}
use Rattle.tests.specs.Order.{comes_before, place_in}
use Rattle.algebra.proofs.FoldLaws.{fold_start, fold_next, fold_end}
use native.Mathlib.Omega.{arith}
use Rattle.tests_falling_order.proofs.place_in.Goals as goal
use Rattle.tests_falling_order.proofs.place_in.Goals.{then-comes_before, else-comes_before}

pub loop-j-init : goal.loop-j-init
unfolding place_in
loop-j-init c = (omega arith, omega arith, fold_start _ _ _)

pub loop-j-preserved : goal.loop-j-preserved
unfolding place_in
loop-j-preserved c =
    let a = c.args in
    let l = c.loop-j in
    let step : c.if-comes_before.place ≡ cond (comes_before a.xs l.j a.i) (l.place + 1) l.place =
    elim c.if-comes_before.branch [
      | then-comes_before w ↦ rw (← c.comes_before.ensures, w.if-comes_before.true) w.place-is
      | else-comes_before w ↦ rw (← c.comes_before.ensures, w.if-comes_before.false) w.place-is
    ] in
    let bound : c.if-comes_before.place ≤ l.j + 1 = elim c.if-comes_before.branch [ then-comes_before w ↦ omega arith | else-comes_before w ↦ omega arith ] in
    (omega arith, bound, fold_next _ _ _ _ _ _ (omega arith) l.invariant.2 step)

pub returns : goal.returns
unfolding place_in
returns c =
    let v = c.loop-j.invariant in
    (fold_end _ _ _ _ _ _ v.0 c.loop-j-test.false v.2, omega arith)
