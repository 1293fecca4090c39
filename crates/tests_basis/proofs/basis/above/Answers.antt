-- `tests_basis::basis::above` meets its contract.
use Prim.Native.Nat.{◌≤◌, ◌+◌}
use mathlib.Core.Path.{◌≡◌, ◌∙◌}
use mathlib.Core.Bool.{cond}
use lib.Ieee.{lt}
use Rattle.algebra.proofs.FoldLaws.{fold_start, fold_next, fold_end}
use Rattle.tests.specs.Basis.{singular}
use native.Mathlib.Omega.{arith}
use Rattle.tests_basis.proofs.basis.above.Goals as goal
use Rattle.tests_basis.proofs.basis.above.Goals.{then-limit-singular, else-limit-singular}

pub loop-k-init : goal.loop-k-init
loop-k-init c = (omega arith, omega arith, fold_start _ _ _)

pub loop-k-preserved : goal.loop-k-preserved
loop-k-preserved c =
    let a = c.args in
    let l = c.loop-k in
    let step : c.if-limit-singular.count ≡ cond (lt a.limit (singular a.rows a.ns l.k)) (l.count + 1) l.count =
    elim c.if-limit-singular.branch [
      | then-limit-singular w ↦ rw (← c.singular.ensures, w.if-limit-singular.true) w.count-is
      | else-limit-singular w ↦ rw (← c.singular.ensures, w.if-limit-singular.false) w.count-is
    ] in
    let bound : c.if-limit-singular.count ≤ l.k + 1 = elim c.if-limit-singular.branch [ then-limit-singular w ↦ omega arith | else-limit-singular w ↦ omega arith ] in
    (omega arith, bound, fold_next _ _ _ _ _ _ (omega arith) l.invariant.2 step)

pub returns : goal.returns
returns c =
    let v = c.loop-k.invariant in
    (fold_end _ _ _ _ _ _ v.0 c.loop-k-test.false v.2, omega arith)
