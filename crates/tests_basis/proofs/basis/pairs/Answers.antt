-- `tests_basis::basis::pairs` meets its contract.
use Prim.Native.Nat.{◌≤◌, ◌-◌, ◌+◌}
use mathlib.Core.Path.{◌≡◌, sym, ◌∙◌}
use Rattle.tests.specs.Basis.{row_dot, turn_pair, pairs_to}
use Rattle.tests_basis.proofs.BasisLaws.{turn-rows-is, pair-stays, pair-turned}
use Rattle.algebra.proofs.FoldLaws.{fold_start, fold_next, fold_end}
use borrow.Author.Tests.{not-true, not-false}
use borrow.Author.Rules.{rules}
use native.Mathlib.Omega.{arith}
use Rattle.tests_basis.proofs.basis.pairs.Goals as goal
use Rattle.tests_basis.proofs.basis.pairs.Goals.{then-not-is_zero, else-not-is_zero}

pub loop-j-init : goal.loop-j-init
unfolding pairs_to
loop-j-init c = (omega arith, omega arith, fold_start _ _ _)

pub loop-j-preserved : goal.loop-j-preserved
unfolding pairs_to row_dot
loop-j-preserved c =
    let v = c.loop-j.invariant in
    let g = c.row_dot-g.ensures in
    let z = sym c.is_zero.ensures in
    let step : c.if-not-is_zero.out ≡ turn_pair c.args.p c.args.i c.loop-j.j c.loop-j.out =
    elim c.if-not-is_zero.branch [
      | then-not-is_zero w ↦ w.out-is
          ∙ pair-turned _ _ _ _ _ g _ _ _ _ (z ∙ w.if-not-is_zero.true) w.pair_tangent-t.ensures w.cosine-c.ensures w.sine-s.ensures (turn-rows-is _ _ _ _ _ _ _ _ w.turned.ensures.first w.turned.ensures.second)
      | else-not-is_zero w ↦ w.out-is ∙ pair-stays _ _ _ _ _ g (z ∙ w.if-not-is_zero.false)
    ] in
    (omega arith, omega arith, fold_next _ _ _ _ _ _ v.0 v.2 step)

pub returns : goal.returns
unfolding pairs_to
returns c =
    let v = c.loop-j.invariant in
    fold_end _ _ _ _ _ _ v.1 c.loop-j-test.false v.2
