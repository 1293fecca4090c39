-- `tests_kr_modcomp::full_rank::u_split` meets its contract.
use Prim.Native.Nat.{◌≤◌, ◌-◌}
use mathlib.Core.Path.{◌≡◌}
use Rattle.algebra.specs.Kind.{marks}
use Rattle.algebra.proofs.FoldLaws.{fold_start, fold_next, fold_end}
use Rattle.tests.specs.KenwardRoger.{u_stack, u_values}
use Rattle.tests.specs.Both.{stack_seen}
use Rattle.tests_kr_modcomp.proofs.Parts.{u-values-step, u-seen-step}
use native.Mathlib.Omega.{arith}
use borrow.Author.Rules.{rules}
use Rattle.tests_kr_modcomp.proofs.full_rank.u_split.Goals as goal

pub loop-i-init : goal.loop-i-init
unfolding u_values stack_seen
loop-i-init c = (omega arith, rw c.zeros-blank.ensures (fold_start _ _ _), fold_start _ _ _)

pub loop-i-preserved : goal.loop-i-preserved
unfolding u_values stack_seen
loop-i-preserved c =
    let u = c.u_of-u.ensures in
    let l = c.loop-i in
    let s = c.args.s.now in (
      omega arith,
      fold_next _ _ _ _ _ _ (omega arith) l.invariant.1 (u-values-step s.matrices s.p c.args.tp _ s.phi l.i (omega arith) (omega arith) _ u l.out _ c.values.ensures),
      fold_next _ _ _ _ _ _ (omega arith) l.invariant.2 (u-seen-step s.matrices s.p c.args.tp _ s.phi l.i (omega arith) (omega arith) _ u l.all _ c.all_marks-all.ensures),
    )

pub returns : goal.returns
unfolding u_values stack_seen
returns c =
    let v = c.loop-i.invariant in
    record { value = fold_end _ _ _ _ _ _ v.0 c.loop-i-test.false v.2; plain_after = fold_end _ _ _ _ _ _ v.0 c.loop-i-test.false v.1 }
