-- `tests_kr_modcomp::full_rank::scaled_ps` meets its contract.
use Prim.Native.Nat.{◌≤◌, ◌-◌}
use mathlib.Core.Path.{◌≡◌}
use Rattle.algebra.specs.Kind.{marks}
use Rattle.algebra.proofs.FoldLaws.{fold_start, fold_next, fold_end}
use Rattle.tests.specs.KenwardRoger.{scaled_ps}
use native.Mathlib.Omega.{arith}
use borrow.Author.Rules.{rules}
use Rattle.tests_kr_modcomp.proofs.full_rank.scaled_ps.Goals as goal

pub loop-r-init : goal.loop-r-init
unfolding scaled_ps
loop-r-init c = (omega arith, rw c.zeros-blank.ensures (fold_start _ _ _))

pub loop-r-preserved : goal.loop-r-preserved
unfolding scaled_ps
loop-r-preserved c = (omega arith, fold_next _ _ _ _ _ _ (omega arith) c.loop-r.invariant.1 (rw c.scaled_down-scaled.ensures))

pub returns : goal.returns
unfolding scaled_ps
returns c = fold_end _ _ _ _ _ _ c.loop-r.invariant.0 c.loop-r-test.false c.loop-r.invariant.1
