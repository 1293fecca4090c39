-- `algebra_large_inverse::solve::is_singular` meets its contract.
use Prim.Native.Nat.{◌≤◌, ◌<◌, ◌-◌}
use mathlib.Core.Path.{◌≡◌}
use Rattle.algebra.proofs.FoldLaws.{fold_start, fold_next, fold_end}
use Rattle.algebra_large.specs.joints.Slab.{rows_at, zero_on_diagonal}
use Rattle.algebra_large.proofs.InPlace.{read_at}
use borrow.Author.Rules.{rules}
use native.Mathlib.Omega.{arith}
use Rattle.algebra_large_inverse.proofs.solve.is_singular.Goals as goal

pub loop-c-init : goal.loop-c-init
unfolding zero_on_diagonal
loop-c-init c = (omega arith, fold_start _ _ _)

pub loop-c-preserved : goal.loop-c-preserved
unfolding zero_on_diagonal
loop-c-preserved c =
    let h = c.loop-c-test.true in
    let l : c.loop-c.c < c.args.w = omega arith in
    (omega arith, fold_next _ _ _ _ _ _ (omega arith) c.loop-c.invariant.1 (rw (c.is_zero-zero.ensures, read_at _ _ _ _ _ _ c.loop-c.c _ h l c.start-p.ensures.0)))

pub returns : goal.returns
unfolding zero_on_diagonal
returns c = fold_end _ _ _ _ _ _ c.loop-c.invariant.0 c.loop-c-test.false c.loop-c.invariant.1
