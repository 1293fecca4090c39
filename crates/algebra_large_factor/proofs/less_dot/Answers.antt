-- `algebra_large_factor::less_dot` meets its contract.
use Prim.Native.Nat.{◌≤◌, ◌<◌, ◌-◌}
use mathlib.Core.Path.{◌≡◌}
use Rattle.algebra.specs.Kind.{floats}
use Rattle.algebra.specs.Cholesky.{less_dot}
use Rattle.algebra.proofs.FoldLaws.{fold_start, fold_next, fold_end}
use Rattle.algebra_large.specs.joints.Slab.{rows_at}
use Rattle.algebra_large.proofs.InPlace.{read_at}
use native.Mathlib.Omega.{arith}
use Rattle.algebra_large_factor.proofs.less_dot.Goals as goal

pub loop-k-init : goal.loop-k-init
unfolding less_dot
loop-k-init c = (omega arith, rw (read_at _ _ _ _ _ _ _ _ c.requires.1 c.requires.2 c.start-p.ensures.0) (fold_start _ _ _))

pub loop-k-preserved : goal.loop-k-preserved
unfolding less_dot
loop-k-preserved c =
    let h = c.requires in
    let l : c.loop-k.k < c.args.n = omega arith in (
      omega arith,
      fold_next _ _ _ _ _ _ (omega arith) c.loop-k.invariant.1
          (rw (read_at _ _ _ _ _ _ c.loop-k.k _ h.1 l c.start-p.ensures.0, read_at _ _ _ _ _ _ c.loop-k.k _ h.2 l c.start-q.ensures.0)),
    )

pub returns : goal.returns
unfolding less_dot
returns c = fold_end _ _ _ _ _ _ c.loop-k.invariant.0 c.loop-k-test.false c.loop-k.invariant.1
