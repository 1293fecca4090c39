-- `algebra_large_products::narrow::cross_row` meets its contract.
use Prim.Native.Nat.{◌≤◌, ◌-◌}
use mathlib.Core.Path.{◌≡◌}
use Rattle.algebra.proofs.FoldLaws.{fold_start, fold_next, fold_end}
use Rattle.algebra_large.specs.joints.Slab.{rows_at}
use Rattle.algebra_large.specs.joints.Steps.{crossed}
use Rattle.algebra_large.proofs.InPlace.{read_at}
use native.Mathlib.Omega.{arith}
use Rattle.algebra_large_products.proofs.narrow.cross_row.Goals as goal

pub loop-j-init : goal.loop-j-init
unfolding crossed
loop-j-init c = (omega arith, fold_start _ _ _)

pub loop-j-preserved : goal.loop-j-preserved
unfolding crossed
loop-j-preserved c =
    let h = c.loop-j-test.true in
    let l = c.requires.2 in (
      omega arith,
      fold_next _ _ _ _ _ _ (omega arith) c.loop-j.invariant.1
          (rw (read_at _ _ _ _ _ c.loop-j.j c.args.i _ h l c.start-a.ensures.0, read_at _ _ _ _ _ c.args.i c.loop-j.j _ l h c.start-b.ensures.0)),
    )

pub returns : goal.returns
unfolding crossed
returns c = fold_end _ _ _ _ _ _ c.loop-j.invariant.0 c.loop-j-test.false c.loop-j.invariant.1
