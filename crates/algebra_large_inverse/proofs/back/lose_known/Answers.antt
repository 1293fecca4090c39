-- `algebra_large_inverse::back::lose_known` meets its contract.
use Prim.Native.Nat.{◌≤◌, ◌-◌, ◌+◌, ◌*◌}
use mathlib.Core.Path.{◌≡◌, refl, ◌∙◌}
use lib.ListN.{length, get_or}
use lib.Ieee.{nan}
use Rattle.algebra_large.specs.joints.Slab.{put_row}
use Rattle.algebra_large.specs.joints.Steps.{known_less}
use Rattle.algebra_large.proofs.SlabLaws.{row_fits}
use Rattle.algebra_large_inverse.proofs.EliminationLaws.{rows-below}
use Rattle.algebra_large_inverse.proofs.BackLaws.{known-none, known_more, known-end}
use native.Mathlib.Omega.{arith}
use Rattle.algebra_large_inverse.proofs.back.lose_known.Goals as goal

pub loop-j-init : goal.loop-j-init
loop-j-init c = (omega arith, omega arith, refl, known-none _ _ _ _ _ _ (row_fits c.requires.0 _ c.requires.1))

pub lose_row-requires : goal.lose_row-requires
lose_row-requires c = (omega arith, omega arith, rows-below _ _ _ c.args.i c.loop-j.j _ _ (omega arith) c.requires.0.wide c.start-x.ensures.0 c.start-y.ensures.0)

pub loop-j-preserved : goal.loop-j-preserved
loop-j-preserved c =
    let v = c.loop-j.invariant in
    let g = c.requires in (
      omega arith,
      omega arith,
      c.lose_row.auto.work ∙ v.2,
      known_more _ _ _ _ _ _ _ _ _ _ c.args.work.now _ _ (row_fits g.0 _ g.1) g.3 g.1 g.0.wide v.0 c.loop-j-test.true c.start-x.ensures.0 c.start-y.ensures.0 refl v.3 c.lose_row.ensures,
    )

pub shape_of-work : goal.shape_of-work
shape_of-work c = c.loop-j.invariant.2

pub returns : goal.returns
returns c = let v = c.loop-j.invariant in known-end _ _ _ _ _ _ _ c.args.work.now _ v.1 c.loop-j-test.false v.3
