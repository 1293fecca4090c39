-- `algebra_large::rows::gain_rows` meets its contract.
use Prim.Native.Nat.{◌≤◌, ◌-◌, ◌+◌}
use mathlib.Core.Path.{◌≡◌, refl, ◌∙◌}
use lib.ListN.{length, get_or}
use lib.Ieee.{nan}
use Rattle.algebra_large.specs.joints.Slab.{put_row}
use Rattle.algebra_large.specs.joints.Steps.{gained_to}
use Rattle.algebra_large.proofs.ProductLaws.{row-apart-of, gain-none, gain-more, gain-end}
use native.Mathlib.Omega.{arith}
use Rattle.algebra_large.proofs.rows.gain_rows.Goals as goal

pub loop-k-init : goal.loop-k-init
loop-k-init c = (omega arith, refl, gain-none _ _ _ _ _ _ _ _ _ _ (omega arith))

pub gain_row-requires : goal.gain_row-requires
gain_row-requires c = (omega arith, omega arith, row-apart-of c.requires.apart.1 _ _ c.loop-k-test.true c.requires.c_in_bounds.2.wide c.start-b.ensures.0)

pub loop-k-preserved : goal.loop-k-preserved
loop-k-preserved c =
    let v = c.loop-k.invariant in
    let g = c.requires in
    let xs = c.args.work.now in
    let d = c.args.d in (
      omega arith,
      c.gain_row.auto.work ∙ v.1,
      gain-more (λ j. get_or xs (d + j) nan) _ _ _ _ _ _ _ _ _ _ _ _ xs _ _ g.c_in_bounds.0 g.apart.0 g.apart.1 c.loop-k-test.true (omega (arith, g.c_in_bounds.1.wide)) g.c_in_bounds.2.wide
          c.start-a.ensures.0 c.start-b.ensures.0 refl v.2 c.gain_row.ensures,
    )

pub shape_of-work : goal.shape_of-work
shape_of-work c = c.loop-k.invariant.1

pub returns : goal.returns
returns c = gain-end _ _ _ _ _ _ _ _ _ _ _ c.args.work.now _ c.loop-k.invariant.0 c.loop-k-test.false c.loop-k.invariant.2
