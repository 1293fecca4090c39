-- `algebra_large_products::narrow::gain_all` meets its contract.
use Prim.Native.Nat.{◌≤◌, ◌-◌, ◌+◌}
use mathlib.Core.Path.{◌≡◌, refl, ◌∙◌}
use lib.ListN.{length, get_or}
use lib.Ieee.{nan}
use Rattle.algebra_large.specs.joints.Slab.{put_row}
use Rattle.algebra_large.specs.joints.Steps.{gained_to}
use Rattle.algebra_large.proofs.ProductLaws.{gain-none, gain-end}
use Rattle.algebra_large_products.proofs.NarrowLaws.{by-more}
use native.Mathlib.Omega.{arith}
use Rattle.algebra_large_products.proofs.narrow.gain_all.Goals as goal

pub loop-k-init : goal.loop-k-init
loop-k-init c = (omega arith, refl, gain-none _ _ _ _ _ _ _ _ _ _ (omega arith))

pub loop-k-preserved : goal.loop-k-preserved
loop-k-preserved c =
    let v = c.loop-k.invariant in
    let xs = c.args.out.now in
    let d = c.args.d in (
      omega arith,
      c.gain_from.auto.out ∙ v.1,
      by-more (λ j. get_or xs (d + j) nan) _ _ _ _ _ _ _ _ _ _ xs _ _ c.requires.0 c.start-b.ensures.0 refl v.2 c.gain_from.ensures,
    )

pub shape_of-out : goal.shape_of-out
shape_of-out c = c.loop-k.invariant.1

pub returns : goal.returns
returns c = gain-end _ _ _ _ _ _ _ _ _ _ _ c.args.out.now _ c.loop-k.invariant.0 c.loop-k-test.false c.loop-k.invariant.2
