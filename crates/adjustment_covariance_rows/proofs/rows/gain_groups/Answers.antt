-- `adjustment_covariance_rows::rows::gain_groups` meets its contract.
use Prim.Native.Nat.{◌+◌}
use mathlib.Core.Path.{refl, ◌∙◌}
use lib.ListN.{get_or}
use lib.Ieee.{nan}
use Rattle.algebra_large.proofs.ProductLaws.{terms-more}
use Rattle.adjustment_covariance_rows.proofs.RowLaws.{terms-none, terms-end}
use native.Mathlib.Omega.{arith}
use Rattle.adjustment_covariance_rows.proofs.rows.gain_groups.Goals as goal

pub loop-g-init : goal.loop-g-init
loop-g-init c = (omega arith, refl, terms-none _ _ _ _ (omega arith))

pub gain_group-requires : goal.gain_group-requires
gain_group-requires c =
    let g = c.requires in
    (omega arith, g.1, g.2, g.3, c.loop-g-test.true, g.4)

pub loop-g-preserved : goal.loop-g-preserved
loop-g-preserved c =
    let v = c.loop-g.invariant in
    (omega arith, c.gain_group.auto.out ∙ v.1, terms-more _ (λ j. get_or c.args.out.now (c.args.d + j) nan) _ _ _ _ _ _ _ c.requires.0 v.2 c.gain_group.ensures (λ j l. refl))

pub shape_of-out : goal.shape_of-out
shape_of-out c = c.loop-g.invariant.1

pub returns : goal.returns
returns c = terms-end _ _ _ _ _ c.args.out.now _ c.loop-g.invariant.0 c.loop-g-test.false c.loop-g.invariant.2
