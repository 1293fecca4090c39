-- `adjustment_sigma::gain_sigma` meets its contract.
use Prim.Native.Nat.{◌+◌}
use mathlib.Core.Path.{refl, ◌∙◌}
use lib.ListN.{get_or}
use lib.Ieee.{nan}
use Rattle.algebra_large.proofs.ProductLaws.{terms-more}
use Rattle.adjustment_covariance_rows.proofs.RowLaws.{terms-none, terms-end}
use Rattle.adjustment_sigma.proofs.PartLaws.{sigma-turn}
use native.Mathlib.Omega.{arith}
use Rattle.adjustment_sigma.proofs.gain_sigma.Goals as goal

pub places_before-last-requires : goal.places_before-last-requires
places_before-last-requires c = c.requires.lent.0.sound

pub loop-r-init : goal.loop-r-init
loop-r-init c = (omega arith, c.places_before-last.ensures, refl, refl, terms-none _ _ _ _ (omega arith))

pub g_row-requires : goal.g_row-requires
g_row-requires c = (omega arith, c.requires.lent.0, omega arith, omega arith, c.requires.lent.1)

pub factor-f-requires : goal.factor-f-requires
factor-f-requires c = (c.requires.lent.0.sound, omega arith)

pub loop-r-preserved : goal.loop-r-preserved
loop-r-preserved c =
    let v = c.loop-r.invariant in (
      omega arith,
      v.1,
      c.gain_from.auto.out ∙ v.2,
      c.g_row.auto.out ∙ v.3,
      terms-more _ (λ j. get_or c.args.work.now (c.args.a + j) nan) _ _ _ _ _ _ _ c.requires.m_in_bounds.0 v.4 c.gain_from.ensures
          (λ j l. sigma-turn _ _ _ _ _ _ _ _ _ _ _ _ _ _ (omega arith) c.factor-f.ensures c.g_row.ensures j l),
    )

pub shape_of-work : goal.shape_of-work
shape_of-work c = c.loop-r.invariant.2

pub shape_of-row : goal.shape_of-row
shape_of-row c = c.loop-r.invariant.3

pub returns : goal.returns
returns c = terms-end _ _ _ _ _ c.args.work.now _ (omega arith) (omega arith) c.loop-r.invariant.4
