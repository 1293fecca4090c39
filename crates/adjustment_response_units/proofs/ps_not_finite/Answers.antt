-- `adjustment_response_units::ps_not_finite` meets its contract.
use Prim.Native.Nat.{◌≤◌, ◌-◌}
use mathlib.Core.Path.{◌≡◌}
use Rattle.algebra.specs.Kind.{marks}
use Rattle.algebra.proofs.FoldLaws.{fold_start, fold_next, fold_end}
use mathlib.Core.Bool.{false, ◌||◌}
use Rattle.algebra.specs.Fold.{fold}
use Rattle.adjustment.specs.Adjusted.{matrix_at, scaled_down, not_all_finite, not_all_finite_marked}
use Rattle.adjustment.proofs.AdjustedLaws.{ps-step}
use native.Mathlib.Omega.{arith}
use Rattle.adjustment_response_units.proofs.ps_not_finite.Goals as goal

pub loop-r-init : goal.loop-r-init
loop-r-init c = (omega arith, fold_start _ _ _)

pub loop-r-preserved : goal.loop-r-preserved
loop-r-preserved c = (omega arith, fold_next _ _ _ _ _ _ (omega arith) c.loop-r.invariant.1 (ps-step _ _ _ c.loop-r.found _ _ _ c.not_all_finite-plain.ensures c.scaled_down-down.ensures c.not_all_finite_marked-scaled.ensures))

pub returns : goal.returns
returns c = fold_end _ _ _ _ _ _ c.loop-r.invariant.0 c.loop-r-test.false c.loop-r.invariant.1
