-- `adjustment_covariance::blocks::places_before` meets its contract.
use Prim.Native.Nat.{ℕ, ◌≤◌, ◌-◌, ◌+◌}
use mathlib.Core.Path.{◌≡◌, ap}
use Rattle.adjustment.specs.Blocks.{places_before}
use Rattle.algebra.proofs.FoldLaws.{fold_start, fold_next, fold_end}
use Rattle.adjustment_covariance.proofs.BlockLaws.{places-room}
use native.Mathlib.Omega.{arith}
use Rattle.adjustment_covariance.proofs.blocks.places_before.Goals as goal

pub loop-i-init : goal.loop-i-init
unfolding places_before
loop-i-init c = (omega arith, fold_start _ _ _)

pub bounds-blocks-i : goal.bounds-blocks-i
bounds-blocks-i c = omega (arith, c.requires.few)

pub places-total-requires : goal.places-total-requires
places-total-requires c = c.requires.small _ c.loop-i-test.true

pub overflow_add-total : goal.overflow_add-total
overflow_add-total c = omega (arith, c.places-total.ensures, places-room _ (c.requires) c.loop-i-test.true)

pub loop-i-preserved : goal.loop-i-preserved
unfolding places_before
loop-i-preserved c = (omega arith, fold_next _ _ _ _ _ _ (omega arith) c.loop-i.invariant.1 (ap (λ (x : ℕ). c.loop-i.total + x) c.places-total.ensures))

pub returns : goal.returns
unfolding places_before
returns c = fold_end _ _ _ _ _ _ c.loop-i.invariant.0 c.loop-i-test.false c.loop-i.invariant.1
