use Prim.Native.Nat.{◌≤◌, ◌-◌}
use mathlib.Core.Path.{◌≡◌}
use lib.Ieee.{binary64, mul}
use Rattle.algebra.specs.Kind.{floats}
use Rattle.algebra.specs.Product.{at, sum}
use Rattle.adjustment_covariance.specs.joints.Lent.{z_rows}
use Rattle.adjustment.specs.Blocks.{direction}
use Rattle.adjustment.specs.Covariance.{group_column}
use Rattle.adjustment_covariance_rows.proofs.cells.directed_cell.Given as goal

abbrev pub invariant-loop-a : goal.invariant-loop-a
invariant-loop-a l = (l.a ≤ l.t.effects) × (l.total ≡ sum floats l.a (λ a. mul binary64 (at floats (z_rows l.design) l.i (group_column l.t l.g a)) (direction l.t a l.b)))

abbrev pub decreases-loop-a : goal.decreases-loop-a
decreases-loop-a l = l.t.effects - l.a
