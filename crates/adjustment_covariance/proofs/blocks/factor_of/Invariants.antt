use Prim.Native.Nat.{◌≤◌, ◌-◌}
use mathlib.Core.Path.{◌≡◌}
use lib.Ieee.{of_bits, binary64, mul}
use Rattle.algebra.specs.Kind.{floats}
use Rattle.algebra.specs.Product.{sum}
use Rattle.adjustment.specs.Blocks.{theta_cell, factor_of}
use Rattle.algebra_products.proofs.LoopLaws.{sum-none, sum_more, sum-end}
use native.Mathlib.Omega.{arith}
use Rattle.adjustment_covariance.proofs.blocks.factor_of.Given as goal

abbrev pub invariant-loop-c : goal.invariant-loop-c
invariant-loop-c l = (l.c ≤ l.t.effects) × (l.total ≡ sum floats l.c (λ k. mul binary64 (theta_cell l.theta l.t l.t.row k) (theta_cell l.theta l.t l.t.column k)))

abbrev pub decreases-loop-c : goal.decreases-loop-c
decreases-loop-c l = l.t.effects - l.c
