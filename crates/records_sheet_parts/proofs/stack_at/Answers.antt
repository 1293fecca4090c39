-- `records_sheet_parts::stack_at` meets its contract.
use Prim.Native.Nat.{ℕ, ◌*◌, ◌≤◌}
use native.Mathlib.Nat.{mul-le-mul}
use lib.Ieee.{of_bits}
use native.Mathlib.Omega.{arith}
use Rattle.algebra.specs.Table.{blank}
use Rattle.algebra.proofs.FoldLaws.{fold_start, fold_next, fold_end}
use Rattle.records_sheet_parts.specs.joints.Parts.{stack_at}
use Rattle.records_sheet_parts.proofs.Strides.{row_inside}
use Rattle.records_sheet_parts.proofs.stack_at.Goals as goal

small-square : (p : ℕ) → p ≤ 6 → p * p ≤ 36
small-square p h = mul-le-mul h h

pub loop-i-init : goal.loop-i-init
unfolding stack_at blank of_bits
loop-i-init c = (omega arith, c.requires.0, c.requires.1, c.requires.2, fold_start _ _ _)

pub overflow_mul-p : goal.overflow_mul-p
overflow_mul-p c = omega (arith, small-square c.args.p c.loop-i.invariant.2)

pub overflow_mul-i : goal.overflow_mul-i
overflow_mul-i c = omega (arith, row_inside _ _ _ _ _ c.loop-i.invariant.3 c.loop-i-test.true)

pub overflow_add-at : goal.overflow_add-at
overflow_add-at c = omega (arith, row_inside _ _ _ _ _ c.loop-i.invariant.3 c.loop-i-test.true)

pub cells_at-m-requires : goal.cells_at-m-requires
cells_at-m-requires c = omega (arith, row_inside _ _ _ _ _ c.loop-i.invariant.3 c.loop-i-test.true)

pub loop-i-preserved : goal.loop-i-preserved
unfolding stack_at
loop-i-preserved c = (omega arith, omega arith, omega arith, omega arith, fold_next _ _ _ _ _ _ (omega arith) c.loop-i.invariant.4 (rw c.cells_at-m.ensures))

pub returns : goal.returns
unfolding stack_at
returns c = fold_end _ _ _ _ _ _ c.loop-i.invariant.0 c.loop-i-test.false c.loop-i.invariant.4
