-- `adjustment_covariance_rows::cells::group_column` meets its contract.
use Prim.Native.Nat.{◌+◌}
use mathlib.Core.Path.{refl}
use Rattle.algebra_large.proofs.SlabLaws.{row_in}
use native.Mathlib.Omega.{arith}
use Rattle.adjustment_covariance_rows.proofs.cells.group_column.Goals as goal

pub overflow_mul-result : goal.overflow_mul-result
overflow_mul-result c = omega (arith, c.requires.0.ends, row_in c.args.t.effects c.args.t.groups (c.args.a + 1) c.args.g c.requires.1 (omega arith))

pub overflow_add-result : goal.overflow_add-result
overflow_add-result c = omega (arith, c.requires.0.ends, row_in c.args.t.effects c.args.t.groups (c.args.a + 1) c.args.g c.requires.1 (omega arith))

pub overflow_add-result-2 : goal.overflow_add-result-2
overflow_add-result-2 c = omega (arith, c.requires.0.ends, row_in c.args.t.effects c.args.t.groups (c.args.a + 1) c.args.g c.requires.1 (omega arith))

pub returns : goal.returns
returns c = (refl, omega (arith, c.requires.0.ends, row_in c.args.t.effects c.args.t.groups (c.args.a + 1) c.args.g c.requires.1 (omega arith)))
