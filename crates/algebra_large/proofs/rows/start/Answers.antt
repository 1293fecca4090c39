-- `algebra_large::rows::start` meets its contract.
use Rattle.algebra_large.proofs.SlabLaws.{row_fits}
use mathlib.Core.Path.{refl}
use native.Mathlib.Omega.{arith}
use Rattle.algebra_large.proofs.rows.start.Goals as goal

pub overflow_mul-result : goal.overflow_mul-result
overflow_mul-result c = let h = row_fits c.requires.0 _ c.requires.1 in omega arith

pub overflow_add-result : goal.overflow_add-result
overflow_add-result c = let h = row_fits c.requires.0 _ c.requires.1 in omega arith

pub returns : goal.returns
returns c = let h = row_fits c.requires.0 _ c.requires.1 in (refl, h)
