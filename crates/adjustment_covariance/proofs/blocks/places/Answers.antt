-- `adjustment_covariance::blocks::places` meets its contract.
use Rattle.adjustment_covariance.proofs.BlockLaws.{square-small}
use native.Mathlib.Omega.{arith}
use borrow.Author.Rules.{rules}
use Rattle.adjustment_covariance.proofs.blocks.places.Goals as goal

pub overflow_mul-result : goal.overflow_mul-result
overflow_mul-result c = omega (arith, square-small 2 _ (c.requires))
