-- `adjustment::packing::ordered_place` meets its contract.
use mathlib.Core.Path.{sym}
use Rattle.adjustment.proofs.PackedLaws.{packed-up, placed}
use borrow.Author.Rules.{rules}
use native.Mathlib.Omega.{arith}
use Rattle.adjustment.proofs.packing.ordered_place.Goals as goal

pub overflow_mul-result : goal.overflow_mul-result
overflow_mul-result c = omega (arith, (placed 4 _ _ _ c.requires.0 c.requires.1 c.requires.2).rows)

pub overflow_mul-result-2 : goal.overflow_mul-result-2
overflow_mul-result-2 c = omega (arith, (placed 4 _ _ _ c.requires.0 c.requires.1 c.requires.2).corner)

pub overflow_sub-result : goal.overflow_sub-result
overflow_sub-result c = (placed 4 _ _ _ c.requires.0 c.requires.1 c.requires.2).fits

pub overflow_add-result-2 : goal.overflow_add-result-2
overflow_add-result-2 c = omega (arith, (placed 4 _ _ _ c.requires.0 c.requires.1 c.requires.2).small)

pub returns : goal.returns
returns c = (sym (packed-up _ _ _ c.requires.1), (placed 4 _ _ _ c.requires.0 c.requires.1 c.requires.2).small, (placed 4 _ _ _ c.requires.0 c.requires.1 c.requires.2).below)
