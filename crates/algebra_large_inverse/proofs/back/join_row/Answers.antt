-- `algebra_large_inverse::back::join_row` meets its contract.
use mathlib.Core.Path.{refl, ◌∙◌}
use lib.ListN.{length-set}
use lib.Ieee.{of_bits}
use Rattle.algebra_large_inverse.proofs.InverseLaws.{join_apart, join-row}
use native.Mathlib.Omega.{arith}
use borrow.Author.Rules.{rules}
use Rattle.algebra_large_inverse.proofs.back.join_row.Goals as goal

pub copy_row-requires : goal.copy_row-requires
copy_row-requires c = (omega arith, omega arith, join_apart c.requires.2)

pub shape_of-work : goal.shape_of-work
shape_of-work c = simp length-set (c.clear_row.auto.work ∙ c.copy_row.auto.work)

pub returns : goal.returns
unfolding of_bits
returns c = join-row _ _ _ _ _ _ _ _ c.requires.0 c.requires.3 c.copy_row.ensures refl c.clear_row.ensures
