-- `algebra_large_factor::column` meets its contract.
use mathlib.Core.Path.{refl, ◌∙◌}
use lib.ListN.{length-set}
use lib.Ieee.{of_bits}
use Rattle.algebra.specs.Cholesky.{not_positive}
use Rattle.algebra_large_factor.proofs.FactorLaws.{column-done}
use borrow.Author.Rules.{rules}
use native.Mathlib.Omega.{arith}
use Rattle.algebra_large_factor.proofs.column.Goals as goal

pub shape_of-work : goal.shape_of-work
shape_of-work c = c.below_diagonal.auto.work ∙ simp length-set

pub returns : goal.returns
unfolding not_positive of_bits
returns c =
    let e = c.less_dot-x.ensures in
    record { work_after = column-done _ _ _ _ _ _ _ _ _ _ c.requires.0 c.requires.1 c.start-p.ensures.0 e c.sqrt-d.ensures refl c.below_diagonal.ensures; value = rw e }
