-- `algebra_elimination::back_substitution::back_row` meets its contract.
use mathlib.Core.Path.{◌∙◌}
use native.Mathlib.Omega.{arith}
use Rattle.algebra.specs.Table.{row}
use Rattle.algebra.proofs.FoldLaws.{fold_start, fold_next, fold_end}
use Rattle.algebra_elimination.specs.joints.BackSubstitution.{less_known}
use lib.Ieee.{of_bits}
use Rattle.algebra_elimination.proofs.back_substitution.Steps.{known_is}
use Rattle.std.proofs.Common.{rules}
use Rattle.std.proofs.lemmas.Grind.{common_steps}
use Rattle.algebra_elimination.proofs.back_substitution.back_row.Goals as goal

pub loop-k-init : goal.loop-k-init
unfolding row of_bits
loop-k-init g c = (omega arith, rw c.of-out.ensures (fold_start _ _ _))

pub loop-j-init : goal.loop-j-init
unfolding less_known
loop-j-init g c = (omega arith, omega arith, (search (rules, common_steps)) ∙ fold_start _ _ _)

pub loop-j-preserved : goal.loop-j-preserved
unfolding less_known
loop-j-preserved g c = (omega arith, omega arith, fold_next _ _ _ _ _ _ (omega arith) c.loop-j.invariant.2 (search (rules, common_steps)))

pub loop-k-preserved : goal.loop-k-preserved
unfolding row
loop-k-preserved g c =
    let v = c.loop-j.invariant in
    let e = known_is g.T.Scalar.arith _ _ _ _ c.args.a _ _ c.over.result v.1 c.loop-j-test.false v.2 (search (rules, common_steps)) in
    (omega arith, fold_next _ _ _ _ _ _ (omega arith) c.loop-k.invariant.1 (rw e))

pub returns : goal.returns
unfolding row
returns g c = fold_end _ _ _ _ _ _ c.loop-k.invariant.0 c.loop-k-test.false c.loop-k.invariant.1
