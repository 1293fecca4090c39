-- `tests_basis::basis::turned` meets its contract.
use lib.Ieee.{of_bits}
use Rattle.algebra.specs.Table.{row}
use Rattle.algebra.proofs.FoldLaws.{fold_start, fold_next, fold_end}
use borrow.Author.Rules.{rules}
use native.Mathlib.Omega.{arith}
use Rattle.tests_basis.proofs.basis.turned.Goals as goal

pub loop-k-init : goal.loop-k-init
unfolding row of_bits
loop-k-init c = (omega arith, fold_start _ _ _, fold_start _ _ _)

pub loop-k-preserved : goal.loop-k-preserved
unfolding row
loop-k-preserved c =
    let v = c.loop-k.invariant in
    (omega arith, fold_next _ _ _ _ _ _ (omega arith) v.1 (rw c.turned_first.ensures), fold_next _ _ _ _ _ _ (omega arith) v.2 (rw c.turned_second.ensures))

pub returns : goal.returns
unfolding row
returns c =
    let v = c.loop-k.invariant in
    record { first = fold_end _ _ _ _ _ _ v.0 c.loop-k-test.false v.1; second = fold_end _ _ _ _ _ _ v.0 c.loop-k-test.false v.2 }
