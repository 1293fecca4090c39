-- `tests_basis::basis::contrast_basis` meets its contract.
use lib.Ieee.{of_bits}
use Rattle.tests_basis.proofs.BasisLaws.{basis-of-one, basis-of-several}
use borrow.Author.Rules.{rules}
use native.Mathlib.Omega.{arith}
use Rattle.tests_basis.proofs.basis.contrast_basis.Goals as goal

pub returns-then-rows-eq1 : goal.returns-then-rows-eq1
unfolding of_bits
returns-then-rows-eq1 c = (basis-of-one _ _ _ _ _ _ _ c.divided-d.ensures c.given.ensures c.all_marks-seen.ensures c.values-m.ensures c.if-rows-eq1.true, omega arith)

pub returns : goal.returns
unfolding of_bits
returns c =
    let rank = c.rank_of-rank.ensures in
    (basis-of-several _ _ _ _ _ _ _ c.divided-d.ensures c.given.ensures c.all_marks-seen.ensures c.values-m.ensures _ _ _ _ c.if-rows-eq1.false c.sweeps-turned.ensures c.norms-ns.ensures rank.0 c.basis_rows-unit_rows.ensures, rank.1)
