-- `tests_kr_modcomp::full_rank::solve_wald_quadratic` meets its contract.
use lib.Ieee.{of_bits}
use borrow.Author.Tests.{eq-eqb, ne_eqb}
use Rattle.tests_kr_modcomp.specs.joints.Parts.{wald_of}
use borrow.Author.Rules.{rules}
use Rattle.tests_kr_modcomp.proofs.full_rank.solve_wald_quadratic.Goals as goal

pub returns-then-is_positive : goal.returns-then-is_positive
unfolding wald_of
returns-then-is_positive c =
    let e = c.if-q-eq1.true in
    rw (eq-eqb _ _ e, ← c.is_positive.ensures, c.if-is_positive.true) c.square_one.ensures

pub returns-then-q-eq1 : goal.returns-then-q-eq1
unfolding wald_of of_bits
returns-then-q-eq1 c = rw (eq-eqb _ _ c.if-q-eq1.true, ← c.is_positive.ensures, c.if-is_positive.false) c.given.ensures

pub returns : goal.returns
unfolding wald_of
returns c = rw (ne_eqb _ _ c.if-q-eq1.false) c.wald_many.ensures
