-- `tests_kr_modcomp::full_rank::wald_seen` meets its contract.
use borrow.Author.Tests.{eq-eqb, ne_eqb}
use Rattle.tests_kr_modcomp.specs.joints.Parts.{wald_seen_of}
use borrow.Author.Rules.{rules}
use Rattle.tests_kr_modcomp.proofs.full_rank.wald_seen.Goals as goal

pub returns-then-q-eq1 : goal.returns-then-q-eq1
unfolding wald_seen_of
returns-then-q-eq1 c =
    let s1 = c.all_marks-s1.ensures in
    let s2 = c.all_marks-s2.ensures in
    rw (eq-eqb _ _ c.if-q-eq1.true, ← s1, ← s2) c.also.ensures

pub returns : goal.returns
unfolding wald_seen_of
returns c =
    let s1 = c.all_marks-s1.ensures in
    let s2 = c.all_marks-s2.ensures in
    rw (ne_eqb _ _ c.if-q-eq1.false, ← s1, ← s2, ← c.all_marks-s3.ensures) c.also-2.ensures
