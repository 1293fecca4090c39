-- `records_arrived::unkept_refusal` meets its contract.
use borrow.Author.Tests.{eq-eqb, ne_eqb}
use Rattle.algebra.specs.Reasons.{first}
use Rattle.records_arrived.specs.joints.ArrivedCall.{unkept_number}
use Rattle.records_arrived.proofs.unkept_refusal.Goals as goal

pub returns-then-a-ne0 : goal.returns-then-a-ne0
unfolding unkept_number first
returns-then-a-ne0 c = rw (ne_eqb _ 0 c.if-a-ne0.true)

pub returns-then-a : goal.returns-then-a
unfolding unkept_number first
returns-then-a c = rw (eq-eqb _ 0 c.if-a-ne0.false, c.if-a.true)

pub returns-then-a-2 : goal.returns-then-a-2
unfolding unkept_number first
returns-then-a-2 c = rw (eq-eqb _ 0 c.if-a-ne0.false, c.if-a.false, c.if-a-2.true)

pub returns : goal.returns
unfolding unkept_number first
returns c = rw (eq-eqb _ 0 c.if-a-ne0.false, c.if-a.false, c.if-a-2.false)
