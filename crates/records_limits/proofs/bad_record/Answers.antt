-- `records_limits::bad_record` meets its contract.
use borrow.Author.Tests.{eq-eqb, ne_eqb}
use Rattle.records_limits.proofs.bad_record.Goals as goal

pub returns-then-out_of : goal.returns-then-out_of
returns-then-out_of c = rw (← c.out_of.ensures, c.if-out_of.true)

pub returns-then-padding_at-ne0 : goal.returns-then-padding_at-ne0
returns-then-padding_at-ne0 c = rw (← c.out_of.ensures, c.if-out_of.false, ← c.padding_at.ensures.0, ne_eqb _ _ c.if-padding_at-ne0.true)

pub returns : goal.returns
returns c = rw (← c.out_of.ensures, c.if-out_of.false, ← c.padding_at.ensures.0, eq-eqb _ _ c.if-padding_at-ne0.false, ← c.bits_at.ensures, ← c.value_holds.ensures)
