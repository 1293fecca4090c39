-- `records_limits::out_of` meets its contract.
use Rattle.records.specs.format.File.{out_of}
use Rattle.records_limits.proofs.out_of.Goals as goal

pub returns-then-not-holds : goal.returns-then-not-holds
unfolding out_of
returns-then-not-holds c = rw (← c.row_at.ensures.0, ← c.holds.ensures, c.if-not-holds.true)

pub returns-then-not-holds-2 : goal.returns-then-not-holds-2
unfolding out_of
returns-then-not-holds-2 c = rw (← c.row_at.ensures.0, ← c.holds.ensures, c.if-not-holds.false, ← c.column_at.ensures.0, ← c.holds-2.ensures, c.if-not-holds-2.true)

pub returns : goal.returns
unfolding out_of
returns c = rw (← c.row_at.ensures.0, ← c.holds.ensures, c.if-not-holds.false, ← c.column_at.ensures.0, ← c.holds-2.ensures, c.if-not-holds-2.false, ← c.count_at.ensures.0, ← c.holds-3.ensures)
