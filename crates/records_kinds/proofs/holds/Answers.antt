-- `records_kinds::holds` meets its contract.
use Rattle.records.specs.format.Kinds.{holds}
use borrow.Author.Rules.{rules}
use Rattle.records_kinds.proofs.holds.Goals as goal

pub returns-in-Index : goal.returns-in-Index
unfolding holds
returns-in-Index c = rw c.in-Index.is

pub returns-in-Number : goal.returns-in-Number
unfolding holds
returns-in-Number c = rw c.in-Number.is

pub returns-in-Unused : goal.returns-in-Unused
unfolding holds
returns-in-Unused c = rw c.in-Unused.is
