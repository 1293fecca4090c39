-- `records_kinds::width` meets its contract.
use Rattle.records.specs.format.Kinds.{width}
use borrow.Author.Rules.{rules}
use Rattle.records_kinds.proofs.width.Goals as goal

pub returns-in-Index : goal.returns-in-Index
unfolding width
returns-in-Index c = rw c.in-Index.is

pub returns-in-Number : goal.returns-in-Number
unfolding width
returns-in-Number c = rw c.in-Number.is

pub returns-in-Unused : goal.returns-in-Unused
unfolding width
returns-in-Unused c = rw c.in-Unused.is
