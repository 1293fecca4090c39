-- `records_kinds::index_of` meets its contract.
use Rattle.records.specs.format.Kinds.{index_of}
use borrow.Author.Rules.{rules}
use Rattle.records_kinds.proofs.index_of.Goals as goal

pub returns-in-Index : goal.returns-in-Index
unfolding index_of
returns-in-Index c = rw c.in-Index.is

pub returns-in-Number : goal.returns-in-Number
unfolding index_of
returns-in-Number c = rw c.in-Number.is

pub returns-in-Unused : goal.returns-in-Unused
unfolding index_of
returns-in-Unused c = rw c.in-Unused.is
