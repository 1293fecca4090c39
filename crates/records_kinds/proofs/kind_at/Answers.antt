-- `records_kinds::kind_at` meets its contract.
use Rattle.records.specs.format.Kinds.{kinds_of}
use borrow.Author.Rules.{rules}
use Rattle.records_kinds.proofs.kind_at.Goals as goal

pub returns-in-Series : goal.returns-in-Series
returns-in-Series c = rw c.in-Series.is c.kenward_roger_kind.ensures

pub returns-in-Test : goal.returns-in-Test
returns-in-Test c = rw c.in-Test.is c.satterthwaite_kind.ensures

pub returns-in-Archived : goal.returns-in-Archived
returns-in-Archived c = rw c.in-Archived.is c.archive_kind.ensures

pub returns-in-Second : goal.returns-in-Second
returns-in-Second c = rw c.in-Second.is c.test_kind.ensures
