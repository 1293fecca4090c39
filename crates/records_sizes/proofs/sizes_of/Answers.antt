-- `records_sizes::sizes_of` meets its contract.
use Rattle.records_sizes.specs.joints.Gathered.{sizes_of}
use borrow.Author.Rules.{rules}
use Rattle.records_sizes.proofs.sizes_of.Goals as goal

pub returns-in-Series : goal.returns-in-Series
returns-in-Series c = rw c.in-Series.is c.series_sizes.ensures

pub returns-in-Test : goal.returns-in-Test
returns-in-Test c = rw c.in-Test.is c.parameter_sizes.ensures

pub returns-in-Archived : goal.returns-in-Archived
returns-in-Archived c = rw c.in-Archived.is c.archive_sizes.ensures

pub returns-in-Second : goal.returns-in-Second
returns-in-Second c = rw c.in-Second.is c.second_sizes.ensures
