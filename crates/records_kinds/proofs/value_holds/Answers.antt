-- `records_kinds::value_holds` meets its contract.
use Rattle.records.specs.format.Kinds.{value_holds}
use borrow.Author.Rules.{rules}
use Rattle.records_kinds.proofs.value_holds.Goals as goal

pub returns-in-Float : goal.returns-in-Float
unfolding value_holds
returns-in-Float c = rw c.in-Float.is

pub returns-in-FirstByte : goal.returns-in-FirstByte
unfolding value_holds
returns-in-FirstByte c = rw c.in-FirstByte.is
