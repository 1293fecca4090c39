-- `records_season::worse` meets its contract.
use Rattle.records.specs.text.Season.{worse}
use Rattle.records_season.proofs.worse.Goals as goal

pub returns-then-x-y : goal.returns-then-x-y
unfolding worse
returns-then-x-y c = rw (c.in-Some-Some.is-0, c.in-Some-Some.is-1, c.if-x-y.true)

pub returns-else-x-y : goal.returns-else-x-y
unfolding worse
returns-else-x-y c = rw (c.in-Some-Some.is-0, c.in-Some-Some.is-1, c.if-x-y.false)

pub returns-in-None-default : goal.returns-in-None-default
unfolding worse
returns-in-None-default c = rw c.in-None-default.is-0

pub returns-in_default-None : goal.returns-in_default-None
unfolding worse
returns-in_default-None c = rw (c.in_default-None.is-0, c.in_default-None.is-1)

pub returns-in_default-None-2 : goal.returns-in_default-None-2
unfolding worse
returns-in_default-None-2 c = rw (c.in_default-None.is-0, c.in_default-None.is-1)
