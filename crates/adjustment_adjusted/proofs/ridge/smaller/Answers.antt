-- `adjustment_adjusted::ridge::smaller` meets its contract.
use Rattle.adjustment_adjusted.proofs.ridge.smaller.Goals as goal

pub returns-then-v-s : goal.returns-then-v-s
returns-then-v-s c = rw c.if-v-s.true

pub returns-else-v-s : goal.returns-else-v-s
returns-else-v-s c = rw c.if-v-s.false
