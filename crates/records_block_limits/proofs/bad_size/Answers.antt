-- `records_block_limits::bad_size` meets its contract.
use Rattle.records_block_limits.specs.joints.Checks.{bad_size_in}
use borrow.Author.Rules.{rules}
use Rattle.records_block_limits.proofs.bad_size.Reads as reads
use Rattle.records_block_limits.proofs.bad_size.Lts as lts
use Rattle.records_block_limits.proofs.any_wrong.Reads as any-wrong-reads
use Rattle.records_block_limits.proofs.parameters_of.Reads as parameters-of-reads
use Rattle.records_block_limits.proofs.bad_size.Goals as goal

pub returns-then-any_wrong : goal.returns-then-any_wrong
unfolding bad_size_in
returns-then-any_wrong c = rw (← c.any_wrong.ensures, c.if-any_wrong.true)

pub returns : goal.returns
unfolding bad_size_in
returns c = rw (← c.any_wrong.ensures, c.if-any_wrong.false, ← c.parameters_of.ensures)
