-- `arithmetic_steps::zero_of` meets its contract.
use lib.Ieee.{of_bits}
use borrow.Author.Rules.{rules}
use Rattle.arithmetic_steps.proofs.zero_of.Reads as reads
use Rattle.arithmetic_steps.proofs.zero_of.Lts as lts
use Rattle.arithmetic_steps.proofs.given.Reads as given-reads
use Rattle.arithmetic_steps.proofs.zero_of.Goals as goal

pub returns : goal.returns
unfolding of_bits
returns c = c.given.ensures
