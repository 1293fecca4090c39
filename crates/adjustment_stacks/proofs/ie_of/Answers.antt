-- `adjustment_stacks::ie_of` meets its contract.
use Rattle.adjustment_stacks.proofs.InformationLaws.{mirror-is}
use native.Mathlib.Omega.{arith}
use borrow.Author.Rules.{rules}
use Rattle.adjustment_stacks.proofs.ie_of.Goals as goal

pub returns : goal.returns
returns c = mirror-is _ _ _ _ (omega (arith, c.requires.3)) c.upper_half-half.ensures c.mirrored.ensures
