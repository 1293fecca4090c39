-- `arithmetic::root::missing` meets its contract.
use native.Mathlib.Omega.{arith}
use Rattle.arithmetic.proofs.RootPatterns.{missing-is}
use Rattle.arithmetic.proofs.root.missing.Goals as goal

pub overflow_sub-t : goal.overflow_sub-t
overflow_sub-t c = omega (arith, missing-is _ c.requires.0 c.requires.1)

pub returns : goal.returns
returns c = omega (arith, (missing-is _ c.requires.0 c.requires.1).2)
