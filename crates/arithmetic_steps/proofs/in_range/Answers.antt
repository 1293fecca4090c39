-- `arithmetic_steps::in_range` meets its contract.
use mathlib.Core.Path.{ap, ◌∙◌}
use lib.Ieee.{of_bits, neg}
use borrow.Author.Rules.{rules}
use Rattle.arithmetic.proofs.RangeCode.{test, range-code}
use Rattle.arithmetic_steps.proofs.in_range.Goals as goal

pub returns : goal.returns
unfolding of_bits neg
returns c = ap (test c.args.x) c.is_zero.ensures ∙ range-code c.args.x
