-- `tests_moments::general_df` meets its contract.
use lib.Ieee.{of_bits}
use Rattle.tests.specs.Moments.{general_df}
use borrow.Author.Rules.{rules}
use Rattle.tests_moments.proofs.general_df.Goals as goal

pub returns-then-c-magnitude : goal.returns-then-c-magnitude
unfolding general_df of_bits
returns-then-c-magnitude c =
    rw (
      ← c.excess_of-e.ensures,
      ← c.magnitude.ensures,
      c.if-c-magnitude.true,
      ← c.of_count.ensures,
    )
    c.positive.ensures

pub returns : goal.returns
unfolding general_df of_bits
returns c = rw (← c.excess_of-e.ensures, ← c.magnitude.ensures, c.if-c-magnitude.false)
