-- `tests_ddf::pooled::get_fstat_ddf` meets its contract.
use lib.Ieee.{of_bits}
use Rattle.tests.specs.PooledDf.{pooled, get_fstat_ddf}
use borrow.Author.Rules.{rules}
use Rattle.tests_ddf.proofs.pooled.get_fstat_ddf.Goals as goal

pub returns-then-alone-all_within : goal.returns-then-alone-all_within
unfolding get_fstat_ddf
returns-then-alone-all_within c = rw (← c.all_within.ensures, c.if-alone-all_within.true)

pub returns-then-any_low : goal.returns-then-any_low
unfolding get_fstat_ddf of_bits
returns-then-any_low c = rw (← c.all_within.ensures, c.if-alone-all_within.false, ← c.any_low.ensures, c.if-any_low.true)

pub returns : goal.returns
unfolding get_fstat_ddf pooled of_bits
returns c = rw (← c.all_within.ensures, c.if-alone-all_within.false, ← c.any_low.ensures, c.if-any_low.false, ← c.expected-e.ensures, ← c.of_count.ensures)
