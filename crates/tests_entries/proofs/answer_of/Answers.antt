-- `tests_entries::answer_of` meets its contract.
use Rattle.tests.specs.Entries.{run_refusal, run_entries}
use Rattle.tests_entries.proofs.answer_of.Goals as goal

pub returns-then-run : goal.returns-then-run
unfolding run_refusal run_entries
returns-then-run c = record { value = rw c.if-run.true; told = rw c.if-run.true }

pub returns : goal.returns
unfolding run_refusal run_entries
returns c = record { value = rw c.if-run.false; told = rw c.if-run.false }
