-- `records_answer_text::letter` meets its contract.
use mathlib.Core.Path.{sym}
use borrow.Author.Tests.{lt-ltb, le-ltb}
use Rattle.records.specs.text.Text.{digit}
use Rattle.records_answer_text.proofs.letter.Goals as goal

pub returns-then-d-lt10 : goal.returns-then-d-lt10
unfolding digit
returns-then-d-lt10 c = sym (rw (lt-ltb _ _ c.if-d-lt10.true))

pub returns-else-d-lt10 : goal.returns-else-d-lt10
unfolding digit
returns-else-d-lt10 c = sym (rw (le-ltb _ _ c.if-d-lt10.false))
