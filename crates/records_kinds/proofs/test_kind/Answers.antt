-- `records_kinds::test_kind` meets its contract.
use native.Mathlib.Omega.{arith}
use borrow.Author.Tests.{ne_eqb}
use Rattle.records.specs.format.Kinds.{kind_at, test_kinds}
use borrow.Author.Rules.{rules}
use Rattle.records_kinds.proofs.test_kind.Goals as goal

pub returns-in-8 : goal.returns-in-8
unfolding kind_at test_kinds
returns-in-8 c = rw c.in-8.is c.by_row.ensures

pub returns-in-9 : goal.returns-in-9
unfolding kind_at test_kinds
returns-in-9 c = rw c.in-9.is c.by_row_and_column.ensures

pub returns-in-10 : goal.returns-in-10
unfolding kind_at test_kinds
returns-in-10 c = rw (c.in-10.is, ← c.given.ensures) c.by_row-in-10.ensures

pub returns-in_default : goal.returns-in_default
unfolding kind_at test_kinds
returns-in_default c = rw (ne_eqb c.args.kind 8 (omega arith), ne_eqb c.args.kind 9 (omega arith), ne_eqb c.args.kind 10 (omega arith)) c.unread.ensures
