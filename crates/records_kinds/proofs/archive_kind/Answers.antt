-- `records_kinds::archive_kind` meets its contract.
use native.Mathlib.Omega.{arith}
use borrow.Author.Tests.{ne_eqb}
use Rattle.records.specs.format.Kinds.{kind_at, archive_kinds}
use borrow.Author.Rules.{rules}
use Rattle.records_kinds.proofs.archive_kind.Goals as goal

pub returns-in-11 : goal.returns-in-11
unfolding kind_at archive_kinds
returns-in-11 c = rw c.in-11.is c.by_row_and_column.ensures

pub returns-in-12 : goal.returns-in-12
unfolding kind_at archive_kinds
returns-in-12 c = rw c.in-12.is c.by_row_and_column-in-12.ensures

pub returns-in-13 : goal.returns-in-13
unfolding kind_at archive_kinds
returns-in-13 c = rw c.in-13.is c.by_count.ensures

pub returns-in-14 : goal.returns-in-14
unfolding kind_at archive_kinds
returns-in-14 c = rw c.in-14.is c.by_row_and_column-in-14.ensures

pub returns-in-15 : goal.returns-in-15
unfolding kind_at archive_kinds
returns-in-15 c = rw c.in-15.is c.by_row_and_column-in-15.ensures

pub returns-in-16 : goal.returns-in-16
unfolding kind_at archive_kinds
returns-in-16 c = rw c.in-16.is c.by_row_and_column-in-16.ensures

pub returns-in-17 : goal.returns-in-17
unfolding kind_at archive_kinds
returns-in-17 c = rw c.in-17.is c.by_count-in-17.ensures

pub returns-in-18 : goal.returns-in-18
unfolding kind_at archive_kinds
returns-in-18 c = rw c.in-18.is c.alone.ensures

pub returns-in_default : goal.returns-in_default
unfolding kind_at archive_kinds
returns-in_default c = rw (ne_eqb c.args.kind 11 (omega arith), ne_eqb c.args.kind 12 (omega arith), ne_eqb c.args.kind 13 (omega arith), ne_eqb c.args.kind 14 (omega arith), ne_eqb c.args.kind 15 (omega arith), ne_eqb c.args.kind 16 (omega arith), ne_eqb c.args.kind 17 (omega arith), ne_eqb c.args.kind 18 (omega arith)) c.unread.ensures
