-- `records_kinds::kenward_roger_kind` meets its contract.
use native.Mathlib.Omega.{arith}
use borrow.Author.Tests.{ne_eqb}
use Rattle.records.specs.format.Kinds.{kind_at, kenward_roger_kinds}
use borrow.Author.Rules.{rules}
use Rattle.records_kinds.proofs.kenward_roger_kind.Goals as goal

pub returns-in-1 : goal.returns-in-1
unfolding kind_at kenward_roger_kinds
returns-in-1 c = rw c.in-1.is c.by_row_and_column.ensures

pub returns-in-2 : goal.returns-in-2
unfolding kind_at kenward_roger_kinds
returns-in-2 c = rw c.in-2.is c.absent_is_zero.ensures

pub returns-in-3 : goal.returns-in-3
unfolding kind_at kenward_roger_kinds
returns-in-3 c = rw c.in-3.is c.block_kind.ensures

pub returns-in-4 : goal.returns-in-4
unfolding kind_at kenward_roger_kinds
returns-in-4 c = rw c.in-4.is c.by_row.ensures

pub returns-in-5 : goal.returns-in-5
unfolding kind_at kenward_roger_kinds
returns-in-5 c = rw (c.in-5.is, ← c.given.ensures) c.by_row-in-5.ensures

pub returns-in-6 : goal.returns-in-6
unfolding kind_at kenward_roger_kinds
returns-in-6 c = rw c.in-6.is c.by_row_and_column-in-6.ensures

pub returns-in-7 : goal.returns-in-7
unfolding kind_at kenward_roger_kinds
returns-in-7 c = rw c.in-7.is c.alone.ensures

pub returns-in-8 : goal.returns-in-8
unfolding kind_at kenward_roger_kinds
returns-in-8 c = rw c.in-8.is c.by_row-in-8.ensures

pub returns-in-9 : goal.returns-in-9
unfolding kind_at kenward_roger_kinds
returns-in-9 c = rw c.in-9.is c.by_row_and_column-in-9.ensures

pub returns-in-10 : goal.returns-in-10
unfolding kind_at kenward_roger_kinds
returns-in-10 c = rw (c.in-10.is, ← c.given-in-10.ensures) c.by_row-in-10.ensures

pub returns-in_default : goal.returns-in_default
unfolding kind_at kenward_roger_kinds
returns-in_default c = rw (ne_eqb c.args.kind 1 (omega arith), ne_eqb c.args.kind 2 (omega arith), ne_eqb c.args.kind 3 (omega arith), ne_eqb c.args.kind 4 (omega arith), ne_eqb c.args.kind 5 (omega arith), ne_eqb c.args.kind 6 (omega arith), ne_eqb c.args.kind 7 (omega arith), ne_eqb c.args.kind 8 (omega arith), ne_eqb c.args.kind 9 (omega arith), ne_eqb c.args.kind 10 (omega arith)) c.unread.ensures
