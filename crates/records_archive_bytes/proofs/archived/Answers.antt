-- `records_archive_bytes::archived` meets its contract.
use native.Mathlib.Omega.{arith}
use borrow.Author.Tests.{ne_eqb}
use Rattle.records.specs.readers.Archive.{archived}
use Rattle.records_archive_bytes.proofs.archived.Goals as goal

pub returns-in-11 : goal.returns-in-11
unfolding archived
returns-in-11 c = rw c.in-11.is

pub returns-in-12 : goal.returns-in-12
unfolding archived
returns-in-12 c = rw c.in-12.is

pub returns-in-13 : goal.returns-in-13
unfolding archived
returns-in-13 c = rw c.in-13.is

pub returns-in-14 : goal.returns-in-14
unfolding archived
returns-in-14 c = rw c.in-14.is

pub returns-in-15 : goal.returns-in-15
unfolding archived
returns-in-15 c = rw c.in-15.is

pub returns-in-16 : goal.returns-in-16
unfolding archived
returns-in-16 c = rw c.in-16.is

pub returns-in-17 : goal.returns-in-17
unfolding archived
returns-in-17 c = rw c.in-17.is

pub returns-in_default : goal.returns-in_default
unfolding archived
returns-in_default c = rw (ne_eqb c.args.kind 11 (omega arith), ne_eqb c.args.kind 12 (omega arith), ne_eqb c.args.kind 13 (omega arith), ne_eqb c.args.kind 14 (omega arith), ne_eqb c.args.kind 15 (omega arith), ne_eqb c.args.kind 16 (omega arith), ne_eqb c.args.kind 17 (omega arith))
