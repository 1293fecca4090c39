-- `records_pieces::take_byte` meets its contract.
use native.Mathlib.Omega.{arith}
use borrow.Author.Tests.{ne_eqb}
use Rattle.records_pieces.proofs.PieceLaws.{byte_more, byte-whole}
use borrow.Author.Rules.{rules}
use Rattle.records_pieces.proofs.take_byte.Goals as goal

pub returns-then-part-eq15 : goal.returns-then-part-eq15
returns-then-part-eq15 c =
    let start = c.args in
    byte-whole start.a start.b start.kept.now start.current.now (cc) _ c.take_record.ensures

pub returns : goal.returns
returns c =
    let start = c.args in
    byte_more start.a start.b start.kept.now start.current.now (ne_eqb start.a.part 15 (λ e. omega arith))
