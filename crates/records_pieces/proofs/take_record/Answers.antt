-- `records_pieces::take_record` meets its contract.
use native.Mathlib.Omega.{arith}
use Rattle.records_pieces.proofs.PieceLaws.{record-kept, record-passed}
use borrow.Author.Rules.{rules}
use Rattle.records_pieces.proofs.take_record.Goals as goal

pub returns-then-kept-n-lt16 : goal.returns-then-kept-n-lt16
returns-then-kept-n-lt16 c =
    let start = c.args in
    let read = c.key_at-key in
    let compared = c.fell_with-fell in
    record-passed start.a start.kept.now start.current.now read.result read.ensures.0 compared.result compared.ensures (omega arith)

pub returns : goal.returns
returns c =
    let start = c.args in
    let read = c.key_at-key in
    let compared = c.fell_with-fell in
    record-kept start.a start.kept.now start.current.now read.result read.ensures.0 compared.result compared.ensures
    (omega arith) c.keep_record.new.kept c.keep_record.ensures
