-- `records_answer_text::put_hexadecimal` meets its contract.
use native.Mathlib.Omega.{arith}
use mathlib.Core.Path.{◌≡◌, ◌∙◌}
use lib.ListN.{length}
use Rattle.records_answer_text.proofs.TextLaws.{hexadecimal-none, hexadecimal-more}
use Rattle.records_answer_text.proofs.+put_hexadecimal.Goals as goal

pub returns-then-n-eq0 : goal.returns-then-n-eq0
returns-then-n-eq0 t c = let g = c.args in hexadecimal-none g.out.now g.at g.n g.w c.if-n-eq0.true

pub put_digit-requires : goal.put_digit-requires
put_digit-requires t c =
    let p = c.put_hexadecimal-next in
    let k : length p.new.out ≡ length c.args.out.now = p.auto.out in
    let x = p.ensures.moved in
    let y = p.ensures.short in
    (omega arith, omega arith)

pub shape_of-out : goal.shape_of-out
shape_of-out t c = c.put_digit.auto.out ∙ c.put_hexadecimal-next.auto.out

pub returns : goal.returns
returns t c = hexadecimal-more c.args.n c.args.w c.if-n-eq0.false c.put_hexadecimal-next.ensures c.put_digit.ensures
