-- `records_answer_text::put_decimal` meets its contract.
use native.Mathlib.Omega.{arith}
use mathlib.Core.Path.{◌≡◌, ◌∙◌}
use lib.ListN.{length}
use Rattle.records_answer_text.proofs.TextLaws.{decimal-none, decimal-one, decimal-more}
use Rattle.records_answer_text.proofs.+put_decimal.Goals as goal

pub returns-then-n-eq0 : goal.returns-then-n-eq0
returns-then-n-eq0 t c = let g = c.args in decimal-none g.out.now g.at g.n g.w c.if-n-eq0.true

pub shape_of-out-then-w-lt10 : goal.shape_of-out-then-w-lt10
shape_of-out-then-w-lt10 t c = c.put_digit.auto.out

pub returns-then-w-lt10 : goal.returns-then-w-lt10
returns-then-w-lt10 t c = decimal-one c.args.n c.args.w c.if-n-eq0.false c.if-w-lt10.true c.put_digit.ensures

pub put_digit-requires-2 : goal.put_digit-requires-2
put_digit-requires-2 t c =
    let p = c.put_decimal-next in
    let k : length p.new.out ≡ length c.args.out.now = p.auto.out in
    let x = p.ensures.moved in
    let y = p.ensures.short in
    (omega arith, omega arith)

pub shape_of-out : goal.shape_of-out
shape_of-out t c = c.put_digit-2.auto.out ∙ c.put_decimal-next.auto.out

pub returns : goal.returns
returns t c = decimal-more c.args.n c.args.w c.if-n-eq0.false c.if-w-lt10.false c.put_decimal-next.ensures c.put_digit-2.ensures
