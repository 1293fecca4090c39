-- `records_season::end` meets its contract.
use native.Mathlib.Omega.{arith}
use Rattle.records_answer_text.proofs.CursorLaws.{stay, named}
use Rattle.records_season.specs.joints.SeasonCame.{season_of}
use Rattle.records_season.proofs.FedLaws.{left-refused, left-none}
use Rattle.records_season.proofs.end.Goals as goal

pub returns-then-a : goal.returns-then-a
returns-then-a c =
    let q = c.put_refusal.ensures in
    let m = q.moved in
    let l = q.short in
    record { by_index = λ s kept current window k. named q (left-refused s (season_of c.args.a kept current window) k c.if-a.true) (omega arith); upper_bound = omega arith }

pub returns : goal.returns
returns c =
    let start = c.args in
    record { by_index = λ s kept current window k. named (stay 19 start.out.now start.at) (left-none s (season_of start.a kept current window) k c.if-a.false) (omega arith); upper_bound = omega arith }
