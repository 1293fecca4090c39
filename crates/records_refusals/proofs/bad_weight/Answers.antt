-- `records_refusals::bad_weight` meets its contract.
use mathlib.Core.Bool.{Bool, cond}
use mathlib.Core.Path.{ap}
use native.Mathlib.Omega.{arith}
use Rattle.records_refusals.specs.joints.Checks.{bad_weight_in}
use Rattle.records_refusals.proofs.bad_weight.Reads as reads
use Rattle.records_refusals.proofs.bad_weight.Lts as lts
use Rattle.records_refusals.proofs.any_negative.Reads as any-negative-reads
use Rattle.records_refusals.proofs.bad_weight.Goals as goal

pub any_negative-requires : goal.any_negative-requires
any_negative-requires c =
    let a = c.args in
    let e = ap (λ (b : Bool). cond b a.z.specimens 0) c.if-z.true in
    omega (arith, c.requires)

pub returns-then-z : goal.returns-then-z
unfolding bad_weight_in
returns-then-z c = rw c.if-z.true c.any_negative.ensures

pub returns : goal.returns
unfolding bad_weight_in
returns c = rw c.if-z.false
