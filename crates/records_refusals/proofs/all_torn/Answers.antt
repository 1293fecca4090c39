-- `records_refusals::all_torn` meets its contract.
use mathlib.Core.Bool.{Bool, not, cond}
use mathlib.Core.Path.{ap}
use native.Mathlib.Omega.{arith}
use Rattle.records_refusals.specs.joints.Checks.{all_torn_in}
use Rattle.records_refusals.proofs.all_torn.Reads as reads
use Rattle.records_refusals.proofs.all_torn.Lts as lts
use Rattle.records_contrast.proofs.any_nonzero.Reads as any-nonzero-reads
use Rattle.records_refusals.proofs.all_torn.Goals as goal

pub any_nonzero-requires : goal.any_nonzero-requires
any_nonzero-requires c =
    let a = c.args in
    let e = ap (λ (b : Bool). cond b a.z.specimens 0) c.if-z.true in
    omega (arith, c.requires)

pub returns-then-z : goal.returns-then-z
unfolding all_torn_in
returns-then-z c = rw c.if-z.true (ap not c.any_nonzero.ensures)

pub returns : goal.returns
unfolding all_torn_in
returns c = rw c.if-z.false
