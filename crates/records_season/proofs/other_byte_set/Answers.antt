-- `records_season::other_byte_set` meets its contract.
use Prim.Native.Nat.{◌+◌}
use mathlib.Core.Path.{◌≡◌, refl, sym, ap, ◌∙◌}
use mathlib.Core.Bool.{Bool, not, ◌||◌}
use native.Mathlib.Omega.{arith}
use lib.Dec.{eqb}
use Rattle.records.specs.format.Bytes.{byte}
use Rattle.records.specs.format.Scan.{any}
use Rattle.records.proofs.format.ScanLaws.{any-more}
use Rattle.records_season.proofs.other_byte_set.Goals as goal

pub loop-o-init : goal.loop-o-init
unfolding any
loop-o-init c = (omega arith, refl)

pub loop-o-preserved : goal.loop-o-preserved
loop-o-preserved c = (omega arith, ap (λ (b : Bool). b || not (eqb (byte c.args.bytes.now (1 + c.loop-o.o)) 0)) c.loop-o.invariant.1 ∙ sym (any-more _ _))

pub returns : goal.returns
returns c = let e : c.loop-o.o ≡ 15 = omega arith in rw e at c.loop-o.invariant.1
