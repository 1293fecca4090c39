-- `records_pieces::feed` meets its contract.
use Prim.Native.Nat.{◌-◌, ◌≤◌}
use mathlib.Core.Path.{◌≡◌, refl, sym, ap, ◌∙◌, subst}
use native.Mathlib.Omega.{arith}
use lib.ListN.{length, take}
use Rattle.records.specs.format.Bytes.{byte}
use Rattle.records_pieces.specs.joints.Arrived.{Arrived, arrived_as, fed, Open}
use Rattle.records_pieces.proofs.PieceLaws.{fed-none, fed-more, fed-all, byte-open, byte-length}
use Rattle.records_pieces.proofs.feed.Goals as goal

pub loop-i-init : goal.loop-i-init
loop-i-init c = (refl, omega arith, refl, refl, fed-none c.args.piece.now _, c.requires)

pub take_byte-next-requires : goal.take_byte-next-requires
take_byte-next-requires c = c.loop-i.invariant.5

pub loop-i-preserved : goal.loop-i-preserved
loop-i-preserved c =
    let v = c.loop-i.invariant in
    let start = c.args in
    let loop = c.loop-i in
    let st = arrived_as loop.so_far loop.kept loop.current in
    let b = byte start.piece.now loop.i in
    let e = c.take_byte-next.ensures in
    let o = byte-open b st v.5 in (
      refl,
      omega arith,
      ap (λ (x : Arrived). length x.kept) e ∙ byte-length b st ∙ v.2,
      ap (λ (x : Arrived). length x.current) e ∙ o.sixteen ∙ sym v.5.sixteen ∙ v.3,
      fed-more start.piece.now loop.i (arrived_as start.a start.kept.now start.current.now) st _ (omega arith) v.4 e,
      subst (λ (x : Arrived). Open x) (sym e) o,
    )

pub shape_of-kept : goal.shape_of-kept
shape_of-kept c = c.loop-i.invariant.2

pub shape_of-current : goal.shape_of-current
shape_of-current c = c.loop-i.invariant.3

pub returns : goal.returns
returns c = record { current_after = fed-all c.args.piece.now c.loop-i.i _ _ (omega arith) c.loop-i.invariant.4; by_index = λ j. omega (arith, c.type_inv.piece j) }
