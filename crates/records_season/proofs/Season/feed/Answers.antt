-- `records_season::Season::feed` meets its contract: after some turns as many bytes of the piece were fed.
use native.Mathlib.Omega.{arith}
use mathlib.Core.Path.{refl, ◌∙◌}
use Rattle.records_season.proofs.FedLaws.{fed-none, fed-more, fed-all, fed-arrives, fed-part, fed-wider}
use Rattle.records_season.proofs.Season.feed.Goals as goal

pub loop-b-init : goal.loop-b-init
loop-b-init c =
    let few = c.requires.0.came.unclosed.ready.part in
    (refl, c.requires.0, omega arith, fed-wider (fed-none _ _ _) (omega arith))

pub take_byte-requires : goal.take_byte-requires
take_byte-requires c =
    let l = c.loop-b in
    let first = c.requires.0 in
    let wrote = l.invariant.3.wrote first.file first.came in
    let m = wrote.moved in
    let n = wrote.short in
    let more = c.loop-b-test.true in
    let part = l.invariant.2 in
    let same = l.invariant.0 in
    let room = c.requires.1 in
    (l.invariant.1, omega arith)

pub loop-b-preserved : goal.loop-b-preserved
loop-b-preserved c =
    let l = c.loop-b in
    let more = c.loop-b-test.true in
    let taken = c.take_byte in
    let piece = c.args.piece.now in
    let part = l.invariant.2 in
    let next = fed-part taken.ensures l.invariant.1 in (
      taken.auto.out ∙ l.invariant.0,
      fed-arrives taken.ensures l.invariant.1,
      omega arith,
      fed-more piece l.b-index (omega arith) (omega arith) l.invariant.3 taken.ensures,
    )

pub returns : goal.returns
returns c =
    let first = c.requires.0 in
    let done = c.loop-b-test.false in
    let all = fed-all c.args.piece.now c.loop-b.b-index c.args.self.now.arrival.part (omega arith) c.loop-b.invariant.3 in
    let wrote = all.wrote first.file first.came in
    let m = wrote.moved in
    let n = wrote.short in
    record { fed = all; written_in_bounds = omega (arith, c.requires.1) }
