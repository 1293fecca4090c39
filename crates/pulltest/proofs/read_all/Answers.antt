-- `pulltest::read_all` meets its contract.
use mathlib.Core.Path.{◌≡◌, refl, sym, subst}
use native.Mathlib.Omega.{arith}
use lib.ListN.{length}
use Rattle.records_pieces.specs.declared.Arrival.{Arrival}
use Rattle.records_pieces.specs.joints.Arrived.{arrived_as, Arrives}
use Rattle.records_pieces.proofs.CameLaws.{start-arrives}
use Rattle.pulltest.proofs.read_all.Goals as goal

pub nothing_yet-a-requires : goal.nothing_yet-a-requires
nothing_yet-a-requires c = tt

pub loop-piece-init : goal.loop-piece-init
loop-piece-init c =
    let kept = c.args.kept.now in
    let current = c.args.current.now in
    (refl, refl, subst (λ (a : Arrival). Arrives (arrived_as a kept current)) (sym c.nothing_yet-a.ensures) (start-arrives kept current c.requires))

pub next_piece-next-requires : goal.next_piece-next-requires
next_piece-next-requires c = c.loop-piece.invariant.2

pub returns-then-last : goal.returns-then-last
returns-then-last c = c.next_piece-next.ensures

pub loop-piece-preserved : goal.loop-piece-preserved
loop-piece-preserved c = (omega arith, omega arith, c.next_piece-next.ensures)

pub shape_of-kept : goal.shape_of-kept
shape_of-kept c = c.loop-piece.invariant.0

pub shape_of-current : goal.shape_of-current
shape_of-current c = c.loop-piece.invariant.1

pub returns : goal.returns
returns c = c.loop-piece.invariant.2
