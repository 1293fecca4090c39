use mathlib.Core.Path.{◌≡◌, refl, sym, subst}
use native.Mathlib.Omega.{arith}
use lib.ListN.{length}
use Rattle.records_pieces.specs.declared.Arrival.{Arrival}
use Rattle.records_pieces.specs.joints.Arrived.{arrived_as, Arrives}
use Rattle.records_pieces.proofs.CameLaws.{start-arrives}
use Rattle.pulltest.proofs.read_all.Given as goal

abbrev pub invariant-loop-piece : goal.invariant-loop-piece
invariant-loop-piece l = (length l.kept ≡ length l.initial.kept) × (length l.current ≡ length l.initial.current) × Arrives (arrived_as l.a l.kept l.current)
