use Prim.Native.Nat.{◌-◌, ◌≤◌}
use mathlib.Core.Path.{◌≡◌, refl, sym, ap, ◌∙◌, subst}
use native.Mathlib.Omega.{arith}
use lib.ListN.{length, take}
use Rattle.records.specs.format.Bytes.{byte}
use Rattle.records_pieces.specs.joints.Arrived.{Arrived, arrived_as, fed, Open}
use Rattle.records_pieces.proofs.PieceLaws.{fed-none, fed-more, fed-all, byte-open, byte-length}
use Rattle.records_pieces.proofs.feed.Given as goal

abbrev pub invariant-loop-i : goal.invariant-loop-i
invariant-loop-i l = (l.i-end ≡ length l.piece) × (l.i ≤ l.i-end) × (length l.kept ≡ length l.initial.kept) × (length l.current ≡ length l.initial.current) × (arrived_as l.so_far l.kept l.current ≡ fed (take l.i l.piece) (arrived_as l.initial.so_far l.initial.kept l.initial.current)) × Open (arrived_as l.so_far l.kept l.current)

abbrev pub decreases-loop-i : goal.decreases-loop-i
decreases-loop-i l = l.i-end - l.i
