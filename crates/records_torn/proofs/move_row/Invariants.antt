use Prim.Native.Nat.{◌≤◌, ◌+◌}
use mathlib.Core.Path.{◌≡◌}
use lib.ListN.{length, get_or}
use lib.Ieee.{nan}
use Rattle.algebra_large.specs.joints.Slab.{put_row}
use Rattle.records_torn.proofs.move_row.Given as goal

abbrev pub invariant-loop-j : goal.invariant-loop-j
invariant-loop-j l = (l.j ≤ l.stride) × (length l.sheet ≡ length l.initial.sheet) × (l.sheet ≡ put_row l.to l.j (λ j. get_or l.initial.sheet (l.from + j) nan) l.initial.sheet)
