use Prim.Native.Nat.{◌+◌, ◌≤◌}
use mathlib.Core.Path.{◌≡◌}
use mathlib.Core.Bool.{false}
use lib.ListN.{length}
use Rattle.records_archive_reader.specs.joints.Checks.{not_scaled}
use Rattle.records_archive_reader.proofs.any_not_scaled.Given as goal

abbrev pub invariant-loop-j : goal.invariant-loop-j
invariant-loop-j l = (l.j ≤ l.m) × (l.scaled + l.m ≤ length l.sheet) × (l.residual + l.m ≤ length l.sheet) × (not_scaled l.over l.sheet l.scaled l.residual l.j l.sigma2 ≡ false)
