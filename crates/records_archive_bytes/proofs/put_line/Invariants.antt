use Prim.Native.Nat.{◌≤◌}
use mathlib.Core.Path.{◌≡◌}
use lib.ListN.{length}
use lib.Seq.{sets}
use Rattle.records.specs.format.Kinds.{width}
use Rattle.records.specs.format.Written.{sequence}
use Rattle.records_archive_bytes.specs.joints.Parts.{archive_from, cell_bytes}
use Rattle.records_archive_bytes.proofs.put_line.Given as goal

abbrev pub invariant-loop-c : goal.invariant-loop-c
invariant-loop-c l = (l.c ≤ l.columns) × (l.columns ≡ width l.z.column) × (length l.out ≡ length l.initial.out) × (l.out ≡ sets l.initial.out l.at (sequence l.c (cell_bytes (archive_from 0 0 l.phi l.phi_a l.ps l.w l.sigma2) l.z l.kind l.n l.r)))
