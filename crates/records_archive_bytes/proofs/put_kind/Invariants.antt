use Prim.Native.Nat.{◌*◌, ◌≤◌}
use mathlib.Core.Path.{◌≡◌}
use lib.ListN.{length}
use lib.Seq.{sets}
use Rattle.records.specs.format.Kinds.{width}
use Rattle.records.specs.format.Written.{sequence}
use Rattle.records_archive_bytes.specs.joints.Parts.{archive_from, sheet_bytes}
use Rattle.records_archive_bytes.proofs.put_kind.Given as goal

abbrev pub invariant-loop-n : goal.invariant-loop-n
invariant-loop-n l = (l.n ≤ l.counts) × (l.counts ≡ width l.z.count) × (l.sheet ≡ width l.z.row * (16 * width l.z.column)) × (length l.out ≡ length l.initial.out) × (l.out ≡ sets l.initial.out l.at (sequence l.n (sheet_bytes (archive_from 0 0 l.phi l.phi_a l.ps l.w l.sigma2) l.z l.kind)))
