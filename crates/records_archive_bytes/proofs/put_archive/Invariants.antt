use Prim.Native.Nat.{◌≤◌}
use mathlib.Core.Path.{◌≡◌}
use lib.ListN.{length}
use Rattle.records.specs.readers.Archive.{sizes_at}
use Rattle.records_archive_bytes.proofs.FrontLaws.{Front}
use Rattle.records_archive_bytes.proofs.put_archive.Given as goal

abbrev pub invariant-loop-k : goal.invariant-loop-k
invariant-loop-k l = (l.k ≤ 33) × (l.z ≡ sizes_at l.p l.n) × (length l.out ≡ length l.initial.out) × Front l.p l.n l.phi l.phi_a l.ps l.w l.sigma2 l.initial.out l.out l.k l.at
