use Prim.Native.Nat.{◌+◌, ◌-◌, ◌*◌, ◌≤◌}
use mathlib.Core.Path.{◌≡◌, refl}
use native.Mathlib.Omega.{arith}
use lib.ListN.{length, set, length-set}
use Rattle.algebra.specs.Fold.{span}
use Rattle.algebra.proofs.FoldLaws.{fold_start, fold_next}
use Rattle.records.specs.format.Bytes.{byte}
use Rattle.records_pieces.proofs.keep_record.Given as goal

abbrev pub invariant-loop-o : goal.invariant-loop-o
invariant-loop-o l = (l.at ≡ 16 * l.n) × (l.o ≤ 16) × (length l.kept ≡ length l.initial.kept) × (l.kept ≡ span (16 * l.n) (16 * l.n + l.o) (λ k. byte l.current (k - 16 * l.n)) l.initial.kept)

abbrev pub decreases-loop-o : goal.decreases-loop-o
decreases-loop-o l = 16 - l.o
