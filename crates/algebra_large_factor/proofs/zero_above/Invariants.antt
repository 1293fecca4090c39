use Prim.Native.Nat.{◌≤◌, ◌-◌}
use mathlib.Core.Path.{◌≡◌, refl, ◌∙◌}
use lib.ListN.{length}
use Rattle.algebra.specs.Kind.{floats}
use Rattle.algebra.specs.Cholesky.{lower}
use Rattle.algebra.proofs.FoldLaws.{fold_start, fold_end}
use Rattle.algebra_large.specs.joints.Slab.{rows_at, put_rows}
use Rattle.algebra_large_factor.proofs.FactorLaws.{lower-more}
use native.Mathlib.Omega.{arith}
use Rattle.algebra_large_factor.proofs.zero_above.Given as goal

abbrev pub invariant-loop-i : goal.invariant-loop-i
invariant-loop-i l = (l.i ≤ l.n) × (length l.work ≡ length l.initial.work) × (l.work ≡ put_rows l.s l.a l.i l.n (lower floats l.n l.n l.n (rows_at l.s l.a l.n l.n l.initial.work)) l.initial.work)

abbrev pub decreases-loop-i : goal.decreases-loop-i
decreases-loop-i l = l.n - l.i
