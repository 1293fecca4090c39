use Prim.Native.Nat.{◌≤◌, ◌-◌}
use mathlib.Core.Path.{◌≡◌, refl, ◌∙◌}
use lib.ListN.{length}
use Rattle.algebra.specs.Kind.{floats}
use Rattle.algebra.specs.Cholesky.{cholesky_to, cholesky_refused}
use Rattle.algebra.proofs.FoldLaws.{fold_start, fold_end}
use Rattle.algebra_large.specs.joints.Slab.{rows_at, put_rows}
use Rattle.algebra_large.proofs.SlabLaws.{shape-rows_at}
use Rattle.algebra_large.proofs.InPlace.{turn-none, turn_end}
use Rattle.algebra_large_factor.proofs.FactorLaws.{column-more, refused-more}
use native.Mathlib.Omega.{arith}
use Rattle.algebra_large_factor.proofs.cholesky.Given as goal

abbrev pub invariant-loop-j : goal.invariant-loop-j
invariant-loop-j l = (l.j ≤ l.n) × (length l.work ≡ length l.initial.work) × (l.work ≡ put_rows l.s l.a l.n l.n (cholesky_to floats l.j l.n (rows_at l.s l.a l.n l.n l.initial.work)) l.initial.work) × (l.refused ≡ cholesky_refused floats l.j l.n (rows_at l.s l.a l.n l.n l.initial.work))

abbrev pub decreases-loop-j : goal.decreases-loop-j
decreases-loop-j l = l.n - l.j
