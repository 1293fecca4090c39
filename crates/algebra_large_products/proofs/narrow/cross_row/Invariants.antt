use Prim.Native.Nat.{◌≤◌, ◌-◌}
use mathlib.Core.Path.{◌≡◌}
use Rattle.algebra.proofs.FoldLaws.{fold_start, fold_next, fold_end}
use Rattle.algebra_large.specs.joints.Slab.{rows_at}
use Rattle.algebra_large.specs.joints.Steps.{crossed}
use Rattle.algebra_large.proofs.InPlace.{read_at}
use native.Mathlib.Omega.{arith}
use Rattle.algebra_large_products.proofs.narrow.cross_row.Given as goal

abbrev pub invariant-loop-j : goal.invariant-loop-j
invariant-loop-j l = (l.j ≤ l.n) × (l.y ≡ crossed l.j (rows_at l.s l.p l.n l.n l.work) (rows_at l.t l.q l.n l.n l.work) l.i l.x)

abbrev pub decreases-loop-j : goal.decreases-loop-j
decreases-loop-j l = l.n - l.j
