use Prim.Native.Nat.{◌≤◌, ◌-◌, ◌+◌}
use mathlib.Core.Path.{◌≡◌, refl, ◌∙◌}
use lib.ListN.{length}
use Rattle.algebra.proofs.FoldLaws.{fold_start, fold_end}
use Rattle.algebra_large.specs.joints.Slab.{put_rows, rows_at}
use Rattle.algebra_large.specs.joints.Steps.{joined_cell}
use Rattle.algebra_large.proofs.SlabLaws.{fill_more, rows-apart-at}
use Rattle.algebra.specs.Kind.{floats}
use Rattle.algebra.specs.Product.{identity}
use Rattle.algebra.specs.Elimination.{joined}
use Rattle.algebra_large_inverse.proofs.InverseLaws.{joined-row}
use native.Mathlib.Omega.{arith}
use Rattle.algebra_large_inverse.proofs.back.join.Given as goal

abbrev pub invariant-loop-i : goal.invariant-loop-i
invariant-loop-i l = (l.i ≤ l.n) × (length l.work ≡ length l.initial.work) × (l.work ≡ put_rows l.s l.a l.i (l.n + l.n) (joined floats l.n (l.n + l.n) l.n l.n (rows_at l.u l.p l.n l.n l.initial.work) (identity floats l.n l.n l.n)) l.initial.work)

abbrev pub decreases-loop-i : goal.decreases-loop-i
decreases-loop-i l = l.n - l.i
