use Prim.Native.Nat.{◌≤◌, ◌-◌}
use mathlib.Core.Path.{◌≡◌}
use Rattle.algebra.proofs.FoldLaws.{fold_start, fold_next, fold_end}
use Rattle.algebra.specs.Fold.{fold}
use Rattle.algebra.specs.Kind.{floats}
use Rattle.algebra.specs.Product.{plus_cells}
use Rattle.adjustment.specs.Adjusted.{u_term_at}
use Rattle.adjustment.proofs.AdjustedLaws.{plus-is}
use native.Mathlib.Omega.{arith}
use Rattle.adjustment_adjusted.proofs.adjusted_phi.u_diagonal.Given as goal

abbrev pub invariant-loop-r : goal.invariant-loop-r
invariant-loop-r l = (l.r ≤ l.n) × (l.out ≡ fold 0 l.r (λ r u. plus_cells floats 6 6 l.p l.p u (u_term_at l.p l.n l.phi l.ps l.qs l.w r r)) l.initial.out)

abbrev pub decreases-loop-r : goal.decreases-loop-r
decreases-loop-r l = l.n - l.r
