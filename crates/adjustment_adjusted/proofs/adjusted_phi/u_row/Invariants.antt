use Prim.Native.Nat.{◌+◌, ◌≤◌, ◌-◌}
use mathlib.Core.Path.{◌≡◌}
use Rattle.algebra.proofs.FoldLaws.{fold_start, fold_next, fold_end}
use Rattle.algebra.specs.Fold.{fold}
use Rattle.algebra.specs.Kind.{floats}
use Rattle.algebra.specs.Product.{plus_cells}
use Rattle.adjustment.specs.Adjusted.{u_term_at}
use Rattle.adjustment.proofs.AdjustedLaws.{plus-is}
use native.Mathlib.Omega.{arith}
use Rattle.adjustment_adjusted.proofs.adjusted_phi.u_row.Given as goal

abbrev pub invariant-loop-s : goal.invariant-loop-s
invariant-loop-s l = (l.r + 1 ≤ l.s) × (l.s ≤ l.n) × (l.out ≡ fold (l.r + 1) l.s (λ s u. plus_cells floats 6 6 l.p l.p u (u_term_at l.p l.n l.phi l.ps l.qs l.w l.r s)) l.initial.out)

abbrev pub decreases-loop-s : goal.decreases-loop-s
decreases-loop-s l = l.n - l.s
