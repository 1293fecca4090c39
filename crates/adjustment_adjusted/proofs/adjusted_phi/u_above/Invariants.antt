use Prim.Native.Nat.{◌≤◌, ◌-◌}
use mathlib.Core.Path.{◌≡◌, ◌∙◌}
use Rattle.algebra.proofs.FoldLaws.{fold_start, fold_next, fold_end}
use Rattle.adjustment.specs.Adjusted.{u_above}
use borrow.Author.Rules.{rules}
use native.Mathlib.Omega.{arith}
use Rattle.adjustment_adjusted.proofs.adjusted_phi.u_above.Given as goal

abbrev pub invariant-loop-r : goal.invariant-loop-r
invariant-loop-r l = (l.r ≤ l.n) × (l.out ≡ u_above l.p l.n l.phi l.ps l.qs l.w l.r)

abbrev pub decreases-loop-r : goal.decreases-loop-r
decreases-loop-r l = l.n - l.r
