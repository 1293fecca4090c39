use Rattle.adjustment_stacks.proofs.InformationLaws.{p-more}
use Rattle.adjustment_work.proofs.WorkLaws.{part_held}
use Rattle.adjustment_work.specs.joints.Steps.{sx_at, o_at}
use Rattle.adjustment.specs.Adjusted.{stack}
use Rattle.adjustment.specs.Information.{p_rows}
use Rattle.algebra.proofs.FoldLaws.{fold_start, fold_end}
use borrow.Author.Rules.{rules}
use native.Mathlib.Omega.{arith}
use mathlib.Core.Path.{◌≡◌, refl, ◌∙◌}
use Prim.Native.Nat.{◌+◌, ◌≤◌, ◌-◌, ◌*◌}
use Rattle.adjustment_stacks.proofs.ps_of.Given as goal

abbrev pub invariant-loop-r : goal.invariant-loop-r
invariant-loop-r l = (l.r ≤ l.k) × (l.out ≡ stack 4 l.r (λ r. p_rows l.n l.p (o_at l.s l.n l.p l.narrow r) (sx_at l.s l.n l.p l.narrow)))

abbrev pub decreases-loop-r : goal.decreases-loop-r
decreases-loop-r l = l.k - l.r
