use Rattle.adjustment_stacks.proofs.InformationLaws.{qs_to, qs-none, qs-more, qs-end, turned_more}
use Rattle.adjustment_work.specs.joints.Steps.{s_at, o_at, o_transposed_s_to}
use Rattle.adjustment.specs.Information.{q_rows}
use Rattle.algebra.proofs.FoldLaws.{fold_start, fold_end}
use borrow.Author.Rules.{rules}
use native.Mathlib.Omega.{arith}
use lib.ListN.{length}
use mathlib.Core.Path.{◌≡◌, refl, ◌∙◌}
use Prim.Native.Nat.{◌≤◌, ◌-◌}
use Rattle.adjustment_stacks.proofs.qs_of.Given as goal

abbrev pub invariant-loop-r : goal.invariant-loop-r
invariant-loop-r l = (l.r ≤ l.k) × (length l.narrow ≡ length l.initial.narrow) × (l.narrow ≡ o_transposed_s_to l.s l.n l.p l.r (o_at l.s l.n l.p l.initial.narrow) (s_at l.s l.n l.work) l.initial.narrow) × (l.out ≡ qs_to l.k l.r (λ r t. q_rows l.n l.p (o_at l.s l.n l.p l.initial.narrow r) (s_at l.s l.n l.work) (o_at l.s l.n l.p l.initial.narrow t)))

abbrev pub decreases-loop-r : goal.decreases-loop-r
decreases-loop-r l = l.k - l.r
