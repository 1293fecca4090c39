use Prim.Native.Nat.{◌≤◌, ◌-◌}
use mathlib.Core.Path.{◌≡◌}
use Rattle.algebra.specs.Kind.{marks}
use Rattle.algebra.proofs.FoldLaws.{fold_start, fold_next, fold_end}
use Rattle.tests.specs.KenwardRoger.{u_stack, u_values}
use Rattle.tests.specs.Both.{stack_seen}
use Rattle.tests_kr_modcomp.proofs.Parts.{u-values-step, u-seen-step}
use native.Mathlib.Omega.{arith}
use borrow.Author.Rules.{rules}
use Rattle.tests_kr_modcomp.proofs.full_rank.u_split.Given as goal

abbrev pub invariant-loop-i : goal.invariant-loop-i
invariant-loop-i l = (l.i ≤ l.s.matrices) × (l.out ≡ u_values marks l.i l.s.p (u_stack marks l.s.matrices l.s.p l.tp l.ps l.s.phi)) × (l.all ≡ stack_seen marks l.i l.s.p (u_stack marks l.s.matrices l.s.p l.tp l.ps l.s.phi) l.initial.all)

abbrev pub decreases-loop-i : goal.decreases-loop-i
decreases-loop-i l = l.s.matrices - l.i
