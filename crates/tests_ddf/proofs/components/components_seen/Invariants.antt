use Prim.Native.Nat.{◌≤◌, ◌-◌}
use mathlib.Core.Path.{◌≡◌}
use lib.Ieee.{of_bits}
use Rattle.algebra.specs.Kind.{marks}
use Rattle.algebra.specs.Fold.{fold}
use Rattle.algebra.proofs.FoldLaws.{fold_start, fold_next, fold_end}
use Rattle.tests.specs.VarianceDf.{entry_at, gradient_seen}
use Rattle.tests.specs.Satterthwaite.{gradient_at, components_seen}
use native.Mathlib.Omega.{arith}
use Rattle.tests_ddf.proofs.components.components_seen.Given as goal

abbrev pub invariant-loop-k : goal.invariant-loop-k
invariant-loop-k l = (l.k ≤ l.w.q) × (l.all ≡ fold 0 l.k (λ k s. gradient_seen marks l.w.n (entry_at marks l.w.es k) (gradient_at marks l.w.n l.w.q l.w.x l.jx k) s) l.initial.all)

abbrev pub decreases-loop-k : goal.decreases-loop-k
decreases-loop-k l = l.w.q - l.k
