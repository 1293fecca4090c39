use Prim.Native.Nat.{◌≤◌, ◌-◌}
use mathlib.Core.Path.{◌≡◌}
use lib.Ieee.{of_bits}
use Rattle.algebra.proofs.FoldLaws.{fold_start, fold_next, fold_end}
use Rattle.tests.specs.Satterthwaite.{not_positive}
use borrow.Author.Rules.{rules}
use native.Mathlib.Omega.{arith}
use Rattle.tests_ddf.proofs.components.not_positive.Given as goal

abbrev pub invariant-loop-i : goal.invariant-loop-i
invariant-loop-i l = (l.i ≤ l.q) × (l.any ≡ not_positive l.i l.es)

abbrev pub decreases-loop-i : goal.decreases-loop-i
decreases-loop-i l = l.q - l.i
