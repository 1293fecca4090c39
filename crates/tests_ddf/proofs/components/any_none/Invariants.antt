use Prim.Native.Nat.{◌≤◌, ◌-◌}
use mathlib.Core.Path.{◌≡◌}
use lib.Ieee.{of_bits}
use Rattle.algebra.proofs.FoldLaws.{fold_start, fold_next, fold_end}
use Rattle.tests.specs.Satterthwaite.{any_none}
use borrow.Author.Rules.{rules}
use native.Mathlib.Omega.{arith}
use Rattle.tests_ddf.proofs.components.any_none.Given as goal

abbrev pub invariant-loop-k : goal.invariant-loop-k
invariant-loop-k l = (l.k ≤ l.q) × (l.any ≡ any_none l.k l.nu)

abbrev pub decreases-loop-k : goal.decreases-loop-k
decreases-loop-k l = l.q - l.k
