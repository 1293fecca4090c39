use Prim.Native.Nat.{ℕ, ◌≤◌, ◌-◌}
use mathlib.Core.Path.{◌≡◌, ap, ◌∙◌}
use mathlib.Core.Bool.{cond}
use lib.Dec.{leb}
use borrow.Author.Rules.{rules}
use Rattle.algebra.specs.Fold.{fold}
use Rattle.adjustment.specs.Information.{packed}
use Rattle.algebra.proofs.FoldLaws.{fold_start, fold_next, fold_end}
use native.Mathlib.Omega.{arith}
use Rattle.adjustment_covariance.proofs.blocks.triangle_column.Given as goal

abbrev pub invariant-loop-c : goal.invariant-loop-c
invariant-loop-c l = (l.c ≤ l.k) × (l.found ≡ fold 0 l.c (λ c found. cond (leb (packed l.k c c) l.q) c found) 0)

abbrev pub decreases-loop-c : goal.decreases-loop-c
decreases-loop-c l = l.k - l.c
