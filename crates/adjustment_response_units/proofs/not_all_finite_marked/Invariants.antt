use Prim.Native.Nat.{◌≤◌, ◌<◌, ◌-◌}
use mathlib.Core.Path.{◌≡◌}
use mathlib.Core.Bool.{false}
use Rattle.algebra.specs.Fold.{fold}
use Rattle.algebra.proofs.FoldLaws.{fold_start, fold_next}
use Rattle.algebra_products.proofs.LoopLaws.{rows_to, rows_none, rows_more, rows_end}
use Rattle.adjustment.specs.Adjusted.{not_all_finite_marked}
use Rattle.adjustment.proofs.AdjustedLaws.{finite_step_marked}
use borrow.Author.Rules.{rules}
use native.Mathlib.Omega.{arith}
use Rattle.adjustment_response_units.proofs.not_all_finite_marked.Given as goal

abbrev pub invariant-loop-j : goal.invariant-loop-j
invariant-loop-j l = (l.i < l.rows) × (l.j ≤ l.cols) × (l.found ≡ fold 0 l.j (finite_step_marked l.m l.i) l.initial.found)

abbrev pub decreases-loop-j : goal.decreases-loop-j
decreases-loop-j l = l.cols - l.j

abbrev pub invariant-loop-i : goal.invariant-loop-i
invariant-loop-i l = (l.i ≤ l.rows) × (l.found ≡ rows_to (finite_step_marked l.m) false l.cols l.i)

abbrev pub decreases-loop-i : goal.decreases-loop-i
decreases-loop-i l = l.rows - l.i
