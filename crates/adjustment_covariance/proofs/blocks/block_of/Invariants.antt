use Prim.Native.Nat.{ℕ, ◌≤◌, ◌-◌}
use mathlib.Core.Path.{◌≡◌, ap, ◌∙◌}
use mathlib.Core.Bool.{cond}
use lib.Dec.{leb}
use borrow.Author.Rules.{rules}
use Rattle.adjustment.specs.Blocks.{block_of}
use Rattle.algebra.proofs.FoldLaws.{fold_start, fold_next, fold_end}
use Rattle.adjustment_covariance.proofs.BlockLaws.{sound-less}
use native.Mathlib.Omega.{arith}
use Rattle.adjustment_covariance.proofs.blocks.block_of.Given as goal

abbrev pub invariant-loop-b : goal.invariant-loop-b
invariant-loop-b l = (l.b ≤ l.count) × (l.found ≡ block_of l.blocks l.b l.r)

abbrev pub decreases-loop-b : goal.decreases-loop-b
decreases-loop-b l = l.count - l.b
