-- `adjustment_covariance::blocks::triangle_column` meets its contract.
use Prim.Native.Nat.{ℕ, ◌≤◌, ◌-◌}
use mathlib.Core.Path.{◌≡◌, ap, ◌∙◌}
use mathlib.Core.Bool.{cond}
use lib.Dec.{leb}
use borrow.Author.Rules.{rules}
use Rattle.algebra.specs.Fold.{fold}
use Rattle.adjustment.specs.Information.{packed}
use Rattle.algebra.proofs.FoldLaws.{fold_start, fold_next, fold_end}
use native.Mathlib.Omega.{arith}
use Rattle.adjustment_covariance.proofs.blocks.triangle_column.Goals as goal

pub loop-c-init : goal.loop-c-init
loop-c-init c = (omega arith, fold_start _ _ _)

pub loop-c-preserved : goal.loop-c-preserved
loop-c-preserved c = (omega arith, fold_next _ _ _ _ _ _ (omega arith) c.loop-c.invariant.1 (c.later-found.ensures ∙ ap (λ (x : ℕ). cond (leb x c.args.q) c.loop-c.c c.loop-c.found) c.index_symmat2vec-diagonal.ensures.0))

pub returns : goal.returns
returns c = fold_end _ _ _ _ _ _ c.loop-c.invariant.0 c.loop-c-test.false c.loop-c.invariant.1
