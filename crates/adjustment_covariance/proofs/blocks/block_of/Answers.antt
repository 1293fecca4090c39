-- `adjustment_covariance::blocks::block_of` meets its contract.
use Prim.Native.Nat.{ℕ, ◌≤◌, ◌-◌}
use mathlib.Core.Path.{◌≡◌, ap, ◌∙◌}
use mathlib.Core.Bool.{cond}
use lib.Dec.{leb}
use borrow.Author.Rules.{rules}
use Rattle.adjustment.specs.Blocks.{block_of}
use Rattle.algebra.proofs.FoldLaws.{fold_start, fold_next, fold_end}
use Rattle.adjustment_covariance.proofs.BlockLaws.{sound-less}
use native.Mathlib.Omega.{arith}
use Rattle.adjustment_covariance.proofs.blocks.block_of.Goals as goal

pub loop-b-init : goal.loop-b-init
unfolding block_of
loop-b-init c = (omega arith, fold_start _ _ _)

pub places_before-first-requires : goal.places_before-first-requires
places_before-first-requires c = sound-less _ (c.requires) (omega arith)

pub loop-b-preserved : goal.loop-b-preserved
unfolding block_of
loop-b-preserved c = (omega arith, fold_next _ _ _ _ _ _ (omega arith) c.loop-b.invariant.1 (c.later-found.ensures ∙ ap (λ (x : ℕ). cond (leb x c.args.r) c.loop-b.b c.loop-b.found) c.places_before-first.ensures))

pub returns : goal.returns
unfolding block_of
returns c = fold_end _ _ _ _ _ _ c.loop-b.invariant.0 c.loop-b-test.false c.loop-b.invariant.1
