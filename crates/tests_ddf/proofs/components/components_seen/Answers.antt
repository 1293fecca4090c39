-- `tests_ddf::components::components_seen` meets its contract.
use Prim.Native.Nat.{◌≤◌, ◌-◌}
use mathlib.Core.Path.{◌≡◌}
use lib.Ieee.{of_bits}
use Rattle.algebra.specs.Kind.{marks}
use Rattle.algebra.specs.Fold.{fold}
use Rattle.algebra.proofs.FoldLaws.{fold_start, fold_next, fold_end}
use Rattle.tests.specs.VarianceDf.{entry_at, gradient_seen}
use Rattle.tests.specs.Satterthwaite.{gradient_at, components_seen}
use native.Mathlib.Omega.{arith}
use Rattle.tests_ddf.proofs.components.components_seen.Goals as goal

pub loop-k-init : goal.loop-k-init
unfolding components_seen of_bits
loop-k-init c = (omega arith, fold_start _ _ _)

pub loop-k-preserved : goal.loop-k-preserved
unfolding components_seen
loop-k-preserved c = (omega arith, fold_next _ _ _ _ _ _ (omega arith) c.loop-k.invariant.1 c.component_seen-all.ensures)

pub returns : goal.returns
unfolding components_seen
returns c = fold_end _ _ _ _ _ _ c.loop-k.invariant.0 c.loop-k-test.false c.loop-k.invariant.1
