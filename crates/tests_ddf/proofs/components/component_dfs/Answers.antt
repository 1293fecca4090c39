-- `tests_ddf::components::component_dfs` meets its contract.
use Prim.Native.Nat.{◌≤◌, ◌-◌}
use mathlib.Core.Path.{◌≡◌}
use lib.Ieee.{of_bits}
use Rattle.arithmetic.specs.Numbers.{plus_zero}
use Rattle.algebra.specs.Kind.{marks}
use Rattle.algebra.specs.Table.{row}
use Rattle.algebra.proofs.FoldLaws.{fold_start, fold_next, fold_end}
use Rattle.tests.specs.Answer.{float_of}
use Rattle.tests.specs.Satterthwaite.{component_df, component_dfs}
use borrow.Author.Rules.{rules}
use native.Mathlib.Omega.{arith}
use Rattle.tests_ddf.proofs.components.component_dfs.Goals as goal

pub loop-k-init : goal.loop-k-init
unfolding component_dfs row of_bits
loop-k-init c = (omega arith, fold_start _ _ _)

pub loop-k-preserved : goal.loop-k-preserved
unfolding component_dfs row
loop-k-preserved c = (omega arith, fold_next _ _ _ _ _ _ (omega arith) c.loop-k.invariant.1 (rw (c.float_of.ensures, c.component_df.ensures)))

pub returns : goal.returns
unfolding component_dfs row
returns c = fold_end _ _ _ _ _ _ c.loop-k.invariant.0 c.loop-k-test.false c.loop-k.invariant.1
