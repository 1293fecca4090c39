-- `tests_ddf::variance::row_seen` meets its contract.
use Prim.Native.Nat.{◌≤◌, ◌-◌}
use mathlib.Core.Path.{◌≡◌}
use Rattle.arithmetic.specs.Marks.{also}
use Rattle.algebra.specs.Kind.{marks}
use Rattle.algebra.specs.Fold.{fold}
use Rattle.algebra.proofs.FoldLaws.{fold_start, fold_next, fold_end}
use Rattle.tests.specs.VarianceDf.{entry_at}
use borrow.Author.Rules.{rules}
use native.Mathlib.Omega.{arith}
use Rattle.tests_ddf.proofs.variance.row_seen.Goals as goal

pub loop-i-init : goal.loop-i-init
loop-i-init c = (omega arith, fold_start _ _ _)

pub loop-i-preserved : goal.loop-i-preserved
loop-i-preserved c = (omega arith, fold_next _ _ _ _ _ _ (omega arith) c.loop-i.invariant.1 c.also-all.ensures)

pub returns : goal.returns
returns c = fold_end _ _ _ _ _ _ c.loop-i.invariant.0 c.loop-i-test.false c.loop-i.invariant.1
