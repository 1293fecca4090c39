-- `adjustment_adjusted::ridge::inverted` meets its contract.
use mathlib.Core.Path.{refl}
use mathlib.Core.Bool.{true, false}
use Rattle.adjustment.proofs.InformationLaws.{inverted-is}
use borrow.Author.Rules.{rules}
use Rattle.adjustment_adjusted.proofs.ridge.inverted.Goals as goal

pub returns-then-least-cutoffs : goal.returns-then-least-cutoffs
returns-then-least-cutoffs c = inverted-is _ _ _ _ _ _ true c.smallest-least.ensures c.if-least-cutoffs.true refl

pub returns : goal.returns
returns c = inverted-is _ _ _ _ _ _ false c.smallest-least.ensures c.if-least-cutoffs.false c.ridged.ensures
