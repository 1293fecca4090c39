-- `algebra_elimination::pivoting::larger` meets its contract.
use mathlib.Core.Path.{sym, ◌∙◌}
use mathlib.Core.Bool.{true, false}
use Rattle.algebra_elimination.proofs.pivoting.Steps.{larger-is}
use Rattle.algebra_elimination.proofs.pivoting.larger.Goals as goal

pub returns-then-replaced : goal.returns-then-replaced
returns-then-replaced g c = larger-is true _ _ _ (sym c.if-replaced.true ∙ (rw (c.value.ensures, c.value-2.ensures) at c.is_larger-replaced.ensures))

pub returns-else-replaced : goal.returns-else-replaced
returns-else-replaced g c = larger-is false _ _ _ (sym c.if-replaced.false ∙ (rw (c.value.ensures, c.value-2.ensures) at c.is_larger-replaced.ensures))
