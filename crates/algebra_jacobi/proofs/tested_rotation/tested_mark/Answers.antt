-- `algebra_jacobi::tested_rotation::tested_mark` meets its contract.
use mathlib.Core.Path.{sym, ◌∙◌}
use Rattle.algebra_jacobi.proofs.Seen.{seen-stays, seen-counts}
use Rattle.algebra_jacobi.proofs.tested_rotation.tested_mark.Goals as goal

pub returns-then-is_zero : goal.returns-then-is_zero
returns-then-is_zero g c =
    let e = rw c.value.ensures at c.is_zero.ensures in
    seen-stays g.T.Scalar.arith _ _ _ _ _ (sym e ∙ c.if-is_zero.true)

pub returns : goal.returns
returns g c =
    let e = rw c.value.ensures at c.is_zero.ensures in
    rw (c.also-2.ensures, c.also.ensures, c.times-right.ensures, c.times.ensures, c.of.ensures, c.times-left.ensures)
    (seen-counts g.T.Scalar.arith _ _ _ _ _ (sym e ∙ c.if-is_zero.false))
