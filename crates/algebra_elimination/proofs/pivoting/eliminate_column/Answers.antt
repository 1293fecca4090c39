-- `algebra_elimination::pivoting::eliminate_column` meets its contract.
use native.Mathlib.Omega.{arith}
use Rattle.algebra_elimination.proofs.pivoting.Steps.{pivot-below, column-is}
use Rattle.algebra_elimination.proofs.pivoting.eliminate_column.Goals as goal

pub offset_bounds-m-pivot : goal.offset_bounds-m-pivot
offset_bounds-m-pivot g c = grind (arith, pivot-below g.T.Scalar.arith _ _ _ _ c.pivot_row-pivot.ensures (omega arith))

pub bounds-m-pivot : goal.bounds-m-pivot
bounds-m-pivot g c = grind (arith, pivot-below g.T.Scalar.arith _ _ _ _ c.pivot_row-pivot.ensures (omega arith))

pub offset_bounds-swapped-pivot : goal.offset_bounds-swapped-pivot
offset_bounds-swapped-pivot g c = grind (arith, pivot-below g.T.Scalar.arith _ _ _ _ c.pivot_row-pivot.ensures (omega arith))

pub bounds-swapped-pivot : goal.bounds-swapped-pivot
bounds-swapped-pivot g c = grind (arith, pivot-below g.T.Scalar.arith _ _ _ _ c.pivot_row-pivot.ensures (omega arith))

pub returns : goal.returns
returns g c = column-is g.T.Scalar.arith _ _ _ _ _ _ c.pivot_row-pivot.ensures c.clear.ensures
