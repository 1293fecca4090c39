-- `algebra_products::marked_product::column_marks` meets its contract.
use mathlib.Core.Path.{◌∙◌}
use Rattle.algebra_products.proofs.CellMarkLaws.{added_none, adding-none, adding-more, added_more, added-end, column-none, column-next, columns-none, columns-more, columns-end}
use native.Mathlib.Omega.{arith}
use Rattle.algebra_products.proofs.marked_product.column_marks.Goals as goal

pub loop-j-init : goal.loop-j-init
loop-j-init c = (omega arith, columns-none 6 _ _ _ (rw c.no_mark-none.ensures), added_none)

pub loop-k-init : goal.loop-k-init
loop-k-init c = (omega arith, omega arith, c.no_mark-mark.ensures ∙ column-none _ _, adding-none)

pub loop-k-preserved : goal.loop-k-preserved
loop-k-preserved c = (
  omega arith,
  omega arith,
  column-next _ _ _ _ _ _ c.loop-k.invariant.2 c.reported.ensures c.join_marks-mark.ensures,
  adding-more c.value_of-total.ensures c.loop-k.invariant.3,
)

pub loop-j-preserved : goal.loop-j-preserved
loop-j-preserved c = (
  omega arith,
  columns-more 6 _ _ _ _ _ _ c.loop-k.invariant.1 c.loop-k-test.false c.loop-j.invariant.1 c.loop-k.invariant.2,
  added_more c.loop-k.invariant.1 c.loop-k-test.false c.loop-j.invariant.2 c.loop-k.invariant.3,
)

pub returns : goal.returns
returns c = (
  columns-end 6 _ _ _ _ _ c.loop-j.invariant.0 c.loop-j-test.false c.loop-j.invariant.1,
  added-end c.loop-j-test.false c.is_finite.ensures c.loop-j.invariant.2,
)
