-- `algebra_products::marked_product::product_rows` meets its contract.
use mathlib.Core.Path.{ap, ◌∙◌}
use mathlib.Core.Bool.{not, false}
use Rattle.algebra.specs.Product.{product}
use Rattle.algebra.proofs.TableLaws.{table_none, filling-none, filling-more, filling-row}
use Rattle.algebra_products.proofs.LoopLaws.{table-end}
use Rattle.algebra_products.proofs.RowLaws.{gaining-none, gaining-more, gaining-end}
use Rattle.algebra_products.specs.joints.CellMarks.{results}
use Rattle.algebra_products.proofs.CellMarkLaws.{row-sums-none, turn-taken, turn-idle, cell-joined}
use native.Mathlib.Omega.{arith}
use Rattle.algebra_products.proofs.marked_product.product_rows.Goals as goal
use Rattle.algebra_products.proofs.marked_product.product_rows.Goals.{then-not-adds_nothing+else-loop-j-test, else-not-adds_nothing}

pub loop-i-init : goal.loop-i-init
loop-i-init c = (omega arith, table_none _ _ _ _ _ _ c.zeros-out.ensures)

pub loop-k-init : goal.loop-k-init
loop-k-init c = (omega arith, omega arith, row-sums-none (omega arith) (rw c.zero_of-zero.ensures) c.no_mark-row.ensures)

pub loop-j-init : goal.loop-j-init
loop-j-init c = (omega arith, omega arith, omega arith, c.value_of-v.ensures, gaining-none results)

pub loop-j-preserved : goal.loop-j-preserved
loop-j-preserved c = (
  omega arith,
  omega arith,
  omega arith,
  c.loop-j.invariant.3,
  gaining-more results c.loop-j.invariant.4 (c.with_product.ensures ∙ rw (c.loop-j.invariant.3, c.value_of.ensures)),
)

pub loop-k-preserved : goal.loop-k-preserved
loop-k-preserved c =
    elim c.if-not-adds_nothing.branch [
      | then-not-adds_nothing+else-loop-j-test w ↦ (
        omega arith,
        omega arith,
        turn-taken (omega arith) c.loop-k.invariant.2 (c.join_marks-row.ensures ∙ rw c.reported.ensures)
            (w.sums-is ∙ gaining-end results w.loop-j.invariant.2 w.loop-j-test.false w.loop-j.invariant.4),
      )
      | else-not-adds_nothing w ↦ (
        omega arith,
        omega arith,
        turn-idle (omega arith) c.loop-k.invariant.2 (omega arith) c.requires.4 (c.adds_nothing.ensures ∙ rw c.value_of-v.ensures) (ap not w.if-not-adds_nothing.false)
            (c.join_marks-row.ensures ∙ rw c.reported.ensures) w.sums-is,
      )
    ]

pub loop-j-2-init : goal.loop-j-2-init
loop-j-2-init c = (omega arith, omega arith, filling-none (omega arith) c.loop-i.invariant.1)

pub loop-j-2-preserved : goal.loop-j-2-preserved
loop-j-2-preserved c = (
  omega arith,
  omega arith,
  filling-more (omega arith) c.loop-j-2.invariant.2
      (cell-joined (omega arith) c.loop-k.invariant.2 _ false (omega arith) c.loop-k.invariant.1 c.loop-k-test.false c.requires.3
      (c.also_mark.ensures ∙ rw c.join_marks.ensures)),
)

pub loop-i-preserved : goal.loop-i-preserved
loop-i-preserved c = (omega arith, filling-row c.loop-j-2.invariant.2 c.loop-j-2.invariant.1 c.loop-j-2-test.false)

pub returns : goal.returns
unfolding product
returns c = table-end _ _ _ _ _ _ _ _ c.loop-i.invariant.0 c.loop-i-test.false c.loop-i.invariant.1
