-- `algebra_products::marked_product::product` meets its contract.
use native.Mathlib.Omega.{arith}
use Rattle.algebra_products.proofs.marked_product.product.Goals as goal

pub product_rows-requires : goal.product_rows-requires
product_rows-requires c = (omega arith, omega arith, omega arith, c.column_marks-right.ensures.0, c.column_marks-right.ensures.1)

pub returns : goal.returns
returns c = c.product_rows.ensures
