-- `algebra_products::marked_product::adds_nothing` meets its contract.
use Rattle.algebra_products.specs.joints.CellMarks.{adds_nothing}
use Rattle.algebra_products.proofs.marked_product.adds_nothing.Goals as goal

pub returns : goal.returns
unfolding adds_nothing
returns c = cc
