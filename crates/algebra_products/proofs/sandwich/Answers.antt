-- `algebra_products::sandwich` meets its contract.
use Rattle.algebra_products.proofs.SmallLaws.{sandwich-is}
use Rattle.algebra_products.proofs.sandwich.Goals as goal

pub returns : goal.returns
returns g c = sandwich-is g.T.Scalar.arith 6 6 _ _ _ _ _ _ _ c.product-left.ensures c.transpose-turned.ensures c.product.ensures
