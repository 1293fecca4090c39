-- `adjustment::packing::smaller_index` meets its contract.
use Rattle.adjustment.proofs.PackedLaws.{product-fits, products-fit, smaller-picked}
use borrow.Author.Rules.{rules}
use native.Mathlib.Omega.{arith}
use Rattle.adjustment.proofs.packing.smaller_index.Goals as goal

pub overflow_mul-result : goal.overflow_mul-result
overflow_mul-result c = product-fits (omega arith) (omega arith)

pub overflow_mul-result-2 : goal.overflow_mul-result-2
overflow_mul-result-2 c = product-fits (omega arith) (omega arith)

pub overflow_add-result : goal.overflow_add-result
overflow_add-result c = products-fit (omega arith) (omega arith) (omega arith) (omega arith)

pub returns : goal.returns
returns c = smaller-picked (omega arith) (λ u. omega arith) (λ u. omega arith)
