use Prim.Native.Nat.{◌≤◌, ◌<◌, ◌-◌}
use mathlib.Core.Path.{◌≡◌, sym, ap, ◌∙◌}
use lib.Ieee.{Float, of_bits, neg, binary64, mul}
use borrow.Author.Rules.{rules}
use Rattle.arithmetic.specs.Numbers.{plus_zero, minus_one}
use Rattle.algebra.specs.Table.{table}
use Rattle.algebra.specs.Kind.{floats}
use Rattle.algebra.specs.Product.{at, product, transpose}
use Rattle.algebra.proofs.TableLaws.{table_none, Filling, filling-none, filling-more, filling-row}
use Rattle.algebra_large.specs.joints.Slab.{rows_at}
use Rattle.adjustment.specs.Information.{p_rows}
use Rattle.algebra_products.proofs.LoopLaws.{table-end}
use Rattle.adjustment_covariance.proofs.GainLaws.{small-product-at}
use native.Mathlib.Omega.{arith}
use Rattle.adjustment_covariance.proofs.information.p_of.Given as goal

abbrev pub invariant-loop-b : goal.invariant-loop-b
invariant-loop-b l = (l.a < l.p) × (l.b ≤ l.p) × Filling plus_zero 6 6 (λ a b. mul binary64 minus_one (at floats (product floats 6 6 l.p l.n l.p (transpose floats l.p l.n l.n l.p (rows_at 6 l.o l.n l.p l.narrow)) (rows_at 6 l.t l.n l.p l.narrow)) a b)) l.p l.a l.b l.initial.out l.out

abbrev pub decreases-loop-b : goal.decreases-loop-b
decreases-loop-b l = l.p - l.b

abbrev pub invariant-loop-a : goal.invariant-loop-a
invariant-loop-a l = (l.a ≤ l.p) × (l.out ≡ table plus_zero 6 6 l.a l.p (λ a b. mul binary64 minus_one (at floats (product floats 6 6 l.p l.n l.p (transpose floats l.p l.n l.n l.p (rows_at 6 l.o l.n l.p l.narrow)) (rows_at 6 l.t l.n l.p l.narrow)) a b)))

abbrev pub decreases-loop-a : goal.decreases-loop-a
decreases-loop-a l = l.p - l.a
