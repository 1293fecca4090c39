-- `tests_ddf::components::directions_of` meets its contract.
use Prim.Native.Nat.{ℕ, ◌≤◌, ◌<◌, ◌-◌}
use mathlib.Core.Path.{◌≡◌}
use mathlib.Core.List.{List}
use lib.Ieee.{Float}
use Rattle.arithmetic.specs.declared.Marked.{Marked}
use Rattle.arithmetic.specs.Numbers.{plus_zero}
use Rattle.arithmetic.specs.Marks.{given}
use Rattle.algebra.specs.Table.{table}
use Rattle.algebra.specs.Kind.{marks}
use Rattle.algebra.specs.Product.{at}
use Rattle.algebra_products.proofs.LoopLaws.{table-end}
use Rattle.algebra.proofs.TableLaws.{Filling, table_none, filling-none, filling-more, filling-row}
use Rattle.tests.specs.Order.{index_at}
use Rattle.tests.specs.Satterthwaite.{directions_of}
use borrow.Author.Rules.{rules}
use native.Mathlib.Omega.{arith}
use Rattle.tests_ddf.proofs.components.directions_of.Goals as goal

-- cell r of the eigenvector in place k
abbrev cells : ℕ → List Float → List (List Marked) → ℕ → ℕ → Marked
cells q es v r k = at marks v r (index_at q es k)

pub loop-r-init : goal.loop-r-init
loop-r-init c = (omega arith, table_none _ _ _ _ _ _ c.zeros-out.ensures)

pub loop-k-init : goal.loop-k-init
loop-k-init c = (omega arith, omega arith, filling-none (omega arith) c.loop-r.invariant.1)

pub loop-k-preserved : goal.loop-k-preserved
loop-k-preserved c = (omega arith, omega arith, filling-more (omega arith) c.loop-k.invariant.2 c.direction_cell.ensures)

pub loop-r-preserved : goal.loop-r-preserved
loop-r-preserved c = (omega arith, filling-row c.loop-k.invariant.2 c.loop-k.invariant.1 c.loop-k-test.false)

pub returns : goal.returns
unfolding directions_of
returns c = table-end _ _ _ _ _ _ _ _ c.loop-r.invariant.0 c.loop-r-test.false c.loop-r.invariant.1
