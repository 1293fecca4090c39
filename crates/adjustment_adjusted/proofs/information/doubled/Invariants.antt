use Prim.Native.Nat.{◌≤◌, ◌<◌, ◌-◌}
use mathlib.Core.Path.{◌≡◌, refl}
use lib.Ieee.{binary64, mul, of_bits}
use Rattle.algebra.specs.Table.{table}
use Rattle.algebra.specs.Kind.{floats, zero_of}
use Rattle.algebra.specs.Product.{at}
use Rattle.algebra.specs.Jacobi.{two}
use Rattle.algebra.proofs.TableLaws.{table_none, Filling, filling-none, filling-more, filling-row}
use Rattle.algebra_products.proofs.LoopLaws.{table-end}
use borrow.Author.Rules.{rules}
use native.Mathlib.Omega.{arith}
use Rattle.adjustment_adjusted.proofs.information.doubled.Given as goal

abbrev pub invariant-loop-j : goal.invariant-loop-j
invariant-loop-j l = (l.i < l.n) × (l.j ≤ l.n) × Filling (zero_of floats) 6 6 (λ i j. mul binary64 two (at floats l.v i j)) l.n l.i l.j l.initial.out l.out

abbrev pub decreases-loop-j : goal.decreases-loop-j
decreases-loop-j l = l.n - l.j

abbrev pub invariant-loop-i : goal.invariant-loop-i
invariant-loop-i l = (l.i ≤ l.n) × (l.out ≡ table (zero_of floats) 6 6 l.i l.n (λ i j. mul binary64 two (at floats l.v i j)))

abbrev pub decreases-loop-i : goal.decreases-loop-i
decreases-loop-i l = l.n - l.i
