use Prim.Native.Nat.{◌≤◌, ◌-◌}
use mathlib.Core.Path.{◌≡◌}
use mathlib.Core.List.{[]}
use lib.ListN.{get_or}
use lib.Ieee.{of_bits}
use Rattle.arithmetic.specs.Numbers.{plus_zero}
use Rattle.arithmetic.specs.Marks.{given}
use Rattle.algebra.specs.Table.{row}
use Rattle.algebra.specs.Kind.{marks}
use Rattle.algebra.specs.Product.{cell}
use Rattle.algebra.proofs.FoldLaws.{fold_start, fold_next, fold_end}
use borrow.Author.Rules.{rules}
use native.Mathlib.Omega.{arith}
use Rattle.tests_ddf.proofs.components.gradient_of.Given as goal

abbrev pub invariant-loop-i : goal.invariant-loop-i
invariant-loop-i l = (l.i ≤ l.n) × (l.out ≡ row (given plus_zero) 6 l.i (λ i. cell marks l.q l.xt (get_or l.jx i []) l.k l.k))

abbrev pub decreases-loop-i : goal.decreases-loop-i
decreases-loop-i l = l.n - l.i
