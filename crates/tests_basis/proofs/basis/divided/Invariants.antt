use Prim.Native.Nat.{◌≤◌, ◌<◌, ◌-◌}
use mathlib.Core.Path.{◌≡◌}
use Rattle.algebra.specs.Kind.{marks}
use Rattle.algebra.specs.Table.{table}
use Rattle.arithmetic.specs.Numbers.{plus_zero}
use Rattle.arithmetic.specs.Marks.{given}
use Rattle.tests.specs.Basis.{divided_cell, divided}
use Rattle.algebra.proofs.TableLaws.{table_none, Filling, filling-none, filling-more, filling-row}
use Rattle.algebra_products.proofs.LoopLaws.{table-end}
use borrow.Author.Rules.{rules}
use native.Mathlib.Omega.{arith}
use Rattle.tests_basis.proofs.basis.divided.Given as goal

abbrev pub invariant-loop-j : goal.invariant-loop-j
invariant-loop-j l = (l.i < l.rows) × (l.j ≤ l.p) × Filling (given plus_zero) 6 6 (divided_cell marks l.p l.l) l.p l.i l.j l.initial.out l.out

abbrev pub decreases-loop-j : goal.decreases-loop-j
decreases-loop-j l = l.p - l.j

abbrev pub invariant-loop-i : goal.invariant-loop-i
invariant-loop-i l = (l.i ≤ l.rows) × (l.out ≡ table (given plus_zero) 6 6 l.i l.p (divided_cell marks l.p l.l))

abbrev pub decreases-loop-i : goal.decreases-loop-i
decreases-loop-i l = l.rows - l.i
