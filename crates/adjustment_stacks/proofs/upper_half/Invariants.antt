use Rattle.adjustment_work.specs.joints.Steps.{ie_at, upper_cell, upper}
use Rattle.algebra_products.proofs.LoopLaws.{table-end}
use Rattle.algebra.specs.Table.{table}
use Rattle.algebra.proofs.TableLaws.{table_none, Filling, filling-none, filling-more, filling-row}
use Rattle.arithmetic.specs.Numbers.{plus_zero}
use borrow.Author.Rules.{rules}
use native.Mathlib.Omega.{arith}
use mathlib.Core.Path.{◌≡◌}
use Prim.Native.Nat.{◌≤◌, ◌<◌, ◌-◌}
use Rattle.adjustment_stacks.proofs.upper_half.Given as goal

abbrev pub invariant-loop-t : goal.invariant-loop-t
invariant-loop-t l = (l.r < l.k) × (l.t ≤ l.k) × Filling plus_zero 6 6 (upper_cell (ie_at l.s l.n l.p l.k l.phi l.ps l.qs l.work)) l.k l.r l.t l.initial.out l.out

abbrev pub decreases-loop-t : goal.decreases-loop-t
decreases-loop-t l = l.k - l.t

abbrev pub invariant-loop-r : goal.invariant-loop-r
invariant-loop-r l = (l.r ≤ l.k) × (l.out ≡ table plus_zero 6 6 l.r l.k (upper_cell (ie_at l.s l.n l.p l.k l.phi l.ps l.qs l.work)))

abbrev pub decreases-loop-r : goal.decreases-loop-r
decreases-loop-r l = l.k - l.r
