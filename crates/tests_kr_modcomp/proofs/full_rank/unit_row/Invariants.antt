use Prim.Native.Nat.{◌≤◌, ◌-◌}
use mathlib.Core.Bool.{cond}
use lib.Dec.{eqb}
use Rattle.arithmetic.specs.Numbers.{plus_zero, one}
use Rattle.algebra.proofs.TableLaws.{table_none, Filling, filling-none, filling-more, filling-row}
use Rattle.tests.specs.KenwardRoger.{unit_row}
use native.Mathlib.Omega.{arith}
use borrow.Author.Rules.{rules}
use Rattle.tests_kr_modcomp.proofs.full_rank.unit_row.Given as goal

abbrev pub invariant-loop-j : goal.invariant-loop-j
invariant-loop-j l = (l.j ≤ l.p) × Filling plus_zero 6 6 (λ k j. cond (eqb j l.i) one plus_zero) l.p 0 l.j l.initial.out l.out

abbrev pub decreases-loop-j : goal.decreases-loop-j
decreases-loop-j l = l.p - l.j
