use Prim.Native.Nat.{◌≤◌, ◌-◌}
use mathlib.Core.Path.{◌≡◌}
use lib.Ieee.{of_bits}
use Rattle.arithmetic.specs.Numbers.{plus_zero}
use Rattle.algebra.specs.Kind.{marks}
use Rattle.algebra.specs.Table.{row}
use Rattle.algebra.proofs.FoldLaws.{fold_start, fold_next, fold_end}
use Rattle.tests.specs.Answer.{float_of}
use Rattle.tests.specs.Satterthwaite.{component_df, component_dfs}
use borrow.Author.Rules.{rules}
use native.Mathlib.Omega.{arith}
use Rattle.tests_ddf.proofs.components.component_dfs.Given as goal

abbrev pub invariant-loop-k : goal.invariant-loop-k
invariant-loop-k l = (l.k ≤ l.w.q) × (l.out ≡ row plus_zero 6 l.k (λ k. float_of (component_df marks l.c l.w.n l.w.q l.a l.w.es l.w.x l.jx k)))

abbrev pub decreases-loop-k : goal.decreases-loop-k
decreases-loop-k l = l.w.q - l.k
