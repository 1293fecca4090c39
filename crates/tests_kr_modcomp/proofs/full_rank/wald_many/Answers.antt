-- `tests_kr_modcomp::full_rank::wald_many` meets its contract.
use Prim.Native.Nat.{◌≤◌, ◌-◌}
use mathlib.Core.Path.{◌≡◌}
use Rattle.algebra.specs.Kind.{marks}
use Rattle.algebra_products.proofs.LoopLaws.{sum-none, sum_more, sum-end}
use Rattle.tests.specs.KenwardRoger.{wald_many}
use native.Mathlib.Omega.{arith}
use borrow.Author.Rules.{rules}
use Rattle.tests_kr_modcomp.proofs.full_rank.wald_many.Goals as goal

pub loop-i-init : goal.loop-i-init
unfolding wald_many
loop-i-init c = (omega arith, rw c.zero_of-sum.ensures (sum-none marks _))

pub loop-i-preserved : goal.loop-i-preserved
unfolding wald_many
loop-i-preserved c = (omega arith, sum_more marks _ _ _ _ c.loop-i.invariant.1 (rw (← c.mul.ensures) c.add-sum.ensures))

pub returns : goal.returns
unfolding wald_many
returns c = sum-end marks _ _ _ _ c.loop-i.invariant.0 c.loop-i-test.false c.loop-i.invariant.1
