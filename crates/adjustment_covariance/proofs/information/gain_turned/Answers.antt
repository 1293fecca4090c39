-- `adjustment_covariance::information::gain_turned` meets its contract.
use Prim.Native.Nat.{ℕ, ◌≤◌, ◌-◌, ◌+◌, ◌*◌}
use mathlib.Core.Path.{◌≡◌, refl, ap, ◌∙◌}
use lib.ListN.{length, get_or}
use lib.Ieee.{nan}
use Rattle.algebra_large.specs.joints.Slab.{put_row}
use Rattle.algebra_large.proofs.ProductLaws.{apart-cell}
use Rattle.adjustment_covariance.specs.joints.Lent.{gained_with}
use Rattle.adjustment_covariance.proofs.GainLaws.{with_none, with-more, with-end}
use native.Mathlib.Omega.{arith}
use Rattle.adjustment_covariance.proofs.information.gain_turned.Goals as goal

pub loop-k-init : goal.loop-k-init
loop-k-init c = (omega arith, refl, with_none _ _ _ _ _ _ _ (omega arith))

pub loop-k-preserved : goal.loop-k-preserved
loop-k-preserved c =
    let v = c.loop-k.invariant in
    let xs = c.args.narrow.now in
    let ws = c.args.work.now in
    let d = c.args.d in
    let o = c.args.o in
    let a = c.args.a in
    let b = c.start-b.result in (
      omega arith,
      c.gain_from.auto.out ∙ v.1,
      with-more (λ k. get_or xs (o + k * 6 + a) nan) (λ j. get_or xs (d + j) nan) (λ j. get_or ws (b + j) nan) _ _ _ _ _ _ ws xs _ _ c.requires.0
          (ap (λ (x : ℕ). get_or c.loop-k.narrow (x + a) nan) c.start-u.ensures.0 ∙ apart-cell _ xs _ c.requires.2 v.2 _ _ c.loop-k-test.true (omega (arith, c.requires.1.wide)))
          (λ j l. ap (λ (x : ℕ). get_or ws (x + j) nan) c.start-b.ensures.0) v.2 c.gain_from.ensures,
    )

pub shape_of-narrow : goal.shape_of-narrow
shape_of-narrow c = c.loop-k.invariant.1

pub returns : goal.returns
returns c = with-end (λ k. get_or c.args.narrow.now (c.args.o + k * 6 + c.args.a) nan) _ _ _ _ _ _ _ c.args.narrow.now _ c.loop-k.invariant.0 c.loop-k-test.false c.loop-k.invariant.2
