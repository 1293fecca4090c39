-- `adjustment_sigma::gain_cells` meets its contract.
use Prim.Native.Nat.{ℕ, ◌+◌}
use mathlib.Core.Path.{refl, ap, ◌∙◌}
use lib.ListN.{get_or}
use lib.Ieee.{nan}
use Rattle.algebra_large.proofs.ProductLaws.{apart-cell, row-apart-of}
use Rattle.adjustment_covariance.proofs.GainLaws.{with_none, with-more, with-end}
use native.Mathlib.Omega.{arith}
use Rattle.adjustment_sigma.proofs.gain_cells.Goals as goal

pub loop-k-init : goal.loop-k-init
loop-k-init c = (omega arith, refl, with_none _ _ _ _ _ _ _ (omega arith))

pub start-b-requires : goal.start-b-requires
start-b-requires c = (record { wide = c.requires.1.wide; fits = omega (arith, c.requires.1.fits) }, c.loop-k-test.true)

pub gain_row-requires : goal.gain_row-requires
gain_row-requires c = (omega arith, omega arith, row-apart-of c.requires.2 _ _ c.loop-k-test.true c.requires.1.wide c.start-b.ensures.0)

pub loop-k-preserved : goal.loop-k-preserved
loop-k-preserved c =
    let v = c.loop-k.invariant in
    let g = c.requires in
    let xs = c.args.work.now in
    let a = c.args.a in
    let ws = c.loop-k.work in
    let b = c.start-b.result in (
      omega arith,
      c.gain_row.auto.work ∙ v.1,
      with-more _ (λ j. get_or xs (a + j) nan) (λ j. get_or ws (b + j) nan) _ _ _ _ _ _ xs xs _ _ g.0 refl
          (λ j l. ap (λ (x : ℕ). get_or ws (x + j) nan) c.start-b.ensures.0 ∙ apart-cell _ xs _ g.2 v.2 _ j c.loop-k-test.true (omega (arith, g.1.wide)))
          v.2 c.gain_row.ensures,
    )

pub shape_of-work : goal.shape_of-work
shape_of-work c = c.loop-k.invariant.1

pub returns : goal.returns
returns c = with-end _ _ _ _ _ _ _ c.args.work.now c.args.work.now _ c.loop-k.invariant.0 c.loop-k-test.false c.loop-k.invariant.2
