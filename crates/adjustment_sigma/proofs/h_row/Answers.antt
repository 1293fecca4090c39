-- `adjustment_sigma::h_row` meets its contract.
use mathlib.Core.Path.{refl}
use Rattle.algebra_large.proofs.ProductLaws.{apart-cell}
use Rattle.adjustment_covariance.proofs.GainLaws.{with-cleared}
use native.Mathlib.Omega.{arith}
use Rattle.adjustment_sigma.proofs.h_row.Goals as goal

pub gain_g-requires : goal.gain_g-requires
gain_g-requires c =
    let g = c.requires in
    let l = c.clear_row.auto.work in
    record { n_in_bounds = (omega arith, record { wide = g.n_in_bounds.1.wide; fits = omega (arith, g.n_in_bounds.1.fits) }, g.n_in_bounds.2); lent = g.lent }

pub returns : goal.returns
returns c =
    let g = c.requires in
    with-cleared _ _ _ _ _ _ _ _ _ c.args.work.now _ _ g.n_in_bounds.0 (λ k h. refl)
    (λ k j hk hj. apart-cell _ c.args.work.now _ g.n_in_bounds.2 c.clear_row.ensures k j hk (omega (arith, g.n_in_bounds.1.wide)))
    c.clear_row.ensures c.gain_g.ensures
