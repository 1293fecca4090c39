-- `adjustment_covariance::information::turned_row` meets its contract.
use mathlib.Core.Path.{refl}
use Rattle.algebra_large.proofs.ProductLaws.{apart-cell}
use Rattle.adjustment_covariance.proofs.GainLaws.{with-cleared}
use native.Mathlib.Omega.{arith}
use borrow.Author.Rules.{rules}
use Rattle.adjustment_covariance.proofs.information.turned_row.Goals as goal

pub returns : goal.returns
returns c =
    let g = c.requires in
    with-cleared _ _ _ _ _ _ _ _ _ c.args.narrow.now _ _ g.0
    (λ k h. apart-cell _ c.args.narrow.now _ g.2 c.clear_row.ensures k c.args.a h (omega (arith, g.1.wide)))
    (λ k j hk hj. refl) c.clear_row.ensures c.gain_turned.ensures
