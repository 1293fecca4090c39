-- `algebra_jacobi::tested_rotation::rotated_pair` meets its contract.
use mathlib.Core.Path.{◌≡◌}
use Rattle.algebra.specs.Product.{at}
use Rattle.algebra.specs.Jacobi.{ratio}
use Rattle.algebra_jacobi.specs.joints.Tested.{rotated_pair}
use Rattle.std.proofs.Common.{rules}
use Rattle.std.proofs.lemmas.Grind.{common_steps}
use Rattle.algebra_jacobi.proofs.tested_rotation.rotated_pair.Goals as goal

pub returns : goal.returns
unfolding rotated_pair
returns g c =
    let N = g.T.Scalar.arith in
    let a = c.args in
    let m = a.state.matrix in
    let e : c.ratio.result ≡ ratio N (at N m a.p a.p) (at N m a.q a.q) (at N m a.p a.q) = search (rules, common_steps) in
    rw (c.turn_columns.ensures, c.rotated.ensures, c.sine-s.ensures, c.cosine-c.ensures, c.tangent-t.ensures, e)
