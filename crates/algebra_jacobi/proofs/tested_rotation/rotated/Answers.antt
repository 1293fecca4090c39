-- `algebra_jacobi::tested_rotation::rotated` meets its contract.
use Prim.Native.Nat.{ℕ}
use mathlib.Core.Path.{◌≡◌}
use mathlib.Core.List.{List}
use Rattle.algebra.specs.Kind.{Arith, zero_of}
use Rattle.algebra.specs.Table.{table}
use Rattle.algebra.specs.Product.{at}
use Rattle.algebra.specs.Jacobi.{turn_columns, rotated, rotated_cell}
use Rattle.algebra_jacobi.specs.joints.Rotated.{chosen_cell, mirroring_cell}
use Rattle.std.proofs.Common.{rules}
use Rattle.std.proofs.lemmas.Grind.{common_steps}
use Rattle.algebra_jacobi.proofs.tested_rotation.rotated.Goals as goal

-- the parts of a rotation put together
rotated-is : {A : Type 0} (N : Arith A) (n p q : ℕ) (t c s : A) (m w r : List (List A)) (moved first second : A) → w ≡ turn_columns N n p q c s m
    → moved ≡ N.times t (at N m p q) → first ≡ N.minus (at N m p p) moved → second ≡ N.plus (at N m q q) moved
    → r ≡ table (zero_of N) 6 6 n n (mirroring_cell N p q first second w) → r ≡ rotated N 6 6 n p q t c s m
unfolding rotated rotated_cell chosen_cell
rotated-is N n p q t c s m w r moved first second ew em ef es er = rw (er, ef, es, em, ew)

pub returns : goal.returns
returns g c =
    let a = c.args in
    rotated-is g.T.Scalar.arith a.n a.p a.q a.t a.c a.s a.m _ _ c.times-moved.result c.minus-first.result c.plus-second.result
    c.turn_columns-w.ensures (search (rules, common_steps)) (search (rules, common_steps)) (search (rules, common_steps)) c.rotated_cells.ensures
