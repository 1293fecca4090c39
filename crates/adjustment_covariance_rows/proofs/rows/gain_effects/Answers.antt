-- `adjustment_covariance_rows::rows::gain_effects` meets its contract.
use Prim.Native.Nat.{◌+◌}
use mathlib.Core.Path.{refl}
use lib.ListN.{length-set}
use Rattle.algebra.proofs.FoldLaws.{fold_start, fold_end}
use Rattle.algebra_large.specs.joints.Slab.{put_row}
use Rattle.algebra_large.proofs.SlabLaws.{row_more, row-ahead}
use native.Mathlib.Omega.{arith}
use Rattle.adjustment_covariance_rows.proofs.rows.gain_effects.Goals as goal

pub loop-j-init : goal.loop-j-init
unfolding put_row
loop-j-init g c = (omega arith, refl, fold_start _ _ _)

pub loop-j-preserved : goal.loop-j-preserved
loop-j-preserved g c =
    let v = c.loop-j.invariant in
    (omega arith, rw length-set v.1, row_more _ _ _ _ _ _ v.2 (rw (row-ahead _ _ _ _ _ v.2 (c.args.d + c.loop-j.j) (λ k h q. omega arith), c.group_term.ensures)))

pub shape_of-out : goal.shape_of-out
shape_of-out g c = c.loop-j.invariant.1

pub returns : goal.returns
unfolding put_row
returns g c = fold_end _ _ _ _ _ _ c.loop-j.invariant.0 c.loop-j-test.false c.loop-j.invariant.2
