-- `algebra_large_inverse::solve::swap_rows` meets its contract.
use Prim.Native.Nat.{◌≤◌, ◌-◌}
use mathlib.Core.Path.{◌≡◌, refl}
use lib.ListN.{length, length-set}
use Rattle.algebra_large_inverse.proofs.EliminationLaws.{swapped, swap-none, swap-more, swap-end}
use native.Mathlib.Omega.{arith}
use Rattle.algebra_large_inverse.proofs.solve.swap_rows.Goals as goal

pub loop-j-init : goal.loop-j-init
loop-j-init c = (omega arith, refl, swap-none _ _ _)

pub bounds-work-e-in-loop-j : goal.bounds-work-e-in-loop-j
bounds-work-e-in-loop-j c = simp length-set (omega arith)

pub loop-j-preserved : goal.loop-j-preserved
loop-j-preserved c =
    let v = c.loop-j.invariant in
    let g = c.requires in
    (omega arith, simp length-set v.1, swap-more _ _ _ _ c.args.work.now _ g.0 g.1 g.2 c.loop-j-test.true v.2)

pub shape_of-work : goal.shape_of-work
shape_of-work c = c.loop-j.invariant.1

pub returns : goal.returns
returns c = swap-end c.args.d c.args.e _ _ c.args.work.now _ c.loop-j.invariant.0 c.loop-j-test.false c.loop-j.invariant.2
