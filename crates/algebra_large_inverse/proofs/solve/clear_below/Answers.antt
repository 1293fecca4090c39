-- `algebra_large_inverse::solve::clear_below` meets its contract.
use Prim.Native.Nat.{◌≤◌, ◌-◌, ◌+◌}
use mathlib.Core.Path.{◌≡◌, refl, ◌∙◌}
use lib.ListN.{length}
use Rattle.algebra.specs.Kind.{floats}
use Rattle.algebra.specs.Elimination.{cleared}
use Rattle.algebra_large.specs.joints.Slab.{rows_at, put_rows}
use Rattle.algebra_large.proofs.SlabLaws.{shape-rows_at}
use Rattle.algebra_large.proofs.InPlace.{turn-none, turn_end}
use Rattle.algebra_large_inverse.proofs.EliminationLaws.{parts-apart, clear-more}
use native.Mathlib.Omega.{arith}
use Rattle.algebra_large_inverse.proofs.solve.clear_below.Goals as goal

pub loop-r-init : goal.loop-r-init
unfolding cleared
loop-r-init c = (omega arith, omega arith, refl, turn-none _ _ _ _ _ _ _ c.requires.0)

pub lose_row-requires : goal.lose_row-requires
lose_row-requires c =
    let v = c.loop-r.invariant in (
      omega arith,
      omega arith,
      parts-apart _ _ _ c.args.c c.loop-r.r (c.args.c + 1) (c.args.w - (c.args.c + 1)) _ _ _ _ (omega arith) c.requires.0.wide (omega arith) c.start-q.ensures.0 c.start-p.ensures.0 (omega arith) (omega arith),
    )

pub loop-r-preserved : goal.loop-r-preserved
loop-r-preserved c =
    let v = c.loop-r.invariant in
    let g = c.requires in (
      omega arith,
      omega arith,
      c.lose_row.auto.work ∙ v.2,
      clear-more _ _ _ _ _ _ _ _ _ _ _ _ c.loop-r.work _ g.0 (shape-rows_at _ _ _ _ _) g.1 g.2 v.0 c.loop-r-test.true c.start-p.ensures.0 c.start-q.ensures.0 v.3 refl refl c.lose_row.ensures,
    )

pub shape_of-work : goal.shape_of-work
shape_of-work c = c.loop-r.invariant.2

pub returns : goal.returns
unfolding cleared
returns c = let v = c.loop-r.invariant in turn_end _ _ _ _ _ _ _ _ _ _ _ v.1 c.loop-r-test.false v.3
