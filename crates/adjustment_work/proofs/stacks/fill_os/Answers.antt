-- `adjustment_work::stacks::fill_os` meets its contract.
use Rattle.adjustment_work.proofs.FillLaws.{o-more}
use Rattle.adjustment_work.proofs.StackLaws.{stack-none, stack-end}
use Rattle.adjustment_work.proofs.WorkLaws.{square-held, part_held}
use native.Mathlib.Omega.{arith}
use mathlib.Core.Path.{refl, ◌∙◌}
use Prim.Native.Nat.{◌+◌}
use Rattle.adjustment_work.proofs.stacks.fill_os.Goals as goal

pub loop-r-init : goal.loop-r-init
loop-r-init c = (omega arith, refl, stack-none _ _ _ _ _ _ _)

pub square_at-a-requires : goal.square_at-a-requires
square_at-a-requires c = (c.requires.0.squares, omega arith)

pub part_at-d-requires : goal.part_at-d-requires
part_at-d-requires c = (omega (arith, c.requires.0.parts), omega arith)

pub fill_o-requires : goal.fill_o-requires
fill_o-requires c =
    let g = c.requires in
    (part_held _ _ _ (1 + c.loop-r.r) _ _ g.0.high g.0.few (omega (arith, g.0.parts)) (omega arith) c.part_at-d.ensures.0, square-held _ _ (2 + c.loop-r.r) _ _ g.0.high g.0.squares (omega arith) c.square_at-a.ensures.0, g.1)

pub loop-r-preserved : goal.loop-r-preserved
loop-r-preserved c =
    let v = c.loop-r.invariant in
    (omega arith, c.fill_o.auto.narrow ∙ v.1, o-more _ _ _ _ _ _ _ _ _ _ _ v.2 c.part_at-d.ensures.0 c.square_at-a.ensures.0 c.fill_o.ensures)

pub shape_of-narrow : goal.shape_of-narrow
shape_of-narrow c = c.loop-r.invariant.1

pub returns : goal.returns
returns c = stack-end _ _ _ _ _ _ _ _ _ _ c.loop-r.invariant.0 c.loop-r-test.false c.loop-r.invariant.2
