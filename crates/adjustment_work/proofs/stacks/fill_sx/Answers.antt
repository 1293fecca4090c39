-- `adjustment_work::stacks::fill_sx` meets its contract.
use Rattle.adjustment_work.proofs.FillLaws.{sx-is}
use Rattle.adjustment_work.proofs.WorkLaws.{square-found, part_held}
use native.Mathlib.Omega.{arith}
use Rattle.adjustment_work.proofs.stacks.fill_sx.Goals as goal

pub fill_o-requires : goal.fill_o-requires
fill_o-requires c =
    let g = c.requires in
    (part_held _ _ _ 0 _ _ g.0.high g.0.few g.0.parts (omega arith) c.part_at-d.ensures.0, square-found _ _ _ _ _ g.0.high g.0.squares c.square_at-a.ensures.0 (omega arith), g.1)

pub returns : goal.returns
returns c = sx-is _ _ _ _ _ _ _ _ _ c.part_at-d.ensures.0 c.square_at-a.ensures.0 c.fill_o.ensures
