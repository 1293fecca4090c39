-- `adjustment_stacks::ps_of` meets its contract.
use Rattle.adjustment_stacks.proofs.InformationLaws.{p-more}
use Rattle.adjustment_work.proofs.WorkLaws.{part_held}
use Rattle.adjustment_work.specs.joints.Steps.{sx_at, o_at}
use Rattle.adjustment.specs.Adjusted.{stack}
use Rattle.adjustment.specs.Information.{p_rows}
use Rattle.algebra.proofs.FoldLaws.{fold_start, fold_end}
use borrow.Author.Rules.{rules}
use native.Mathlib.Omega.{arith}
use mathlib.Core.Path.{◌≡◌, refl, ◌∙◌}
use Prim.Native.Nat.{◌+◌, ◌≤◌, ◌-◌, ◌*◌}
use Rattle.adjustment_stacks.proofs.ps_of.Goals as goal

pub loop-r-init : goal.loop-r-init
unfolding stack
loop-r-init c = (omega arith, rw c.zeros-blank.ensures (fold_start _ _ _))

pub part_at-t-requires : goal.part_at-t-requires
part_at-t-requires c = (c.requires.2, omega arith)

pub part_at-o-requires : goal.part_at-o-requires
part_at-o-requires c = (c.requires.2, omega arith)

pub p_of-m-requires : goal.p_of-m-requires
p_of-m-requires c =
    let g = c.requires in
    (part_held _ _ _ (1 + c.loop-r.r) _ _ g.0 g.1 g.2 (omega arith) c.part_at-o.ensures.0, part_held _ _ _ 0 _ _ g.0 g.1 g.2 (omega arith) c.part_at-t.ensures.0)

pub loop-r-preserved : goal.loop-r-preserved
loop-r-preserved c = (omega arith, p-more _ _ _ _ _ _ _ _ _ c.loop-r.invariant.1 c.part_at-o.ensures.0 c.part_at-t.ensures.0 c.p_of-m.ensures)

pub returns : goal.returns
unfolding stack
returns c = fold_end _ _ _ _ _ _ c.loop-r.invariant.0 c.loop-r-test.false c.loop-r.invariant.1
