-- `adjustment_work::stacks::fill_hs` meets its contract.
use Rattle.adjustment_work.proofs.FillLaws.{h-more}
use Rattle.adjustment_work.proofs.StackLaws.{stack-none, stack-end}
use Rattle.adjustment_work.proofs.WorkLaws.{square-held, squares-apart}
use native.Mathlib.Omega.{arith}
use mathlib.Core.Path.{refl, ◌∙◌}
use Prim.Native.Nat.{◌+◌}
use Rattle.adjustment_work.proofs.stacks.fill_hs.Goals as goal

pub loop-r-init : goal.loop-r-init
loop-r-init c = (omega arith, refl, stack-none _ _ _ _ _ _ _)

pub square_at-q-requires : goal.square_at-q-requires
square_at-q-requires c = (omega (arith, c.requires.1), omega arith)

pub overflow_add-r : goal.overflow_add-r
overflow_add-r c = omega (arith, c.requires.2.sound.thetas)

pub square_at-d-requires : goal.square_at-d-requires
square_at-d-requires c = (omega (arith, c.requires.1), omega (arith, c.requires.2.sound.thetas))

pub fill_h-requires : goal.fill_h-requires
fill_h-requires c =
    let g = c.requires in
    let d = c.square_at-d.ensures.0 in
    let q = c.square_at-q.ensures.0 in record { holds = (square-held _ _ (2 + c.loop-r.r) _ _ g.0 (omega (arith, g.1)) (omega (arith, g.2.sound.thetas)) d, square-held _ _ 1 _ _ g.0 (omega (arith, g.1)) (omega arith) q, squares-apart _ _ (2 + c.loop-r.r) 1 _ _ g.0 (λ e. omega arith) d q); lent = (g.2, omega arith) }

pub loop-r-preserved : goal.loop-r-preserved
loop-r-preserved c =
    let g = c.requires in
    let v = c.loop-r.invariant in
    (omega arith, c.fill_h.auto.work ∙ v.1, h-more _ _ _ _ _ _ _ _ _ g.0 v.2 c.square_at-d.ensures.0 c.square_at-q.ensures.0 c.fill_h.ensures)

pub shape_of-work : goal.shape_of-work
shape_of-work c = c.loop-r.invariant.1

pub returns : goal.returns
returns c = stack-end _ _ _ _ _ _ _ _ _ _ c.loop-r.invariant.0 c.loop-r-test.false c.loop-r.invariant.2
