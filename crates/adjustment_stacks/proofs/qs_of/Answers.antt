-- `adjustment_stacks::qs_of` meets its contract.
use Rattle.adjustment_stacks.proofs.InformationLaws.{qs_to, qs-none, qs-more, qs-end, turned_more}
use Rattle.adjustment_work.specs.joints.Steps.{s_at, o_at, o_transposed_s_to}
use Rattle.adjustment.specs.Information.{q_rows}
use Rattle.algebra.proofs.FoldLaws.{fold_start, fold_end}
use borrow.Author.Rules.{rules}
use native.Mathlib.Omega.{arith}
use lib.ListN.{length}
use mathlib.Core.Path.{◌≡◌, refl, ◌∙◌}
use Prim.Native.Nat.{◌≤◌, ◌-◌}
use Rattle.adjustment_stacks.proofs.qs_of.Goals as goal

pub loop-r-init : goal.loop-r-init
unfolding o_transposed_s_to
loop-r-init c = (omega arith, refl, fold_start _ _ _, qs-none _ _ _ c.zeros-blank.ensures)

pub q_row-next-requires : goal.q_row-next-requires
q_row-next-requires c =
    let g = c.requires in
    (record { high = g.0.high; few = g.0.few; squares = g.0.squares; parts = omega (arith, g.0.parts) }, g.1, omega arith)

pub loop-r-preserved : goal.loop-r-preserved
loop-r-preserved c =
    let g = c.requires in
    let v = c.loop-r.invariant in (
      omega arith,
      c.q_row-next.auto.narrow ∙ v.1,
      turned_more _ _ _ _ _ _ _ _ g.0.high g.0.few g.1 c.loop-r-test.true v.2 _ c.q_row-next.ensures.narrow_after,
      qs-more _ _ _ _ _ _ _ _ g.0.high g.0.few g.1 c.loop-r-test.true v.2 _ _ v.3 c.q_row-next.ensures.value,
    )

pub shape_of-narrow : goal.shape_of-narrow
shape_of-narrow c = c.loop-r.invariant.1

pub returns : goal.returns
unfolding o_transposed_s_to
returns c = record { value = qs-end _ _ _ _ c.loop-r.invariant.0 c.loop-r-test.false c.loop-r.invariant.3; narrow_after = fold_end _ _ _ _ _ _ c.loop-r.invariant.0 c.loop-r-test.false c.loop-r.invariant.2 }
