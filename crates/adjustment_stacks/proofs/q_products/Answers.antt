-- `adjustment_stacks::q_products` meets its contract.
use Rattle.adjustment_stacks.proofs.InformationLaws.{q-more}
use Rattle.adjustment_work.proofs.WorkLaws.{part_held, turned-held}
use Rattle.adjustment_work.specs.joints.Steps.{o_at, q_row_to}
use Rattle.adjustment_work.specs.joints.Work.{part}
use Rattle.algebra_large.specs.joints.Slab.{rows_at}
use Rattle.algebra.proofs.FoldLaws.{fold_start, fold_end}
use Rattle.algebra.specs.Product.{product}
use Rattle.algebra.specs.Kind.{floats}
use native.Mathlib.Omega.{arith}
use mathlib.Core.Path.{◌≡◌, refl, ◌∙◌}
use Prim.Native.Nat.{◌+◌, ◌≤◌, ◌-◌, ◌*◌}
use Rattle.adjustment_stacks.proofs.q_products.Goals as goal

pub loop-t-init : goal.loop-t-init
unfolding q_row_to
loop-t-init c = (omega arith, omega (arith, c.requires.4), fold_start _ _ _)

pub part_at-e-requires : goal.part_at-e-requires
part_at-e-requires c = (c.requires.2, omega arith)

pub overflow_add-t : goal.overflow_add-t
overflow_add-t c = omega (arith, c.requires.3)

pub part_at-o-requires : goal.part_at-o-requires
part_at-o-requires c = (c.requires.2, omega (arith, c.requires.3))

pub wide_product-m-requires : goal.wide_product-m-requires
wide_product-m-requires c =
    let g = c.requires in
    (turned-held _ _ _ _ _ g.0 g.1 g.2 c.part_at-e.ensures.0, part_held _ _ _ (1 + c.loop-t.t) _ _ g.0 g.1 g.2 (omega (arith, g.3)) c.part_at-o.ensures.0)

pub index_symmat2vec-at-requires : goal.index_symmat2vec-at-requires
index_symmat2vec-at-requires c = (c.requires.3, c.requires.4, omega arith)

pub offset_bounds-out-at : goal.offset_bounds-out-at
offset_bounds-out-at c = omega (arith, c.index_symmat2vec-at.ensures.1)

pub bounds-out-at : goal.bounds-out-at
bounds-out-at c = omega (arith, c.index_symmat2vec-at.ensures.1)

pub loop-t-preserved : goal.loop-t-preserved
loop-t-preserved c =
    let v = c.loop-t.invariant in
    (omega arith, omega arith, q-more _ _ _ _ _ _ _ _ _ _ _ _ _ v.0 v.2 c.part_at-e.ensures.0 c.part_at-o.ensures.0 c.index_symmat2vec-at.ensures.0 c.wide_product-m.ensures)

pub returns : goal.returns
unfolding q_row_to
returns c = fold_end _ _ _ _ _ _ c.loop-t.invariant.1 c.loop-t-test.false c.loop-t.invariant.2
