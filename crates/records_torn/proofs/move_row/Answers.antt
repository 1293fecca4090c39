-- `records_torn::move_row` meets its contract.
use Prim.Native.Nat.{ℕ, ◌+◌}
use mathlib.Core.Path.{◌≡◌, refl, ap, sym}
use lib.ListN.{get_or, length-set}
use lib.Ieee.{nan}
use native.Mathlib.Omega.{arith}
use Rattle.algebra.proofs.FoldLaws.{fold_start, fold_end}
use Rattle.algebra_large.specs.joints.Slab.{put_row}
use Rattle.algebra_large.proofs.SlabLaws.{row_more, row-ahead, put_row-is}
use Rattle.records_torn.proofs.move_row.Goals as goal

-- the row stands there already
pub returns-then-from-to : goal.returns-then-from-to
returns-then-from-to c =
    let a = c.args in
    let e : a.from ≡ a.to = c.if-from-to.true in
    let xs = a.sheet.now in
    put_row-is a.to a.stride (λ j. get_or xs (a.from + j) nan) xs xs (omega arith) refl (λ j _. ap (λ (p : ℕ). get_or xs (p + j) nan) (sym e)) (λ _ _. refl)

pub loop-j-init : goal.loop-j-init
unfolding put_row
loop-j-init c = (omega arith, refl, fold_start _ _ _)

-- the number that is read stands after those that are written
pub loop-j-preserved : goal.loop-j-preserved
loop-j-preserved c =
    let v = c.loop-j.invariant in
    let q = c.args.from + c.loop-j.j in
    (omega arith, rw length-set v.1, row_more _ _ _ _ _ _ v.2 (row-ahead _ _ _ _ _ v.2 q (λ k h e. omega arith)))

pub shape_of-sheet : goal.shape_of-sheet
shape_of-sheet c = c.loop-j.invariant.1

pub returns : goal.returns
unfolding put_row
returns c = fold_end _ _ _ _ _ _ c.loop-j.invariant.0 c.loop-j-test.false c.loop-j.invariant.2
