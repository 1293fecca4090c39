-- `algebra_large_inverse::back::back_row` meets its contract.
use mathlib.Core.Path.{refl}
use Rattle.algebra_large_inverse.proofs.BackLaws.{far-row, far-part, far-less, back-row}
use native.Mathlib.Omega.{arith}
use borrow.Author.Rules.{rules}
use Rattle.algebra_large_inverse.proofs.back.back_row.Goals as goal

pub copy_row-requires : goal.copy_row-requires
copy_row-requires c =
    let g = c.requires in (
      omega arith,
      omega arith,
      far-part _ _ _ _ _ _ _ _ _ (far-row _ _ _ _ _ _ _ _ g.2 g.3 g.1.wide c.start-p.ensures.0) g.3 g.0.wide c.start-x.ensures.0 (omega arith) (omega arith),
    )

pub lose_known-requires : goal.lose_known-requires
lose_known-requires c =
    let g = c.requires in
    (omega arith, g.3, omega arith, far-less _ _ _ _ _ _ (far-row _ _ _ _ _ _ _ _ g.2 g.3 g.1.wide c.start-p.ensures.0) (omega arith))

pub returns : goal.returns
returns c =
    let g = c.requires in
    back-row _ _ _ _ _ _ _ _ _ _ _ _ _ _ _ g.1 g.0 g.2 g.3 c.start-p.ensures.0 c.start-x.ensures.0 refl c.copy_row.ensures c.lose_known.ensures refl c.divide_row.ensures
