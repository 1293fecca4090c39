-- `algebra_large_inverse::solve::larger_row` meets its contract.
use mathlib.Core.Bool.{true, false}
use Rattle.algebra_large_inverse.proofs.EliminationLaws.{larger-is}
use borrow.Author.Rules.{rules}
use Rattle.algebra_large_inverse.proofs.solve.larger_row.Goals as goal

pub returns-then-is_larger : goal.returns-then-is_larger
returns-then-is_larger c =
    let h = c.requires in
    (larger-is _ _ _ _ _ _ _ _ _ _ _ true h.2 h.3 h.1 c.start-p.ensures.0 c.start-q.ensures.0 c.is_larger.ensures c.if-is_larger.true, h.2)

pub returns : goal.returns
returns c =
    let h = c.requires in
    (larger-is _ _ _ _ _ _ _ _ _ _ _ false h.2 h.3 h.1 c.start-p.ensures.0 c.start-q.ensures.0 c.is_larger.ensures c.if-is_larger.false, h.3)
