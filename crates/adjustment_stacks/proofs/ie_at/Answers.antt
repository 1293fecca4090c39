-- `adjustment_stacks::ie_at` meets its contract.
use Rattle.adjustment_stacks.proofs.InformationLaws.{ie-is}
use Rattle.adjustment_work.proofs.WorkLaws.{square-held}
use native.Mathlib.Omega.{arith}
use Prim.Native.Nat.{◌+◌}
use borrow.Author.Rules.{rules}
use Rattle.adjustment_stacks.proofs.ie_at.Goals as goal

pub k_of-trace-requires : goal.k_of-trace-requires
k_of-trace-requires c =
    let g = c.requires in
    (square-held _ _ (2 + c.args.r) _ _ g.0 g.2 (omega arith) c.square_at-a.ensures.0, square-held _ _ (2 + c.args.t) _ _ g.0 g.2 (omega arith) c.square_at-b.ensures.0)

pub returns : goal.returns
returns c = ie-is _ _ _ _ _ _ _ _ _ _ _ _ _ _ _ c.square_at-a.ensures.0 c.square_at-b.ensures.0 c.k_of-trace.ensures c.index_symmat2vec-at.ensures.0 c.ie_cell.ensures
