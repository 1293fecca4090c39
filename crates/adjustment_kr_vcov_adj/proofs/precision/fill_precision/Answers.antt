-- `adjustment_kr_vcov_adj::precision::fill_precision` meets its contract.
use Rattle.adjustment_kr_vcov_adj.proofs.PrecisionLaws.{precision-is}
use Rattle.adjustment_work.proofs.WorkLaws.{square-held, squares-apart}
use native.Mathlib.Omega.{arith}
use Rattle.adjustment_kr_vcov_adj.proofs.precision.fill_precision.Goals as goal

pub precision_at-requires : goal.precision_at-requires
precision_at-requires c =
    let g = c.requires in
    let a = c.square_at-a.ensures.0 in
    let b = c.square_at-b.ensures.0 in
    (square-held _ _ 1 _ _ g.0 g.1 (omega arith) a, square-held _ _ 3 _ _ g.0 g.1 (omega arith) b, squares-apart _ _ 1 3 _ _ g.0 (λ e. omega arith) a b)

pub returns : goal.returns
returns c =
    let a = c.square_at-a.ensures.0 in
    let b = c.square_at-b.ensures.0 in
    precision-is _ _ _ _ _ _ a b c.precision_at.ensures
