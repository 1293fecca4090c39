-- `adjustment_kr_vcov_adj::precision::fill_inverse` meets its contract.
use Rattle.adjustment_kr_vcov_adj.proofs.PrecisionLaws.{inverse-is, refused-is}
use Rattle.adjustment_work.proofs.WorkLaws.{square-held, side-in, wide-held, wide-apart-at, wide-apart-from}
use native.Mathlib.Omega.{arith}
use Rattle.adjustment_kr_vcov_adj.proofs.precision.fill_inverse.Goals as goal

pub overflow_add-s : goal.overflow_add-s
overflow_add-s c = omega (arith, side-in c.args.s, c.requires.1)

pub invert-requires : goal.invert-requires
invert-requires c =
    let g = c.requires in
    let l = c.square_at-l.ensures.0 in
    let b = c.square_at-b.ensures.0 in
    let a = c.square_at-a.ensures.0 in record { holds = (square-held _ _ 3 _ _ g.0 g.1 (omega arith) b, wide-held _ _ _ _ g.0 g.1 a, square-held _ _ 2 _ _ g.0 g.1 (omega arith) l); apart = (wide-apart-at _ _ 3 _ _ g.0 (omega arith) b a, wide-apart-from _ _ 2 _ _ g.0 (omega arith) l a) }

pub returns : goal.returns
returns c =
    let l = c.square_at-l.ensures.0 in
    let b = c.square_at-b.ensures.0 in
    let a = c.square_at-a.ensures.0 in
    record { work_after = inverse-is _ _ _ _ _ _ _ l b a c.invert.ensures.work_after; value = refused-is _ _ _ _ _ l c.invert.ensures.value }
