-- `adjustment_kr_vcov_adj::precision::fill_factor` meets its contract.
use Rattle.adjustment_kr_vcov_adj.proofs.PrecisionLaws.{factor-is, definite-is}
use Rattle.adjustment_work.proofs.WorkLaws.{square-held, squares-apart}
use native.Mathlib.Omega.{arith}
use Rattle.adjustment_kr_vcov_adj.proofs.precision.fill_factor.Goals as goal

pub copy-requires : goal.copy-requires
copy-requires c =
    let g = c.requires in (
      square-held _ _ 2 _ _ g.0 g.1 (omega arith) c.square_at-b.ensures.0,
      square-held _ _ 0 _ _ g.0 g.1 (omega arith) c.square_at-a.ensures.0,
      squares-apart _ _ 2 0 _ _ g.0 (λ e. omega arith) c.square_at-b.ensures.0 c.square_at-a.ensures.0,
    )

pub cholesky-z-requires : goal.cholesky-z-requires
cholesky-z-requires c =
    let g = c.requires in
    let l = c.copy.auto.work in
    square-held _ _ 2 _ _ g.0 (omega arith) (omega arith) c.square_at-b.ensures.0

pub zero_above-requires : goal.zero_above-requires
zero_above-requires c =
    let g = c.requires in
    let l = c.copy.auto.work in
    let m = c.cholesky-z.auto.work in
    square-held _ _ 2 _ _ g.0 (omega arith) (omega arith) c.square_at-b.ensures.0

pub returns : goal.returns
returns c =
    let g = c.requires in
    let a = c.square_at-a.ensures.0 in
    let b = c.square_at-b.ensures.0 in record { work_after = factor-is _ _ _ _ _ _ _ _ c.cholesky-z.result g.0 g.1 a b c.copy.ensures c.cholesky-z.ensures.work_after c.zero_above.ensures; value = definite-is _ _ _ _ _ _ _ c.zero_above.new.work _ g.0 g.1 a b c.copy.ensures c.cholesky-z.ensures.work_after c.cholesky-z.ensures.value }
