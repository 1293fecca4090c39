-- `adjustment_covariance_rows::rows::gain_group` meets its contract.
use Rattle.adjustment_covariance_rows.proofs.RowLaws.{gained-one, gained-two}
use Rattle.algebra.specs.Fold.{fold}
use Rattle.algebra.specs.Product.{sum}
use native.Mathlib.Omega.{arith}
use Rattle.adjustment_covariance_rows.proofs.rows.gain_group.Goals as goal

pub returns-then-t-eq1 : goal.returns-then-t-eq1
unfolding sum fold
returns-then-t-eq1 c = gained-one _ _ _ _ _ _ c.args.lo _ _ c.args.out.now _ c.if-t-eq1.true c.group_column-k.ensures.0 c.directed_cell-u.ensures c.gain_effects.ensures

pub returns : goal.returns
unfolding sum fold
returns c =
    let g = c.requires in
    gained-two _ _ _ _ _ _ c.args.lo _ _ _ _ c.args.out.now _ (omega (arith, g.3.small, g.3.high, c.if-t-eq1.false))
    c.group_column-k.ensures.0 c.directed_cell-u.ensures c.group_column-l.ensures.0 c.directed_cell-v.ensures c.gain_effects-2.ensures
