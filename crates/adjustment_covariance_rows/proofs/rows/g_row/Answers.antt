-- `adjustment_covariance_rows::rows::g_row` meets its contract.
use mathlib.Core.Path.{sym, ◌∙◌}
use Rattle.adjustment_covariance_rows.proofs.RowLaws.{row_last, row-own}
use native.Mathlib.Omega.{arith}
use Rattle.adjustment_covariance_rows.proofs.rows.g_row.Goals as goal

pub residual_row-requires : goal.residual_row-requires
residual_row-requires c = (omega arith, omega arith, λ w. omega (arith, c.requires.1.weighed w))

pub returns-then-r-last : goal.returns-then-r-last
returns-then-r-last c = row_last _ _ _ _ _ _ _ _ c.args.lo _ _ c.args.out.now _ (c.if-r-last.true ∙ c.places_before-last.ensures) c.residual_row.ensures

pub returns : goal.returns
returns c = row-own _ _ _ _ _ _ _ _ c.args.lo _ _ c.args.out.now _ _ (λ e. c.if-r-last.false (e ∙ sym c.places_before-last.ensures)) c.place_of-t.ensures.0 c.block_row.ensures
