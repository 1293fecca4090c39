-- `adjustment_sigma::sigma_part` meets its contract.
use Rattle.adjustment.specs.Covariance.{sigma_cell}
use Rattle.adjustment_covariance_rows.proofs.RowLaws.{terms-cleared}
use native.Mathlib.Omega.{arith}
use Rattle.adjustment_sigma.proofs.sigma_part.Goals as goal

pub gain_sigma-requires : goal.gain_sigma-requires
gain_sigma-requires c =
    let g = c.requires in
    record { m_in_bounds = (omega arith, omega arith, g.m_in_bounds.2); lent = g.lent }

pub returns : goal.returns
unfolding sigma_cell
returns c = terms-cleared _ _ _ _ _ _ _ c.requires.m_in_bounds.0 c.clear_row.ensures c.gain_sigma.ensures
