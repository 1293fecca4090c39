-- `adjustment_sigma::gain_part` meets its contract.
use Rattle.adjustment_sigma.proofs.PartLaws.{part-holds, part_apart, with-made}
use native.Mathlib.Omega.{arith}
use Rattle.adjustment_sigma.proofs.gain_part.Goals as goal

pub gain_cells-requires : goal.gain_cells-requires
gain_cells-requires c =
    let g = c.requires in
    (g.n_in_bounds.0, part-holds _ _ _ _ g.n_in_bounds.4 g.n_in_bounds.1 c.start-b.ensures.0, part_apart _ _ _ _ g.n_in_bounds.4 g.n_in_bounds.2 c.start-b.ensures.0, omega arith)

pub returns : goal.returns
returns c = with-made _ _ _ _ _ _ _ _ _ c.args.work.now _ (omega arith) c.g_row.ensures c.start-b.ensures.0 c.gain_cells.ensures
