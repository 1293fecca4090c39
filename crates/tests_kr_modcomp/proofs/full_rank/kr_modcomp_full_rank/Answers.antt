-- `tests_kr_modcomp::full_rank::kr_modcomp_full_rank` meets its contract.
use Rattle.tests_kr_modcomp.proofs.Parts.{tested-is}
use borrow.Author.Rules.{rules}
use Rattle.tests_kr_modcomp.proofs.full_rank.kr_modcomp_full_rank.Goals as goal

pub returns : goal.returns
returns c =
    let y = c.solve-of_v.ensures in
    tested-is _ _ _ _ _ _ _ _ _ _ _ _ _ _ c.given_cells-l.ensures c.difference-d.ensures c.product-ld.ensures c.sandwich-v.ensures y.cells y.refused c.scaling_seen-seen.ensures c.theta_entry-t.ensures
