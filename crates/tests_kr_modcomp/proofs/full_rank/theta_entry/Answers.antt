-- `tests_kr_modcomp::full_rank::theta_entry` meets its contract.
use Rattle.tests_kr_modcomp.proofs.Parts.{theta-tested-is}
use borrow.Author.Rules.{rules}
use Rattle.tests_kr_modcomp.proofs.full_rank.theta_entry.Goals as goal

pub returns : goal.returns
returns c =
    let x = c.solve-solved.ensures in
    let u = c.u_split-all.ensures in
    theta-tested-is _ _ _ _ _ _ _ _ _ _ _ _ _ _ _ _ c.sandwich-a.ensures x.cells x.refused c.theta_phi-tp.ensures c.theta_seen-before.ensures u.value u.plain_after c.wald_entry-entry.ensures
