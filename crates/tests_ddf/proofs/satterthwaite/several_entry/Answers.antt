-- `tests_ddf::satterthwaite::several_entry` meets its contract.
use Rattle.tests_ddf.proofs.PartsLaws.{several-entry-from}
use borrow.Author.Rules.{rules}
use Rattle.tests_ddf.proofs.satterthwaite.several_entry.Goals as goal

pub returns : goal.returns
returns c = several-entry-from _ _ _ _ _ _ _ _ _ _ _ _ _ _ c.eigenvalues-order.ensures c.variances_of-es.ensures c.directions_of-x.ensures c.jx_all-jx.ensures c.components_entry.ensures
