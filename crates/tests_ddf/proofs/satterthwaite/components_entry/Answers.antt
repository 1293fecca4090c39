-- `tests_ddf::satterthwaite::components_entry` meets its contract.
use Rattle.tests_ddf.proofs.PartsLaws.{components-entry-is}
use borrow.Author.Rules.{rules}
use Rattle.tests_ddf.proofs.satterthwaite.components_entry.Goals as goal

pub returns : goal.returns
returns c =
    rw c.is_inside.ensures
    (components-entry-is _ _ _ _ _ _ _ _ _ _ _ _ _ _ _ _ c.projected.ensures c.squares_over-f.ensures c.component_dfs.ensures
    c.several_df-df.ensures c.also.ensures c.components_seen-all.ensures c.number_of.ensures)
