-- `tests_ddf::satterthwaite::one_row` meets its contract.
use Rattle.tests_ddf.specs.joints.Parts.{one_entry_of}
use borrow.Author.Rules.{rules}
use Rattle.tests_ddf.proofs.satterthwaite.one_row.Goals as goal

pub returns : goal.returns
unfolding one_entry_of
returns c = rw (c.is_inside.ensures, ← c.square_one-f.ensures, ← c.variance_df-df.ensures, ← c.also.ensures, ← c.gradient_seen-seen.ensures, ← c.number_of.ensures)
