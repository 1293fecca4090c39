-- `tests_kr_modcomp::full_rank::entry_of` meets its contract.
use Rattle.tests_kr_modcomp.proofs.Parts.{entry-is}
use borrow.Author.Rules.{rules}
use Rattle.tests_kr_modcomp.proofs.full_rank.entry_of.Goals as goal

pub returns : goal.returns
returns c = rw c.is_inside.ensures (entry-is _ _ _ _ _ _ _ _ _ _ _ c.a1_of-a1.ensures c.a2_of-a2.ensures c.scaling_of.ensures c.f_of.ensures c.df_of.ensures)
