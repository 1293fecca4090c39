-- `tests_kr_modcomp::full_rank::wald_entry` meets its contract.
use Rattle.tests_kr_modcomp.specs.joints.Parts.{wald_entry_of}
use borrow.Author.Rules.{rules}
use Rattle.tests_kr_modcomp.proofs.full_rank.wald_entry.Goals as goal

pub returns : goal.returns
unfolding wald_entry_of
returns c = rw (← c.solve_wald_quadratic-wald.ensures, ← c.wald_number-number.ensures, ← c.wald_seen-all.ensures) c.entry_of.ensures
