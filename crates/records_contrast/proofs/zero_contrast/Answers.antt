-- `records_contrast::zero_contrast` meets its contract.
use borrow.Author.Tests.{eq-eqb, ne_eqb}
use Rattle.records_contrast.specs.joints.Contrast.{zero_contrast_in}
use borrow.Author.Rules.{rules}
use Rattle.records_contrast.proofs.zero_contrast.Reads as reads
use Rattle.records_contrast.proofs.zero_contrast.Lts as lts
use Rattle.records_contrast.proofs.any_nonzero.Reads as any-nonzero-reads
use Rattle.records_contrast.proofs.zero_contrast.Goals as goal

pub returns-then-rows-eq0 : goal.returns-then-rows-eq0
unfolding zero_contrast_in
returns-then-rows-eq0 c = rw (eq-eqb _ _ c.if-rows-eq0.true)

pub returns : goal.returns
unfolding zero_contrast_in
returns c = rw (ne_eqb _ _ c.if-rows-eq0.false, ← c.any_nonzero.ensures)
