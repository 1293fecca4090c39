-- `tests_ddf::satterthwaite::satterthwaite_contrast_f_test` meets its contract.
use borrow.Author.Tests.{eq-eqb, ne_eqb}
use Rattle.tests_ddf.proofs.PartsLaws.{one-row-is, several-rows-is}
use borrow.Author.Rules.{rules}
use Rattle.tests_ddf.proofs.satterthwaite.satterthwaite_contrast_f_test.Goals as goal

pub returns-then-q-eq1 : goal.returns-then-q-eq1
returns-then-q-eq1 c =
    let test = eq-eqb _ _ c.if-q-eq1.true in
    one-row-is _ _ _ _ _ _ _ c.given_cells-l.ensures c.contrast_of-ld.ensures c.transformed-v.ensures c.transform_contrast-js.ensures test _ _ _ c.start_seen-start.ensures c.gradient_one-gradient.ensures c.one_row-entry.ensures

pub returns : goal.returns
returns c =
    let test = ne_eqb _ _ c.if-q-eq1.false in
    several-rows-is _ _ _ _ _ _ _ c.given_cells-l.ensures c.contrast_of-ld.ensures c.transformed-v.ensures c.transform_contrast-js.ensures test _ c.several_rows.ensures
