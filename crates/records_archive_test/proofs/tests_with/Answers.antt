-- `records_archive_test::tests_with` meets its contract.
use mathlib.Core.Path.{◌∙◌}
use Rattle.records_archive_test.proofs.TestLaws.{tests-sizes, estimates-fit, contrast-rows-fit, hypothesis-fits, tests-run-is}
use Rattle.records_archive_test.proofs.tests_with.Goals as goal

pub first_slots-firsts-requires : goal.first_slots-firsts-requires
first_slots-firsts-requires c =
    let a = c.args in
    let g = c.requires in
    (tests-sizes a.residual.now.p a.t.now a.numbers.now g.2 _ c.second_sizes-z.ensures).small

pub six_at-beta-requires : goal.six_at-beta-requires
six_at-beta-requires c =
    let a = c.args in
    let g = c.requires in
    (estimates-fit a.residual.now.p a.t.now a.numbers.now g.2 _ c.second_sizes-z.ensures _ c.first_slots-firsts.ensures, g.1)

pub six_at-beta_h-requires : goal.six_at-beta_h-requires
six_at-beta_h-requires c =
    let a = c.args in
    let g = c.requires in
    hypothesis-fits a.residual.now.p a.t.now a.numbers.now g.2 _ c.second_sizes-z.ensures _ c.first_slots-firsts.ensures _ c.given.ensures

pub cells_at-l-requires : goal.cells_at-l-requires
cells_at-l-requires c =
    let a = c.args in
    let g = c.requires in
    ((tests-sizes a.residual.now.p a.t.now a.numbers.now g.2 _ c.second_sizes-z.ensures).contrasts, g.1, contrast-rows-fit a.residual.now.p a.t.now a.numbers.now g.2 _ c.second_sizes-z.ensures _ c.first_slots-firsts.ensures)

pub compute_kenward_roger-requires : goal.compute_kenward_roger-requires
compute_kenward_roger-requires c =
    let a = c.args in
    let g = c.requires in
    (g.0, g.1, (tests-sizes a.residual.now.p a.t.now a.numbers.now g.2 _ c.second_sizes-z.ensures).contrasts)

pub returns : goal.returns
returns c =
    let a = c.args in
    let g = c.requires in
    let e = tests-run-is a.residual.now.p a.t.now a.numbers.now g.2 _ c.second_sizes-z.ensures _ c.first_slots-firsts.ensures a.c _ _ _ _ _ c.six_at-beta.ensures c.given.ensures c.six_at-beta_h.ensures c.cells_at-l.ensures in
    c.compute_kenward_roger.ensures ∙ e
