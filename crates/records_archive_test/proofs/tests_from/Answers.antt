-- `records_archive_test::tests_from` meets its contract.
use Prim.Native.Nat.{ℕ}
use native.Mathlib.Omega.{arith}
use mathlib.Core.Path.{refl, sym, ◌∙◌, subst}
use Rattle.records_archive_test.specs.joints.Read.{SecondOnSheet}
use Rattle.records_archive_reader.proofs.ReaderLaws.{archive-sizes-taken}
use Rattle.records_archive_test.proofs.TestLaws.{archive-p, inverse-fits, square-fits, adjusted-fits, squares-fit, sigma2-stands, archive-run-is}
use Rattle.records_archive_test.proofs.tests_from.Goals as goal

pub first_slots-firsts-requires : goal.first_slots-firsts-requires
first_slots-firsts-requires c =
    let a = c.args in
    let g = c.requires in
    (archive-sizes-taken a.s.now _ g.0.taken c.archive_sizes-z.ensures).small

pub cells_at-w-requires : goal.cells_at-w-requires
cells_at-w-requires c =
    let a = c.args in
    let g = c.requires in
    let f = (archive-sizes-taken a.s.now _ g.0.taken c.archive_sizes-z.ensures).parameters in
    (omega arith, omega arith, inverse-fits a.s.now a.sheet.now g.0 _ c.archive_sizes-z.ensures _ c.first_slots-firsts.ensures)

pub cells_at-phi-requires : goal.cells_at-phi-requires
cells_at-phi-requires c =
    let a = c.args in
    let g = c.requires in
    let f = (archive-sizes-taken a.s.now _ g.0.taken c.archive_sizes-z.ensures).coefficients in
    (f, f, square-fits a.s.now a.sheet.now g.0 _ c.archive_sizes-z.ensures _ c.first_slots-firsts.ensures)

pub cells_at-phi_a-requires : goal.cells_at-phi_a-requires
cells_at-phi_a-requires c =
    let a = c.args in
    let g = c.requires in
    let f = (archive-sizes-taken a.s.now _ g.0.taken c.archive_sizes-z.ensures).coefficients in
    (f, f, adjusted-fits a.s.now a.sheet.now g.0 _ c.archive_sizes-z.ensures _ c.first_slots-firsts.ensures)

pub stack_at-ps-requires : goal.stack_at-ps-requires
stack_at-ps-requires c =
    let a = c.args in
    let g = c.requires in
    let f = archive-sizes-taken a.s.now _ g.0.taken c.archive_sizes-z.ensures in
    (f.parameters, f.coefficients, squares-fit a.s.now a.sheet.now g.0 _ c.archive_sizes-z.ensures _ c.first_slots-firsts.ensures)

pub offset_bounds-sheet-variance : goal.offset_bounds-sheet-variance
offset_bounds-sheet-variance c =
    let a = c.args in
    let g = c.requires in
    let x = (sigma2-stands a.s.now a.sheet.now g.0 _ c.archive_sizes-z.ensures _ c.first_slots-firsts.ensures).1 in
    omega arith

pub bounds-sheet-variance : goal.bounds-sheet-variance
bounds-sheet-variance c =
    let a = c.args in
    let g = c.requires in
    (sigma2-stands a.s.now a.sheet.now g.0 _ c.archive_sizes-z.ensures _ c.first_slots-firsts.ensures).0

pub tests_with-requires : goal.tests_with-requires
tests_with-requires c =
    let a = c.args in
    let g = c.requires in
    let f = archive-sizes-taken a.s.now _ g.0.taken c.archive_sizes-z.ensures in
    (f.parameters, f.coefficients, subst (λ (p : ℕ). SecondOnSheet p a.t.now a.numbers.now) (sym (archive-p a.s.now _ c.archive_sizes-z.ensures)) g.1)

pub returns : goal.returns
returns c =
    let a = c.args in
    let g = c.requires in
    let e = archive-run-is a.s.now a.sheet.now g.0 _ c.archive_sizes-z.ensures _ c.first_slots-firsts.ensures a.c a.t.now _ _ _ _ _ c.cells_at-w.ensures c.cells_at-phi.ensures c.cells_at-phi_a.ensures c.stack_at-ps.ensures refl in
    c.tests_with.ensures ∙ e
