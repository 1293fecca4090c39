-- `records_kenward_roger::tests_of` meets its contract.
use Prim.Native.Nat.{◌+◌, ◌≤◌}
use native.Mathlib.Omega.{arith}
use mathlib.Core.Path.{refl, ◌∙◌}
use Rattle.records_refusals.specs.joints.Room.{SeriesShort}
use Rattle.records_kenward_roger.proofs.Calls.{few-blocks, few-coefficients, few-contrasts, few-hypotheses, lent-sound, matrices-are, matrices-few, run_is}
use Rattle.records_kenward_roger.proofs.Calls.{start-within, sigma2-place, phi-ends, beta-ends, contrast-ends, hypothesis-ends}
use Rattle.records_kenward_roger.proofs.tests_of.Goals as goal

pub blocks_of-blocks-requires : goal.blocks_of-blocks-requires
blocks_of-blocks-requires c =
    let lent : SeriesShort c.args.limit c.args.s.now c.args.z c.args.firsts.now c.args.sheet.now = c.requires.series_short in
    few-blocks _ _ _ _ _ lent

pub places_before-n-requires : goal.places_before-n-requires
places_before-n-requires c =
    let lent : SeriesShort c.args.limit c.args.s.now c.args.z c.args.firsts.now c.args.sheet.now = c.requires.series_short in
    lent-sound _ _ _ _ _ lent _ c.blocks_of-blocks.ensures.0

pub overflow_add-n : goal.overflow_add-n
overflow_add-n c =
    let lent : SeriesShort c.args.limit c.args.s.now c.args.z c.args.firsts.now c.args.sheet.now = c.requires.series_short in
    let few-matrices : c.places_before-n.result + 1 ≤ 4 = matrices-few _ _ _ _ _ lent _ c.blocks_of-blocks.ensures.0 _ c.places_before-n.ensures in
    let h = few-matrices in omega arith

pub cells_at-phi-requires : goal.cells_at-phi-requires
cells_at-phi-requires c =
    let lent : SeriesShort c.args.limit c.args.s.now c.args.z c.args.firsts.now c.args.sheet.now = c.requires.series_short in
    let h = lent in
    let few = few-coefficients _ _ _ _ _ h in
    (few, few, phi-ends _ _ _ _ _ h)

pub six_at-beta-requires : goal.six_at-beta-requires
six_at-beta-requires c =
    let lent : SeriesShort c.args.limit c.args.s.now c.args.z c.args.firsts.now c.args.sheet.now = c.requires.series_short in
    let h = lent in (beta-ends _ _ _ _ _ h, few-coefficients _ _ _ _ _ h)

pub six_at-beta_h-requires : goal.six_at-beta_h-requires
six_at-beta_h-requires c =
    let lent : SeriesShort c.args.limit c.args.s.now c.args.z c.args.firsts.now c.args.sheet.now = c.requires.series_short in
    let h = lent in
    let e = c.given.ensures in
    let x = hypothesis-ends _ _ _ _ _ h in
    let y = few-hypotheses _ _ _ _ _ h in
    (omega arith, omega arith)

pub cells_at-l-requires : goal.cells_at-l-requires
cells_at-l-requires c =
    let lent : SeriesShort c.args.limit c.args.s.now c.args.z c.args.firsts.now c.args.sheet.now = c.requires.series_short in
    let h = lent in
    (few-contrasts _ _ _ _ _ h, few-coefficients _ _ _ _ _ h, contrast-ends _ _ _ _ _ h)

pub offset_bounds-sheet-variance : goal.offset_bounds-sheet-variance
offset_bounds-sheet-variance c =
    let lent : SeriesShort c.args.limit c.args.s.now c.args.z c.args.firsts.now c.args.sheet.now = c.requires.series_short in
    let x = start-within _ _ _ _ _ lent 7 (omega arith) in
    let y = x.1 in
    omega arith

pub bounds-sheet-variance : goal.bounds-sheet-variance
bounds-sheet-variance c =
    let lent : SeriesShort c.args.limit c.args.s.now c.args.z c.args.firsts.now c.args.sheet.now = c.requires.series_short in
    sigma2-place _ _ _ _ _ lent

pub compute_kenward_roger-requires : goal.compute_kenward_roger-requires
compute_kenward_roger-requires c =
    let lent : SeriesShort c.args.limit c.args.s.now c.args.z c.args.firsts.now c.args.sheet.now = c.requires.series_short in
    let few-matrices : c.places_before-n.result + 1 ≤ 4 = matrices-few _ _ _ _ _ lent _ c.blocks_of-blocks.ensures.0 _ c.places_before-n.ensures in
    let h = lent in
    (few-matrices, few-coefficients _ _ _ _ _ h, few-contrasts _ _ _ _ _ h)

pub returns : goal.returns
returns c =
    let lent : SeriesShort c.args.limit c.args.s.now c.args.z c.args.firsts.now c.args.sheet.now = c.requires.series_short in
    let h = lent in
    let m = matrices-are _ _ _ _ _ h _ c.blocks_of-blocks.ensures.0 _ c.places_before-n.ensures in
    let e = run_is _ _ _ _ _ h c.args.c _ _ _ _ _ _ _ _ _ _ m c.cells_at-phi.ensures c.six_at-beta.ensures c.given.ensures c.six_at-beta_h.ensures c.cells_at-l.ensures refl
    c.requires.phi_a_value.0 c.requires.phi_a_value.1 c.requires.phi_a_value.2 in
    c.compute_kenward_roger.ensures ∙ e
