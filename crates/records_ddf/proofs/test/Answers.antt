-- `records_ddf::test` meets its contract.
use native.Mathlib.Omega.{arith}
use lib.ListN.{length}
use Rattle.records_ddf.proofs.Inputs.{OnSheet, on-sheet, test-is}
use borrow.Author.Rules.{rules}
use Rattle.records_ddf.proofs.test.Goals as goal

pub six_at-beta-requires : goal.six_at-beta-requires
six_at-beta-requires c =
    let placed : OnSheet c.args.z c.args.firsts.now (length c.args.sheet.now) = on-sheet _ _ c.requires.firsts_value.0 _ c.requires.firsts_value.1 in
    let h = placed in (omega arith, omega arith)

pub cells_at-l-requires : goal.cells_at-l-requires
cells_at-l-requires c =
    let placed : OnSheet c.args.z c.args.firsts.now (length c.args.sheet.now) = on-sheet _ _ c.requires.firsts_value.0 _ c.requires.firsts_value.1 in
    let h = placed in (omega arith, omega arith, h.contrast)

pub six_at-beta_h-requires : goal.six_at-beta_h-requires
six_at-beta_h-requires c =
    let placed : OnSheet c.args.z c.args.firsts.now (length c.args.sheet.now) = on-sheet _ _ c.requires.firsts_value.0 _ c.requires.firsts_value.1 in
    let h = placed in (omega arith, omega arith)

pub cells_at-v-requires : goal.cells_at-v-requires
cells_at-v-requires c =
    let placed : OnSheet c.args.z c.args.firsts.now (length c.args.sheet.now) = on-sheet _ _ c.requires.firsts_value.0 _ c.requires.firsts_value.1 in
    let h = placed in (omega arith, omega arith, h.variance)

pub stack_at-js-requires : goal.stack_at-js-requires
stack_at-js-requires c =
    let placed : OnSheet c.args.z c.args.firsts.now (length c.args.sheet.now) = on-sheet _ _ c.requires.firsts_value.0 _ c.requires.firsts_value.1 in
    let h = placed in (omega arith, omega arith, h.jacobians)

pub cells_at-a-requires : goal.cells_at-a-requires
cells_at-a-requires c =
    let placed : OnSheet c.args.z c.args.firsts.now (length c.args.sheet.now) = on-sheet _ _ c.requires.firsts_value.0 _ c.requires.firsts_value.1 in
    let h = placed in (omega arith, omega arith, h.parameters)

pub returns : goal.returns
returns c =
    let a = c.args in
    let p = c.requires in
    test-is a.z a.c a.sheet.now a.firsts.now p.firsts_value.0 _ _ _ _ _ _ _ _ c.given.ensures c.cells_at-l.ensures c.six_at-beta.ensures c.six_at-beta_h.ensures
    c.cells_at-v.ensures c.stack_at-js.ensures c.cells_at-a.ensures c.satterthwaite_contrast_f_test.ensures
