-- `records_archive_reader::numbers_refusal` meets its contract.
use mathlib.Core.Path.{sym}
use lib.ListN.{length}
use lib.Ieee.{of_bits}
use native.Mathlib.Omega.{arith}
use Rattle.records_archive_reader.proofs.ReaderLaws.{variance-fits, number-cases}
use Rattle.records_archive_reader.proofs.numbers_refusal.Goals as goal

pub offset_bounds-sheet-firsts : goal.offset_bounds-sheet-firsts
offset_bounds-sheet-firsts c =
    let a = c.args in
    let p = c.requires in
    let h = variance-fits a.z a.firsts.now p.2 (length a.sheet.now) p.3 in
    omega arith

pub bounds-sheet-firsts : goal.bounds-sheet-firsts
bounds-sheet-firsts c =
    let a = c.args in
    let p = c.requires in
    variance-fits a.z a.firsts.now p.2 (length a.sheet.now) p.3

pub returns-then-sheet-firsts : goal.returns-then-sheet-firsts
unfolding of_bits
returns-then-sheet-firsts c =
    let a = c.args in
    let p = c.requires in
    sym (rw (number-cases a.z a.firsts.now p.2 a.sheet.now, c.if-sheet-firsts.true))

pub returns-then-misscaled : goal.returns-then-misscaled
unfolding of_bits
returns-then-misscaled c =
    let a = c.args in
    let p = c.requires in
    sym (rw (number-cases a.z a.firsts.now p.2 a.sheet.now, c.if-sheet-firsts.false, ← c.misscaled.ensures, c.if-misscaled.true))

pub returns : goal.returns
unfolding of_bits
returns c =
    let a = c.args in
    let p = c.requires in
    sym (rw (number-cases a.z a.firsts.now p.2 a.sheet.now, c.if-sheet-firsts.false, ← c.misscaled.ensures, c.if-misscaled.false))
