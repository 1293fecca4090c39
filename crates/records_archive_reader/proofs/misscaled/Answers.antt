-- `records_archive_reader::misscaled` meets its contract.
use lib.ListN.{length}
use native.Mathlib.Omega.{arith}
use Rattle.records_archive_reader.proofs.ReaderLaws.{variance-fits, phi-fits, phi-a-fits, ps-fit, misscaled-cases, square-below, squares-below}
use Rattle.records_archive_reader.proofs.misscaled.Goals as goal

pub overflow_mul-square : goal.overflow_mul-square
overflow_mul-square c =
    let p = c.requires in
    let h = square-below c.args.z p.0 in
    omega arith

pub overflow_mul-squares : goal.overflow_mul-squares
overflow_mul-squares c =
    let p = c.requires in
    let h = squares-below c.args.z p.0 p.1 in
    omega arith

pub offset_bounds-sheet-firsts : goal.offset_bounds-sheet-firsts
offset_bounds-sheet-firsts c =
    let a = c.args in
    let p = c.requires in
    let h = variance-fits a.z a.firsts.now p.2 (length a.sheet.now) p.3 in
    omega arith

pub bounds-sheet-firsts : goal.bounds-sheet-firsts
bounds-sheet-firsts c =
    let a = c.args in
    let p = c.requires in
    variance-fits a.z a.firsts.now p.2 (length a.sheet.now) p.3

pub any_not_scaled-phi-requires : goal.any_not_scaled-phi-requires
any_not_scaled-phi-requires c =
    let a = c.args in
    let p = c.requires in
    phi-fits a.z a.firsts.now p.2 (length a.sheet.now) p.3

pub any_not_scaled-phi_a-requires : goal.any_not_scaled-phi_a-requires
any_not_scaled-phi_a-requires c =
    let a = c.args in
    let p = c.requires in
    phi-a-fits a.z a.firsts.now p.2 (length a.sheet.now) p.3

pub any_not_scaled-ps-requires : goal.any_not_scaled-ps-requires
any_not_scaled-ps-requires c =
    let a = c.args in
    let p = c.requires in
    ps-fit a.z a.firsts.now p.2 (length a.sheet.now) p.3

pub returns : goal.returns
returns c =
    let a = c.args in
    let p = c.requires in
    rw (misscaled-cases a.z a.firsts.now p.2 a.sheet.now, ← c.any_not_scaled-phi.ensures, ← c.any_not_scaled-phi_a.ensures, ← c.any_not_scaled-ps.ensures)
