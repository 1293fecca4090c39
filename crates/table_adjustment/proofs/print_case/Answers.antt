-- `table_adjustment::print_case` meets its contract.
use native.Mathlib.Omega.{arith}
use mathlib.Core.Path.{refl, sym}
use lib.Ieee.{of_bits, binary64}
use lib.ListN.{replicate}
use mathlib.Core.Bool.{false}
use Rattle.records_refusals.specs.joints.Room.{Room}
use Rattle.records.specs.declared.Shape.TheVariants.{Series}
use Rattle.records.proofs.readers.Limits.{slot-count}
use Rattle.records_refusals.proofs.RoomLaws.{series-read}
use Rattle.table_adjustment.proofs.print_case.Goals as goal

pub refusal-requires : goal.refusal-requires
unfolding of_bits
refusal-requires c =
    let e = slot-count 24 Series in
    record { some = omega arith; most = omega arith; clear = refl; blank = refl; flagged = omega arith; written = omega arith }

pub print_adjustment-requires : goal.print_adjustment-requires
unfolding of_bits
print_adjustment-requires c =
    let a = c.args in
    let r = c.in-Ok.ensures in
    let e = slot-count 24 Series in
    let room : Room 24 (replicate 835 false) (replicate 835 (of_bits binary64 0)) =
    record { some = omega arith; most = omega arith; clear = refl; blank = refl; flagged = omega arith; written = omega arith } in
    series-read 24 a.file.now _ _ _ room (sym r.value) r.sheet_after
