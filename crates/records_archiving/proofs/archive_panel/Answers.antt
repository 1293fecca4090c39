-- `records_archiving::archive_panel` meets its contract.
use native.Mathlib.Omega.{arith}
use mathlib.Core.Path.{refl}
use lib.Ieee.{of_bits}
use Rattle.records.specs.declared.Shape.TheVariants.{Series}
use Rattle.records.proofs.readers.Limits.{slot-count}
use Rattle.records_archiving.proofs.archive_panel.Goals as goal

pub archive_series-requires : goal.archive_series-requires
unfolding of_bits
archive_series-requires c =
    let e = slot-count 24 Series in
    let room = c.requires in
    (record { some = omega arith; most = omega arith; clear = refl; blank = refl; flagged = omega arith; written = omega arith }, omega arith, omega arith, room)
