-- `records_kenward_roger::judge_panel` meets its contract.
use mathlib.Core.Path.{refl}
use native.Mathlib.Omega.{arith}
use lib.Ieee.{of_bits}
use Rattle.records.specs.declared.Shape.TheVariants.{Series}
use Rattle.records.proofs.readers.Limits.{slot-count}
use Rattle.records_kenward_roger.proofs.judge_panel.Goals as goal

pub judge-requires : goal.judge-requires
unfolding of_bits
judge-requires c =
    let e = slot-count 24 Series in
    (record { some = omega arith; most = omega arith; clear = refl; blank = refl; flagged = omega arith; written = omega arith }, omega arith, omega arith)
