use Rattle.std.proofs.Common.{◌≡◌, ◌≤◌}
use Rattle.records.specs.format.Scan.{last}
use Rattle.records.specs.format.File.{column_of, count_of, is_cell}
use Rattle.records.specs.readers.Series.{kinds}
use Rattle.records_series.proofs.block_of.Given as goal

abbrev pub invariant-loop-i : goal.invariant-loop-i
invariant-loop-i l =
    (l.block.effects ≡ last l.i (is_cell (kinds l.s) l.s 3 0 l.b 0) (column_of l.s) 0) × (l.block.effects ≤ 255) × (l.block.groups ≡ last l.i (is_cell (kinds l.s) l.s 3 0 l.b 0) (count_of l.s) 0) × (l.block.groups ≤ 4294967295)
