-- A season with two converters, computed: two series with a change at the second, its bytes before and after.
use Prim.Native.Nat.{ℕ}
use mathlib.Core.Path.{◌≡◌, refl}
use mathlib.Core.Bool.{cond}
use mathlib.Core.List.{List, [], ◌∷◌}
use lib.Dec.{eqb}
use lib.IntN.{ℤ, pos, negsuc}
use lib.Ieee.{mul, of_bits, to_bits}
use Rattle.algebra.specs.Fold.{fold}
use Rattle.algebra.specs.Table.{row}
use Rattle.records.specs.format.Bytes.{word, long, bytes_of}
use Rattle.records.specs.format.Scan.{any}
use Rattle.records.specs.text.Season.{closes, series_to}
use Rattle.records.specs.promises.Bench.{pull_bytes, pull_file}
use Rattle.records.specs.promises.SeasonPrints.{season_bytes}
use Rattle.converter.specs.Converted.{Change, kenward_roger_shift, rewritten, new_bits, new_byte}
use Rattle.converter.specs.SeasonDemand.{converted_season, season_change}

-- document 01's `pulltest` series with β 3 in the place of 6; and what k = 5 and m = -3 make of it: sigma2 8 becomes 8192, β 3 becomes 96, contrast 1 becomes 1/8
abbrev pub later_file : List ℕ
later_file = pull_bytes 0x4020000000000000 0x4008000000000000 0x3ff0000000000000

abbrev pub later_shifted : List ℕ
later_shifted = pull_bytes 0x40c0000000000000 0x4058000000000000 0x3fc0000000000000

-- the `pulltest` series, then another, each with the record that closes it
abbrev pub season_of_two : List ℕ → List ℕ
season_of_two second = season_bytes (pull_file ∷ second ∷ []) []

-- the converter is changed after the first series: nothing for that one, k = 5 and m = -3 from the second on
abbrev pub later_power : ℕ → ℤ
later_power j = cond (eqb j 0) (pos 0) (pos 5)

abbrev pub later_rows : ℕ → ℕ → ℤ
later_rows j r = cond (eqb j 0) (pos 0) (negsuc 2)

abbrev pub after_first : ℕ → Change
after_first = season_change later_power later_rows

-- the first series has its bytes, and the second those that its own change makes
pub season-computed : converted_season after_first (season_of_two later_file) ≡ season_of_two later_shifted
unfolding converted_season season_bytes series_to closes any new_byte new_bits rewritten kenward_roger_shift row fold word long bytes_of mul of_bits to_bits
season-computed = refl
