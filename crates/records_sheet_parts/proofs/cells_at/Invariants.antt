use Prim.Native.Nat.{◌+◌, ◌*◌, ◌≤◌, ◌<◌}
use mathlib.Core.Path.{◌≡◌}
use lib.ListN.{length, get_or}
use lib.Ieee.{nan}
use Rattle.arithmetic.specs.Numbers.{plus_zero}
use Rattle.algebra.specs.Table.{table}
use Rattle.algebra.proofs.TableLaws.{Filling}
use Rattle.records_sheet_parts.proofs.cells_at.Given as goal

abbrev pub invariant-loop-j : goal.invariant-loop-j
invariant-loop-j l = (l.i < l.r) × (l.j ≤ l.c) × (l.r ≤ 6) × (l.c ≤ 6) × (l.at + l.r * l.c ≤ length l.sheet) × (l.at + l.i * l.c + l.c ≤ length l.sheet) × Filling plus_zero 6 6 (λ i j. get_or l.sheet (l.at + i * l.c + j) nan) l.c l.i l.j l.initial.out l.out

abbrev pub invariant-loop-i : goal.invariant-loop-i
invariant-loop-i l = (l.i ≤ l.r) × (l.r ≤ 6) × (l.c ≤ 6) × (l.at + l.r * l.c ≤ length l.sheet) × (l.out ≡ table plus_zero 6 6 l.i l.c (λ i j. get_or l.sheet (l.at + i * l.c + j) nan))
