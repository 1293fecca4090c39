use Rattle.std.proofs.Common.{ℕ, ◌≡◌}
use Rattle.records.specs.format.File.{kind_of}
use Rattle.records_sizes.proofs.SizeLaws.{tops}
use Rattle.records_sizes.proofs.tops_of.Given as goal

abbrev pub invariant-loop-i : goal.invariant-loop-i
invariant-loop-i g l = (f : ℕ → ℕ) → ((i x : ℕ) → goal.F-post g l.field i x → x ≡ f i) → l.tops ≡ tops (kind_of l.s) f l.i
