use Rattle.std.proofs.Common.{ℕ, ◌≡◌, Bool, false}
use Rattle.records.specs.declared.Kind.{Kind}
use Rattle.records.specs.format.Scan.{any}
use Rattle.records.specs.format.File.{kind_of}
use Rattle.records.specs.format.Kinds.{kind_at, kinds_of}
use Rattle.records_limits.proofs.any_fails.Given as goal

abbrev pub invariant-loop-i : goal.invariant-loop-i
invariant-loop-i g l =
    (l.k ≡ kind_at (kinds_of l.file l.z) l.last)
    × ((test : Kind → ℕ → Bool) → ((k : Kind) (i : ℕ) (b : Bool) → goal.F-post g l.fails k i b → b ≡ test k i) → any l.i (λ i. test (kind_at (kinds_of l.file l.z) (kind_of l.s i)) i) ≡ false)
