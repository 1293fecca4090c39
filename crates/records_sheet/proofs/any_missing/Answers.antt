-- `records_sheet::any_missing` meets its contract.
use mathlib.Core.Path.{refl, sym, ◌∙◌}
use native.Mathlib.Omega.{arith}
use Rattle.records.specs.format.Scan.{any}
use Rattle.records.proofs.format.ScanLaws.{any-miss, any-hit}
use Rattle.records_sheet.proofs.any_missing.Goals as goal

pub loop-k-init : goal.loop-k-init
unfolding any
loop-k-init c = refl

pub returns-then-missing_in : goal.returns-then-missing_in
returns-then-missing_in c = sym (any-hit _ _ c.loop-k.k (omega arith) (sym c.missing_in.ensures ∙ c.if-missing_in.true))

pub loop-k-preserved : goal.loop-k-preserved
loop-k-preserved c = any-miss _ _ c.loop-k.invariant (sym c.missing_in.ensures ∙ c.if-missing_in.false)
