-- `records_kenward_roger::judge` meets its contract.
use mathlib.Core.Path.{ap, ◌∙◌}
use Rattle.records.specs.format.RefusalNumbers.{refusal_number}
use Rattle.records.proofs.format.RefusalNumbers.{no-zero}
use Rattle.records_kenward_roger.proofs.Numbers.{early-number, judged-refused}
use Rattle.records_kenward_roger.proofs.judge.Goals as goal

pub returns-in_err-refusal : goal.returns-in_err-refusal
returns-in_err-refusal c =
    let a = c.args in
    judged-refused a.limit a.c a.s.now _ _ c.from_residual.ensures.1 (λ e q. early-number a.limit a.c a.s.now _ (ap refusal_number q ∙ c.in_err-refusal.ensures.value) (no-zero e))
