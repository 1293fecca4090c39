-- `records_limits::any_beyond` meets its contract.
use Rattle.std.proofs.Common.{rules, tests}
use Rattle.records.specs.format.File.{out_of, beyond}
use Rattle.records_limits.proofs.any_beyond.Goals as goal

pub returns : goal.returns
unfolding beyond
returns c = c.any_fails.ensures (λ k i. out_of k c.args.s.now i) (λ k i b h. search (rules, tests))
