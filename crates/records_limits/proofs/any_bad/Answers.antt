-- `records_limits::any_bad` meets its contract.
use Rattle.std.proofs.Common.{rules, tests, not, ◌||◌, eqb}
use Rattle.records.specs.format.Kinds.{value_holds}
use Rattle.records.specs.format.File.{padding_of, bits_of, out_of, bad_record}
use Rattle.records_limits.proofs.any_bad.Goals as goal

pub returns : goal.returns
unfolding bad_record
returns c = let s = c.args.s.now in c.any_fails.ensures (λ k i. out_of k s i || not (eqb (padding_of s i) 0) || not (value_holds k.value (bits_of s i))) (λ k i b h. search (rules, tests))
