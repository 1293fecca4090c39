-- `records_refusals::any_negative` meets its contract.
use Rattle.std.proofs.Common.{rules, tests, refl, arith, ap, ◌∙◌, get_or, take, drop, ◌+◌, ◌-◌}
use Rattle.std.specs.Float.{nan}
use Rattle.std.specs.Float.Ieee.{lt, of_bits}
use lib.Seq.{get_or-take, get_or-drop}
use Rattle.std.proofs.lemmas.List.{places}
use Rattle.arithmetic.specs.Numbers.{plus_zero}
use Rattle.records.proofs.format.RangeScans.{any_in_items}
use Rattle.records_refusals.specs.joints.Checks.{negatives}
use Rattle.records_refusals.proofs.any_negative.Goals as goal

pub returns : goal.returns
unfolding negatives of_bits
returns c =
    let sheet = c.args.sheet.now in
    let at = c.args.at in
    let m = c.args.m in
    any_in_items m (λ j. lt (get_or sheet (at + j) nan) plus_zero) (take (at + m - at) (drop at sheet)) nan (λ x. lt x plus_zero) c.any.ensures.ran (search rules) (search (rules, places))
    (λ i l. ap (λ x. lt x plus_zero) (get_or-take (at + m - at) (drop at sheet) i nan (omega arith) ∙ get_or-drop at sheet i nan)) (λ x b h k. search (rules, tests))
