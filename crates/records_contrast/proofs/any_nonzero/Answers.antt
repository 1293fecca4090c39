-- `records_contrast::any_nonzero` meets its contract.
use Rattle.std.proofs.Common.{rules, tests, refl, arith, ap, ◌∙◌, not, get_or, take, drop, ◌+◌, ◌-◌}
use Rattle.std.specs.Float.{nan}
use lib.Seq.{get_or-take, get_or-drop}
use Rattle.std.proofs.lemmas.List.{places}
use Rattle.arithmetic.specs.Numbers.{is_zero}
use Rattle.records.proofs.format.RangeScans.{any_in_items}
use Rattle.records_contrast.specs.joints.Contrast.{nonzeros}
use Rattle.records_contrast.proofs.any_nonzero.Goals as goal

pub returns : goal.returns
unfolding nonzeros
returns c =
    let sheet = c.args.sheet.now in
    let at = c.args.at in
    let m = c.args.m in
    any_in_items m (λ j. not (is_zero (get_or sheet (at + j) nan))) (take (at + m - at) (drop at sheet)) nan (λ x. not (is_zero x)) c.any.ensures.ran (search rules) (search (rules, places))
    (λ i l. ap (λ x. not (is_zero x)) (get_or-take (at + m - at) (drop at sheet) i nan (omega arith) ∙ get_or-drop at sheet i nan)) (λ x b h k. search (rules, tests))
