-- `adjustment::packing::index_symmat2vec` meets its contract.
use mathlib.Core.Path.{◌∙◌}
use Rattle.adjustment.proofs.PackedLaws.{picked}
use borrow.Author.Rules.{rules}
use native.Mathlib.Omega.{arith}
use Rattle.adjustment.proofs.packing.index_symmat2vec.Goals as goal

pub overflow_sub-r : goal.overflow_sub-r
overflow_sub-r c = omega (arith, (picked _ _ _ _ c.requires.1 c.requires.2 c.smaller_index-a.ensures).least)

pub ordered_place-requires : goal.ordered_place-requires
ordered_place-requires c =
    let h = picked _ _ _ _ c.requires.1 c.requires.2 c.smaller_index-a.ensures in
    (c.requires.0, h.ordered, h.inside)

pub returns : goal.returns
returns c =
    let h = picked _ _ _ _ c.requires.1 c.requires.2 c.smaller_index-a.ensures in
    (c.ordered_place.ensures.0 ∙ h.same_place, c.ordered_place.ensures.1, c.ordered_place.ensures.2)
