-- `adjustment_adjusted::inverted_of` meets its contract.
use Rattle.algebra_jacobi.specs.joints.States.{state_of}
use Rattle.adjustment_adjusted.proofs.PartLaws.{inverted-of-is, made-is}
use borrow.Author.Rules.{rules}
use Rattle.adjustment_adjusted.proofs.inverted_of.Goals as goal

pub returns : goal.returns
returns c =
    let j = c.jacobi-rotated in
    let k = c.args.c in
    record { value = inverted-of-is k _ _ (state_of j.result) j.ensures.0 _ c.inverted.ensures; made_after = made-is k _ _ (state_of j.result) j.ensures.0 }
