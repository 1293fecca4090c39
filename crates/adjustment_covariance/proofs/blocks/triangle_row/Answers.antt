-- `adjustment_covariance::blocks::triangle_row` meets its contract.
use Rattle.adjustment_covariance.proofs.BlockLaws.{in-triangle}
use Prim.Native.Nat.{◌+◌, ◌-◌, ◌<◌}
use native.Mathlib.Omega.{arith}
use borrow.Author.Rules.{rules}
use Rattle.adjustment_covariance.proofs.blocks.triangle_row.Goals as goal

pub index_symmat2vec-diagonal-requires : goal.index_symmat2vec-diagonal-requires
index_symmat2vec-diagonal-requires c = let i = in-triangle _ _ c.requires.1 in let e = c.requires.2 in (omega (arith, c.requires.0), omega (arith, i.column, e), omega (arith, i.column, e))

pub overflow_sub-result : goal.overflow_sub-result
overflow_sub-result c = rw (c.index_symmat2vec-diagonal.ensures.0, c.requires.2) (in-triangle _ _ c.requires.1).diagonal

pub overflow_add-result : goal.overflow_add-result
overflow_add-result c =
    let r : c.args.c + (c.args.q - c.index_symmat2vec-diagonal.result) < c.args.k =
    rw (c.index_symmat2vec-diagonal.ensures.0, c.requires.2) (in-triangle _ _ c.requires.1).row in
    omega (arith, c.requires.0, r)

pub returns : goal.returns
returns c = rw (c.index_symmat2vec-diagonal.ensures.0, c.requires.2)
