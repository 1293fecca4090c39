-- `adjustment_covariance::blocks::place_of` meets its contract.
use Rattle.adjustment_covariance.proofs.BlockLaws.{sound-less, block-holds, own-place, made-is, made-placed}
use native.Mathlib.Omega.{arith}
use borrow.Author.Rules.{rules}
use Rattle.adjustment_covariance.proofs.blocks.place_of.Goals as goal

pub places_before-first-requires : goal.places_before-first-requires
places_before-first-requires c = sound-less _ c.requires.0 (omega (arith, (block-holds _ _ _ _ c.requires.1 c.block_of-b.ensures).before))

pub columns_before-start-requires : goal.columns_before-start-requires
columns_before-start-requires c = sound-less _ c.requires.0 (omega (arith, (block-holds _ _ _ _ c.requires.1 c.block_of-b.ensures).before))

pub offset_bounds-blocks-b : goal.offset_bounds-blocks-b
offset_bounds-blocks-b c = omega (arith, c.requires.0.few, (block-holds _ _ _ _ c.requires.1 c.block_of-b.ensures).before)

pub bounds-blocks-b : goal.bounds-blocks-b
bounds-blocks-b c = omega (arith, c.requires.0.few, (block-holds _ _ _ _ c.requires.1 c.block_of-b.ensures).before)

pub overflow_sub-r : goal.overflow_sub-r
overflow_sub-r c = omega (arith, c.places_before-first.ensures, (block-holds _ _ _ _ c.requires.1 c.block_of-b.ensures).first)

pub triangle_column-column-requires : goal.triangle_column-column-requires
triangle_column-column-requires c =
    let h = block-holds _ _ _ _ c.requires.1 c.block_of-b.ensures in
    let m = c.requires.0.small _ h.before in
    omega (arith, m)

pub overflow_sub-r-2 : goal.overflow_sub-r-2
overflow_sub-r-2 c = omega (arith, c.places_before-first.ensures, (block-holds _ _ _ _ c.requires.1 c.block_of-b.ensures).first)

pub triangle_row-requires : goal.triangle_row-requires
triangle_row-requires c =
    let g = c.requires in
    let b = c.block_of-b.ensures in
    let m = g.0.small _ (block-holds _ _ _ _ g.1 b).before in
    (omega (arith, m), own-place _ _ _ _ _ g.1 b c.places_before-first.ensures, c.triangle_column-column.ensures)

pub returns : goal.returns
returns c = (
  made-is _ _ _ _ _ _ _ _ c.block_of-b.ensures c.places_before-first.ensures c.columns_before-start.ensures c.triangle_row.ensures c.triangle_column-column.ensures,
  made-placed _ _ _ _ _ _ _ _ c.block_of-b.ensures c.places_before-first.ensures c.columns_before-start.ensures c.triangle_row.ensures c.triangle_column-column.ensures c.requires.0 c.requires.1,
)
