-- `adjustment_stacks::q_row` meets its contract.
use Rattle.adjustment_stacks.proofs.InformationLaws.{turned-put, q-row-is}
use Rattle.adjustment_work.proofs.WorkLaws.{square-held, part_held, turned-held, turned_apart}
use native.Mathlib.Omega.{arith}
use Prim.Native.Nat.{◌+◌}
use borrow.Author.Rules.{rules}
use Rattle.adjustment_stacks.proofs.q_row.Goals as goal

pub fill_turned-requires : goal.fill_turned-requires
fill_turned-requires c =
    let g = c.requires in
    let e = c.part_at-e.ensures.0 in
    let o = c.part_at-o.ensures.0 in (
      turned-held _ _ _ _ _ g.0.high g.0.few g.0.parts e,
      part_held _ _ _ (1 + c.args.r) _ _ g.0.high g.0.few g.0.parts (omega arith) o,
      turned_apart _ _ _ (1 + c.args.r) _ _ g.0.high g.0.few (omega arith) e o,
      square-held _ _ 1 _ _ g.0.high g.0.squares (omega arith) c.square_at-q.ensures.0,
    )

pub returns : goal.returns
returns c =
    let g = c.requires in
    let q = c.square_at-q.ensures.0 in
    let e = c.part_at-e.ensures.0 in
    let o = c.part_at-o.ensures.0 in record { value = q-row-is _ _ _ _ _ _ _ _ _ c.args.narrow.now _ g.0.high g.0.few g.0.parts q e o c.fill_turned.ensures _ _ g.1 c.q_products.ensures; narrow_after = turned-put _ _ _ c.args.k _ _ _ _ _ c.args.narrow.now _ g.0.high g.0.few g.0.parts q e o c.fill_turned.ensures }
