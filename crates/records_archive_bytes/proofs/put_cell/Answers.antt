-- `records_archive_bytes::put_cell` meets its contract.
use Prim.Native.Nat.{◌<◌}
use native.Mathlib.Omega.{arith}
use Rattle.records_archive_bytes.specs.joints.Parts.{archive_from}
use Rattle.records_archive_bytes.proofs.StoredLaws.{index-small, cell-stored}
use Rattle.records_archive_bytes.proofs.put_cell.Goals as goal

pub put_record-requires : goal.put_record-requires
put_record-requires c =
    let row : c.index_of.result < 256 = rw c.index_of.ensures (index-small _ c.args.r 256 (omega arith)) in
    let column : c.index_of-2.result < 256 = rw c.index_of-2.ensures (index-small _ c.args.c 256 (omega arith)) in
    let count : c.index_of-3.result < 256 = rw c.index_of-3.ensures (index-small _ c.args.n 256 (omega arith)) in
    (c.requires.0, row, column, count)

pub returns : goal.returns
returns c =
    let g = c.args in
    cell-stored _ _ (archive_from 0 0 g.phi.now g.phi_a.now g.ps.now g.w.now g.sigma2) g.z g.at g.kind g.n g.r g.c _ _ _ _ _ c.index_of.ensures c.index_of-2.ensures c.index_of-3.ensures c.archived-x.ensures c.to_bits.ensures c.put_record.ensures
