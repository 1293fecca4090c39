-- `records_archive_bytes::put_line` meets its contract: after c turns the first c records stand.
use native.Mathlib.Omega.{arith}
use mathlib.Core.Path.{◌≡◌, refl}
use lib.ListN.{length}
use Rattle.records.specs.format.Kinds.{width}
use Rattle.records_archive_bytes.specs.joints.Parts.{archive_from, cell_bytes, line_bytes}
use Rattle.records_archive_bytes.proofs.StoredLaws.{pieces_none, pieces_more, length-cell}
use Rattle.records_archive_bytes.proofs.put_line.Goals as goal

pub width-columns-requires : goal.width-columns-requires
width-columns-requires c = tt

pub loop-c-init : goal.loop-c-init
loop-c-init c = (omega arith, c.width-columns.ensures, refl, pieces_none _ _ _)

pub put_cell-requires : goal.put_cell-requires
put_cell-requires c = (omega arith, omega arith, omega arith, omega arith)

pub loop-c-preserved : goal.loop-c-preserved
loop-c-preserved c =
    let p = c.put_cell in
    let g = c.args in
    let a = archive_from 0 0 g.phi.now g.phi_a.now g.ps.now g.w.now g.sigma2 in
    let k : length p.new.out ≡ length c.loop-c.out = p.auto.out in (
      omega arith,
      c.loop-c.invariant.1,
      omega arith,
      pieces_more 16 _ _ _ g.at c.loop-c.c _ (cell_bytes a g.z g.kind g.n g.r) (λ i _. length-cell a g.z g.kind g.n g.r i) c.loop-c.invariant.3 (omega arith) p.ensures,
    )

pub returns : goal.returns
unfolding line_bytes
returns c =
    let e : c.loop-c.c ≡ width c.args.z.column = omega arith in
    rw (← e) c.loop-c.invariant.3
