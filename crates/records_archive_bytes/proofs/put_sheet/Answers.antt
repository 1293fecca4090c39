-- `records_archive_bytes::put_sheet` meets its contract: after r turns the first r rows stand.
use Prim.Native.Nat.{ℕ, ◌+◌, ◌*◌}
use native.Mathlib.Omega.{arith}
use mathlib.Core.Path.{◌≡◌, refl, ap}
use lib.ListN.{length}
use Rattle.records.specs.format.Kinds.{width}
use Rattle.records_archive_bytes.specs.joints.Parts.{archive_from, line_bytes, sheet_bytes}
use Rattle.records_archive_bytes.proofs.StoredLaws.{pieces_none, pieces_more, piece-ends-as, length-line}
use Rattle.records_archive_bytes.proofs.put_sheet.Goals as goal

pub width-rows-requires : goal.width-rows-requires
width-rows-requires c = tt

pub width-line-requires : goal.width-line-requires
width-line-requires c = tt

pub loop-r-init : goal.loop-r-init
loop-r-init c = (omega arith, c.width-rows.ensures, omega arith, refl, pieces_none _ _ _)

pub overflow_mul-r : goal.overflow_mul-r
overflow_mul-r c =
    let a = c.args in
    let k = piece-ends-as a.at c.loop-r.r (width a.z.row) (16 * width a.z.column) (length a.out.now) _ _ c.loop-r.invariant.1 c.loop-r.invariant.2 (omega arith) c.requires.0 in
    omega arith

pub overflow_add-at : goal.overflow_add-at
overflow_add-at c =
    let a = c.args in
    let k = piece-ends-as a.at c.loop-r.r (width a.z.row) (16 * width a.z.column) (length a.out.now) _ _ c.loop-r.invariant.1 c.loop-r.invariant.2 (omega arith) c.requires.0 in
    omega arith

pub put_line-requires : goal.put_line-requires
put_line-requires c =
    let a = c.args in
    let k = piece-ends-as a.at c.loop-r.r (width a.z.row) (16 * width a.z.column) (length a.out.now) _ _ c.loop-r.invariant.1 c.loop-r.invariant.2 (omega arith) c.requires.0 in
    (omega arith, omega arith, omega arith, omega arith)

pub loop-r-preserved : goal.loop-r-preserved
loop-r-preserved c =
    let p = c.put_line in
    let g = c.args in
    let a = archive_from 0 0 g.phi.now g.phi_a.now g.ps.now g.w.now g.sigma2 in
    let k : length p.new.out ≡ length c.loop-r.out = p.auto.out in (
      omega arith,
      c.loop-r.invariant.1,
      c.loop-r.invariant.2,
      omega arith,
      pieces_more (16 * width g.z.column) _ _ _ g.at c.loop-r.r _ (line_bytes a g.z g.kind g.n) (λ i _. length-line a g.z g.kind g.n i) c.loop-r.invariant.4 (ap (λ (v : ℕ). g.at + c.loop-r.r * v) c.loop-r.invariant.2) p.ensures,
    )

pub returns : goal.returns
unfolding sheet_bytes
returns c =
    let e : c.loop-r.r ≡ width c.args.z.row = omega arith in
    rw (← e) c.loop-r.invariant.4
