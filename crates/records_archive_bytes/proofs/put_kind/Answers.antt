-- `records_archive_bytes::put_kind` meets its contract: after n turns the first n matrices stand.
use Prim.Native.Nat.{ℕ, ◌+◌, ◌*◌}
use native.Mathlib.Omega.{arith}
use mathlib.Core.Path.{◌≡◌, refl, ap}
use lib.ListN.{length}
use Rattle.records.specs.format.Kinds.{width}
use Rattle.records_archive_bytes.specs.joints.Parts.{archive_from, sheet_bytes, matrices_bytes}
use Rattle.records_archive_bytes.proofs.StoredLaws.{pieces_none, pieces_more, length-sheet, kind-place, kind-ends, few-cells}
use Rattle.records_archive_bytes.proofs.put_kind.Goals as goal

pub width-counts-requires : goal.width-counts-requires
width-counts-requires c = tt

pub width-requires : goal.width-requires
width-requires c = tt

pub width-requires-2 : goal.width-requires-2
width-requires-2 c = tt

pub overflow_mul-sheet-2 : goal.overflow_mul-sheet-2
overflow_mul-sheet-2 c =
    let a = few-cells c.width.result c.width-2.result (omega arith) (omega arith) in
    omega arith

pub loop-n-init : goal.loop-n-init
loop-n-init c = (omega arith, c.width-counts.ensures, rw (c.width.ensures, c.width-2.ensures), refl, pieces_none _ _ _)

pub overflow_mul-n : goal.overflow_mul-n
overflow_mul-n c =
    let a = c.args in
    let k = kind-ends a.z a.at c.loop-n.n _ _ (length a.out.now) c.loop-n.invariant.1 c.loop-n.invariant.2 (omega arith) c.requires.0 in
    omega arith

pub overflow_add-at : goal.overflow_add-at
overflow_add-at c =
    let a = c.args in
    let k = kind-ends a.z a.at c.loop-n.n _ _ (length a.out.now) c.loop-n.invariant.1 c.loop-n.invariant.2 (omega arith) c.requires.0 in
    omega arith

pub put_sheet-requires : goal.put_sheet-requires
put_sheet-requires c =
    let a = c.args in
    let k = kind-ends a.z a.at c.loop-n.n _ _ (length a.out.now) c.loop-n.invariant.1 c.loop-n.invariant.2 (omega arith) c.requires.0 in
    (omega (arith, c.loop-n.invariant.2), omega arith, omega arith, omega arith)

pub loop-n-preserved : goal.loop-n-preserved
loop-n-preserved c =
    let p = c.put_sheet in
    let g = c.args in
    let a = archive_from 0 0 g.phi.now g.phi_a.now g.ps.now g.w.now g.sigma2 in
    let k : length p.new.out ≡ length c.loop-n.out = p.auto.out in (
      omega arith,
      c.loop-n.invariant.1,
      c.loop-n.invariant.2,
      omega arith,
      pieces_more (width g.z.row * (16 * width g.z.column)) _ _ _ g.at c.loop-n.n _ (sheet_bytes a g.z g.kind) (λ i _. length-sheet a g.z g.kind i) c.loop-n.invariant.4 (ap (λ (v : ℕ). g.at + c.loop-n.n * v) c.loop-n.invariant.2) p.ensures,
    )

pub overflow_mul-result : goal.overflow_mul-result
overflow_mul-result c =
    let q = kind-place c.args.z _ _ c.loop-n.invariant.1 c.loop-n.invariant.2 in
    omega arith

pub overflow_add-result : goal.overflow_add-result
overflow_add-result c =
    let q = kind-place c.args.z _ _ c.loop-n.invariant.1 c.loop-n.invariant.2 in
    omega arith

pub returns : goal.returns
unfolding matrices_bytes
returns c =
    let q = kind-place c.args.z _ _ c.loop-n.invariant.1 c.loop-n.invariant.2 in
    let e : c.loop-n.n ≡ width c.args.z.count = omega arith in
    (ap (λ (v : ℕ). c.args.at + v) q, rw (← e) c.loop-n.invariant.4)
