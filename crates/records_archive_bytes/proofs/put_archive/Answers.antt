-- `records_archive_bytes::put_archive` meets its contract: after k turns the kinds below k stand.
use native.Mathlib.Omega.{arith}
use mathlib.Core.Path.{◌≡◌, refl, ap, ◌∙◌}
use lib.ListN.{length}
use Rattle.records.specs.declared.Sizes.{Sizes}
use Rattle.records.specs.format.Kinds.{kind_at, kinds_of, archive_kinds}
use Rattle.records.specs.format.Cells.{slots}
use Rattle.records.specs.readers.Archive.{sizes_at}
use Rattle.records_archive_bytes.proofs.FrontLaws.{narrow, kind-room, front-none, front-more, front-all}
use Rattle.records.specs.declared.Shape.TheVariants.{Archived}
use Rattle.records_archive_bytes.proofs.put_archive.Goals as goal

pub sizes_at-z-requires : goal.sizes_at-z-requires
sizes_at-z-requires c = tt

pub loop-k-init : goal.loop-k-init
loop-k-init c = (omega arith, c.sizes_at-z.ensures, refl, front-none _ _ _ _ _ _ _ _)

pub kind_at-requires : goal.kind_at-requires
kind_at-requires c = tt

pub put_kind-at-requires : goal.put_kind-at-requires
put_kind-at-requires c =
    let e : c.kind_at.result ≡ kind_at (archive_kinds (sizes_at c.args.p c.args.n)) c.loop-k.k = c.kind_at.ensures ∙ ap (λ (y : Sizes). kind_at (kinds_of Archived y) c.loop-k.k) c.loop-k.invariant.1 in
    let m = narrow c.args.p c.args.n c.requires.0 c.requires.1 c.loop-k.k in
    let r = kind-room c.args.p c.args.n c.requires.0 c.requires.1 c.loop-k.k (omega arith) in
    let q : slots c.kind_at.result ≡ slots (kind_at (archive_kinds (sizes_at c.args.p c.args.n)) c.loop-k.k) = ap slots e in
    let f = c.loop-k.invariant.3.place in
    (omega arith, rw e m.number, rw e m.row, rw e m.column)

pub loop-k-preserved : goal.loop-k-preserved
loop-k-preserved c =
    let p = c.put_kind-at in
    let g = c.args in
    let e : c.kind_at.result ≡ kind_at (archive_kinds (sizes_at g.p g.n)) c.loop-k.k = c.kind_at.ensures ∙ ap (λ (y : Sizes). kind_at (kinds_of Archived y) c.loop-k.k) c.loop-k.invariant.1 in
    let k : length p.new.out ≡ length c.loop-k.out = p.auto.out in (
      omega arith,
      c.loop-k.invariant.1,
      omega arith,
      front-more g.p g.n g.phi.now g.phi_a.now g.ps.now g.w.now g.sigma2 g.out.now c.loop-k.out p.new.out c.loop-k.k c.loop-k.at p.result c.kind_at.result c.loop-k.invariant.3 e p.ensures.0 p.ensures.1,
    )

pub returns : goal.returns
returns c =
    let g = c.args in
    let both = front-all g.p g.n g.phi.now g.phi_a.now g.ps.now g.w.now g.sigma2 g.out.now c.loop-k.out c.loop-k.k c.loop-k.at (omega arith) c.loop-k.invariant.3 in
    record { value = both.0; out_after = both.1 }
