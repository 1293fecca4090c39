-- `records_archive_reader::any_not_scaled` meets its contract. The invariant: each of the first j numbers is its residual one, scaled.
use Prim.Native.Nat.{◌+◌}
use mathlib.Core.Path.{◌≡◌, refl, sym, ap, ◌∙◌}
use lib.ListN.{get_or}
use lib.Ieee.{Float, nan}
use native.Mathlib.Omega.{arith}
use Rattle.records.specs.format.Scan.{any}
use Rattle.records.proofs.format.ScanLaws.{any-miss, any-hit}
use Rattle.records_archive_reader.specs.joints.Checks.{differs, not_scaled}
use Rattle.records_archive_reader.proofs.any_not_scaled.Goals as goal

pub loop-j-init : goal.loop-j-init
unfolding not_scaled any
loop-j-init c = (omega arith, c.requires.0, c.requires.1, refl)

pub in_units-x-requires : goal.in_units-x-requires
in_units-x-requires c = tt

pub differs-requires : goal.differs-requires
differs-requires c = tt

pub returns-then-differs : goal.returns-then-differs
unfolding not_scaled
returns-then-differs c =
    let g = c.args in
    let j = c.loop-j.j in
    let e = c.differs.ensures ∙ ap (λ (y : Float). differs (get_or g.sheet.now (g.scaled + j) nan) y) c.in_units-x.ensures in
    sym (any-hit _ _ j (omega arith) (sym e ∙ c.if-differs.true))

pub loop-j-preserved : goal.loop-j-preserved
unfolding not_scaled
loop-j-preserved c =
    let g = c.args in
    let j = c.loop-j.j in
    let e = c.differs.ensures ∙ ap (λ (y : Float). differs (get_or g.sheet.now (g.scaled + j) nan) y) c.in_units-x.ensures in
    (omega arith, omega arith, omega arith, any-miss _ _ c.loop-j.invariant.3 (sym e ∙ c.if-differs.false))

pub returns : goal.returns
returns c = let e : c.loop-j.j ≡ c.args.m = omega arith in sym (rw (← e) c.loop-j.invariant.3)
