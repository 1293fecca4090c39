-- `records_pieces::keep_record` meets its contract.
use Prim.Native.Nat.{◌+◌, ◌-◌, ◌*◌, ◌≤◌}
use mathlib.Core.Path.{◌≡◌, refl}
use native.Mathlib.Omega.{arith}
use lib.ListN.{length, set, length-set}
use Rattle.algebra.specs.Fold.{span}
use Rattle.algebra.proofs.FoldLaws.{fold_start, fold_next}
use Rattle.records.specs.format.Bytes.{byte}
use Rattle.records_pieces.proofs.keep_record.Goals as goal

pub loop-o-init : goal.loop-o-init
loop-o-init c =
    let n = c.args.n in
    let e : 16 * n ≡ 16 * n + 0 = omega arith in
    (refl, omega arith, refl, rw (← e) (fold_start (16 * n) (λ k ys. set ys k (byte c.args.current.now (k - 16 * n))) c.args.kept.now))

pub loop-o-preserved : goal.loop-o-preserved
loop-o-preserved c =
    let v = c.loop-o.invariant in
    let n = c.args.n in
    let o = c.loop-o.o in
    let e : 16 * n + (o + 1) ≡ 16 * n + o + 1 = omega arith in
    let f : 16 * n + o - 16 * n ≡ o = omega arith in
    (refl, omega arith, rw length-set v.2, rw e (fold_next (16 * n) (16 * n + o) _ _ _ _ (omega arith) v.3 (rw f)))

pub shape_of-kept : goal.shape_of-kept
shape_of-kept c = c.loop-o.invariant.2

pub returns : goal.returns
returns c =
    let v = c.loop-o.invariant in
    let e : c.loop-o.o ≡ 16 = omega arith in
    rw e at v.3
