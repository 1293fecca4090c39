-- `records_order::falls` meets its contract.
use mathlib.Core.Path.{◌≡◌, refl, sym, ◌∙◌}
use native.Mathlib.Omega.{arith}
use Rattle.records.specs.format.Scan.{any}
use Rattle.records.specs.format.File.{count}
use Rattle.records.proofs.format.ScanLaws.{any-miss, any-hit}
use Rattle.records_order.specs.joints.Keys.{least_key, falls_at}
use Rattle.records_order.proofs.KeyLaws.{fall-here, rise-here, next-least, falls-each}
use Rattle.records_order.proofs.falls.Goals as goal

pub loop-i-init : goal.loop-i-init
unfolding any least_key
loop-i-init c = (refl, refl)

pub returns-then-key-least : goal.returns-then-key-least
returns-then-key-least c =
    let s = c.args.s.now in
    let i = c.loop-i.i in
    let e = fall-here s i c.key_at-key.result c.loop-i.least c.key_at-key.ensures.0 c.loop-i.invariant.0 (omega arith) in
    sym (falls-each s (λ j. omega (arith, c.type_inv.s j)) ∙ any-hit (count s) (falls_at s) i (omega arith) e)

pub loop-i-preserved : goal.loop-i-preserved
loop-i-preserved c =
    let s = c.args.s.now in
    let i = c.loop-i.i in
    let key = c.key_at-key.result in
    let e = rise-here s i key c.loop-i.least c.key_at-key.ensures.0 c.loop-i.invariant.0 (omega arith) in
    (next-least s i key c.key_at-key.ensures.0, any-miss i (falls_at s) c.loop-i.invariant.1 e)

pub returns : goal.returns
returns c =
    let s = c.args.s.now in
    let e : c.loop-i.i ≡ count s = omega arith in
    sym (falls-each s (λ j. omega (arith, c.type_inv.s j)) ∙ (rw (← e) c.loop-i.invariant.1))
