-- `arithmetic::root::digit_root` meets its contract. The invariant and its steps are `Rooting`'s.
use native.Mathlib.Omega.{arith}
use Rattle.arithmetic.proofs.RootLoop.{start, taken, passed, ended, same}
use Rattle.arithmetic.proofs.root.digit_root.Goals as goal
use Rattle.arithmetic.proofs.root.digit_root.Goals.{then-t-rem, else-t-rem}

pub loop-i-init : goal.loop-i-init
loop-i-init c = start c.args.a (omega arith)

pub loop-i-preserved : goal.loop-i-preserved
loop-i-preserved c =
    let l = c.loop-i in
    let a = c.args.a in
    elim c.if-t-rem.branch [
      | then-t-rem w ↦ same (taken a l.i l.r l.rem l.rest l.invariant (omega arith) w.if-t-rem.true) w.r-is w.rem-is
      | else-t-rem w ↦ same (passed a l.i l.r l.rem l.rest l.invariant (omega arith) w.if-t-rem.false) w.r-is w.rem-is
    ]

pub returns : goal.returns
returns c = ended _ _ _ _ _ (omega arith) c.loop-i.invariant (omega arith)
