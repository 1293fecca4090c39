use Rattle.arithmetic.proofs.RootLoop.{Rooting}
use Rattle.arithmetic.proofs.root.digit_root.Given as goal

abbrev pub invariant-loop-i : goal.invariant-loop-i
invariant-loop-i l = Rooting l.a l.i l.r l.rem l.rest
