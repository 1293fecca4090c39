-- `arithmetic::root::root_bits` meets its contract.
use native.Mathlib.Omega.{arith}
use mathlib.Core.Path.{◌∙◌}
use Prim.Native.Nat.{◌^◌, ◌%◌}
use Rattle.arithmetic.proofs.RootPatterns.{low_bits, low-full, high_bits}
use Rattle.arithmetic.proofs.root.root_bits.Goals as goal

pub overflow_sub-s : goal.overflow_sub-s
overflow_sub-s c = (low-full (c.args.b % 2 ^ 52) c.missing-s.result (omega arith) (omega arith) c.missing-s.ensures).1

pub rooted-requires : goal.rooted-requires
rooted-requires c =
    let f = low-full (c.args.b % 2 ^ 52) c.missing-s.result (omega arith) (omega arith) c.missing-s.ensures in
    (f.0.0, f.0.1, omega arith)

pub returns-then-field-eq0 : goal.returns-then-field-eq0
returns-then-field-eq0 c = c.rooted.ensures ∙ low_bits c.args.b c.missing-s.result (omega arith) (omega arith) c.missing-s.ensures

pub returns-else-field-eq0 : goal.returns-else-field-eq0
returns-else-field-eq0 c = c.rooted-else-field-eq0.ensures ∙ high_bits c.args.b (λ e. omega arith)
