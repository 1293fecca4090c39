-- `arithmetic::root::sqrt` meets its contract.
use mathlib.Core.Path.{ap, subst, sym, ◌∙◌}
use mathlib.Core.Bool.{not}
use Prim.Native.Nat.{ℕ}
use lib.Dec.{T}
use lib.Ieee.{of_bits, div, binary64, nan_bits}
use Rattle.arithmetic.proofs.RootPatterns.{no_nan, bits-lt}
use Rattle.arithmetic.proofs.PlainLaws.{is_number}
use Rattle.arithmetic.proofs.RootCases.{root-nan, root-zero, root-negative, bits_pos, root-pattern, root-infinite}
use Rattle.arithmetic.proofs.root.sqrt.Goals as goal

pub returns-then-x : goal.returns-then-x
returns-then-x c = root-nan _ c.if-x.true

pub returns-then-x-2 : goal.returns-then-x-2
unfolding of_bits
returns-then-x-2 c = root-zero _ c.if-x-2.true

pub returns-then-x-3 : goal.returns-then-x-3
unfolding of_bits div
returns-then-x-3 c = root-negative _ c.if-x-2.false c.if-x-3.true

pub float_to_bits-b : goal.float_to_bits-b
float_to_bits-b c = is_number _ c.if-x.false

pub root_bits-requires : goal.root_bits-requires
unfolding of_bits
root_bits-requires c = (bits_pos _ c.well_formed.0.1 c.if-x.false c.if-x-2.false c.if-x-3.false, c.if-b-lt9218868437227405312.true)

pub float_from_bits-result : goal.float_from_bits-result
unfolding of_bits
float_from_bits-result c = subst (λ (x : ℕ). T (not (nan_bits binary64 x))) (sym c.root_bits.ensures) (no_nan _ (bits-lt _ (bits_pos _ c.well_formed.0.1 c.if-x.false c.if-x-2.false c.if-x-3.false) c.if-b-lt9218868437227405312.true))

pub returns-then-b-lt9218868437227405312 : goal.returns-then-b-lt9218868437227405312
unfolding of_bits
returns-then-b-lt9218868437227405312 c = ap (of_bits binary64) c.root_bits.ensures ∙ root-pattern _ c.well_formed.0.1 c.if-x.false c.if-x-2.false c.if-x-3.false c.if-b-lt9218868437227405312.true

pub returns-else-b-lt9218868437227405312 : goal.returns-else-b-lt9218868437227405312
unfolding of_bits
returns-else-b-lt9218868437227405312 c = root-infinite _ c.well_formed.0.1 c.if-x.false c.if-x-2.false c.if-x-3.false c.if-b-lt9218868437227405312.false
