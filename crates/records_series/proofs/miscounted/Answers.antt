-- `records_series::miscounted` meets its contract.
use Prim.Native.Nat.{ℕ, ◌+◌, ◌*◌, ◌/◌}
use native.Mathlib.Omega.{arith}
use mathlib.Core.Path.{◌≡◌, sym, ◌∙◌}
use mathlib.Core.Bool.{not}
use mathlib.Core.List.{List}
use lib.Dec.{eqb}
use borrow.Author.Tests.{eq-eqb, ne_eqb}
use Rattle.records.specs.format.File.{kind_of, column_of, first_value_of}
use Rattle.records.specs.readers.Series.{miscounted}
use Rattle.records.proofs.promises.CountLaws.{twice-small}
use borrow.Author.Rules.{rules}
use Rattle.records_series.proofs.miscounted.Goals as goal

-- a record of kind 3 is judged by its column and its first value byte
block-miscounted : (s : List ℕ) (i k n : ℕ) → kind_of s i ≡ 3 → k ≡ column_of s i → n ≡ first_value_of s i → not (eqb n (k * (k + 1) / 2)) ≡ miscounted s i
unfolding miscounted
block-miscounted s i k n q ek en = rw (eq-eqb (kind_of s i) 3 q, ek, en)

pub returns-then-kind_of : goal.returns-then-kind_of
unfolding miscounted
returns-then-kind_of c = rw (← c.kind_of.ensures, ne_eqb _ _ c.if-kind_of.true)

pub overflow_mul-result : goal.overflow_mul-result
overflow_mul-result c = let b = c.column_at-k.ensures.1 in omega (arith, twice-small c.column_at-k.result (omega arith))

pub returns : goal.returns
returns c = block-miscounted _ _ _ _ (sym c.kind_of.ensures ∙ c.if-kind_of.false) c.column_at-k.ensures.0 c.first_value_at.ensures.0
