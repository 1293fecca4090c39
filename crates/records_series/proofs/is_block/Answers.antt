-- `records_series::is_block` meets its contract.
use Prim.Native.Nat.{ℕ}
use borrow.Author.Tests.{ne_eqb}
use mathlib.Core.Path.{◌≡◌, sym, ◌∙◌}
use mathlib.Core.Bool.{true, ◌&&◌, and-true}
use mathlib.Core.List.{List}
use lib.Dec.{eqb}
use Rattle.records.specs.format.Kinds.{kind_at, kenward_roger_kinds, index_of}
use Rattle.records.specs.format.File.{kind_of, row_of, is_cell}
use Rattle.records.specs.readers.Series.{kinds}
use borrow.Author.Rules.{rules}
use Rattle.records_series.proofs.is_block.Goals as goal

-- a block is named by its row alone: its count and column are numbers and no indices
block-cell : (s : List ℕ) (b i : ℕ) → kind_of s i ≡ 3 → is_cell (kinds s) s 3 0 b 0 i ≡ eqb (row_of s i) b
unfolding is_cell kind_at kenward_roger_kinds index_of
block-cell s b i e = rw e (and-true (eqb (row_of s i) b && true) ∙ and-true (eqb (row_of s i) b))

pub returns-then-kind_of : goal.returns-then-kind_of
unfolding is_cell
returns-then-kind_of c = rw (← c.kind_of.ensures, ne_eqb _ _ c.if-kind_of.true)

pub returns : goal.returns
returns c = rw (block-cell _ _ _ (sym c.kind_of.ensures ∙ c.if-kind_of.false), ← c.row_at.ensures.0)
