-- `tests_ddf::components::variances_of` meets its contract.
use Prim.Native.Nat.{ℕ, ◌≤◌, ◌-◌}
use mathlib.Core.Path.{◌≡◌}
use mathlib.Core.List.{List}
use lib.Ieee.{Float, of_bits}
use Rattle.arithmetic.specs.declared.Marked.{Marked}
use Rattle.arithmetic.specs.Numbers.{plus_zero}
use Rattle.arithmetic.specs.Marks.{given}
use Rattle.algebra.specs.Table.{row}
use Rattle.algebra.specs.Kind.{marks}
use Rattle.algebra.specs.Product.{at}
use Rattle.algebra.proofs.FoldLaws.{fold_start, fold_next, fold_end}
use Rattle.tests.specs.Order.{index_at}
use Rattle.tests.specs.Satterthwaite.{variances_of}
use borrow.Author.Rules.{rules}
use native.Mathlib.Omega.{arith}
use Rattle.tests_ddf.proofs.components.variances_of.Goals as goal

-- the eigenvalue in place k
abbrev placed : ℕ → List Float → List (List Marked) → ℕ → Marked
placed q es d k = at marks d (index_at q es k) (index_at q es k)

pub loop-k-init : goal.loop-k-init
unfolding variances_of row of_bits
loop-k-init c = (omega arith, rw c.no_marks-out.ensures (fold_start _ _ _))

pub loop-k-preserved : goal.loop-k-preserved
unfolding variances_of row
loop-k-preserved c = (omega arith, fold_next _ _ _ _ _ _ (omega arith) c.loop-k.invariant.1 (rw c.variance_at.ensures))

pub returns : goal.returns
unfolding variances_of row
returns c = fold_end _ _ _ _ _ _ c.loop-k.invariant.0 c.loop-k-test.false c.loop-k.invariant.1
