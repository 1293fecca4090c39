-- A test by way of its basis.
use Prim.Native.Nat.{ℕ}
use mathlib.Core.Path.{◌≡◌, ap, ◌∙◌}
use mathlib.Core.List.{List}
use lib.ListN.{replicate}
use lib.Ieee.{Float}
use Rattle.arithmetic.specs.declared.Marked.{Marked}
use Rattle.arithmetic.specs.Numbers.{plus_zero}
use Rattle.arithmetic_cutoffs.specs.declared.Cutoffs.{Cutoffs}
use Rattle.algebra.specs.Kind.{marks}
use Rattle.algebra.specs.Small.{Rows}
use Rattle.tests.specs.declared.Basis.{Basis}
use Rattle.tests.specs.declared.Tested.{Tested}
use Rattle.tests.specs.Basis.{contrast_basis}
use Rattle.tests.specs.KenwardRoger.{Scaled, tested, unit_row, coefficient_test, contrast_test}

module _ (c : Cutoffs) (s : Scaled Marked) (beta : List Float) (t : Tested) where
  pub contrast-is : (beta_h : List Float) (rows : ℕ) (l : Rows) (b : Basis Marked) → b ≡ contrast_basis marks rows s.p l → t ≡ tested marks c s beta beta_h b
      → t ≡ contrast_test marks c s beta beta_h rows l
  unfolding contrast_test
  contrast-is beta_h rows l b e h = h ∙ ap (λ (b : Basis Marked). tested marks c s beta beta_h b) e

  pub coefficient-is : (i : ℕ) (l : Rows) → l ≡ unit_row s.p i → t ≡ contrast_test marks c s beta (replicate 6 plus_zero) 1 l → t ≡ coefficient_test marks c s beta i
  unfolding contrast_test coefficient_test
  coefficient-is i l e h = h ∙ ap (λ (x : Rows). tested marks c s beta (replicate 6 plus_zero) (contrast_basis marks 1 s.p x)) e
