-- What a Satterthwaite file that is not refused gives to the test: sizes within document 01's limits, where the numbers stand, and that they are f64 numbers.
use Prim.Native.Nat.{ℕ, ◌<◌, ◌≤◌, max}
use native.Mathlib.Omega.{arith}
use mathlib.Core.Path.{◌≡◌, sym, subst}
use mathlib.Core.List.{List, []}
use lib.Dec.{T}
use lib.ListN.{get_or, replicate, length-replicate}
use lib.Ieee.{Float, nan, binary64, fits}
use Rattle.arithmetic.specs.Numbers.{plus_zero}
use Rattle.algebra.specs.Table.{blank, table}
use Rattle.algebra.specs.Kind.{floats}
use Rattle.algebra.specs.Product.{at}
use Rattle.algebra.proofs.FoldLaws.{span-at}
use Rattle.algebra.proofs.TableLaws.{row_at, table_at}
use Rattle.records.specs.format.Kinds.{limits}
use Rattle.records.specs.format.File.{rows}
use Rattle.tests.proofs.SatterthwaiteSurvives.{InputSizes}
use Rattle.records.specs.readers.Parameters.{coefficients, contrast_rows, parameters, sizes, kinds, cell_value, jacobians, inputs}
use Rattle.records.proofs.readers.AcceptedParameters.{AcceptedParameters}
use Rattle.records.proofs.readers.Limits.{parameters-below}
use Rattle.records.proofs.format.CellLaws.{cell-fits}
use Rattle.converter_theorems.proofs.Operands.{Written}

positive : (x : ℕ) → 0 < max 1 x
positive x = omega arith

pub inputs-sized : (s : List ℕ) → AcceptedParameters s → InputSizes (inputs s)
unfolding sizes limits inputs
inputs-sized s c =
    let b = parameters-below s c.formed.good in
    record { p = b.coefficients; some = positive (rows s 9); q = b.contrasts; n = b.parameters }

-- ---- where the numbers stand
module _ (s : List ℕ) (z : InputSizes (inputs s)) where
  hp : coefficients s ≤ 6
  unfolding inputs
  hp = z.p

  hq : contrast_rows s ≤ 6
  unfolding inputs
  hq = z.q

  hn : parameters s ≤ 4
  unfolding inputs
  hn = z.n

  pub l-at : (i j : ℕ) → i < contrast_rows s → j < coefficients s → at floats (inputs s).l i j ≡ cell_value s 9 0 i j
  unfolding inputs
  l-at i j h o = table_at plus_zero 6 6 (contrast_rows s) (coefficients s) (cell_value s 9 0) i j nan h o hq hp

  pub beta-at : (i : ℕ) → i < coefficients s → get_or (inputs s).beta i nan ≡ cell_value s 8 0 i 0
  unfolding inputs
  beta-at i h = row_at plus_zero 6 (coefficients s) (λ i. cell_value s 8 0 i 0) i nan h hp

  pub beta_h-at : (i : ℕ) → i < coefficients s → get_or (inputs s).beta_h i nan ≡ cell_value s 10 0 i 0
  unfolding inputs
  beta_h-at i h = row_at plus_zero 6 (coefficients s) (λ i. cell_value s 10 0 i 0) i nan h hp

  pub v-at : (i j : ℕ) → i < coefficients s → j < coefficients s → at floats (inputs s).v i j ≡ cell_value s 30 0 i j
  unfolding inputs
  v-at i j h o = table_at plus_zero 6 6 (coefficients s) (coefficients s) (cell_value s 30 0) i j nan h o hp hp

  pub js-at : (r i j : ℕ) → r < parameters s → i < coefficients s → j < coefficients s → at floats (get_or (inputs s).js r []) i j ≡ cell_value s 31 r i j
  unfolding inputs jacobians
  js-at r i j l h o =
      rw (span-at 0 (parameters s) (λ i. table plus_zero 6 6 (coefficients s) (coefficients s) (cell_value s 31 i)) (replicate 4 (blank plus_zero 6 6)) r [] (omega arith) l
      (omega (arith, hn, length-replicate 4 (blank plus_zero 6 6))))
      (table_at plus_zero 6 6 (coefficients s) (coefficients s) (cell_value s 31 r) i j nan h o hp hp)

  pub a_at : (i j : ℕ) → i < parameters s → j < parameters s → at floats (inputs s).a i j ≡ cell_value s 32 0 i j
  unfolding inputs
  a_at i j h o = table_at plus_zero 6 6 (parameters s) (parameters s) (cell_value s 32 0) i j nan h o (omega (arith, hn)) (omega (arith, hn))

  -- each is an f64 number
  fine : {x : Float} (k n r c : ℕ) → x ≡ cell_value s k n r c → T (fits binary64 x)
  fine k n r c e = subst (λ (x : Float). T (fits binary64 x)) (sym e) (cell-fits (kinds s) s k n r c)

  pub inputs-written : Written (inputs s)
  unfolding inputs
  inputs-written = record {
    l = λ i j h o. fine 9 0 i j (l-at i j h o);
    beta = λ i h. fine 8 0 i 0 (beta-at i h);
    beta_h = λ i h. fine 10 0 i 0 (beta_h-at i h);
    v = λ i j h o. fine 30 0 i j (v-at i j h o);
    js = λ r l i j h o. fine 31 r i j (js-at r i j l h o);
  }
