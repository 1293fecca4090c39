-- What the tests of a run are asked, β, the contrast and β_H, under a change of converter, whichever file holds them, a series or the second file of an archive. Each number is the f64
-- product with its power of two; and where all of them scale exactly, so does each cell that the file's sizes leave their kinds.
use Prim.Native.Nat.{ℕ, ◌<◌, ◌≤◌}
use native.Mathlib.Omega.{arith}
use mathlib.Core.Path.{◌≡◌, refl, sym, ap, ◌∙◌, subst}
use mathlib.Core.Bool.{Bool, true, false, not, ◌&&◌, cond, true≢false}
use mathlib.Core.List.{List}
use lib.Dec.{T, eqb}
use lib.IntN.{ℤ}
use lib.ListN.{get_or}
use lib.Ieee.{Float, nan, binary64, fits, mul}
use borrow.Author.Tests.{eqb-false}
use Rattle.arithmetic.specs.Numbers.{plus_zero}
use Rattle.arithmetic.specs.Scale.{scale, power_of_two}
use Rattle.algebra.specs.Kind.{floats}
use Rattle.algebra.specs.Product.{at}
use Rattle.algebra.specs.Small.{Rows}
use Rattle.algebra.specs.Table.{row, table}
use Rattle.algebra.proofs.TableLaws.{row_at, table_at}
use Rattle.records.specs.declared.Kind.{Kind}
use Rattle.records.specs.format.Scan.{any}
use Rattle.records.specs.format.Kinds.{Table, kind_at, width, by_row, by_row_and_column}
use Rattle.records.specs.format.File.{count, cell, rows, present, beyond}
use Rattle.records.proofs.format.Slots.{Inside}
use Rattle.converter.specs.Converted.{kenward_roger_shift, kenward_roger_change, rewritten, converted}
use Rattle.converter.specs.ReadAlike.{numbered, ReadAlike}

-- β, β_H and the contrast as the tests take them from a file, t being the table at its sizes, p its coefficients
abbrev pub numbers_of : Table → List ℕ → ℕ → ℕ → List Float
numbers_of t s p kind = row plus_zero 6 p (λ i. cell t s kind 0 i 0)

abbrev pub lines_of : Table → List ℕ → ℕ → ℕ → Rows
lines_of t s p q = table plus_zero 6 6 q p (cell t s 9 0)

-- the p numbers of β and those of q contrast rows are, scaled, f64 numbers again; so are those of β_H where there is a contrast
pub record AskedExact (k : ℤ) (m : ℕ → ℤ) (p q : ℕ) (beta beta_h : List Float) (contrast : Rows) : Type 0 where
  pub estimates : (i : ℕ) → i < p → T (fits binary64 (scale k (get_or beta i nan)))
  pub hypotheses : 0 < q → (i : ℕ) → i < p → T (fits binary64 (scale k (get_or beta_h i nan)))
  pub lines : (i j : ℕ) → i < q → j < p → T (fits binary64 (scale (m i) (at floats contrast i j)))

-- what the sizes leave these kinds
pub record AskedKinds (t : Table) (s : List ℕ) (p : ℕ) : Type 0 where
  pub estimates : kind_at t 8 ≡ by_row p
  pub lines : kind_at t 9 ≡ by_row_and_column (rows s 9) p
  pub hypotheses : kind_at t 10 ≡ by_row (cond (present s 10 && present s 9) p 0)

-- ---- the numbers, from the file and from the converted one
module _ (k : ℤ) (m : ℕ → ℤ) (limit t : Table) (s : List ℕ) (alike : ReadAlike (kenward_roger_change k m) limit t s (converted (kenward_roger_change k m) s)) (within : any (count s) (beyond t s) ≡ false)
    (named : (kind : ℕ) → (kenward_roger_change k m).rewrites kind ≡ true → numbered (kind_at t kind) ≡ false) where
  abbrev s' : List ℕ
  s' = converted (kenward_roger_change k m) s

  pub cell-product : (kind r c : ℕ) → (kenward_roger_change k m).rewrites kind ≡ true
      → cell t (converted (kenward_roger_change k m) s) kind 0 r c ≡ mul binary64 (cell t s kind 0 r c) (power_of_two (kenward_roger_shift k m kind 0 r c))
  unfolding rewritten
  cell-product kind r c e = alike.new_cell within kind 0 r c e (named kind e)

  abbrev times : ℤ → Float → Float
  times u x = mul binary64 x (power_of_two u)

  -- the converted file's table and its coefficients are the file's
  module _ (t' : Table) (p p' : ℕ) (same : t' ≡ t) (p-same : p' ≡ p) (hp : p ≤ 6) where
    pub column-product : (kind : ℕ) → (kenward_roger_change k m).rewrites kind ≡ true → (i : ℕ) → i < p
        → get_or (numbers_of t' (converted (kenward_roger_change k m) s) p' kind) i nan ≡ mul binary64 (get_or (numbers_of t s p kind) i nan) (power_of_two (kenward_roger_shift k m kind 0 i 0))
    column-product kind e i l =
        rw (same, p-same)
        (row_at plus_zero 6 p (λ i. cell t s' kind 0 i 0) i nan l hp
        ∙ cell-product kind i 0 e
        ∙ ap (times (kenward_roger_shift k m kind 0 i 0)) (sym (row_at plus_zero 6 p (λ i. cell t s kind 0 i 0) i nan l hp)))

    pub lines-product : (q q' : ℕ) → q' ≡ q → q ≤ 6 → (i j : ℕ) → i < q → j < p
        → at floats (lines_of t' (converted (kenward_roger_change k m) s) p' q') i j ≡ mul binary64 (at floats (lines_of t s p q) i j) (power_of_two (m i))
    unfolding kenward_roger_shift
    lines-product q q' q-same hq i j o l =
        rw (same, p-same, q-same)
        (table_at plus_zero 6 6 q p (cell t s' 9 0) i j nan o l hq hp ∙ cell-product 9 i j refl ∙ ap (times (m i)) (sym (table_at plus_zero 6 6 q p (cell t s 9 0) i j nan o l hq hp)))

-- ---- exact by cells
guarded : (a b : Bool) (r p : ℕ) → r < cond (a && b) p 0 → (r < p) × (b ≡ true)
guarded true true r p h = (h, refl)
guarded true false r p h = absurd (omega arith)
guarded false b r p h = absurd (omega arith)

some-rows : (s : List ℕ) → present s 9 ≡ true → 0 < rows s 9
some-rows s h = go (eqb (rows s 9) 0) refl h
  where
    positive : (n : ℕ) → (n ≡ 0 → ⊥) → 0 < n
    positive n f = native.Mathlib.Nat.lt_of_not-le (λ (g : n ≤ 0). f (omega arith))

    go : (b : Bool) → eqb (rows s 9) 0 ≡ b → not b ≡ true → 0 < rows s 9
    go true e q = absurd (true≢false (sym q))
    go false e q = positive (rows s 9) (eqb-false (rows s 9) 0 e)

-- an unused field has one index
pub none : (n : ℕ) → n < 1 → n ≡ 0
none n h = omega arith

-- cell (n, r, j) of a kind, scaled by what the change does to it, is an f64 number
abbrev pub AskedAgain : ℤ → (ℕ → ℤ) → Table → List ℕ → ℕ → Type 0
AskedAgain k m t s kind = (n r j : ℕ) → Inside (kind_at t kind) n r j → T (fits binary64 (scale (kenward_roger_shift k m kind n r j) (cell t s kind n r j)))

module _ (k : ℤ) (m : ℕ → ℤ) (t : Table) (s : List ℕ) (p : ℕ) (kinds : AskedKinds t s p) (hp : p ≤ 6) (hq : rows s 9 ≤ 6)
    (h : AskedExact k m p (rows s 9) (numbers_of t s p 8) (numbers_of t s p 10) (lines_of t s p (rows s 9))) where
  pub estimates-again : AskedAgain k m t s 8
  unfolding width kenward_roger_shift
  estimates-again n r j i =
      let v : Inside (by_row p) n r j = subst (λ (z : Kind). Inside z n r j) kinds.estimates i in
      rw (none n v.number, none j v.column)
      (subst (λ (x : Float). T (fits binary64 (scale k x))) (row_at plus_zero 6 p (λ i. cell t s 8 0 i 0) r nan v.row hp) (h.estimates r v.row))

  pub lines-again : AskedAgain k m t s 9
  unfolding width kenward_roger_shift
  lines-again n r j i =
      let v : Inside (by_row_and_column (rows s 9) p) n r j = subst (λ (z : Kind). Inside z n r j) kinds.lines i in
      rw (none n v.number)
      (subst (λ (x : Float). T (fits binary64 (scale (m r) x))) (table_at plus_zero 6 6 (rows s 9) p (cell t s 9 0) r j nan v.row v.column hq hp) (h.lines r j v.row v.column))

  pub hypotheses-again : AskedAgain k m t s 10
  unfolding width kenward_roger_shift
  hypotheses-again n r j i =
      let v : Inside (by_row (cond (present s 10 && present s 9) p 0)) n r j = subst (λ (z : Kind). Inside z n r j) kinds.hypotheses i in
      let g = guarded (present s 10) (present s 9) r p v.row in
      rw (none n v.number, none j v.column)
      (subst (λ (x : Float). T (fits binary64 (scale k x))) (row_at plus_zero 6 p (λ i. cell t s 10 0 i 0) r nan g.0 hp) (h.hypotheses (some-rows s g.1) r g.0))
