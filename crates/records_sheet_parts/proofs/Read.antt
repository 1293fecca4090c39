-- What is read off the sheet at the first slot of a kind is what the file has in the cells of that kind, for any file.
use Prim.Native.Nat.{ℕ, zero, suc, ◌+◌, ◌*◌, ◌<◌, ◌≤◌}
use native.Mathlib.Omega.{arith}
use mathlib.Core.Path.{◌≡◌, refl, ap, ap₂, sym, ◌∙◌}
use mathlib.Core.Bool.{Bool, true, false, cond}
use mathlib.Core.List.{List, ◌∷◌}
use lib.ListN.{get_or, set, replicate}
use lib.Ieee.{Float, nan}
use Rattle.arithmetic.specs.Numbers.{plus_zero}
use Rattle.algebra.specs.Fold.{span}
use Rattle.algebra.specs.Table.{row, table, blank}
use Rattle.algebra.proofs.FoldLaws.{fold-ext, fold-keeps, fold_start}
use Rattle.algebra.proofs.TableLaws.{table-ext}
use Rattle.records.specs.declared.Kind.{Kind}
use Rattle.records.specs.declared.Sizes.{Sizes}
use Rattle.records.specs.format.Scan.{any, last}
use Rattle.records.specs.format.Kinds.{width, kind_at, kinds_of, kind_numbers, Table}
use Rattle.records.specs.format.Cells.{slots, first_slot, slot_count, offset, slot}
use Rattle.records.specs.format.File.{count, value_of, beyond, is_cell, cell}
use Rattle.records.proofs.format.ScanLaws.{any_none, last-holds}
use Rattle.records.proofs.format.Slots.{Inside, sized_inside, cell-names}
use Rattle.records.proofs.readers.ShortLaws.{row-ext}
use Rattle.records_sheet.specs.joints.Sheet.{first_slots, sheet_after}
use Rattle.records_sheet.proofs.Sheets.{cell-value, firsts_at, ends-within}
use Rattle.records_sheet_parts.specs.joints.Parts.{numbers_at, cells_at, stack_at}
use Rattle.records.specs.declared.Shape.{Shape}

-- ---- rows and tables
-- a row of which nothing is filled, and one that is filled with what stands there
no_row : {A : Type 0} (z : A) (C : ℕ) (f : ℕ → A) → row z C 0 f ≡ replicate C z
unfolding row
no_row z C f = sym (fold_start 0 (λ k ys. set ys k (f k)) (replicate C z))

set-filler : {A : Type 0} (z : A) (C k : ℕ) → set (replicate C z) k z ≡ replicate C z
set-filler z zero k = refl
set-filler z (suc C) zero = refl
set-filler {A} z (suc C) (suc k) = ap (λ (l : List A). z ∷ l) (set-filler z C k)

filler-row : {A : Type 0} (z : A) (C n : ℕ) → row z C n (λ i. z) ≡ replicate C z
unfolding row
filler-row z C n = fold-keeps (λ ys. ys ≡ replicate C z) 0 n (λ k ys. set ys k z) (replicate C z) refl (λ k _ _ b e. rw e (set-filler z C k))

-- ---- where a kind's cells stand
-- a kind of one count, with r rows and c columns; and of n counts
pub record Flat (y : Kind) (r c : ℕ) : Type 0 where
  pub number : width y.count ≡ 1
  pub row : width y.row ≡ r
  pub column : width y.column ≡ c

pub record Stack (y : Kind) (n r c : ℕ) : Type 0 where
  pub number : width y.count ≡ n
  pub row : width y.row ≡ r
  pub column : width y.column ≡ c

pub flat-slots : (y : Kind) (r c : ℕ) → Flat y r c → slots y ≡ r * c
unfolding slots
flat-slots y r c f = rw (f.number, f.row, f.column) (once r c)
  where
    once : (r c : ℕ) → 1 * r * c ≡ r * c
    once r c = omega arith

pub stack-slots : (y : Kind) (n r c : ℕ) → Stack y n r c → slots y ≡ n * (r * c)
unfolding slots
stack-slots y n r c f = rw (f.number, f.row, f.column) (whole n r c)
  where
    whole : (n r c : ℕ) → n * r * c ≡ n * (r * c)
    whole n r c = omega arith

-- where a kind of a table starts, from the first slots as the code has them, and that it ends within a sheet of L numbers
module _ (y : Table) (fs : List ℕ) (e : fs ≡ first_slots y) where
  pub kind-starts : (k : ℕ) → k < kind_numbers → get_or fs k 0 ≡ first_slot y k
  kind-starts k l = ap (λ (x : List ℕ). get_or x k 0) e ∙ firsts_at y k (omega arith)

  module _ (L : ℕ) (room : slot_count y ≤ L) (k : ℕ) (l : k < kind_numbers) where
    pub kind-on : (m : ℕ) → slots (kind_at y k) ≡ m → get_or fs k 0 + m ≤ L
    kind-on m q = let a = kind-starts k l in let b = ends-within y k l in omega arith

    pub kind_fits : (r c : ℕ) → Flat (kind_at y k) r c → get_or fs k 0 + r * c ≤ L
    kind_fits r c f = kind-on (r * c) (flat-slots (kind_at y k) r c f)

-- ---- a file within the sizes z of a call, on a sheet of N numbers
module _ (file : Shape) (z : Sizes) (s : List ℕ) (sized : any (count s) (beyond (kinds_of file z) s) ≡ false) (N : ℕ) (room : slot_count (kinds_of file z) ≤ N) where
  abbrev t : Table
  t = kinds_of file z

  abbrev sheet : List Float
  sheet = sheet_after N t s (count s)

  at_place : (k n r c j : ℕ) → Inside (kind_at t k) n r c → j ≡ offset (kind_at t k) n r c → get_or sheet (first_slot t k + j) nan ≡ cell t s k n r c
  unfolding slot
  at_place k n r c j w e = rw e (cell-value file z s sized N room k n r c nan w)

  pub stack-cell : (k n r c m i j : ℕ) → Stack (kind_at t k) n r c → m < n → i < r → j < c → get_or sheet (first_slot t k + m * (r * c) + i * c + j) nan ≡ cell t s k m i j
  unfolding offset
  stack-cell k n r c m i j f hm hi hj =
      let en = f.number in
      let er = f.row in
      let ec = f.column in
      let e : first_slot t k + m * (r * c) + i * c + j ≡ first_slot t k + ((m * r + i) * c + j) = place (first_slot t k) m r c i j in
      ap (λ (x : ℕ). get_or sheet x nan) e
      ∙ at_place k m i j ((m * r + i) * c + j) (record { number = omega arith; row = omega arith; column = omega arith }) (ap₂ (λ (x y : ℕ). (m * x + i) * y + j) (sym er) (sym ec))
    where
      place : (f m r c i j : ℕ) → f + m * (r * c) + i * c + j ≡ f + ((m * r + i) * c + j)
      place f m r c i j = omega arith

  pub flat-cell : (k r c i j : ℕ) → Flat (kind_at t k) r c → i < r → j < c → get_or sheet (first_slot t k + i * c + j) nan ≡ cell t s k 0 i j
  flat-cell k r c i j f hi hj =
      ap (λ (x : ℕ). get_or sheet x nan) (none (first_slot t k) r c i j)
      ∙ stack-cell k 1 r c 0 i j (record { number = f.number; row = f.row; column = f.column }) (omega arith) hi hj
    where
      none : (f r c i j : ℕ) → f + i * c + j ≡ f + 0 * (r * c) + i * c + j
      none f r c i j = omega arith

  -- a kind of one column, and the cell alone
  pub line-cell : (k m i : ℕ) → Flat (kind_at t k) m 1 → i < m → get_or sheet (first_slot t k + i) nan ≡ cell t s k 0 i 0
  line-cell k m i f l = ap (λ (x : ℕ). get_or sheet x nan) (one (first_slot t k) i) ∙ flat-cell k m 1 i 0 f l (omega arith)
    where
      one : (f i : ℕ) → f + i ≡ f + i * 1 + 0
      one f i = omega arith

  pub alone-cell : (k : ℕ) → Flat (kind_at t k) 1 1 → get_or sheet (first_slot t k) nan ≡ cell t s k 0 0 0
  alone-cell k f = ap (λ (x : ℕ). get_or sheet x nan) (first (first_slot t k)) ∙ line-cell k 1 0 f (omega arith)
    where
      first : (f : ℕ) → f ≡ f + 0
      first f = omega arith

  -- a kind of which the sizes leave no row has no cell
  pub none-cell : (k n r c : ℕ) → width (kind_at t k).row ≡ 0 → cell t s k n r c ≡ plus_zero
  unfolding cell
  none-cell k n r c e = last_none (count s) (is_cell t s k n r c) (λ x. record-none x)
    where
      last_none : (m : ℕ) (p : ℕ → Bool) → ((i : ℕ) → i < m → p i ≡ true → ⊥) → last m p (value_of s) plus_zero ≡ plus_zero
      last_none m p h = last-holds (λ x. x ≡ plus_zero) m p (value_of s) plus_zero refl (λ i l q. absurd (h i l q))

      record-none : (i : ℕ) → i < count s → is_cell t s k n r c i ≡ true → ⊥
      record-none i l q =
          let w = sized_inside t s i (any_none (count s) (beyond t s) i l sized) in
          let h = ap (λ (j : ℕ). width (kind_at t j).row) (cell-names t s k n r c i q).kind in
          let b = w.row in
          absurd (omega arith)

  -- ---- arrays
  pub numbers-read : (C k m : ℕ) → Flat (kind_at t k) m 1 → numbers_at sheet C (first_slot t k) m ≡ row plus_zero C m (λ i. cell t s k 0 i 0)
  unfolding numbers_at
  numbers-read C k m f = row-ext plus_zero C m (λ i. get_or sheet (first_slot t k + i) nan) (λ i. cell t s k 0 i 0) (λ i l. line-cell k m i f l)

  -- of a kind that may be absent wholly: where the sizes leave it no row, its numbers are +0
  pub given-read : (C k m : ℕ) (b : Bool) → Flat (kind_at t k) (cond b m 0) 1 → numbers_at sheet C (first_slot t k) (cond b m 0) ≡ row plus_zero C m (λ i. cell t s k 0 i 0)
  given-read C k m true f = numbers-read C k m f
  given-read C k m false f =
      numbers-read C k 0 f
      ∙ no_row plus_zero C (λ i. cell t s k 0 i 0)
      ∙ sym (row-ext plus_zero C m (λ i. cell t s k 0 i 0) (λ i. plus_zero) (λ i _. none-cell k 0 i 0 f.row) ∙ filler-row plus_zero C m)

  pub cells-read : (k r c : ℕ) → Flat (kind_at t k) r c → cells_at sheet (first_slot t k) r c ≡ table plus_zero 6 6 r c (cell t s k 0)
  unfolding cells_at
  cells-read k r c f = table-ext plus_zero 6 6 r c (λ i j. get_or sheet (first_slot t k + i * c + j) nan) (cell t s k 0) (λ i j hi hj. flat-cell k r c i j f hi hj)

  pub stack-read : (k n p : ℕ) → Stack (kind_at t k) n p p → stack_at sheet (first_slot t k) n p ≡ span 0 n (λ i. table plus_zero 6 6 p p (cell t s k i)) (replicate 4 (blank plus_zero 6 6))
  unfolding stack_at cells_at
  stack-read k n p f =
      fold-ext 0 n (λ m ys. set ys m (table plus_zero 6 6 p p (λ i j. get_or sheet (first_slot t k + m * (p * p) + i * p + j) nan))) (λ m ys. set ys m (table plus_zero 6 6 p p (cell t s k m))) (replicate 4 (blank plus_zero 6 6))
      (λ m _ l b. ap (λ (x : List (List Float)). set b m x) (table-ext plus_zero 6 6 p p (λ i j. get_or sheet (first_slot t k + m * (p * p) + i * p + j) nan) (cell t s k m) (λ i j hi hj. stack-cell k n p p m i j f l hi hj)))
