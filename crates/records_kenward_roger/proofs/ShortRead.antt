-- What is read off the sheet of a series on which the torn specimens are left out: X, Z and the weights of the shortened series, and every other kind as the file has it.
use Prim.Native.Nat.{ℕ, ◌+◌, ◌*◌, ◌<◌, ◌≤◌}
use native.Mathlib.Nat.{mul-le-mul_right}
use native.Mathlib.Omega.{arith}
use mathlib.Core.Path.{◌≡◌, refl, sym, ap, ◌∙◌}
use mathlib.Core.Bool.{Bool, true, false, cond}
use mathlib.Core.List.{List}
use mathlib.Core.Logic.{◌⊎◌, inl, inr, ⊎_elim}
use lib.ListN.{get_or, length, take, drop, replicate, length-replicate, length-drop}
use lib.Seq.{get_or-take, get_or-drop, ext_get_or, length-take-le}
use lib.Ieee.{Float, nan}
use Rattle.arithmetic.specs.Numbers.{plus_zero}
use Rattle.algebra.specs.Table.{row, table}
use Rattle.algebra.proofs.FoldLaws.{length-span}
use Rattle.algebra.proofs.TableLaws.{row_at, table_at, table-ext}
use Rattle.algebra_large.specs.joints.Slab.{rows_at}
use Rattle.algebra_large.proofs.SlabLaws.{rows_at-at, shape-table, shape-rows_at, shape-ext}
use Rattle.records.specs.format.Scan.{any}
use Rattle.records.specs.format.Kinds.{width, Table, kind_at, kenward_roger_kinds}
use Rattle.records.specs.format.Cells.{slots, first_slot, slot_count}
use Rattle.records.specs.format.File.{count, beyond, present}
use Rattle.records.specs.readers.Shortened.{torn, kept_specimens}
use Rattle.records.specs.readers.Series.{specimens, coefficients, z_columns, weight_count, sizes, kinds, cell_value, as_sent, design}
use Rattle.records.proofs.format.ScanLaws.{total-le}
use Rattle.records.proofs.format.Slots.{packed}
use Rattle.records.proofs.readers.KeptLaws.{kept-few}
use Rattle.records.proofs.readers.ShortLaws.{row-ext, kept-below, short-x, short-z, short-weights}
use Rattle.records_sheet.specs.joints.Sheet.{sheet_after}
use Rattle.records_sheet.proofs.Sheets.{next_start, ends-within, length-sheet}
use Rattle.records_sheet_parts.specs.joints.Parts.{numbers_at, cells_at}
use Rattle.records_sheet_parts.proofs.Read.{Flat, flat-slots, flat-cell, line-cell, alone-cell, numbers-read, given-read, cells-read}
use Rattle.records_torn.specs.joints.Packed.{kept_in, short_sheet}
use Rattle.records_torn.proofs.ShortSheet.{length-short, short-other, short-x-cell, short-z-cell, short-weight-cell}
use Rattle.records_refusals.proofs.RefusalLaws.{kept-on-sheet}
use Rattle.records.specs.declared.Shape.TheVariants.{Series}

-- ---- a lent part of a list is a row, and the rows in its first places are a table, by what stands in each place
lent-line : (a m : ℕ) (xs : List Float) (f : ℕ → Float) → a + m ≤ length xs → ((i : ℕ) → i < m → get_or xs (a + i) nan ≡ f i) → take m (drop a xs) ≡ row plus_zero m m f
unfolding row
lent-line a m xs f l h =
    let d = length-drop a xs in
    let e = length-take-le m (drop a xs) (omega arith) in
    let g : length (row plus_zero m m f) ≡ m = length-span 0 m f (replicate m plus_zero) ∙ length-replicate m plus_zero in
    ext_get_or nan (take m (drop a xs)) (row plus_zero m m f) (e ∙ sym g)
    (λ i k. get_or-take m (drop a xs) i nan (omega arith) ∙ get_or-drop a xs i nan ∙ h i (omega arith) ∙ sym (row_at plus_zero m m f i nan (omega arith) (omega arith)))

lent_rows : (a m r c : ℕ) (xs : List Float) (f : ℕ → ℕ → Float) → r ≤ m → ((i j : ℕ) → i < r → j < c → get_or xs (a + i * c + j) nan ≡ f i j)
    → rows_at c 0 r c (take (m * c) (drop a xs)) ≡ table plus_zero r c r c f
lent_rows a m r c xs f l h =
    shape-ext (shape-rows_at c 0 r c (take (m * c) (drop a xs))) (shape-table plus_zero r c f)
    (λ i j hi hj. rows_at-at c 0 r c (take (m * c) (drop a xs)) i j hi hj ∙ here i j hi hj ∙ sym (table_at plus_zero r c r c f i j nan hi hj (omega arith) (omega arith)))
  where
    here : (i j : ℕ) → i < r → j < c → get_or (take (m * c) (drop a xs)) (0 + i * c + j) nan ≡ f i j
    here i j hi hj =
        let p = packed i r j c hi hj in
        let q = mul-le-mul_right c l in
        let e : a + (0 + i * c + j) ≡ a + i * c + j = omega arith in
        get_or-take (m * c) (drop a xs) (0 + i * c + j) nan (omega arith) ∙ get_or-drop a xs (0 + i * c + j) nan ∙ ap (λ (x : ℕ). get_or xs x nan) e ∙ h i j hi hj

-- ---- the kinds with a row for each specimen, how many rows are kept, and the kinds that stay as they are
module _ (s : List ℕ) where
  pub flat-x : Flat (kind_at (kinds s) 1) (specimens s) (coefficients s)
  unfolding kind_at kenward_roger_kinds sizes width
  flat-x = record { number = refl; row = refl; column = refl }

  pub flat-z : Flat (kind_at (kinds s) 2) (specimens s) (z_columns s)
  unfolding kind_at kenward_roger_kinds sizes width
  flat-z = record { number = refl; row = refl; column = refl }

  pub flat-weight : Flat (kind_at (kinds s) 5) (weight_count s) 1
  unfolding kind_at kenward_roger_kinds sizes width
  flat-weight = record { number = refl; row = refl; column = refl }

  -- no more specimens are kept than were sent
  pub kept-most : length (kept_specimens (as_sent s)) ≤ specimens s
  unfolding as_sent
  kept-most = kept-few (torn (as_sent s)) (specimens s)

  -- nor more weights
  abbrev pub weights_kept : ℕ
  weights_kept = cond (present s 5) (length (kept_specimens (as_sent s))) 0

  pub weights-most : weights_kept ≤ weight_count s
  weights-most = go (present s 5)
    where
      go : (b : Bool) → cond b (length (kept_specimens (as_sent s))) 0 ≤ cond b (specimens s) 0
      go true = kept-most
      go false = omega arith

-- a kind that holds neither X nor Z nor the weights
abbrev pub Unmoved : ℕ → Type 0
Unmoved k = ((3 ≤ k) × (k < 5)) ⊎ (6 ≤ k)

-- a later kind does not start before an earlier one
pub firsts-rise : (t : Table) (k m : ℕ) → k ≤ m → first_slot t k ≤ first_slot t m
unfolding first_slot
firsts-rise t k m l = total-le k m (λ j. slots (kind_at t j)) l

-- the sheet of N numbers of a series that is read, without its torn specimens
abbrev pub short_read : List ℕ → ℕ → List Float
short_read s N = short_sheet (sizes s) (sheet_after N (kinds s) s (count s))

-- ---- a series whose records lie within its sizes, on its sheet as it was read and without its torn specimens
module _ (s : List ℕ) (within : any (count s) (beyond (kinds s) s) ≡ false) (N : ℕ) (room : slot_count (kinds s) ≤ N) where
  abbrev whole : List Float
  whole = sheet_after N (kinds s) s (count s)

  abbrev sheet : List Float
  sheet = short_read s N

  abbrev ks : List ℕ
  ks = kept_specimens (as_sent s)

  -- both sheets have room for every cell
  whole_room : slot_count (kinds s) ≤ length whole
  whole_room = let e = length-sheet N (kinds s) s (count s) in omega arith

  long : length sheet ≡ N
  long = length-short (sizes s) whole ∙ length-sheet N (kinds s) s (count s)

  -- the specimens that stay by the sheet are those that stay by the file
  kept-are : kept_in (sizes s) whole ≡ ks
  kept-are = kept-on-sheet s within N room

  -- ---- X and Z: a kind k of c columns, of which row i is now that of the specimen that is kept at i
  RowsKept : ℕ → ℕ → Type 0
  RowsKept k c = (i j : ℕ) → i < length (kept_in (sizes s) whole) → j < c → get_or sheet (first_slot (kinds s) k + i * c + j) nan ≡ get_or whole (first_slot (kinds s) k + get_or (kept_in (sizes s) whole) i 0 * c + j) nan

  rows-read : (k c : ℕ) → Flat (kind_at (kinds s) k) (specimens s) c → RowsKept k c
      → rows_at c 0 (length ks) c (take (specimens s * c) (drop (first_slot (kinds s) k) sheet)) ≡ table plus_zero (length ks) c (length ks) c (λ i. cell_value s k (get_or ks i 0))
  unfolding RowsKept
  rows-read k c f short = lent_rows (first_slot (kinds s) k) (specimens s) (length ks) c sheet (λ i. cell_value s k (get_or ks i 0)) (kept-most s) here
    where
      here : (i j : ℕ) → i < length ks → j < c → get_or sheet (first_slot (kinds s) k + i * c + j) nan ≡ cell_value s k (get_or ks i 0) j
      here i j hi hj =
          let e = ap length kept-are in
          short i j (omega arith) hj
          ∙ ap (λ (q : List ℕ). get_or whole (first_slot (kinds s) k + get_or q i 0 * c + j) nan) kept-are
          ∙ flat-cell Series (sizes s) s within N room k (specimens s) c (get_or ks i 0) j f (kept-below s i hi) hj

  pub x-rows : rows_at (coefficients s) 0 (length (kept_specimens (as_sent s))) (coefficients s) (take (specimens s * coefficients s) (drop (first_slot (kinds s) 1) (short_read s N))) ≡ (design s).x
  unfolding RowsKept sizes
  x-rows = rows-read 1 (coefficients s) (flat-x s) (short-x-cell (sizes s) whole whole_room) ∙ sym (short-x s)

  pub z-rows : rows_at (z_columns s) 0 (length (kept_specimens (as_sent s))) (z_columns s) (take (specimens s * z_columns s) (drop (first_slot (kinds s) 2) (short_read s N))) ≡ (design s).z
  unfolding RowsKept sizes
  z-rows = rows-read 2 (z_columns s) (flat-z s) (short-z-cell (sizes s) whole whole_room) ∙ sym (short-z s)

  -- ---- the weights
  -- weight i is now that of the specimen that is kept at i, and as many as are kept lie on the sheet
  weight-at : present s 5 ≡ true → (i : ℕ) → i < length ks → get_or sheet (first_slot (kinds s) 5 + i) nan ≡ cell_value s 5 (get_or ks i 0) 0
  unfolding sizes
  weight-at e i l =
      let m = ap length kept-are in
      let b = kept-below s i l in
      let n : weight_count s ≡ specimens s = ap (λ (b : Bool). cond b (specimens s) 0) e in
      short-weight-cell (sizes s) whole whole_room e i (omega arith)
      ∙ ap (λ (q : List ℕ). get_or whole (first_slot (kinds s) 5 + get_or q i 0) nan) kept-are
      ∙ line-cell Series (sizes s) s within N room 5 (weight_count s) (get_or ks i 0) (flat-weight s) (omega arith)

  weights-fit : first_slot (kinds s) 5 + weights_kept s ≤ length sheet
  weights-fit =
      let a = ends-within (kinds s) 5 (omega arith) in
      let b = flat-slots (kind_at (kinds s) 5) (weight_count s) 1 (flat-weight s) in
      let c = weights-most s in
      let d = long in
      omega arith

  pub weights-line : take (weights_kept s) (drop (first_slot (kinds s) 5) (short_read s N)) ≡ (design s).weights
  weights-line = go (present s 5) refl weights-fit ∙ sym (short-weights s)
    where
      go : (b : Bool) → present s 5 ≡ b → first_slot (kinds s) 5 + cond b (length ks) 0 ≤ length sheet
          → take (cond b (length ks) 0) (drop (first_slot (kinds s) 5) sheet) ≡ row plus_zero (cond b (length ks) 0) (cond b (length ks) 0) (λ i. cell_value s 5 (get_or ks i 0) 0)
      go true e l = lent-line (first_slot (kinds s) 5) (length ks) sheet (λ i. cell_value s 5 (get_or ks i 0) 0) l (weight-at e)
      go false e l = lent-line (first_slot (kinds s) 5) 0 sheet (λ i. cell_value s 5 (get_or ks i 0) 0) l (λ i k. absurd (omega arith))

  -- ---- every other kind is as it was read
  unmoved : (k r c q : ℕ) → Unmoved k → Flat (kind_at (kinds s) k) r c → q < r * c → get_or sheet (first_slot (kinds s) k + q) nan ≡ get_or whole (first_slot (kinds s) k + q) nan
  unmoved k r c q o f l = short-other (sizes s) whole (first_slot (kinds s) k + q) (⊎_elim (λ u. inl (between u)) (λ u. inr (after u)) o)
    where
      between : (3 ≤ k) × (k < 5) → (first_slot (kinds s) 3 ≤ first_slot (kinds s) k + q) × (first_slot (kinds s) k + q < first_slot (kinds s) 5)
      between u =
          let a = firsts-rise (kinds s) 3 k u.0 in
          let b = firsts-rise (kinds s) (k + 1) 5 (omega arith) in
          let d = next_start (kinds s) k in
          let e = flat-slots (kind_at (kinds s) k) r c f in
          (omega arith, omega arith)

      after : 6 ≤ k → first_slot (kinds s) 6 ≤ first_slot (kinds s) k + q
      after u = let a = firsts-rise (kinds s) 6 k u in omega arith

  -- so its numbers are as they were, in a row or in a table
  numbers_stay : (C k m : ℕ) → Unmoved k → Flat (kind_at (kinds s) k) m 1 → numbers_at sheet C (first_slot (kinds s) k) m ≡ numbers_at whole C (first_slot (kinds s) k) m
  unfolding numbers_at
  numbers_stay C k m o f = row-ext plus_zero C m (λ i. get_or sheet (first_slot (kinds s) k + i) nan) (λ i. get_or whole (first_slot (kinds s) k + i) nan) (λ i l. unmoved k m 1 i o f (omega arith))

  cells_stay : (k r c : ℕ) → Unmoved k → Flat (kind_at (kinds s) k) r c → cells_at sheet (first_slot (kinds s) k) r c ≡ cells_at whole (first_slot (kinds s) k) r c
  unfolding cells_at
  cells_stay k r c o f = table-ext plus_zero 6 6 r c (λ i j. get_or sheet (first_slot (kinds s) k + i * c + j) nan) (λ i j. get_or whole (first_slot (kinds s) k + i * c + j) nan) here
    where
      here : (i j : ℕ) → i < r → j < c → get_or sheet (first_slot (kinds s) k + i * c + j) nan ≡ get_or whole (first_slot (kinds s) k + i * c + j) nan
      here i j hi hj =
          let p = packed i r j c hi hj in
          let e : first_slot (kinds s) k + i * c + j ≡ first_slot (kinds s) k + (i * c + j) = omega arith in
          ap (λ (q : ℕ). get_or sheet q nan) e ∙ unmoved k r c (i * c + j) o f (omega arith) ∙ ap (λ (q : ℕ). get_or whole q nan) (sym e)

  -- and they are what the file has: numbers in a row, those of a kind that may be absent wholly, cells in a table, and a number alone
  pub numbers-left : (C k m : ℕ) → Unmoved k → Flat (kind_at (kinds s) k) m 1 → numbers_at (short_read s N) C (first_slot (kinds s) k) m ≡ row plus_zero C m (λ i. cell_value s k i 0)
  numbers-left C k m o f = numbers_stay C k m o f ∙ numbers-read Series (sizes s) s within N room C k m f

  pub given-left : (C k m : ℕ) (b : Bool) → Unmoved k → Flat (kind_at (kinds s) k) (cond b m 0) 1 → numbers_at (short_read s N) C (first_slot (kinds s) k) (cond b m 0) ≡ row plus_zero C m (λ i. cell_value s k i 0)
  given-left C k m b o f = numbers_stay C k (cond b m 0) o f ∙ given-read Series (sizes s) s within N room C k m b f

  pub cells_left : (k r c : ℕ) → Unmoved k → Flat (kind_at (kinds s) k) r c → cells_at (short_read s N) (first_slot (kinds s) k) r c ≡ table plus_zero 6 6 r c (cell_value s k)
  cells_left k r c o f = cells_stay k r c o f ∙ cells-read Series (sizes s) s within N room k r c f

  pub alone-left : (k : ℕ) → Unmoved k → Flat (kind_at (kinds s) k) 1 1 → get_or (short_read s N) (first_slot (kinds s) k) nan ≡ cell_value s k 0 0
  alone-left k o f =
      let e : first_slot (kinds s) k ≡ first_slot (kinds s) k + 0 = omega arith in
      ap (λ (q : ℕ). get_or sheet q nan) e ∙ unmoved k 1 1 0 o f (omega arith) ∙ ap (λ (q : ℕ). get_or whole q nan) (sym e) ∙ alone-cell Series (sizes s) s within N room k f
