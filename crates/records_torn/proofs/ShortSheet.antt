-- The sheet of a shortened series: what stands in each place of X, of Z and of the weights, and that every other part is as it was.
use Prim.Native.Nat.{ℕ, ◌+◌, ◌*◌, ◌<◌, ◌≤◌}
use native.Mathlib.Nat.{mul-le-mul_right}
use native.Mathlib.Omega.{arith}
use mathlib.Core.Path.{◌≡◌, refl, ap, sym, ◌∙◌}
use mathlib.Core.Bool.{Bool, true, false, ◌&&◌, cond}
use mathlib.Core.List.{List}
use mathlib.Core.Logic.{◌⊎◌, inl, inr, ⊎_elim}
use lib.ListN.{length, get_or}
use lib.Ieee.{Float, nan}
use Rattle.records.specs.declared.Sizes.{Sizes}
use Rattle.records.specs.format.Kinds.{width, kind_at, kenward_roger_kinds, kinds_of}
use Rattle.records.specs.format.Cells.{slots, first_slot, slot_count}
use Rattle.records.specs.readers.Shortened.{kept_below}
use Rattle.records.proofs.format.Slots.{packed}
use Rattle.records.proofs.readers.KeptLaws.{kept-few, kept-all, kept_self}
use Rattle.records_sheet.proofs.Sheets.{next_start, ends-within}
use Rattle.records_torn.specs.joints.Packed.{torn_at, packed_rows, kept_in, short_sheet}
use Rattle.records_torn.proofs.PackedRows.{length-packed, packed-at, packed-other}
use Rattle.records.specs.declared.Shape.TheVariants.{Series}

-- ---- where X, Z and the weights stand
module _ (z : Sizes) where
  -- where kind k starts on the sheet
  abbrev start : ℕ → ℕ
  start k = first_slot (kinds_of Series z) k

  -- Z follows X, and the blocks follow Z
  pub x-ends : start 1 + z.specimens * z.coefficients ≡ start 2
  unfolding slots kind_at kenward_roger_kinds width
  x-ends = let a = next_start (kinds_of Series z) 1 in omega arith

  pub z-ends : start 2 + z.specimens * z.columns ≡ start 3
  unfolding slots kind_at kenward_roger_kinds width
  z-ends = let a = next_start (kinds_of Series z) 2 in omega arith

  -- the weights follow the blocks and the thetas, and end within the sheet
  pub record WeightsStand : Type 0 where
    pub after : start 3 ≤ start 5
    pub onward : start 5 ≤ start 6
    pub within : start 6 ≤ slot_count (kinds_of Series z)

  pub weights-stand : WeightsStand
  weights-stand =
      let a = next_start (kinds_of Series z) 3 in
      let b = next_start (kinds_of Series z) 4 in
      let c = next_start (kinds_of Series z) 5 in
      let d = ends-within (kinds_of Series z) 5 (omega arith) in
      record { after = omega arith; onward = omega arith; within = omega arith }

  -- where there are weights there is one for each specimen
  pub weights-end : z.weighted ≡ true → start 5 + z.specimens ≡ start 6
  unfolding slots kind_at kenward_roger_kinds width
  weights-end e = let a = next_start (kinds_of Series z) 5 in let b = ap (λ (v : Bool). cond v z.specimens 0) e in omega arith

  -- ---- the sheet xs of a series of sizes z
  module _ (xs : List Float) where
    abbrev ks : List ℕ
    ks = kept_in z xs

    -- no more specimens are kept than were sent
    pub kept-in-few : length (kept_in z xs) ≤ z.specimens
    unfolding kept_in
    kept-in-few = kept-few (λ i. z.weighted && torn_at xs (start 5) i) z.specimens

    -- where there are weights these say which
    pub kept-in-weighted : z.weighted ≡ true → kept_in z xs ≡ kept_below z.specimens (torn_at xs (start 5))
    unfolding kept_in
    kept-in-weighted e = rw e

    -- where there are none all are kept, each at its own place
    none-left-out : z.weighted ≡ false → (i : ℕ) → i < z.specimens → (z.weighted && torn_at xs (start 5) i) ≡ false
    none-left-out e i _ = ap (λ (b : Bool). b && torn_at xs (start 5) i) e

    pub kept-in-all : z.weighted ≡ false → length (kept_in z xs) ≡ z.specimens
    unfolding kept_in
    kept-in-all e = kept-all (λ i. z.weighted && torn_at xs (start 5) i) z.specimens (none-left-out e)

    kept-in-self : z.weighted ≡ false → (i : ℕ) → i < length ks → get_or ks i 0 ≡ i
    unfolding kept_in
    kept-in-self e i l = let f = kept-in-few in kept_self (λ i. z.weighted && torn_at xs (start 5) i) z.specimens (none-left-out e) i (omega arith)

    -- with weights X is packed, then Z, then the weights; without them the sheet stays
    abbrev x_packed : List Float
    x_packed = packed_rows (start 1) z.coefficients ks xs

    abbrev z_packed : List Float
    z_packed = packed_rows (start 2) z.columns ks x_packed

    abbrev all_packed : List Float
    all_packed = packed_rows (start 5) 1 ks z_packed

    pub short-weighted : z.weighted ≡ true → short_sheet z xs ≡ all_packed
    unfolding short_sheet
    short-weighted e = rw (kept-in-weighted e, e)

    pub short-unweighted : z.weighted ≡ false → short_sheet z xs ≡ xs
    unfolding short_sheet
    short-unweighted e = rw e

    -- the packed rows of X end before Z starts and those of Z before the blocks start; the weights follow
    record Fronts : Type 0 where
      x_rows : start 1 + length ks * z.coefficients ≤ start 2
      z_rows : start 2 + length ks * z.columns ≤ start 3
      weights : WeightsStand

    fronts : Fronts
    fronts =
        let e = x-ends in
        let f = z-ends in
        let g : length ks * z.coefficients ≤ z.specimens * z.coefficients = mul-le-mul_right z.coefficients kept-in-few in
        let h : length ks * z.columns ≤ z.specimens * z.columns = mul-le-mul_right z.columns kept-in-few in
        record { x_rows = omega arith; z_rows = omega arith; weights = weights-stand }

    weights-front : z.weighted ≡ true → start 5 + length ks * 1 ≤ start 6
    weights-front e = let f = weights-end e in let m = kept-in-few in omega arith

    -- the packing of X leaves what stands from Z on, that of X and Z what stands after Z
    beyond-x : (q : ℕ) → start 2 ≤ q → get_or x_packed q nan ≡ get_or xs q nan
    beyond-x q l = let f = fronts in packed-other (start 1) z.coefficients ks xs q (inr (omega arith))

    beyond-z : (q : ℕ) → start 3 ≤ q → get_or z_packed q nan ≡ get_or xs q nan
    beyond-z q l = let f = fronts in packed-other (start 2) z.columns ks x_packed q (inr (omega arith)) ∙ beyond-x q (omega arith)

    -- and the packing of the weights what stands before and after them
    before-weights : (q : ℕ) → q < start 5 → get_or all_packed q nan ≡ get_or z_packed q nan
    before-weights q l = packed-other (start 5) 1 ks z_packed q (inl l)

    beyond-weights : z.weighted ≡ true → (q : ℕ) → start 6 ≤ q → get_or all_packed q nan ≡ get_or z_packed q nan
    beyond-weights e q l = let a = weights-front e in packed-other (start 5) 1 ks z_packed q (inr (omega arith))

    -- the shortened sheet is as long as it was
    pub length-short : length (short_sheet z xs) ≡ length xs
    length-short = go z.weighted refl
      where
        go : (b : Bool) → z.weighted ≡ b → length (short_sheet z xs) ≡ length xs
        go true e =
            ap length (short-weighted e) ∙ length-packed (start 5) 1 ks z_packed ∙ length-packed (start 2) z.columns ks x_packed ∙ length-packed (start 1) z.coefficients ks xs
        go false e = ap length (short-unweighted e)

    -- the blocks, the thetas and what follows the weights are as they were
    pub short-other : (q : ℕ) → ((start 3 ≤ q) × (q < start 5)) ⊎ (start 6 ≤ q) → get_or (short_sheet z xs) q nan ≡ get_or xs q nan
    short-other q o = go z.weighted refl
      where
        go : (b : Bool) → z.weighted ≡ b → get_or (short_sheet z xs) q nan ≡ get_or xs q nan
        go true e =
            let f = fronts in
            let w = weights-end e in
            ap (λ (l : List Float). get_or l q nan) (short-weighted e)
            ∙ ⊎_elim (λ u. before-weights q u.1 ∙ beyond-z q u.0) (λ u. beyond-weights e q u ∙ beyond-z q (omega arith)) o
        go false e = ap (λ (l : List Float). get_or l q nan) (short-unweighted e)

    -- where there are no weights each row is that of its specimen
    row-unweighted : z.weighted ≡ false → (a c i j : ℕ) → i < length ks → get_or (short_sheet z xs) (a + i * c + j) nan ≡ get_or xs (a + get_or ks i 0 * c + j) nan
    row-unweighted e a c i j l =
        ap (λ (l : List Float). get_or l (a + i * c + j) nan) (short-unweighted e) ∙ ap (λ (k : ℕ). get_or xs (a + k * c + j) nan) (sym (kept-in-self e i l))

    module _ (room : slot_count (kinds_of Series z) ≤ length xs) where
      -- row i of X is that of the specimen that is kept at i
      pub short-x-cell : (i j : ℕ) → i < length (kept_in z xs) → j < z.coefficients
          → get_or (short_sheet z xs) (start 1 + i * z.coefficients + j) nan ≡ get_or xs (start 1 + get_or (kept_in z xs) i 0 * z.coefficients + j) nan
      short-x-cell i j hi hj = go z.weighted refl
        where
          go : (b : Bool) → z.weighted ≡ b → get_or (short_sheet z xs) (start 1 + i * z.coefficients + j) nan ≡ get_or xs (start 1 + get_or ks i 0 * z.coefficients + j) nan
          go true e =
              let f = fronts in
              let h = packed i (length ks) j z.coefficients hi hj in
              ap (λ (l : List Float). get_or l (start 1 + i * z.coefficients + j) nan) (short-weighted e)
              ∙ before-weights (start 1 + i * z.coefficients + j) (omega arith)
              ∙ packed-other (start 2) z.columns ks x_packed (start 1 + i * z.coefficients + j) (inl (omega arith))
              ∙ packed-at (start 1) z.coefficients ks xs i j (omega arith) hi hj
          go false e = row-unweighted e (start 1) z.coefficients i j hi

      -- and so is row i of Z
      pub short-z-cell : (i j : ℕ) → i < length (kept_in z xs) → j < z.columns
          → get_or (short_sheet z xs) (start 2 + i * z.columns + j) nan ≡ get_or xs (start 2 + get_or (kept_in z xs) i 0 * z.columns + j) nan
      short-z-cell i j hi hj = go z.weighted refl
        where
          go : (b : Bool) → z.weighted ≡ b → get_or (short_sheet z xs) (start 2 + i * z.columns + j) nan ≡ get_or xs (start 2 + get_or ks i 0 * z.columns + j) nan
          go true e =
              let f = fronts in
              let m = length-packed (start 1) z.coefficients ks xs in
              let h = packed i (length ks) j z.columns hi hj in
              ap (λ (l : List Float). get_or l (start 2 + i * z.columns + j) nan) (short-weighted e)
              ∙ before-weights (start 2 + i * z.columns + j) (omega arith)
              ∙ packed-at (start 2) z.columns ks x_packed i j (omega arith) hi hj
              ∙ beyond-x (start 2 + get_or ks i 0 * z.columns + j) (omega arith)
          go false e = row-unweighted e (start 2) z.columns i j hi

      -- and weight i
      pub short-weight-cell : z.weighted ≡ true → (i : ℕ) → i < length (kept_in z xs)
          → get_or (short_sheet z xs) (start 5 + i) nan ≡ get_or xs (start 5 + get_or (kept_in z xs) i 0) nan
      short-weight-cell e i hi =
          let f = fronts in
          let w = weights-front e in
          let m = length-packed (start 1) z.coefficients ks xs in
          let o = length-packed (start 2) z.columns ks x_packed in
          ap (λ (l : List Float). get_or l (start 5 + i) nan) (short-weighted e)
          ∙ ap (λ (q : ℕ). get_or all_packed q nan) (alone (start 5) i)
          ∙ packed-at (start 5) 1 ks z_packed i 0 (omega arith) hi (omega arith)
          ∙ ap (λ (q : ℕ). get_or z_packed q nan) (sym (alone (start 5) (get_or ks i 0)))
          ∙ beyond-z (start 5 + get_or ks i 0) (omega arith)
        where
          alone : (a i : ℕ) → a + i ≡ a + i * 1 + 0
          alone a i = omega arith
