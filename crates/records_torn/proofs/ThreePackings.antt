-- How X, Z and the weights are packed one after another: what each packing asks of the sheet, and that the three make the shortened sheet.
use Prim.Native.Nat.{ℕ, zero, suc, ◌+◌, ◌*◌, ◌<◌, ◌≤◌}
use native.Mathlib.Nat.{mul-le-mul_right}
use native.Mathlib.Omega.{arith}
use mathlib.Core.Path.{◌≡◌, ap, sym, ◌∙◌}
use mathlib.Core.Bool.{true}
use mathlib.Core.List.{List}
use lib.ListN.{length, get_or}
use lib.Ieee.{Float}
use Rattle.records.specs.declared.Sizes.{Sizes}
use Rattle.records.specs.format.Kinds.{kinds_of}
use Rattle.records.specs.format.Cells.{first_slot, slot_count}
use Rattle.records.specs.readers.Shortened.{kept_below}
use Rattle.records.proofs.readers.KeptLaws.{kept-few}
use Rattle.records_sheet.specs.joints.Sheet.{first_slots}
use Rattle.records_sheet.proofs.Sheets.{firsts_at}
use Rattle.records_torn.specs.joints.Packed.{Packs, torn_at, packed_rows, kept_in, short_sheet}
use Rattle.records_torn.proofs.PackedRows.{packed-kept}
use Rattle.records_torn.proofs.ShortSheet.{x-ends, z-ends, weights-stand, weights-end, kept-in-weighted, short-weighted}
use Rattle.records.specs.declared.Shape.TheVariants.{Series}

-- rows that start no later than the weights, and end no later, can be packed: none of them starts after its specimen's weight
pub packs-fit : {a c w n len : ℕ} → a ≤ w → a + n * c ≤ w + n → w + n ≤ len → Packs a c w n len
packs-fit {a} {c} {w} {n} {len} f l m = record { rows = omega arith; weighed = m; ahead = λ i h. go i h c l }
  where
    go : (i : ℕ) → i < n → (c : ℕ) → a + n * c ≤ w + n → a + i * c ≤ w + i
    go i h zero l = omega arith
    go i h (suc d) l = let k : i * d ≤ n * d = mul-le-mul_right d (omega arith) in omega arith

-- ---- a series with weights, whose kinds start at fs
module _ (z : Sizes) (weighted : z.weighted ≡ true) (fs : List ℕ) (firsts : fs ≡ first_slots (kinds_of Series z)) where
  starts-at : (k : ℕ) → k < 34 → get_or fs k 0 ≡ first_slot (kinds_of Series z) k
  starts-at k l = ap (λ (x : List ℕ). get_or x k 0) firsts ∙ firsts_at (kinds_of Series z) k l

  -- X and Z end before the weights, and these within the sheet
  pub record SheetOrder : Type 0 where
    pub x : get_or fs 1 0 + z.specimens * z.coefficients ≤ get_or fs 5 0
    pub random : get_or fs 2 0 + z.specimens * z.columns ≤ get_or fs 5 0
    pub weights : get_or fs 5 0 + z.specimens ≤ slot_count (kinds_of Series z)

  pub sheet-order : SheetOrder
  sheet-order =
      let a = starts-at 1 (omega arith) in
      let b = starts-at 2 (omega arith) in
      let c = starts-at 5 (omega arith) in
      let d = x-ends z in
      let e = z-ends z in
      let f = weights-stand z in
      let g = weights-end z weighted in
      record { x = omega arith; random = omega arith; weights = omega arith }

  -- the specimens that are kept by the weights on a sheet
  abbrev kept_of : List Float → List ℕ
  kept_of xs = kept_below z.specimens (torn_at xs (get_or fs 5 0))

  -- the same are kept where rows before the weights have been packed
  same_kept : (a c : ℕ) (xs ys : List Float) → a + z.specimens * c ≤ get_or fs 5 0 → ys ≡ packed_rows a c (kept_of xs) xs → kept_of ys ≡ kept_of xs
  same_kept a c xs ys l e =
      let m : length (kept_of xs) * c ≤ z.specimens * c = mul-le-mul_right c (kept-few (torn_at xs (get_or fs 5 0)) z.specimens) in
      ap kept_of e ∙ packed-kept a c (kept_of xs) xs (get_or fs 5 0) z.specimens (omega arith)

  kept_on : (xs : List Float) → kept_of xs ≡ kept_in z xs
  kept_on xs = ap (λ (w : ℕ). kept_below z.specimens (torn_at xs w)) (starts-at 5 (omega arith)) ∙ sym (kept-in-weighted z xs weighted)

  -- xs is xp after the packing of X, zp after that of Z and wp after that of the weights: the last kept the specimens that are kept of xs, and made the shortened sheet
  pub three-packings : (xs xp zp wp : List Float)
      → xp ≡ packed_rows (get_or fs 1 0) z.coefficients (kept_of xs) xs
      → zp ≡ packed_rows (get_or fs 2 0) z.columns (kept_of xp) xp
      → wp ≡ packed_rows (get_or fs 5 0) 1 (kept_of zp) zp
      → (kept_of zp ≡ kept_in z xs) × (wp ≡ short_sheet z xs)
  three-packings xs xp zp wp ex ez ew =
      let kx : kept_of xp ≡ kept_in z xs = same_kept (get_or fs 1 0) z.coefficients xs xp sheet-order.x ex ∙ kept_on xs in
      let kz : kept_of zp ≡ kept_in z xs = same_kept (get_or fs 2 0) z.columns xp zp sheet-order.random ez ∙ kx in
      (kz, rw (short-weighted z xs weighted, ew, kz, ez, kx, ex, kept_on xs, starts-at 1 (omega arith), starts-at 2 (omega arith), starts-at 5 (omega arith)))
