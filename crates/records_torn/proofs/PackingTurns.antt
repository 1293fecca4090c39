-- The loop that packs rows, turn by turn: what it has done after i specimens, and that the weight and the row of the next are still those that were sent.
use Prim.Native.Nat.{ℕ, ◌+◌, ◌*◌, ◌<◌, ◌≤◌}
use native.Mathlib.Nat.{mul-le-mul_right}
use native.Mathlib.Omega.{arith}
use mathlib.Core.Path.{◌≡◌, refl, ap, ap₂, sym, ◌∙◌}
use mathlib.Core.Bool.{true, false}
use mathlib.Core.List.{List, [], ◌∷◌}
use mathlib.Core.Logic.{inr}
use lib.ListN.{length, get_or, length-append}
use lib.Ieee.{Float, nan}
use Rattle.arithmetic.specs.Numbers.{is_zero}
use Rattle.algebra_large.specs.joints.Slab.{put_row}
use Rattle.algebra_large.proofs.SlabLaws.{row_in, length-put_row, put_row-ext}
use Rattle.records.specs.readers.Shortened.{kept_below}
use Rattle.records.proofs.readers.KeptLaws.{kept-skip, kept-take}
use Rattle.records_torn.specs.joints.Packed.{Packs, torn_at, packed_rows}
use Rattle.records_torn.proofs.PackedRows.{packed-other, packed_none, packed-next}

-- after i specimens of xs, of which `kept` are not torn, the list is ys
pub record PackedTo (a c w : ℕ) (xs : List Float) (kept i : ℕ) (ys : List Float) : Type 0 where
  pub number : kept ≡ length (kept_below i (torn_at xs w))
  pub few : kept ≤ i
  pub long : length ys ≡ length xs
  pub rows : ys ≡ packed_rows a c (kept_below i (torn_at xs w)) xs

-- before the first specimen
pub packing-starts : (a c w : ℕ) (xs : List Float) → PackedTo a c w xs 0 0 xs
unfolding kept_below
packing-starts a c w xs = record { number = refl; few = omega arith; long = refl; rows = packed_none a c xs }

-- ---- the turn of specimen i
module _ {a c w : ℕ} {xs : List Float} {kept i : ℕ} {ys : List Float} (h : PackedTo a c w xs kept i ys) where
  abbrev ks : List ℕ
  ks = kept_below i (torn_at xs w)

  -- from row i on nothing has moved
  unmoved : (q : ℕ) → a + i * c ≤ q → get_or ys q nan ≡ get_or xs q nan
  unmoved q l =
      let f : kept * c ≤ i * c = mul-le-mul_right c h.few in
      let e : kept * c ≡ length ks * c = ap (λ (m : ℕ). m * c) h.number in
      ap (λ (l : List Float). get_or l q nan) h.rows ∙ packed-other a c ks xs q (inr (omega arith))

  module _ (ahead : a + i * c ≤ w + i) where
    -- the weight of specimen i says what it said at first
    torn-now : is_zero (get_or ys (w + i) nan) ≡ torn_at xs w i
    torn-now = ap is_zero (unmoved (w + i) ahead)

    -- specimen i is torn, and the list stays; or it is not, and its row is moved
    pub packing-skips : {kept' : ℕ} {zs : List Float} → is_zero (get_or ys (w + i) nan) ≡ true → kept' ≡ kept → zs ≡ ys → PackedTo a c w xs kept' (i + 1) zs
    packing-skips e m q =
        let k = kept-skip (torn_at xs w) i (sym torn-now ∙ e) in
        let l = h.few in
        record { number = m ∙ h.number ∙ ap length (sym k); few = omega arith; long = ap length q ∙ h.long; rows = q ∙ h.rows ∙ ap (λ (l : List ℕ). packed_rows a c l xs) (sym k) }

    pub packing-takes : {kept' : ℕ} {zs : List Float} → is_zero (get_or ys (w + i) nan) ≡ false → kept' ≡ kept + 1 → zs ≡ put_row (a + kept * c) c (λ j. get_or ys (a + i * c + j) nan) ys
        → PackedTo a c w xs kept' (i + 1) zs
    packing-takes e m q =
        let k = kept-take (torn_at xs w) i (sym torn-now ∙ e) in
        let l = h.few in
        let n = h.number in
        let o = ap length k ∙ length-append ks (i ∷ []) in
        record {
          number = omega arith;
          few = omega arith;
          long = ap length q ∙ length-put_row (a + kept * c) c (λ j. get_or ys (a + i * c + j) nan) ys ∙ h.long;
          rows =
              q
              ∙ put_row-ext (a + kept * c) c (λ j. get_or ys (a + i * c + j) nan) (λ j. get_or xs (a + i * c + j) nan) ys (λ j _. unmoved (a + i * c + j) (omega arith))
              ∙ ap₂ (λ (m : ℕ) (l : List Float). put_row (a + m * c) c (λ j. get_or xs (a + i * c + j) nan) l) h.number h.rows
              ∙ sym (packed-next a c ks i xs)
              ∙ ap (λ (l : List ℕ). packed_rows a c l xs) (sym k);
        }

  -- row i and the place that it is moved to lie in the list, this one not after that
  pub record RowPlaces (len : ℕ) : Type 0 where
    pub row : a + i * c + c ≤ len
    pub front : kept * c ≤ i * c

  pub row-places : {n len : ℕ} → Packs a c w n len → i < n → RowPlaces len
  row-places {n} {len} p l = let r : i * c + c ≤ n * c = row_in c n c i l (omega arith) in let e = p.rows in record { row = omega arith; front = mul-le-mul_right c h.few }
