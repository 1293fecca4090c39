-- What stands in a slot after the first n records.
use Prim.Native.Nat.{ℕ, zero, suc, ◌+◌, ◌<◌, ◌≤◌}
use mathlib.Core.Path.{◌≡◌, refl, ap, ap₂, sym, ◌∙◌}
use mathlib.Core.Bool.{Bool, true, false, not, ◌||◌, ◌&&◌, cond}
use mathlib.Core.List.{List}
use native.Mathlib.Omega.{arith}
use native.Mathlib.Decide.{ℕ_discrete}
use lib.Dec.{eqb}
use lib.ListN.{length, get_or, set, replicate, length-set, length-replicate, get_or-replicate}
use lib.Seq.{get_or-set_same, get_or-set_other}
use lib.Ieee.{Float}
use borrow.Author.Tests.{eq-eqb, ne_eqb}
use Rattle.arithmetic.specs.Numbers.{plus_zero}
use Rattle.algebra.specs.Fold.{fold}
use Rattle.algebra.proofs.FoldLaws.{fold_more, fold_start, fold-keeps, fold-steps}
use Rattle.algebra.proofs.TableLaws.{row_at}
use Rattle.records.specs.declared.Kind.{Kind}
use Rattle.records.specs.declared.Sizes.{Sizes}
use Rattle.records.specs.format.Scan.{any, last}
use Rattle.records.specs.format.Kinds.{width, Table, kind_at, kinds_of, kind_numbers, limits}
use Rattle.records.specs.format.Cells.{slots, first_slot, slot_count, slot}
use Rattle.records.specs.format.File.{count, kind_of, cell_row, cell_column, cell_count, value_of, beyond, is_cell, again, has, cell, missing}
use Rattle.records_sheet.specs.joints.Sheet.{Small, first_slots, slot_of, flags_after, sheet_after, gap, missing_in}
use Rattle.records.proofs.format.ScanLaws.{or-true, any_none, any_same, last_more, last-same, total-more, total-le}
use Rattle.records.proofs.format.Slots.{Inside, sized_inside, slot-below, slot-cell, any_cells}
use Rattle.records.proofs.readers.Limits.{Below, kind-below}
use Rattle.records.specs.declared.Shape.{Shape}

-- ---- a list into which each record stores a value at a place: what the last that stored at j stored there
module _ {A : Type 0} (at : ℕ → ℕ) (v : ℕ → A) (z : A) (N : ℕ) where
  pub stored-length : (n : ℕ) → length (fold 0 n (λ i xs. set xs (at i) (v i)) (replicate N z)) ≡ N
  stored-length n = fold-keeps (λ xs. length xs ≡ N) 0 n (λ i xs. set xs (at i) (v i)) (replicate N z) (length-replicate N z) (λ k _ _ b e. length-set b (at k) (v k) ∙ e)

  store-one : (xs : List A) (i j : ℕ) (d x : A) → j < length xs → get_or xs j d ≡ x → get_or (set xs (at i) (v i)) j d ≡ cond (eqb (at i) j) (v i) x
  store-one xs i j d x l e = go (ℕ_discrete (at i) j)
    where
      go : Dec (at i ≡ j) → get_or (set xs (at i) (v i)) j d ≡ cond (eqb (at i) j) (v i) x
      go (yes q) = rw (eq-eqb (at i) j q, q) (get_or-set_same xs j (v i) d l)
      go (no q) = rw (ne_eqb (at i) j q) (get_or-set_other xs (at i) j (v i) d (λ p. q (sym p)) ∙ e)

  pub stored : (n j : ℕ) (d : A) → j < N → get_or (fold 0 n (λ i xs. set xs (at i) (v i)) (replicate N z)) j d ≡ last n (λ i. eqb (at i) j) v z
  unfolding last
  stored n j d l =
      (fold-steps (λ k xs. (length xs ≡ N) × (get_or xs j d ≡ last k (λ i. eqb (at i) j) v z)) 0 n (λ i xs. set xs (at i) (v i)) (replicate N z) (omega arith)
      (length-replicate N z, get_or-replicate N j z d l)
      (λ k _ _ b e. (length-set b (at k) (v k) ∙ e.0, store-one b k j d (last k (λ i. eqb (at i) j) v z) (omega arith) e.1 ∙ sym (last_more k (λ i. eqb (at i) j) v z)))
      ).1

-- a flag that is set and never taken back
last-any : (n : ℕ) (p : ℕ → Bool) → last n p (λ i. true) false ≡ any n p
unfolding last any
last-any zero p = refl
last-any (suc n) p = go (p n) (any n p) (last-any n p)
  where
    go : (b a : Bool) {l : Bool} → l ≡ a → cond b true l ≡ a || b
    go true a e = sym (or-true a)
    go false true e = e
    go false false e = e

-- ---- N flags and N numbers
module _ (N : ℕ) (t : Table) (s : List ℕ) where
  flags-at : (n j : ℕ) (d : Bool) → j < N → get_or (flags_after N t s n) j d ≡ any n (λ i. eqb (slot_of t s i) j)
  unfolding flags_after
  flags-at n j d l = stored (slot_of t s) (λ i. true) false N n j d l ∙ last-any n (λ i. eqb (slot_of t s i) j)

  sheet-at : (n j : ℕ) (d : Float) → j < N → get_or (sheet_after N t s n) j d ≡ last n (λ i. eqb (slot_of t s i) j) (value_of s) plus_zero
  unfolding sheet_after
  sheet-at n j d l = stored (slot_of t s) (value_of s) plus_zero N n j d l

  pub length-flags : (n : ℕ) → length (flags_after N t s n) ≡ N
  unfolding flags_after
  length-flags n = stored-length (slot_of t s) (λ i. true) false N n

  pub length-sheet : (n : ℕ) → length (sheet_after N t s n) ≡ N
  unfolding sheet_after
  length-sheet n = stored-length (slot_of t s) (value_of s) plus_zero N n

  -- no record yet, and one record more
  pub flags-start : (fs : List Bool) → fs ≡ replicate N false → fs ≡ flags_after N t s 0
  unfolding flags_after
  flags-start fs e = e ∙ fold_start 0 (λ i fs. set fs (slot_of t s i) true) (replicate N false)

  pub flags-next : (i at : ℕ) (fs : List Bool) → fs ≡ flags_after N t s i → at ≡ slot_of t s i → set fs at true ≡ flags_after N t s (i + 1)
  unfolding flags_after
  flags-next i at fs e f = ap₂ (λ (l : List Bool) (j : ℕ). set l j true) e f ∙ sym (fold_more 0 i (λ i fs. set fs (slot_of t s i) true) (replicate N false) (omega arith))

  pub sheet-start : (xs : List Float) → xs ≡ replicate N plus_zero → xs ≡ sheet_after N t s 0
  unfolding sheet_after
  sheet-start xs e = e ∙ fold_start 0 (λ i xs. set xs (slot_of t s i) (value_of s i)) (replicate N plus_zero)

  pub sheet-next : (i at : ℕ) (xs : List Float) (v : Float) → xs ≡ sheet_after N t s i → at ≡ slot_of t s i → v ≡ value_of s i → set xs at v ≡ sheet_after N t s (i + 1)
  unfolding sheet_after
  sheet-next i at xs v e f g =
      ap₂ (λ (l : List Float) (j : ℕ). set l j v) e f
      ∙ ap (λ (x : Float). set (fold 0 i (λ i xs. set xs (slot_of t s i) (value_of s i)) (replicate N plus_zero)) (slot_of t s i) x) g
      ∙ sym (fold_more 0 i (λ i xs. set xs (slot_of t s i) (value_of s i)) (replicate N plus_zero) (omega arith))

-- ---- a file within the sizes z of a call: the flag of a cell says whether the file has it, and the sheet has its number
module _ (file : Shape) (z : Sizes) (s : List ℕ) (sized : any (count s) (beyond (kinds_of file z) s) ≡ false) (N : ℕ) (room : slot_count (kinds_of file z) ≤ N) where
  abbrev t : Table
  t = kinds_of file z

  within-sizes : (i : ℕ) → i < count s → beyond t s i ≡ false
  within-sizes i l = any_none (count s) (beyond t s) i l sized

  pub slot-fits : (k n r c : ℕ) → Inside (kind_at t k) n r c → slot t k n r c < N
  slot-fits k n r c w = let a = slot-below t k n r c kind_numbers w (kind-below file z k n r c w) in omega arith

  pub slot-of-fits : (i : ℕ) → i < count s → slot_of t s i < N
  slot-of-fits i l = slot-fits (kind_of s i) (cell_count t s i) (cell_row t s i) (cell_column t s i) (sized_inside t s i (within-sizes i l))

  pub cell-flag : (k n r c : ℕ) (d : Bool) → Inside (kind_at t k) n r c → get_or (flags_after N t s (count s)) (slot t k n r c) d ≡ has t s k n r c
  unfolding has
  cell-flag k n r c d w =
      flags-at N t s (count s) (slot t k n r c) d (slot-fits k n r c w)
      ∙ any_same (count s) (λ i. eqb (slot_of t s i) (slot t k n r c)) (is_cell t s k n r c) (λ i l. slot-cell t s k n r c i (within-sizes i l) w)

  pub cell-value : (k n r c : ℕ) (d : Float) → Inside (kind_at t k) n r c → get_or (sheet_after N t s (count s)) (slot t k n r c) d ≡ cell t s k n r c
  unfolding cell
  cell-value k n r c d w =
      sheet-at N t s (count s) (slot t k n r c) d (slot-fits k n r c w)
      ∙ last-same (count s) (λ i. eqb (slot_of t s i) (slot t k n r c)) (is_cell t s k n r c) (value_of s) (value_of s) plus_zero (λ i l. slot-cell t s k n r c i (within-sizes i l) w) (λ i l q. refl)

  -- the flag at record i's slot, before it is set: an earlier record names the same cell
  pub flag-again : (i : ℕ) (d : Bool) → i < count s → get_or (flags_after N t s i) (slot_of t s i) d ≡ again t s i
  unfolding again
  flag-again i d l =
      flags-at N t s i (slot_of t s i) d (slot-of-fits i l)
      ∙ any_same i (λ m. eqb (slot_of t s m) (slot_of t s i)) (is_cell t s (kind_of s i) (cell_count t s i) (cell_row t s i) (cell_column t s i))
      (λ m h. slot-cell t s (kind_of s i) (cell_count t s i) (cell_row t s i) (cell_column t s i) m (within-sizes m (omega arith)) (sized_inside t s i (within-sizes i l)))

  -- the same by the flags and the slot that a loop has
  pub flag-read : (i at : ℕ) (flags : List Bool) (b : Bool) → i < count s → flags ≡ flags_after N t s i → at ≡ slot_of t s i → get_or flags at false ≡ b → again t s i ≡ b
  flag-read i at flags b l e g r = sym (flag-again i false l) ∙ sym (ap₂ (λ (fs : List Bool) (j : ℕ). get_or fs j false) e g) ∙ r

  -- a kind misses a cell where one of its flags is not set
  pub missing-read : (k : ℕ) → missing_in t (flags_after N t s (count s)) k ≡ missing t s k
  unfolding missing_in missing gap slot
  missing-read k =
      let z : Kind = kind_at t k in
      ap (λ (b : Bool). not z.sparse && b)
      (any_cells z (λ j. not (get_or (flags_after N t s (count s)) (first_slot t k + j) false))
      ∙ any_same (width z.count) _ _ (λ n l. any_same (width z.row) _ _ (λ r m. any_same (width z.column) _ _ (λ c o. ap not (cell-flag k n r c false (record { number = l; row = m; column = o }))))))

  pub any-missing-read : any kind_numbers (missing_in t (flags_after N t s (count s))) ≡ any kind_numbers (missing t s)
  any-missing-read = any_same kind_numbers (missing_in t (flags_after N t s (count s))) (missing t s) (λ k _. missing-read k)

-- ---- sizes that a byte can name leave each kind small widths

-- sizes below the limits of a w that a byte can name are small
pub below-small : (z : Sizes) (w : ℕ) → w ≤ 256 → Below z (limits w) → Small z
unfolding limits
below-small z w h b =
    let a0 = b.specimens in
    let a1 = b.coefficients in
    let a2 = b.columns in
    let a3 = b.blocks in
    let a4 = b.thetas in
    let a5 = b.contrasts in
    let a6 = b.parameters in
    record { specimens = omega arith; coefficients = omega arith; columns = omega arith; blocks = omega arith; thetas = omega arith; contrasts = omega arith; parameters = omega arith }

-- the first slots as the code counts them
pub firsts_at : (t : Table) (k : ℕ) → k < 34 → get_or (first_slots t) k 0 ≡ first_slot t k
unfolding first_slots
firsts_at t k l = row_at 0 34 34 (first_slot t) k 0 l (omega arith)

-- the next kind starts where this one ends, and every kind ends within the slots
pub next_start : (t : Table) (k : ℕ) → first_slot t (k + 1) ≡ first_slot t k + slots (kind_at t k)
unfolding first_slot
next_start t k = total-more k (λ j. slots (kind_at t j))

pub ends-within : (t : Table) (k : ℕ) → k < kind_numbers → first_slot t k + slots (kind_at t k) ≤ slot_count t
unfolding first_slot
ends-within t k l = let a = total-more k (λ j. slots (kind_at t j)) in let b = total-le (k + 1) kind_numbers (λ j. slots (kind_at t j)) (omega arith) in omega arith
