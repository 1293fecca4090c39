-- The file without its torn specimens (specs/promises/TornKeeps.antt), of a series that the reader accepts: each of its records is one of the file as sent, a specimen's under its new number, and each of its cells holds
-- what the cell of the file as sent holds.
use Prim.Native.Nat.{ℕ, ◌<◌, ◌≤◌}
use mathlib.Core.Path.{◌≡◌, refl, ap, sym, ◌∙◌, subst}
use mathlib.Core.Bool.{Bool, true, false, not, ◌||◌, ◌&&◌, cond, false≢true}
use mathlib.Core.List.{List, [], ◌∷◌}
use native.Mathlib.Omega.{arith}
use lib.Dec.{eqb}
use lib.ListN.{length, get_or}
use lib.Ieee.{binary64, of_bits}
use borrow.Author.Tests.{eq-eqb, eqb-true, ltb-true}
use Rattle.arithmetic.specs.Numbers.{plus_zero}
use Rattle.records.specs.declared.Field.TheVariants.{Index}
use Rattle.records.specs.declared.Kind.{Kind}
use Rattle.records.specs.declared.Sizes.{Sizes}
use Rattle.records.specs.format.Scan.{any, most, last}
use Rattle.records.specs.format.Kinds.{holds, index_of, Table, kind_at, unread, kenward_roger_kinds}
use Rattle.records.specs.format.File.{count, kind_of, row_of, column_of, count_of, value_of, cell_count, cell_row, cell_column, is_cell, has, cell, beyond}
use Rattle.records.specs.readers.Shortened.{torn, kept_specimens}
use Rattle.records.specs.readers.Series.{specimens, sizes, kinds, cell_value, block_of, as_sent}
use Rattle.records.specs.promises.TornKeeps.{of_specimen, of_torn, new_row, without_torn}
use Rattle.records.proofs.format.ScanLaws.{same_truth, any_none, any_same, most-same, last-same}
use Rattle.records.proofs.format.Slots.{within, cell-names}
use Rattle.records.proofs.readers.KeptLaws.{kept-few, kept_at, kept-as}
use Rattle.records.proofs.readers.ShortLaws.{kept-below}
use Rattle.records.proofs.readers.KeptScans.{any-kept, most-kept, last-kept}
use Rattle.records.proofs.readers.AcceptedSeries.{AcceptedSeries}
use Rattle.records.proofs.promises.TakenFields.{kept_records, taken-fields}

-- ---- the kinds of which a row is a specimen
-- what holds of X, Z and the weights holds of each
specimen-kind : (P : ℕ → Type 0) → P 1 → P 2 → P 5 → (k : ℕ) → of_specimen k ≡ true → P k
unfolding of_specimen
specimen-kind P x z weights k e = go (eqb k 1) refl (eqb k 2) refl (eqb k 5) refl e
  where
    go : (a : Bool) → eqb k 1 ≡ a → (b : Bool) → eqb k 2 ≡ b → (c : Bool) → eqb k 5 ≡ c → a || b || c ≡ true → P k
    go true p b q c r h = subst P (sym (eqb-true k 1 p)) x
    go false p true q c r h = subst P (sym (eqb-true k 2 q)) z
    go false p false q true r h = subst P (sym (eqb-true k 5 r)) weights
    go false p false q false r h = absurd (false≢true h)

-- they have a row for each specimen, or none where there are no weights
abbrev pub has_specimens : Sizes → ℕ → Bool
has_specimens z k = cond (eqb k 5) z.weighted true

pub specimen-rows : (z : Sizes) (k : ℕ) → of_specimen k ≡ true → (kind_at (kenward_roger_kinds z) k).row ≡ Index (cond (has_specimens z k) z.specimens 0)
unfolding kind_at kenward_roger_kinds
specimen-rows z = specimen-kind (λ k. (kind_at (kenward_roger_kinds z) k).row ≡ Index (cond (has_specimens z k) z.specimens 0)) refl refl refl

-- ---- a part of each kind: two tables that list the same of it say the same of it
module _ {A : Type 0} (part : Kind → A) where
  abbrev pub part_at : Table → ℕ → A
  part_at [] k = part unread
  part_at (e ∷ t) k = cond (eqb k e.0) (part e.1) (part_at t k)

  part-listed : (t : Table) (k : ℕ) → part (kind_at t k) ≡ part_at t k
  unfolding kind_at
  part-listed [] k = refl
  part-listed (e ∷ t) k = go (eqb k e.0) (part-listed t k)
    where
      go : (b : Bool) → part (kind_at t k) ≡ part_at t k → part (cond b e.1 (kind_at t k)) ≡ cond b (part e.1) (part_at t k)
      go true h = refl
      go false h = h

  pub same-part : (t u : Table) (k : ℕ) → part_at t k ≡ part_at u k → part (kind_at t k) ≡ part (kind_at u k)
  same-part t u k e = part-listed t k ∙ e ∙ sym (part-listed u k)

-- by which index a field names a cell does not depend on the sizes
module _ (y z : Sizes) (k x : ℕ) where
  index-row : index_of (kind_at (kenward_roger_kinds y) k).row x ≡ index_of (kind_at (kenward_roger_kinds z) k).row x
  unfolding kenward_roger_kinds index_of
  index-row = same-part (λ (u : Kind). index_of u.row x) (kenward_roger_kinds y) (kenward_roger_kinds z) k refl

  index-column : index_of (kind_at (kenward_roger_kinds y) k).column x ≡ index_of (kind_at (kenward_roger_kinds z) k).column x
  unfolding kenward_roger_kinds index_of
  index-column = same-part (λ (u : Kind). index_of u.column x) (kenward_roger_kinds y) (kenward_roger_kinds z) k refl

  index-count : index_of (kind_at (kenward_roger_kinds y) k).count x ≡ index_of (kind_at (kenward_roger_kinds z) k).count x
  unfolding kenward_roger_kinds index_of
  index-count = same-part (λ (u : Kind). index_of u.count x) (kenward_roger_kinds y) (kenward_roger_kinds z) k refl

-- ---- the specimens that are left, and the one that has the new number r
abbrev pub specimens_left : List ℕ → ℕ
specimens_left s = length (kept_specimens (as_sent s))

abbrev pub sent_specimen : List ℕ → ℕ → ℕ
sent_specimen s r = get_or (kept_specimens (as_sent s)) r 0

module _ (s : List ℕ) where
  -- it is one of the file's, it is not torn, and its new number is r
  pub sent-below : (r : ℕ) → r < specimens_left s → sent_specimen s r < specimens s
  sent-below = kept-below s

  pub sent-stays : (r : ℕ) → r < specimens_left s → torn (as_sent s) (sent_specimen s r) ≡ false
  sent-stays r l = (kept_at (torn (as_sent s)) (as_sent s).n r l).stays

  sent-new : (r : ℕ) → r < specimens_left s → new_row s (sent_specimen s r) ≡ r
  unfolding new_row
  sent-new r l = (kept_at (torn (as_sent s)) (as_sent s).n r l).place

  -- a new number is no larger
  new-few : (r : ℕ) → new_row s r ≤ r
  unfolding new_row
  new-few = kept-few (torn (as_sent s))

  -- a specimen that is not torn has a new number, and is found by it; specimens after it have larger ones
  module _ (r : ℕ) (stays : torn (as_sent s) r ≡ false) where
    new-below : r < specimens s → new_row s r < specimens_left s
    unfolding new_row as_sent
    new-below l = (kept-as (torn (as_sent s)) (specimens s) r l stays).within

    new-sent : r < specimens s → sent_specimen s (new_row s r) ≡ r
    unfolding new_row as_sent
    new-sent l = (kept-as (torn (as_sent s)) (specimens s) r l stays).same

    pub new-rises : (q : ℕ) → r < q → new_row s r < new_row s q
    unfolding new_row
    new-rises q l = (kept-as (torn (as_sent s)) q r l stays).within

    -- so it is asked for by either number
    new-asked : (q : ℕ) → r < specimens s → q < specimens_left s → eqb (new_row s r) q ≡ eqb r (sent_specimen s q)
    new-asked q l h =
        same_truth (eqb (new_row s r) q) (eqb r (sent_specimen s q))
        (λ e. eq-eqb r (sent_specimen s q) (sym (new-sent l) ∙ ap (sent_specimen s) (eqb-true (new_row s r) q e)))
        (λ e. eq-eqb (new_row s r) q (ap (new_row s) (eqb-true r (sent_specimen s q) e) ∙ sent-new q h))

-- ---- the records that are left, and the one of the file as sent that is record j of them; row r of kind k is then this row
abbrev pub records_left : List ℕ → ℕ
records_left s = length (kept_records s)

abbrev pub sent_record : List ℕ → ℕ → ℕ
sent_record s j = get_or (kept_records s) j 0

abbrev pub sent_row : List ℕ → ℕ → ℕ → ℕ
sent_row s k r = cond (of_specimen k) (sent_specimen s r) r

-- a question that only those pass which stay
asked-left : (out p : Bool) → (p ≡ true → out ≡ false) → not out && p ≡ p
asked-left out true h = rw (h refl)
asked-left true false h = refl
asked-left false false h = refl

module _ (s : List ℕ) where
  pub count-taken : count (without_torn s) ≡ records_left s
  count-taken = let e = (taken-fields s).size in omega arith

  pub record-below : (j : ℕ) → j < records_left s → sent_record s j < count s
  record-below j l = (kept_at (of_torn s) (count s) j l).below

  -- a record of another kind than a specimen's stays; a specimen's stays where the specimen is not torn
  pub other-stays : (i : ℕ) → of_specimen (kind_of s i) ≡ false → of_torn s i ≡ false
  unfolding of_torn
  other-stays i e = rw e

  pub specimen-stays : (i : ℕ) → of_specimen (kind_of s i) ≡ true → of_torn s i ≡ torn (as_sent s) (row_of s i)
  unfolding of_torn
  specimen-stays i e = rw e

  pub record-stays : (j : ℕ) → j < records_left s → of_specimen (kind_of s (sent_record s j)) ≡ true → torn (as_sent s) (row_of s (sent_record s j)) ≡ false
  record-stays j l e = sym (specimen-stays (sent_record s j) e) ∙ (kept_at (of_torn s) (count s) j l).stays

  -- its row is the specimen's new number, or the row that it was; none is larger than it was
  pub specimen-row : (j : ℕ) → j < records_left s → of_specimen (kind_of s (sent_record s j)) ≡ true → row_of (without_torn s) j ≡ new_row s (row_of s (sent_record s j))
  specimen-row j l e = (taken-fields s).row j l ∙ rw e

  pub unchanged-row : (j : ℕ) → j < records_left s → of_specimen (kind_of s (sent_record s j)) ≡ false → row_of (without_torn s) j ≡ row_of s (sent_record s j)
  unchanged-row j l e = (taken-fields s).row j l ∙ rw e

  pub row-no-larger : (j : ℕ) → j < records_left s → row_of (without_torn s) j ≤ row_of s (sent_record s j)
  row-no-larger j l = go (of_specimen (kind_of s (sent_record s j))) refl
    where
      go : (b : Bool) → of_specimen (kind_of s (sent_record s j)) ≡ b → row_of (without_torn s) j ≤ row_of s (sent_record s j)
      go true e = let q = specimen-row j l e in let b = new-few s (row_of s (sent_record s j)) in omega arith
      go false e = let q = unchanged-row j l e in omega arith

  -- a question of the records that are left is a question of the file's, where those that are taken out have no say
  any-taken : (p q : ℕ → Bool) → ((j : ℕ) → j < records_left s → p j ≡ q (sent_record s j)) → ((i : ℕ) → i < count s → q i ≡ true → of_torn s i ≡ false)
      → any (count (without_torn s)) p ≡ any (count s) q
  any-taken p q same stays =
      ap (λ (n : ℕ). any n p) count-taken
      ∙ any_same (records_left s) p (λ j. q (sent_record s j)) same
      ∙ any-kept (of_torn s) (count s) q
      ∙ any_same (count s) (λ i. not (of_torn s i) && q i) q (λ i l. asked-left (of_torn s i) (q i) (stays i l))

  last_taken : {A : Type 0} (p q : ℕ → Bool) (g h : ℕ → A) (d : A) → ((j : ℕ) → j < records_left s → p j ≡ q (sent_record s j)) → ((i : ℕ) → i < count s → q i ≡ true → of_torn s i ≡ false)
      → ((j : ℕ) → j < records_left s → g j ≡ h (sent_record s j)) → last (count (without_torn s)) p g d ≡ last (count s) q h d
  last_taken p q g h d same stays answers =
      ap (λ (n : ℕ). last n p g d) count-taken
      ∙ last-same (records_left s) p (λ j. q (sent_record s j)) g (λ j. h (sent_record s j)) d same (λ j l e. answers j l)
      ∙ last-kept (of_torn s) (count s) q h d
      ∙ last-same (count s) (λ i. not (of_torn s i) && q i) q h h d (λ i l. asked-left (of_torn s i) (q i) (stays i l)) (λ i l e. refl)

  pub most-taken : (g h : ℕ → ℕ) → ((j : ℕ) → j < records_left s → g j ≡ h (sent_record s j)) → ((i : ℕ) → i < count s → of_torn s i ≡ true → h i ≡ 0) → most (count (without_torn s)) g ≡ most (count s) h
  most-taken g h same none =
      ap (λ (n : ℕ). most n g) count-taken
      ∙ most-same (records_left s) g (λ j. h (sent_record s j)) same
      ∙ most-kept (of_torn s) (count s) h
      ∙ most-same (count s) (λ i. cond (of_torn s i) 0 (h i)) h (λ i l. go (of_torn s i) (h i) (none i l))
    where
      go : (b : Bool) (x : ℕ) → (b ≡ true → x ≡ 0) → cond b 0 x ≡ x
      go true x e = sym (e refl)
      go false x e = refl

-- ---- of a series that the reader accepts
module _ (w : ℕ) (s : List ℕ) (a : AcceptedSeries w s) where
  -- the specimen of a record is below n, and its new number below the specimens that are left
  pub specimen-below : (i : ℕ) → i < count s → of_specimen (kind_of s i) ≡ true → row_of s i < specimens s
  unfolding beyond holds sizes
  specimen-below i l e =
      let h = (within (kind_at (kinds s) (kind_of s i)) s i (any_none (count s) (beyond (kinds s) s) i l a.formed.within)).row in
      go (has_specimens (sizes s) (kind_of s i)) (rw (specimen-rows (sizes s) (kind_of s i) e) at h)
    where
      go : (b : Bool) → holds (Index (cond b (specimens s) 0)) (row_of s i) ≡ true → row_of s i < specimens s
      go true h = ltb-true (row_of s i) (specimens s) h
      go false h = let z = ltb-true (row_of s i) 0 h in absurd (omega arith)

  pub specimen-row-below : (j : ℕ) → j < records_left s → of_specimen (kind_of s (sent_record s j)) ≡ true → row_of (without_torn s) j < specimens_left s
  specimen-row-below j l e =
      let q = specimen-row s j l e in
      let b = new-below s (row_of s (sent_record s j)) (record-stays s j l e) (specimen-below (sent_record s j) (record-below s j l) e) in
      omega arith

  -- a record that is left names the count and the column that it named, and its row by the new number
  count-named : (j : ℕ) → j < records_left s → cell_count (kinds (without_torn s)) (without_torn s) j ≡ cell_count (kinds s) s (sent_record s j)
  count-named j l = rw ((taken-fields s).kind j l, (taken-fields s).number j l) (index-count (sizes (without_torn s)) (sizes s) (kind_of s (sent_record s j)) (count_of s (sent_record s j)))

  column-named : (j : ℕ) → j < records_left s → cell_column (kinds (without_torn s)) (without_torn s) j ≡ cell_column (kinds s) s (sent_record s j)
  column-named j l = rw ((taken-fields s).kind j l, (taken-fields s).column j l) (index-column (sizes (without_torn s)) (sizes s) (kind_of s (sent_record s j)) (column_of s (sent_record s j)))

  row_named : (j r : ℕ) → j < records_left s → (of_specimen (kind_of s (sent_record s j)) ≡ true → r < specimens_left s)
      → eqb (cell_row (kinds (without_torn s)) (without_torn s) j) r ≡ eqb (cell_row (kinds s) s (sent_record s j)) (sent_row s (kind_of s (sent_record s j)) r)
  unfolding index_of
  row_named j r l h = rw ((taken-fields s).kind j l, (taken-fields s).row j l) (go (of_specimen (kind_of s i)) refl)
    where
      i : ℕ
      i = sent_record s j

      go : (b : Bool) → of_specimen (kind_of s i) ≡ b
          → eqb (index_of (kind_at (kinds (without_torn s)) (kind_of s i)).row (cond b (new_row s (row_of s i)) (row_of s i))) r ≡ eqb (cell_row (kinds s) s i) (cond b (sent_specimen s r) r)
      go false e = ap (λ (x : ℕ). eqb x r) (index-row (sizes (without_torn s)) (sizes s) (kind_of s i) (row_of s i))
      go true e =
          rw (specimen-rows (sizes (without_torn s)) (kind_of s i) e, specimen-rows (sizes s) (kind_of s i) e)
          (new-asked s (row_of s i) (record-stays s j l e) r (specimen-below i (record-below s j l) e) (h e))

  -- so it names a cell where it named that cell
  pub is_cell-taken : (k n r c j : ℕ) → (of_specimen k ≡ true → r < specimens_left s) → j < records_left s
      → is_cell (kinds (without_torn s)) (without_torn s) k n r c j ≡ is_cell (kinds s) s k n (sent_row s k r) c (sent_record s j)
  unfolding is_cell
  is_cell-taken k n r c j h l = rw (count-named j l, column-named j l) (ap (λ (x : Bool). x && eqb (cell_count (kinds s) s i) n && eqb (cell_column (kinds s) s i) c) (go (eqb (kind_of s i) k) refl))
    where
      i : ℕ
      i = sent_record s j

      kind : eqb (kind_of (without_torn s) j) k ≡ eqb (kind_of s i) k
      kind = ap (λ (x : ℕ). eqb x k) ((taken-fields s).kind j l)

      go : (b : Bool) → eqb (kind_of s i) k ≡ b
          → eqb (kind_of (without_torn s) j) k && eqb (cell_row (kinds (without_torn s)) (without_torn s) j) r ≡ eqb (kind_of s i) k && eqb (cell_row (kinds s) s i) (sent_row s k r)
      go false e = rw (kind, e)
      go true e =
          let q = eqb-true (kind_of s i) k e in
          rw (kind, e) (row_named j r l (λ d. h (ap of_specimen (sym q) ∙ d)) ∙ ap (λ (x : ℕ). eqb (cell_row (kinds s) s i) (sent_row s x r)) q)

  -- and no record that is taken out names one of these cells
  is_cell-stays : (k n r c i : ℕ) → (of_specimen k ≡ true → r < specimens_left s) → is_cell (kinds s) s k n (sent_row s k r) c i ≡ true → of_torn s i ≡ false
  unfolding index_of
  is_cell-stays k n r c i h e = let m = cell-names (kinds s) s k n (sent_row s k r) c i e in go (of_specimen k) refl m.kind m.row
    where
      go : (b : Bool) → of_specimen k ≡ b → kind_of s i ≡ k → cell_row (kinds s) s i ≡ cond b (sent_specimen s r) r → of_torn s i ≡ false
      go false q d m = other-stays s i (ap of_specimen d ∙ q)
      go true q d m =
          let x : of_specimen (kind_of s i) ≡ true = ap of_specimen d ∙ q in
          let y : row_of s i ≡ sent_specimen s r = rw (specimen-rows (sizes s) (kind_of s i) x) at m in
          specimen-stays s i x ∙ ap (torn (as_sent s)) y ∙ sent-stays s r (h q)

  -- ---- THE CELLS: each has a record, and holds what its record says, as in the file as sent
  module _ (k n r c : ℕ) (h : of_specimen k ≡ true → r < specimens_left s) where
    pub has-taken : has (kinds (without_torn s)) (without_torn s) k n r c ≡ has (kinds s) s k n (sent_row s k r) c
    unfolding has
    has-taken = any-taken s (is_cell (kinds (without_torn s)) (without_torn s) k n r c) (is_cell (kinds s) s k n (sent_row s k r) c) (λ j l. is_cell-taken k n r c j h l) (λ i l e. is_cell-stays k n r c i h e)

    read_taken : {A : Type 0} (x y : ℕ → A) (d : A) → ((j : ℕ) → j < records_left s → x j ≡ y (sent_record s j))
        → last (count (without_torn s)) (is_cell (kinds (without_torn s)) (without_torn s) k n r c) x d ≡ last (count s) (is_cell (kinds s) s k n (sent_row s k r) c) y d
    read_taken x y d =
        last_taken s (is_cell (kinds (without_torn s)) (without_torn s) k n r c) (is_cell (kinds s) s k n (sent_row s k r) c) x y d (λ j l. is_cell-taken k n r c j h l) (λ i l e. is_cell-stays k n r c i h e)

    cell-taken : cell (kinds (without_torn s)) (without_torn s) k n r c ≡ cell (kinds s) s k n (sent_row s k r) c
    unfolding cell
    cell-taken = read_taken (value_of (without_torn s)) (value_of s) plus_zero (λ j l. ap (of_bits binary64) ((taken-fields s).bits j l))

  -- the number in a specimen's cell, and in the cell of another kind; and a block
  pub specimen-taken : (k r c : ℕ) → of_specimen k ≡ true → r < specimens_left s → cell_value (without_torn s) k r c ≡ cell_value s k (sent_specimen s r) c
  specimen-taken k r c e l = cell-taken k 0 r c (λ _. l) ∙ ap (λ (b : Bool). cell_value s k (cond b (sent_specimen s r) r) c) e

  pub other-taken : (k r c : ℕ) → of_specimen k ≡ false → cell_value (without_torn s) k r c ≡ cell_value s k r c
  other-taken k r c e = cell-taken k 0 r c (λ q. absurd (false≢true (sym e ∙ q))) ∙ ap (λ (b : Bool). cell_value s k (cond b (sent_specimen s r) r) c) e

  pub block-taken : (b : ℕ) → block_of (without_torn s) b ≡ block_of s b
  unfolding block_of of_specimen
  block-taken b =
      let none : false ≡ true → b < specimens_left s = λ q. absurd (false≢true q) in
      rw (read_taken 3 0 b 0 none (column_of (without_torn s)) (column_of s) 0 (taken-fields s).column, read_taken 3 0 b 0 none (count_of (without_torn s)) (count_of s) 0 (taken-fields s).number)
