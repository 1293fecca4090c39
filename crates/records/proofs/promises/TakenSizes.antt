-- The sizes of the file without its torn specimens (specs/promises/TornKeeps.antt), of a series that the reader accepts and of which no column of Z is lost: as many specimens as are not torn, and every other size as sent.
use Prim.Native.Nat.{ℕ, ◌+◌, ◌-◌, ◌<◌, ◌≤◌}
use mathlib.Core.Path.{◌≡◌, refl, ap, sym, ◌∙◌}
use mathlib.Core.Bool.{Bool, true, false, not, ◌&&◌, cond, false≢true}
use mathlib.Core.List.{List}
use native.Mathlib.Omega.{arith}
use lib.Dec.{eqb, lit<}
use lib.ListN.{length}
use borrow.Author.Tests.{eq-eqb, eqb-true, ne_eqb, not-true, not-false}
use Rattle.records.specs.declared.Field.{Field}
use Rattle.records.specs.declared.Field.TheVariants.{Index}
use Rattle.records.specs.declared.Sizes.{Sizes}
use Rattle.records.specs.format.Scan.{any, most}
use Rattle.records.specs.format.Kinds.{width, index_of, Table, kind_at, kind_numbers, kenward_roger_kinds}
use Rattle.records.specs.format.File.{count, kind_of, row_of, column_of, is_cell, has, rows, columns, present, missing}
use Rattle.records.specs.readers.Shortened.{torn, kept_below}
use Rattle.records.specs.readers.Series.{specimens, coefficients, z_columns, sizes, kinds, as_sent}
use Rattle.records.specs.promises.TornKeeps.{of_specimen, of_torn, without_torn, column_lost}
use Rattle.records.proofs.format.ScanLaws.{and-true, any_none, any-none-cells, any_found, most-le}
use Rattle.records.proofs.format.Slots.{Inside, cell-names}
use Rattle.records.proofs.readers.Limits.{field-below-most}
use Rattle.records.proofs.readers.KeptLaws.{kept-as}
use Rattle.records.proofs.readers.ShortLaws.{short-some}
use Rattle.records.proofs.readers.AcceptedSeries.{AcceptedSeries}
use Rattle.records.proofs.promises.TakenFields.{taken-fields}
use Rattle.records.proofs.promises.TakenOut.{specimens_left, sent_specimen, sent-below, records_left, sent_record, count-taken, record-below, other-stays, specimen-stays, unchanged-row, row-no-larger, most-taken, specimen-row-below, has-taken}

-- sizes with n specimens
abbrev pub with_specimens : ℕ → Sizes → Sizes
with_specimens n z =
    record {
      specimens = n;
      coefficients = z.coefficients;
      columns = z.columns;
      blocks = z.blocks;
      thetas = z.thetas;
      contrasts = z.contrasts;
      parameters = z.parameters;
      weighted = z.weighted;
      hypothesis = z.hypothesis;
    }

-- ---- a cell that has a record
module _ (t : Table) (s : List ℕ) (k n r c : ℕ) where
  -- each has that its kind has, where none is missing and none may be absent
  pub complete-has : (kind_at t k).sparse ≡ false → missing t s k ≡ false → Inside (kind_at t k) n r c → has t s k n r c ≡ true
  unfolding missing
  complete-has full none v =
      let z = kind_at t k in
      let cells = rw full at none in
      not-false (has t s k n r c) (any-none-cells (width z.count) (width z.row) (width z.column) (λ n r c. not (has t s k n r c)) cells n r c v.number v.row v.column)

  -- its row and its column are below the kind's, where these are indices
  had-row : (limit : ℕ) → (kind_at t k).row ≡ Index limit → has t s k n r c ≡ true → r < rows s k
  unfolding has rows index_of
  had-row limit e h =
      let f = any_found (count s) (is_cell t s k n r c) h in
      let m = cell-names t s k n r c f.index f.passes in
      let b : row_of s f.index ≡ r = ap (λ (y : Field). index_of y (row_of s f.index)) (sym (ap (λ (j : ℕ). (kind_at t j).row) m.kind ∙ e)) ∙ m.row in
      let l = field-below-most s k (row_of s) f.index f.below m.kind in
      omega arith

  had-column : (limit : ℕ) → (kind_at t k).column ≡ Index limit → has t s k n r c ≡ true → c < columns s k
  unfolding has columns index_of
  had-column limit e h =
      let f = any_found (count s) (is_cell t s k n r c) h in
      let m = cell-names t s k n r c f.index f.passes in
      let b : column_of s f.index ≡ c = ap (λ (y : Field). index_of y (column_of s f.index)) (sym (ap (λ (j : ℕ). (kind_at t j).column) m.kind ∙ e)) ∙ m.column in
      let l = field-below-most s k (column_of s) f.index f.below m.kind in
      omega arith

-- ---- the most of a field of a kind's records
-- it is within a limit, where the field is below it in each of them
most-of-kind : (s : List ℕ) (k : ℕ) (field : ℕ → ℕ) (limit : ℕ) → ((i : ℕ) → i < count s → kind_of s i ≡ k → field i < limit) → most (count s) (λ i. cond (eqb (kind_of s i) k) (field i + 1) 0) ≤ limit
most-of-kind s k field limit h = most-le (count s) (λ i. cond (eqb (kind_of s i) k) (field i + 1) 0) limit (λ i l. go i l (eqb (kind_of s i) k) refl)
  where
    go : (i : ℕ) → i < count s → (b : Bool) → eqb (kind_of s i) k ≡ b → cond b (field i + 1) 0 ≤ limit
    go i l true e = let z = h i l (eqb-true (kind_of s i) k e) in omega arith
    go i l false e = omega arith

module _ (s : List ℕ) (k : ℕ) where
  -- so of the records that are left
  most-left : (field : ℕ → ℕ) (limit : ℕ) → ((j : ℕ) → j < records_left s → kind_of s (sent_record s j) ≡ k → field j < limit) → most (count (without_torn s)) (λ j. cond (eqb (kind_of (without_torn s) j) k) (field j + 1) 0) ≤ limit
  most-left field limit h = most-of-kind (without_torn s) k field limit (λ j l e. left j (let q = count-taken s in omega arith) e)
    where
      left : (j : ℕ) → j < records_left s → kind_of (without_torn s) j ≡ k → field j < limit
      left j l e = h j l (sym ((taken-fields s).kind j l) ∙ e)

  -- a kind has no more rows and no more columns than it had
  rows_few : rows (without_torn s) k ≤ rows s k
  unfolding rows
  rows_few = most-left (row_of (without_torn s)) (rows s k) (λ j l e. let b = row-no-larger s j l in let d = field-below-most s k (row_of s) (sent_record s j) (record-below s j l) e in omega arith)

  columns-few : columns (without_torn s) k ≤ columns s k
  unfolding columns
  columns-few = most-left (column_of (without_torn s)) (columns s k) (λ j l e. let b = (taken-fields s).column j l in let d = field-below-most s k (column_of s) (sent_record s j) (record-below s j l) e in omega arith)

  -- the rows are as they were, where they are not specimens
  pub rows_taken : of_specimen k ≡ false → rows (without_torn s) k ≡ rows s k
  unfolding rows
  rows_taken e =
      most-taken s (λ j. cond (eqb (kind_of (without_torn s) j) k) (row_of (without_torn s) j + 1) 0) (λ i. cond (eqb (kind_of s i) k) (row_of s i + 1) 0)
      (λ j l. same j l (eqb (kind_of s (sent_record s j)) k) refl) (λ i l q. none i q (eqb (kind_of s i) k) refl)
    where
      same : (j : ℕ) → j < records_left s → (b : Bool) → eqb (kind_of s (sent_record s j)) k ≡ b
          → cond (eqb (kind_of (without_torn s) j) k) (row_of (without_torn s) j + 1) 0 ≡ cond (eqb (kind_of s (sent_record s j)) k) (row_of s (sent_record s j) + 1) 0
      same j l false q = rw ((taken-fields s).kind j l, q)
      same j l true q = rw ((taken-fields s).kind j l, q, unchanged-row s j l (ap of_specimen (eqb-true (kind_of s (sent_record s j)) k q) ∙ e))

      none : (i : ℕ) → of_torn s i ≡ true → (b : Bool) → eqb (kind_of s i) k ≡ b → cond b (row_of s i + 1) 0 ≡ 0
      none i q false d = refl
      none i q true d = absurd (false≢true (sym (other-stays s i (ap of_specimen (eqb-true (kind_of s i) k d) ∙ e)) ∙ q))

  -- the column of a record that stays is one of the kind's
  kept-column : (i : ℕ) → i < count s → kind_of s i ≡ k → of_torn s i ≡ false → column_of s i < columns (without_torn s) k
  unfolding columns
  kept-column i l e stays =
      let j : ℕ = length (kept_below i (of_torn s)) in
      let v = kept-as (of_torn s) (count s) i l stays in
      let m : j < records_left s = v.within in
      let c = (taken-fields s).column j m ∙ ap (column_of s) v.same in
      let q = count-taken s in
      let b = field-below-most (without_torn s) k (column_of (without_torn s)) j (omega arith) ((taken-fields s).kind j m ∙ ap (kind_of s) v.same ∙ e) in
      omega arith

-- ---- the sizes of a series that the reader accepts
module _ (w : ℕ) (s : List ℕ) (a : AcceptedSeries w s) where
  -- some specimen is left
  pub some_left : 1 ≤ specimens_left s
  some_left = short-some s a.pulled

  -- X has a record for each specimen and coefficient, and so for each specimen that is left
  has-x : (r c : ℕ) → r < specimens s → c < coefficients s → has (kinds s) s 1 0 r c ≡ true
  unfolding kind_at kenward_roger_kinds sizes width
  has-x r c l m = complete-has (kinds s) s 1 0 r c refl (any_none kind_numbers (missing (kinds s) s) 1 (lit< tt) a.formed.complete) (record { number = lit< tt; row = l; column = m })

  has-x-left : (r c : ℕ) → r < specimens_left s → c < coefficients s → has (kinds (without_torn s)) (without_torn s) 1 0 r c ≡ true
  unfolding of_specimen
  has-x-left r c l m = has-taken w s a 1 0 r c (λ _. l) ∙ has-x (sent_specimen s r) c (sent-below s r l) m

  -- a weight for each specimen, where there are weights
  has-weight : (r : ℕ) → r < specimens s → present s 5 ≡ true → has (kinds s) s 5 0 r 0 ≡ true
  unfolding kind_at kenward_roger_kinds sizes width
  has-weight r l e = complete-has (kinds s) s 5 0 r 0 refl (any_none kind_numbers (missing (kinds s) s) 5 (lit< tt) a.formed.complete) (record { number = lit< tt; row = rw e l; column = lit< tt })

  -- so the specimens that are left are its specimens, and its coefficients those that were
  pub specimens-taken : specimens (without_torn s) ≡ specimens_left s
  unfolding kind_at kenward_roger_kinds rows of_specimen
  specimens-taken =
      let n : ℕ = specimens_left s in
      let some = some_left in
      let low = had-row (kinds (without_torn s)) (without_torn s) 1 0 (n - 1) 0 (sizes (without_torn s)).specimens refl (has-x-left (n - 1) 0 (omega arith) (omega arith)) in
      let high : rows (without_torn s) 1 ≤ n = most-left s 1 (row_of (without_torn s)) n (λ j l e. specimen-row-below w s a j l (ap of_specimen e)) in
      omega arith

  pub coefficients-taken : coefficients (without_torn s) ≡ coefficients s
  unfolding kind_at kenward_roger_kinds
  coefficients-taken =
      let p : ℕ = coefficients s in
      let some = some_left in
      let high = columns-few s 1 in
      let low = had-column (kinds (without_torn s)) (without_torn s) 1 0 0 (p - 1) (sizes (without_torn s)).coefficients refl (has-x-left 0 (p - 1) (omega arith) (omega arith)) in
      omega arith

  -- there are weights in both or in neither
  pub present-taken : present (without_torn s) 5 ≡ present s 5
  unfolding kind_at kenward_roger_kinds of_specimen
  present-taken = go (eqb (rows s 5) 0) refl
    where
      go : (b : Bool) → eqb (rows s 5) 0 ≡ b → present (without_torn s) 5 ≡ not b
      go true e = let z = eqb-true (rows s 5) 0 e in let f = rows_few s 5 in rw (eq-eqb (rows (without_torn s) 5) 0 (omega arith))
      go false e =
          let some = some_left in
          let h = has-taken w s a 5 0 0 0 (λ _. some) ∙ has-weight (sent_specimen s 0) (sent-below s 0 some) (ap not e) in
          let l = had-row (kinds (without_torn s)) (without_torn s) 5 0 0 0 (cond (sizes (without_torn s)).weighted (sizes (without_torn s)).specimens 0) refl h in
          rw (ne_eqb (rows (without_torn s) 5) 0 (λ q. omega arith))

  -- ---- where no column of Z is lost
  module _ (noneLost : any (count s) (column_lost s) ≡ false) where
    -- each column has a record in a row that is kept
    column-stays : (i : ℕ) → i < count s → kind_of s i ≡ 2 → column_of s i < columns (without_torn s) 2
    unfolding column_lost of_specimen
    column-stays i l e =
        let h : any (count s) stays ≡ true = not-false (any (count s) stays) (rw (eq-eqb (kind_of s i) 2 e) at (any_none (count s) (column_lost s) i l noneLost)) in
        let f = any_found (count s) stays h in
        let x = and-true (eqb (kind_of s f.index) 2 && eqb (column_of s f.index) (column_of s i)) (not (torn (as_sent s) (row_of s f.index))) f.passes in
        let y = and-true (eqb (kind_of s f.index) 2) (eqb (column_of s f.index) (column_of s i)) x.0 in
        let kind = eqb-true (kind_of s f.index) 2 y.0 in
        let column = eqb-true (column_of s f.index) (column_of s i) y.1 in
        let b = kept-column s 2 f.index f.below kind (specimen-stays s f.index (ap of_specimen kind) ∙ not-true (torn (as_sent s) (row_of s f.index)) x.1) in
        omega arith
      where
        stays : ℕ → Bool
        stays j = eqb (kind_of s j) 2 && eqb (column_of s j) (column_of s i) && not (torn (as_sent s) (row_of s j))

    pub z_columns-taken : z_columns (without_torn s) ≡ z_columns s
    unfolding columns
    z_columns-taken = let low = most-of-kind s 2 (column_of s) (columns (without_torn s) 2) column-stays in let high = columns-few s 2 in omega arith

  -- ---- THE SIZES, where there are as many columns of Z
  pub sizes-taken : z_columns (without_torn s) ≡ z_columns s → sizes (without_torn s) ≡ with_specimens (specimens_left s) (sizes s)
  unfolding sizes of_specimen
  sizes-taken as_many = rw (specimens-taken, coefficients-taken, as_many, rows_taken s 3 refl, rows_taken s 4 refl, rows_taken s 9 refl, rows_taken s 10 refl, present-taken)
