-- The file without its torn specimens (specs/promises/TornKeeps.antt) is accepted, where the file as sent is and no column of Z is lost: it rises, each of its records is within the limits and the sizes, none of its cells
-- is named twice or missing, and it holds what the file as sent holds.
use Prim.Native.Nat.{ℕ, zero, suc, ◌+◌, ◌-◌, ◌%◌, ◌<◌, ◌≤◌}
use mathlib.Core.Path.{◌≡◌, refl, ap, ap₂, sym, ◌∙◌, fun_ext}
use mathlib.Core.Bool.{Bool, true, false, not, ◌||◌, ◌&&◌, cond, false≢true}
use mathlib.Core.Logic.{⊎_elim}
use mathlib.Core.List.{List}
use native.Mathlib.Nat.{not-suc-le-zero, le_of_suc-le-suc, eq-or-lt_of_le}
use native.Mathlib.Numerals.{add-one}
use native.Mathlib.Omega.{arith}
use lib.Dec.{eqb, ltb}
use lib.ListN.{length}
use lib.Ieee.{Float, lt}
use borrow.Author.Tests.{eq-eqb, eqb-true, ltb-true, lt-ltb, not-false}
use Rattle.arithmetic.specs.Numbers.{plus_zero}
use Rattle.algebra.specs.Reasons.{first}
use Rattle.records.specs.declared.Field.{Field}
use Rattle.records.specs.declared.Field.TheVariants.{Index, Number, Unused}
use Rattle.records.specs.declared.Kind.{Kind}
use Rattle.records.specs.declared.Sizes.{Sizes}
use Rattle.records.specs.format.Scan.{any}
use Rattle.records.specs.format.Kinds.{holds, width, index_of, value_holds, Table, kind_at, kind_numbers, kenward_roger_kinds, kenward_roger}
use Rattle.records.specs.format.File.{count, kind_of, row_of, column_of, padding_of, bits_of, out_of, bad_record, cell_count, cell_row, cell_column, is_cell, again, has, beyond, missing, not_finite, present, length_reasons, form_reasons}
use Rattle.records.specs.format.Order.{matrix_of, then_by, stands_before, falls, order_reasons}
use Rattle.records.specs.readers.Shortened.{torn, all_torn}
use Rattle.records.specs.readers.Series.{specimens, z_columns, sizes, kinds, cell_value, sigma2, block_of, as_sent, miscounted, bad_size, bad_weight, misfit, zero_contrast, block_reasons, size_reasons, value_reasons, reasons, refusal}
use Rattle.records.specs.promises.TornKeeps.{of_specimen, of_torn, new_row, without_torn}
use Rattle.records.proofs.format.ScanLaws.{or-false, or-true, any-hit, any_none, none_any, none-any-cells}
use Rattle.records.proofs.format.Slots.{Inside, Within, within, cell-names, names-cell}
use Rattle.records.proofs.readers.KeptLaws.{kept-rises}
use Rattle.records.proofs.readers.ShortLaws.{torn-is}
use Rattle.records.proofs.readers.AcceptedSeries.{AcceptedSeries}
use Rattle.records.proofs.promises.TakenFields.{taken-fields}
use Rattle.records.proofs.promises.TakenOut.{has_specimens, specimen-rows, part_at, same-part, specimens_left, sent_specimen, sent-below, sent-stays, new-rises, records_left, sent_record, sent_row, count-taken, record-below, record-stays, specimen-row, unchanged-row, row-no-larger, specimen-row-below, is_cell-taken, has-taken, specimen-taken, other-taken, block-taken}
use Rattle.records.proofs.promises.TakenSizes.{with_specimens, complete-has, some_left, specimens-taken, coefficients-taken, rows_taken, present-taken, sizes-taken}

-- ---- the order of records
-- "by .., then by ..": the first decides, or it is the same and the rest decides
then_by-less : (x y : ℕ) (rest : Bool) → x < y → then_by x y rest ≡ true
then_by-less x y rest l = rw (lt-ltb x y l)

then_by-same : (x y : ℕ) (rest : Bool) → x ≡ y → rest ≡ true → then_by x y rest ≡ true
then_by-same x y rest e h = rw (eq-eqb x y e, h) (or-true (ltb x y))

then_by-either : {P : Type 0} (x y : ℕ) (rest : Bool) → then_by x y rest ≡ true → (x < y → P) → (x ≡ y → rest ≡ true → P) → P
then_by-either {P} x y rest h f g = go (ltb x y) refl (eqb x y) refl h
  where
    go : (a : Bool) → ltb x y ≡ a → (b : Bool) → eqb x y ≡ b → a || (b && rest) ≡ true → P
    go true p b q h = f (ltb-true x y p)
    go false p true q h = g (eqb-true x y q) h
    go false p false q h = absurd (false≢true h)

-- so it may be chained, where the rest may
then_by-next : (x y z : ℕ) (a b c : Bool) → (a ≡ true → b ≡ true → c ≡ true) → then_by x y a ≡ true → then_by y z b ≡ true → then_by x z c ≡ true
then_by-next x y z a b c f p q =
    then_by-either x y a p
    (λ l. then_by-either y z b q (λ m. then_by-less x z c (omega arith)) (λ m _. then_by-less x z c (omega arith)))
    (λ d h. then_by-either y z b q (λ m. then_by-less x z c (omega arith)) (λ m k. then_by-same x z c (d ∙ m) (f h k)))

-- and another rest may decide, where it does as the first did
then_by-keeps : (x y : ℕ) (a b : Bool) → (x ≡ y → a ≡ true → b ≡ true) → then_by x y a ≡ true → then_by x y b ≡ true
then_by-keeps x y a b f p = then_by-either x y a p (λ l. then_by-less x y b l) (λ e h. then_by-same x y b e (f e h))

module _ (s : List ℕ) where
  -- the order of records may be chained
  stands-next : (i j k : ℕ) → stands_before s i j ≡ true → stands_before s j k ≡ true → stands_before s i k ≡ true
  unfolding stands_before
  stands-next i j k =
      then_by-next (kind_of s i) (kind_of s j) (kind_of s k) (by_matrix i j) (by_matrix j k) (by_matrix i k)
      (then_by-next (matrix_of s i) (matrix_of s j) (matrix_of s k) (by_row i j) (by_row j k) (by_row i k)
      (then_by-next (row_of s i) (row_of s j) (row_of s k) (by_column i j) (by_column j k) (by_column i k)
      (λ a b. let x = ltb-true (column_of s i) (column_of s j) a in let y = ltb-true (column_of s j) (column_of s k) b in lt-ltb (column_of s i) (column_of s k) (omega arith))))
    where
      by_column : ℕ → ℕ → Bool
      by_column i j = ltb (column_of s i) (column_of s j)

      by_row : ℕ → ℕ → Bool
      by_row i j = then_by (row_of s i) (row_of s j) (by_column i j)

      by_matrix : ℕ → ℕ → Bool
      by_matrix i j = then_by (matrix_of s i) (matrix_of s j) (by_row i j)

  -- in a file that rises each record stands before every later one
  rises-on : falls s ≡ false → (i j : ℕ) → i < j → j < count s → stands_before s i j ≡ true
  unfolding falls
  rises-on h i zero l m = absurd (not-suc-le-zero l)
  rises-on h i (suc j) l m = ⊎_elim (λ q. rw q next) (λ k. stands-next i j (suc j) (rises-on h i j k (omega arith)) next) (eq-or-lt_of_le (le_of_suc-le-suc l))
    where
      next : stands_before s j (suc j) ≡ true
      next = rw add-one at (not-false (stands_before s j (j + 1)) (any_none (count s - 1) (λ k. not (stands_before s k (k + 1))) j (omega arith) h))

-- ---- one record
-- a field that holds a number holds a smaller one
holds-less : (g : Field) (x y : ℕ) → y ≤ x → holds g x ≡ true → holds g y ≡ true
unfolding holds
holds-less (Index limit) x y l h = let z = ltb-true x limit h in lt-ltb y limit (omega arith)
holds-less Number x y l h = refl
holds-less Unused x y l h = let z = eqb-true x 0 h in eq-eqb y 0 (omega arith)

-- a record of which each field holds what it may is not out of its kind
within-kind : (z : Kind) (s : List ℕ) (i : ℕ) → Within z s i → out_of z s i ≡ false
unfolding out_of
within-kind z s i v = rw (v.row, v.column, v.number)

-- ---- the cells of a file
-- two records do not name one cell, where no cell is named twice
named-once : (t : Table) (s : List ℕ) → any (count s) (again t s) ≡ false → (k n r c i j : ℕ) → i < j → j < count s → is_cell t s k n r c j ≡ true → is_cell t s k n r c i ≡ false
unfolding again
named-once t s once k n r c i j l m e =
    let v = cell-names t s k n r c j e in
    rw (v.row, v.number, v.column, v.kind) at (any_none j (is_cell t s (kind_of s j) (cell_count t s j) (cell_row t s j) (cell_column t s j)) i l (any_none (count s) (again t s) j m once))

-- none of a kind is missing, where each has a record or may be absent
has-complete : (t : Table) (s : List ℕ) (k : ℕ) → ((n r c : ℕ) → Inside (kind_at t k) n r c → (kind_at t k).sparse ≡ false → has t s k n r c ≡ true) → missing t s k ≡ false
unfolding missing
has-complete t s k h = go z.sparse refl
  where
    z : Kind
    z = kind_at t k

    go : (b : Bool) → z.sparse ≡ b → not b && any (width z.count) (λ n. any (width z.row) (λ r. any (width z.column) (λ c. not (has t s k n r c)))) ≡ false
    go true e = refl
    go false e =
        none-any-cells (width z.count) (width z.row) (width z.column) (λ n r c. not (has t s k n r c))
        (λ n r c i j l. ap not (h n r c (record { number = i; row = j; column = l }) e))

-- a series of which no reason of the reader's holds is accepted
accepted-refusal : (w : ℕ) (s : List ℕ) → AcceptedSeries w s → refusal w s ≡ 0
unfolding refusal reasons length_reasons order_reasons form_reasons block_reasons size_reasons value_reasons first
accepted-refusal w s a = rw (a.formed.whole, a.formed.rises, a.formed.good, a.formed.once, a.formed.complete, a.formed.within, a.counted, a.sized, a.pulled, a.finite, a.positive, a.weighed, a.fits, a.nonzero)

-- ---- the order of the file without its torn specimens
module _ (s : List ℕ) where
  -- a record numbers the matrix that it numbered
  matrix-taken : (j : ℕ) → j < records_left s → matrix_of (without_torn s) j ≡ matrix_of s (sent_record s j)
  unfolding matrix_of
  matrix-taken j l = rw ((taken-fields s).kind j l, (taken-fields s).number j l)

  -- two records of one kind have their rows in the order in which they were
  module _ (i j : ℕ) (l : i < records_left s) (m : j < records_left s) (e : kind_of s (sent_record s i) ≡ kind_of s (sent_record s j)) where
    row-rises : row_of s (sent_record s i) < row_of s (sent_record s j) → row_of (without_torn s) i < row_of (without_torn s) j
    row-rises h = go (of_specimen (kind_of s (sent_record s i))) refl
      where
        go : (b : Bool) → of_specimen (kind_of s (sent_record s i)) ≡ b → row_of (without_torn s) i < row_of (without_torn s) j
        go true q =
            let x = specimen-row s i l q in
            let y = specimen-row s j m (ap of_specimen (sym e) ∙ q) in
            let z = new-rises s (row_of s (sent_record s i)) (record-stays s i l q) (row_of s (sent_record s j)) h in
            omega arith
        go false q = let x = unchanged-row s i l q in let y = unchanged-row s j m (ap of_specimen (sym e) ∙ q) in omega arith

    row_stays : row_of s (sent_record s i) ≡ row_of s (sent_record s j) → row_of (without_torn s) i ≡ row_of (without_torn s) j
    row_stays h = (taken-fields s).row i l ∙ ap₂ (λ (k r : ℕ). cond (of_specimen k) (new_row s r) r) e h ∙ sym ((taken-fields s).row j m)

  -- so two records stand as they stood
  stands-taken : (i j : ℕ) → i < records_left s → j < records_left s → stands_before s (sent_record s i) (sent_record s j) ≡ true → stands_before (without_torn s) i j ≡ true
  unfolding stands_before
  stands-taken i j l m h =
      rw ((taken-fields s).kind i l, (taken-fields s).kind j m, matrix-taken i l, matrix-taken j m, (taken-fields s).column i l, (taken-fields s).column j m)
      (then_by-keeps (kind_of s x) (kind_of s y) (then_by (matrix_of s x) (matrix_of s y) was) (then_by (matrix_of s x) (matrix_of s y) is) (λ e. then_by-keeps (matrix_of s x) (matrix_of s y) was is (λ _. rows e)) h)
    where
      x : ℕ
      x = sent_record s i

      y : ℕ
      y = sent_record s j

      columns : Bool
      columns = ltb (column_of s x) (column_of s y)

      -- by row and column, as it was and as it is
      was : Bool
      was = then_by (row_of s x) (row_of s y) columns

      is : Bool
      is = then_by (row_of (without_torn s) i) (row_of (without_torn s) j) columns

      rows : kind_of s x ≡ kind_of s y → was ≡ true → is ≡ true
      rows e q =
          then_by-either (row_of s x) (row_of s y) columns q
          (λ u. then_by-less (row_of (without_torn s) i) (row_of (without_torn s) j) columns (row-rises i j l m e u))
          (λ u v. then_by-same (row_of (without_torn s) i) (row_of (without_torn s) j) columns (row_stays i j l m e u) v)

  -- and it rises where the file as sent does
  rises-taken : falls s ≡ false → falls (without_torn s) ≡ false
  unfolding falls
  rises-taken h = none_any (count (without_torn s) - 1) (λ j. not (stands_before (without_torn s) j (j + 1))) (λ j l. ap not (next j (let e = count-taken s in omega arith)))
    where
      next : (j : ℕ) → j + 1 < records_left s → stands_before (without_torn s) j (j + 1) ≡ true
      next j l =
          stands-taken j (j + 1) (omega arith) l
          (rises-on s h (sent_record s j) (sent_record s (j + 1)) (kept-rises (of_torn s) (count s) j (j + 1) (omega arith) l) (record-below s (j + 1) l))

  -- ---- its length, and a fault that none of its records has
  whole-taken : length (without_torn s) % 16 ≡ 0
  whole-taken = let e = (taken-fields s).size in omega arith

  none-taken : (p : ℕ → Bool) → ((j : ℕ) → j < records_left s → p j ≡ false) → any (count (without_torn s)) p ≡ false
  none-taken p h = none_any (count (without_torn s)) p (λ j l. h j (let e = count-taken s in omega arith))

-- ---- of a series that the reader accepts
module _ (w : ℕ) (s : List ℕ) (a : AcceptedSeries w s) where
  -- each record is within the limits and holds a finite number
  good-taken : (j : ℕ) → j < records_left s → bad_record (kenward_roger w) (without_torn s) j ≡ false
  unfolding bad_record
  good-taken j l =
      let i : ℕ = sent_record s j in
      let z : Kind = kind_at (kenward_roger w) (kind_of s i) in
      let good : bad_record (kenward_roger w) s i ≡ false = any_none (count s) (bad_record (kenward_roger w) s) i (record-below s j l) a.formed.good in
      let x = or-false (out_of z s i || not (eqb (padding_of s i) 0)) (not (value_holds z.value (bits_of s i))) good in
      let y = or-false (out_of z s i) (not (eqb (padding_of s i) 0)) x.0 in
      rw ((taken-fields s).kind j l, (taken-fields s).padding j l, (taken-fields s).bits j l, limited z (within z s i y.0), y.1, x.1)
    where
      limited : (z : Kind) → Within z s (sent_record s j) → out_of z (without_torn s) j ≡ false
      limited z v =
          within-kind z (without_torn s) j
          (record {
            row = holds-less z.row (row_of s (sent_record s j)) (row_of (without_torn s) j) (row-no-larger s j l) v.row;
            column = rw ((taken-fields s).column j l) v.column;
            number = rw ((taken-fields s).number j l) v.number;
          })

  finite-taken : (j : ℕ) → j < records_left s → not_finite (without_torn s) j ≡ false
  unfolding not_finite
  finite-taken j l = rw ((taken-fields s).bits j l) (any_none (count s) (not_finite s) (sent_record s j) (record-below s j l) a.finite)

  -- a block has the parameter count that it had
  counted-taken : (j : ℕ) → j < records_left s → miscounted (without_torn s) j ≡ false
  unfolding miscounted
  counted-taken j l = rw ((taken-fields s).kind j l, (taken-fields s).first_value j l, (taken-fields s).column j l) (any_none (count s) (miscounted s) (sent_record s j) (record-below s j l) a.counted)

  -- it names a cell that no earlier record names
  once-cell : (k n r c i j : ℕ) → (of_specimen k ≡ true → r < specimens_left s) → i < j → j < records_left s → is_cell (kinds (without_torn s)) (without_torn s) k n r c j ≡ true
      → is_cell (kinds (without_torn s)) (without_torn s) k n r c i ≡ false
  once-cell k n r c i j h m l e =
      is_cell-taken w s a k n r c i h (omega arith)
      ∙ named-once (kinds s) s a.formed.once k n (sent_row s k r) c (sent_record s i) (sent_record s j) (kept-rises (of_torn s) (count s) i j m l) (record-below s j l) (sym (is_cell-taken w s a k n r c j h l) ∙ e)

  -- the row that it names is a specimen that is left, where its rows are specimens
  named-below : (j : ℕ) → j < records_left s → of_specimen (kind_of (without_torn s) j) ≡ true → cell_row (kinds (without_torn s)) (without_torn s) j < specimens_left s
  unfolding index_of
  named-below j l e = rw (specimen-rows (sizes (without_torn s)) (kind_of (without_torn s) j) e) (specimen-row-below w s a j l (ap of_specimen (sym ((taken-fields s).kind j l)) ∙ e))

  once-taken : (j : ℕ) → j < records_left s → again (kinds (without_torn s)) (without_torn s) j ≡ false
  unfolding again
  once-taken j l =
      let t : List ℕ = without_torn s in
      let T : Table = kinds (without_torn s) in
      none_any j (is_cell T t (kind_of t j) (cell_count T t j) (cell_row T t j) (cell_column T t j))
      (λ i m. once-cell (kind_of t j) (cell_count T t j) (cell_row T t j) (cell_column T t j) i j (named-below j l) m l
      (names-cell T t (kind_of t j) (cell_count T t j) (cell_row T t j) (cell_column T t j) j (record { kind = refl; row = refl; number = refl; column = refl })))

  -- ---- what it holds: the blocks, and the cells of a kind whose rows are not specimens
  pub blocks-taken : block_of (without_torn s) ≡ block_of s
  blocks-taken = fun_ext (block-taken w s a)

  pub cells-taken : (k : ℕ) → of_specimen k ≡ false → cell_value (without_torn s) k ≡ cell_value s k
  cells-taken k e = fun_ext (λ r. fun_ext (λ c. other-taken w s a k r c e))

  pub sigma2-taken : sigma2 (without_torn s) ≡ sigma2 s
  unfolding of_specimen
  sigma2-taken = other-taken w s a 7 0 0 refl

  -- so the blocks are within their limits, and the contrast is not all zero
  sized-taken : bad_size (without_torn s) ≡ bad_size s
  unfolding miscounted bad_size of_specimen
  sized-taken = rw (rows_taken s 3 refl, blocks-taken)

  nonzero-taken : zero_contrast (without_torn s) ≡ zero_contrast s
  unfolding zero_contrast of_specimen
  nonzero-taken = rw (rows_taken s 9 refl, coefficients-taken w s a, cells-taken 9 refl)

  -- no specimen of it is torn, so not all are; and none has a negative weight
  pub torn-taken : (r : ℕ) → r < specimens_left s → torn (as_sent (without_torn s)) r ≡ false
  unfolding of_specimen
  torn-taken r l =
      torn-is (without_torn s) r (let e = specimens-taken w s a in omega arith)
      ∙ rw (present-taken w s a, specimen-taken w s a 5 r 0 refl l) (sym (torn-is s (sent_specimen s r) (sent-below s r l)))
      ∙ sent-stays s r l

  pulled-taken : all_torn (as_sent (without_torn s)) ≡ false
  unfolding all_torn as_sent
  pulled-taken =
      let e = specimens-taken w s a in
      let some = some_left w s a in
      ap not (any-hit (specimens (without_torn s)) (λ i. not (torn (as_sent (without_torn s)) i)) 0 (omega arith) (ap not (torn-taken 0 some)))

  weighed-taken : bad_weight (without_torn s) ≡ false
  unfolding bad_weight of_specimen
  weighed-taken = rw (present-taken w s a, specimens-taken w s a) (go (present s 5) a.weighed)
    where
      go : (b : Bool) → b && any (specimens s) (λ i. lt (cell_value s 5 i 0) plus_zero) ≡ false → b && any (specimens_left s) (λ i. lt (cell_value (without_torn s) 5 i 0) plus_zero) ≡ false
      go true h =
          none_any (specimens_left s) (λ i. lt (cell_value (without_torn s) 5 i 0) plus_zero)
          (λ r l. ap (λ (x : Float). lt x plus_zero) (specimen-taken w s a 5 r 0 refl l) ∙ any_none (specimens s) (λ i. lt (cell_value s 5 i 0) plus_zero) (sent_specimen s r) (sent-below s r l) h)
      go false h = refl

  -- ---- where there are as many columns of Z
  module _ (as_many : z_columns (without_torn s) ≡ z_columns s) where
    -- the table at its sizes says the same of a kind, but for the rows of specimens, which are fewer
    kind-part : {A : Type 0} (part : Kind → A) (k : ℕ) → part_at part (kenward_roger_kinds (with_specimens (specimens_left s) (sizes s))) k ≡ part_at part (kinds s) k
        → part (kind_at (kinds (without_torn s)) k) ≡ part (kind_at (kinds s) k)
    kind-part part k e = ap (λ (z : Sizes). part (kind_at (kenward_roger_kinds z) k)) (sizes-taken w s a as_many) ∙ same-part part (kenward_roger_kinds (with_specimens (specimens_left s) (sizes s))) (kinds s) k e

    column-kind : (k : ℕ) → (kind_at (kinds (without_torn s)) k).column ≡ (kind_at (kinds s) k).column
    unfolding kenward_roger_kinds
    column-kind k = kind-part (λ (u : Kind). u.column) k refl

    count-kind : (k : ℕ) → (kind_at (kinds (without_torn s)) k).count ≡ (kind_at (kinds s) k).count
    unfolding kenward_roger_kinds
    count-kind k = kind-part (λ (u : Kind). u.count) k refl

    sparse-kind : (k : ℕ) → (kind_at (kinds (without_torn s)) k).sparse ≡ (kind_at (kinds s) k).sparse
    unfolding kenward_roger_kinds
    sparse-kind k = kind-part (λ (u : Kind). u.sparse) k refl

    row-kind : (k : ℕ) → of_specimen k ≡ false → (kind_at (kinds (without_torn s)) k).row ≡ (kind_at (kinds s) k).row
    unfolding kenward_roger_kinds of_specimen
    row-kind k e =
        let x = or-false (eqb k 1 || eqb k 2) (eqb k 5) e in
        let y = or-false (eqb k 1) (eqb k 2) x.0 in
        kind-part (λ (u : Kind). u.row) k (rw (y.0, y.1, x.1))

    specimen-row-kind : (k : ℕ) → of_specimen k ≡ true → (kind_at (kinds (without_torn s)) k).row ≡ Index (cond (has_specimens (sizes s) k) (specimens_left s) 0)
    specimen-row-kind k e = ap (λ (z : Sizes). (kind_at (kenward_roger_kinds z) k).row) (sizes-taken w s a as_many) ∙ specimen-rows (with_specimens (specimens_left s) (sizes s)) k e

    -- each record is within the sizes
    row-held : (j : ℕ) → j < records_left s → holds (kind_at (kinds s) (kind_of s (sent_record s j))).row (row_of s (sent_record s j)) ≡ true
        → holds (kind_at (kinds (without_torn s)) (kind_of s (sent_record s j))).row (row_of (without_torn s) j) ≡ true
    unfolding holds sizes
    row-held j l h = go (of_specimen k) refl
      where
        k : ℕ
        k = kind_of s (sent_record s j)

        left : (b : Bool) → holds (Index (cond b (specimens s) 0)) (row_of s (sent_record s j)) ≡ true → row_of (without_torn s) j < specimens_left s → holds (Index (cond b (specimens_left s) 0)) (row_of (without_torn s) j) ≡ true
        left true h m = lt-ltb (row_of (without_torn s) j) (specimens_left s) m
        left false h m = let z = ltb-true (row_of s (sent_record s j)) 0 h in absurd (omega arith)

        go : (b : Bool) → of_specimen k ≡ b → holds (kind_at (kinds (without_torn s)) k).row (row_of (without_torn s) j) ≡ true
        go true e = rw (specimen-row-kind k e) (left (has_specimens (sizes s) k) (rw (specimen-rows (sizes s) k e) at h) (specimen-row-below w s a j l e))
        go false e = rw (row-kind k e, unchanged-row s j l e) h

    within-taken : (j : ℕ) → j < records_left s → beyond (kinds (without_torn s)) (without_torn s) j ≡ false
    unfolding beyond
    within-taken j l =
        let i : ℕ = sent_record s j in
        let v = within (kind_at (kinds s) (kind_of s i)) s i (any_none (count s) (beyond (kinds s) s) i (record-below s j l) a.formed.within) in
        rw ((taken-fields s).kind j l)
        (within-kind (kind_at (kinds (without_torn s)) (kind_of s i)) (without_torn s) j
        (record {
          row = row-held j l v.row;
          column = rw (column-kind (kind_of s i), (taken-fields s).column j l) v.column;
          number = rw (count-kind (kind_of s i), (taken-fields s).number j l) v.number;
        }))

    -- none of its cells is missing: the cell of the file as sent is not
    row-left : (k r : ℕ) → of_specimen k ≡ true → r < width (kind_at (kinds (without_torn s)) k).row → r < specimens_left s
    unfolding width
    row-left k r e l = go (has_specimens (sizes s) k) (rw (specimen-row-kind k e) at l)
      where
        go : (b : Bool) → r < cond b (specimens_left s) 0 → r < specimens_left s
        go true l = l
        go false l = absurd (omega arith)

    row-sent : (k r : ℕ) → r < width (kind_at (kinds (without_torn s)) k).row → sent_row s k r < width (kind_at (kinds s) k).row
    unfolding width sizes
    row-sent k r l = go (of_specimen k) refl
      where
        sent : (b : Bool) → r < cond b (specimens_left s) 0 → sent_specimen s r < cond b (specimens s) 0
        sent true l = sent-below s r l
        sent false l = absurd (omega arith)

        go : (b : Bool) → of_specimen k ≡ b → cond b (sent_specimen s r) r < width (kind_at (kinds s) k).row
        go true e = rw (specimen-rows (sizes s) k e) (sent (has_specimens (sizes s) k) (rw (specimen-row-kind k e) at l))
        go false e = rw (row-kind k e) at l

    complete-taken : (k : ℕ) → k < kind_numbers → missing (kinds (without_torn s)) (without_torn s) k ≡ false
    complete-taken k l =
        has-complete (kinds (without_torn s)) (without_torn s) k
        (λ n r c v e.
        has-taken w s a k n r c (λ q. row-left k r q v.row)
        ∙ complete-has (kinds s) s k n (sent_row s k r) c (sym (sparse-kind k) ∙ e) (any_none kind_numbers (missing (kinds s) s) k l a.formed.complete)
        (record { number = rw (count-kind k) at v.number; row = row-sent k r v.row; column = rw (column-kind k) at v.column }))

    -- Z has the columns that the blocks want
    fits-taken : misfit (without_torn s) ≡ misfit s
    unfolding misfit of_specimen
    fits-taken = rw (rows_taken s 3 refl, rows_taken s 4 refl, as_many, blocks-taken)

    -- THE FILE WITHOUT ITS TORN SPECIMENS IS ACCEPTED
    accepted-taken : AcceptedSeries w (without_torn s)
    accepted-taken =
        record {
          formed =
              record {
                whole = whole-taken s;
                rises = rises-taken s a.formed.rises;
                good = none-taken s (bad_record (kenward_roger w) (without_torn s)) good-taken;
                once = none-taken s (again (kinds (without_torn s)) (without_torn s)) once-taken;
                complete = none_any kind_numbers (missing (kinds (without_torn s)) (without_torn s)) complete-taken;
                within = none-taken s (beyond (kinds (without_torn s)) (without_torn s)) within-taken;
              };
          counted = none-taken s (miscounted (without_torn s)) counted-taken;
          sized = sized-taken ∙ a.sized;
          pulled = pulled-taken;
          finite = none-taken s (not_finite (without_torn s)) finite-taken;
          positive = rw sigma2-taken a.positive;
          weighed = weighed-taken;
          fits = fits-taken ∙ a.fits;
          nonzero = nonzero-taken ∙ a.nonzero;
        }

    pub refusal-taken : refusal w (without_torn s) ≡ 0
    refusal-taken = accepted-refusal w (without_torn s) accepted-taken
