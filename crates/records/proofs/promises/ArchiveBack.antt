-- An archive that is written is read back: its file is accepted, what the file archives is the archive, and each cell's number, scaled or not, is the one that was written. So for any archive whose
-- numbers are finite f64 numbers in tables, with sigma2 above 0; and what is archived of an accepted series is such an archive.
use Prim.Native.Nat.{ℕ, ◌+◌, ◌-◌, ◌%◌, ◌^◌, ◌<◌, ◌≤◌}
use mathlib.Core.Path.{◌≡◌, refl, ap, ap₂, sym, ◌∙◌}
use mathlib.Core.Bool.{Bool, true, false, not, ◌||◌, or_assoc}
use mathlib.Core.List.{List}
use native.Mathlib.Omega.{arith}
use lib.Dec.{T, eqb, lit≤, lit<}
use lib.ListN.{length}
use lib.Ieee.{Float, nan, binary64, fits, mul, div, le, to_bits, of_bits}
use lib.Ieee.Fits.{mul-fits, div-fits}
use lib.Ieee.Bits.{of_bits-to_bits, to_bits-lt}
use borrow.Author.Tests.{eq-eqb, lt-ltb, not-false}
use Rattle.arithmetic.specs.declared.Marked.{Marked}
use Rattle.arithmetic.specs.Marks.{given, marked_mul, marked_div}
use Rattle.arithmetic.proofs.MarkLaws.{mul-value, div_value}
use Rattle.arithmetic_cutoffs.specs.declared.Cutoffs.{Cutoffs}
use Rattle.arithmetic.specs.Numbers.{plus_zero, is_finite}
use Rattle.algebra.specs.Fold.{fold}
use Rattle.algebra.specs.Kind.{floats, marks, zero_of}
use Rattle.algebra.specs.Product.{at, times_number, over_number}
use Rattle.algebra.specs.Table.{table}
use Rattle.algebra.specs.Small.{Rows, given_cells}
use Rattle.algebra.specs.Reasons.{first}
use Rattle.algebra.proofs.FoldLaws.{fold-ext}
use Rattle.algebra.proofs.TableLaws.{table_at, table-ext}
use Rattle.algebra.proofs.ReasonLaws.{first-none, first-front}
use Rattle.adjustment.specs.Covariance.{matrices}
use Rattle.adjustment.specs.Adjusted.{Adjustment, matrix_at, stack, scaled_up, scaled_down, not_all_finite, not_all_finite_marked, output_not_finite, adjustment_reasons, adjustment_refusal}
use Rattle.adjustment.proofs.WrittenLaws.{table-again, stack-ext, WrittenAdjustment, adjustment-in-tables}
use Rattle.records.specs.declared.Field.{Field}
use Rattle.records.specs.declared.Field.TheVariants.{Index, Number, Unused}
use Rattle.records.specs.declared.Value.TheVariants.{Float as FloatBits}
use Rattle.records.specs.declared.Kind.{Kind}
use Rattle.records.specs.declared.Sizes.{Sizes}
use Rattle.records.specs.format.Scan.{any}
use Rattle.records.specs.format.Kinds.{holds, width, value_holds, Table, kind_at, kind_numbers, archive_kinds, kinds_of, limits, archive_table}
use Rattle.records.specs.format.Cells.{slot_count, slot}
use Rattle.records.specs.format.File.{count, kind_of, row_of, column_of, padding_of, count_of, value_of, out_of, bad_record, again, cell, rows, columns, missing, beyond, not_finite, length_reasons, form_reasons}
use Rattle.records.specs.format.Order.{numbers_matrix, falls, order_reasons}
use Rattle.records.specs.format.Written.{Content, field_of, file_of}
use Rattle.records.specs.readers.Archive.{Archive, sizes_at, archived, archive_content, archive_bytes, coefficients, parameters, sizes, kinds, cell_value, archive_of, misscaled, value_reasons, scaled_reasons, reasons, refusal}
use Rattle.records.specs.readers.Shortened.{shortened}
use Rattle.records.specs.readers.Series as series
use Rattle.records.specs.calls.KenwardRogerCall.{adjusted}
use Rattle.records.specs.calls.ArchiveCall.{series_archive, series_reasons, series_refusal}
use Rattle.records.specs.promises.ArchiveKeeps.{ArchiveCell, ReadsBack}
use Rattle.records.proofs.format.ScanLaws.{or-false, any_none, none_any, none-any-cells, fold-any}
use Rattle.records.proofs.format.Slots.{holds-index, within, Inside, slot-below}
use Rattle.records.proofs.format.WrittenLaws.{count-file, whole-file}
use Rattle.records.proofs.format.ReadBack.{cell-of, Fitting, record-fitting, file-beyond, file-again, file-missing, file-cell}
use Rattle.records.proofs.format.InOrder.{tells, orderly, orderly-at, told, told-count, written-rises}
use Rattle.records.proofs.readers.Limits.{field-below-most, rows_inside, columns-inside, archive-sizes-below, AllNumbered, each-numbered, narrower, kind-below}
use Rattle.records.proofs.readers.AcceptedSeries.{AcceptedSeries, accepted-series}
use Rattle.records.proofs.format.CellLaws.{cell-finite}
use Rattle.records.proofs.readers.SeriesInput.{series-sized, matrices-bound, phi-at, phi-fits, sigma2-fits}
use Rattle.records.proofs.calls.CallLaws.{first_next}
use Rattle.records.specs.declared.Shape.TheVariants.{Archived}

-- ---- the cells of a table one by one
-- what holds of the cells of each line holds of each cell: a kind that is not listed has none
pub each-cell : (t : Table) (P : ℕ → ℕ → ℕ → ℕ → Type 0) → AllNumbered t (λ k z. (n r c : ℕ) → Inside z n r c → P k n r c) → (k n r c : ℕ) → Inside (kind_at t k) n r c → P k n r c
unfolding width
each-cell t P h k = each-numbered t (λ k z. (n r c : ℕ) → Inside z n r c → P k n r c) h k (λ n r c w. absurd (let l = w.row in omega arith))

-- ---- a field that tells its cells apart holds the numbers below its width, and so a wider one holds what a narrower one does
holds-under : (g : Field) (x : ℕ) → tells g ≡ true → holds g x ≡ true → x < width g
holds-under g x e h = let a = holds-index g x h in let q = told g x e h in omega arith

under-holds : (g : Field) (x : ℕ) → tells g ≡ true → x < width g → holds g x ≡ true
unfolding holds width
under-holds (Index limit) x e h = lt-ltb x limit h
under-holds Number x e h = refl
under-holds Unused x e h = eq-eqb x 0 (omega arith)

wider-holds : (f g : Field) (x : ℕ) → tells f ≡ true → tells g ≡ true → width f ≤ width g → holds f x ≡ true → holds g x ≡ true
wider-holds f g x a b l h = let m = holds-under f x a h in under-holds g x b (omega arith)

-- ---- any written file
-- the index of a field's last cell is written in it
limit-written : (g : Field) (x y limit : ℕ) → g ≡ Index limit → x + 1 ≡ limit → field_of g x y + 1 ≡ limit
unfolding field_of
limit-written g x y limit e h = ap (λ (z : Field). field_of z x y + 1) e ∙ h

module _ (t : Table) (f : ℕ → ℕ → ℕ → ℕ → Content) (fit : Fitting t f) where
  -- no record lies beyond what its kind has
  within-limits : (i : ℕ) → i < count (file_of t f) → out_of (kind_at t (kind_of (file_of t f) i)) (file_of t f) i ≡ false
  unfolding beyond
  within-limits i m = file-beyond t f fit i (let b = count-file t f in omega arith)

  -- the rows of a kind that has a cell are all that the table has; so are the columns
  file-rows : (k limit n r c : ℕ) → k < kind_numbers → (kind_at t k).row ≡ Index limit → Inside (kind_at t k) n r c → r + 1 ≡ limit → rows (file_of t f) k ≡ limit
  unfolding rows
  file-rows k limit n r c l e w q =
      let s = file_of t f in
      let y = record-fitting t f fit k n r c l w in
      let high : rows s k ≤ limit = rows_inside t s within-limits k limit e in
      let low : row_of s (slot t k n r c) < rows s k = field-below-most s k (row_of s) (slot t k n r c) (let a = slot-below t k n r c kind_numbers w l in let b = count-file t f in omega arith) y.kind in
      let here = y.row in
      let end = limit-written (kind_at t k).row r (f k n r c).row limit e q in
      omega arith

  file-columns : (k limit n r c : ℕ) → k < kind_numbers → (kind_at t k).column ≡ Index limit → Inside (kind_at t k) n r c → c + 1 ≡ limit → columns (file_of t f) k ≡ limit
  unfolding columns
  file-columns k limit n r c l e w q =
      let s = file_of t f in
      let y = record-fitting t f fit k n r c l w in
      let high : columns s k ≤ limit = columns-inside t s within-limits k limit e in
      let low : column_of s (slot t k n r c) < columns s k = field-below-most s k (column_of s) (slot t k n r c) (let a = slot-below t k n r c kind_numbers w l in let b = count-file t f in omega arith) y.kind in
      let here = y.column in
      let end = limit-written (kind_at t k).column c (f k n r c).column limit e q in
      omega arith

-- ---- an archive that can be written: its sizes are within the limits, each of its numbers is a finite f64 number, each matrix is the table of its own cells, and sigma2 is above 0
pub record Archivable (a : Archive) : Type 0 where
  pub some_coefficients : 1 ≤ a.coefficients
  pub coefficients_below : a.coefficients ≤ 6
  pub some_parameters : 1 ≤ a.parameters
  pub parameters_below : a.parameters ≤ 4
  pub written : (k n r d : ℕ) → ArchiveCell a k n r d → T (fits binary64 (archived a k n r d))
  pub finite : (k n r d : ℕ) → ArchiveCell a k n r d → is_finite (archived a k n r d) ≡ true
  pub phi_table : table plus_zero 6 6 a.coefficients a.coefficients (at floats a.phi) ≡ a.phi
  pub phi_a_table : table plus_zero 6 6 a.coefficients a.coefficients (at floats a.phi_a) ≡ a.phi_a
  pub ps_table : stack 4 a.parameters (λ r. table plus_zero 6 6 a.coefficients a.coefficients (at floats (matrix_at a.ps r))) ≡ a.ps
  pub w_table : table plus_zero 6 6 a.parameters a.parameters (at floats a.w) ≡ a.w
  pub positive : le a.sigma2 plus_zero ≡ false

-- the table of an archive's sizes
abbrev pub archive_kinds_of : Archive → Table
archive_kinds_of a = archive_kinds (sizes_at a.coefficients a.parameters)

-- a cell by the table, and by what an archive has
archive-cell : (a : Archive) (k n r d : ℕ) → Inside (kind_at (archive_kinds_of a) k) n r d → ArchiveCell a k n r d
archive-cell a k n r d w = record { index = w.number; row = w.row; column = w.column }

archive-inside : (a : Archive) (k n r d : ℕ) → ArchiveCell a k n r d → Inside (kind_at (archive_kinds_of a) k) n r d
archive-inside a k n r d w = record { number = w.index; row = w.row; column = w.column }

-- its kind is one that the files have
pub archive-kind-below : (z : Sizes) (k n r d : ℕ) → Inside (kind_at (archive_kinds z) k) n r d → k < kind_numbers
archive-kind-below z k n r d w = kind-below Archived z k n r d w

-- each field of an archive's kinds tells its cells apart
pub archive-orderly : (z : Sizes) → orderly (archive_kinds z) ≡ true
unfolding archive_kinds numbers_matrix
archive-orderly z = refl

module _ (a : Archive) (h : Archivable a) where
  -- what the cells say fits their records
  counts-fit : (k : ℕ) → width (kind_at (archive_kinds_of a) k).count ≤ 2 ^ 32
  unfolding archive_kinds sizes_at width
  counts-fit k =
      let one : 1 ≤ 2 ^ 32 = lit≤ tt in
      let N : a.parameters ≤ 2 ^ 32 = let b = h.parameters_below in omega arith in
      each-numbered (archive_kinds_of a) (λ k z. width z.count ≤ 2 ^ 32) (one, (one, (N, (one, (one, (one, (N, (one, tt)))))))) k one

  archive-fitting : Fitting (archive_kinds_of a) (archive_content a)
  unfolding archive_content
  archive-fitting =
      record {
        counts = λ k l. counts-fit k;
        number = λ k n r c l w. lit< tt;
        bits = λ k n r c l w. to_bits-lt binary64 (archived a k n r c) (h.written k n r c (archive-cell a k n r c w));
      }

  -- ---- the sizes that are read are the archive's, and so is the table
  pub archive-coefficients : coefficients (archive_bytes a) ≡ a.coefficients
  unfolding archive_bytes kind_at archive_kinds sizes_at width
  archive-coefficients =
      let p = a.coefficients in
      let l = h.some_coefficients in
      let e : p - 1 + 1 ≡ p = omega arith in
      let r = file-rows (archive_kinds_of a) (archive_content a) archive-fitting 11 p 0 (p - 1) 0 (lit< tt) refl (record { number = lit< tt; row = omega arith; column = omega arith }) e in
      let c = file-columns (archive_kinds_of a) (archive_content a) archive-fitting 11 p 0 0 (p - 1) (lit< tt) refl (record { number = lit< tt; row = omega arith; column = omega arith }) e in
      omega arith

  archive-parameters : parameters (archive_bytes a) ≡ a.parameters
  unfolding archive_bytes kind_at archive_kinds sizes_at width
  archive-parameters =
      let N = a.parameters in
      let l = h.some_parameters in
      let e : N - 1 + 1 ≡ N = omega arith in
      let r = file-rows (archive_kinds_of a) (archive_content a) archive-fitting 14 N 0 (N - 1) 0 (lit< tt) refl (record { number = lit< tt; row = omega arith; column = omega arith }) e in
      let c = file-columns (archive_kinds_of a) (archive_content a) archive-fitting 14 N 0 0 (N - 1) (lit< tt) refl (record { number = lit< tt; row = omega arith; column = omega arith }) e in
      omega arith

  archive-kinds : kinds (archive_bytes a) ≡ archive_kinds_of a
  unfolding sizes
  archive-kinds = ap₂ (λ (p N : ℕ). archive_kinds (sizes_at p N)) archive-coefficients archive-parameters

  -- ---- each cell has its number
  archive-cells : (k n r d : ℕ) → ArchiveCell a k n r d → cell_value (archive_bytes a) k n r d ≡ archived a k n r d
  unfolding archive_bytes archive_content
  archive-cells k n r d w =
      let i = archive-inside a k n r d w in
      ap (λ (u : Table). cell u (archive_bytes a) k n r d) archive-kinds
      ∙ file-cell (archive_kinds_of a) (archive_content a) archive-fitting k n r d (archive-kind-below (sizes_at a.coefficients a.parameters) k n r d i) i
      ∙ of_bits-to_bits binary64 (archived a k n r d) (h.written k n r d w)

  -- a matrix of the coefficients comes back, where its cells do
  square-back : (k : ℕ) (m : Rows) → ((r d : ℕ) → r < a.coefficients → d < a.coefficients → cell_value (archive_bytes a) k 0 r d ≡ at floats m r d) → table plus_zero 6 6 a.coefficients a.coefficients (at floats m) ≡ m
      → table plus_zero 6 6 (coefficients (archive_bytes a)) (coefficients (archive_bytes a)) (cell_value (archive_bytes a) k 0) ≡ m
  square-back k m e q =
      ap (λ (p : ℕ). table plus_zero 6 6 p p (cell_value (archive_bytes a) k 0)) archive-coefficients
      ∙ table-ext plus_zero 6 6 a.coefficients a.coefficients (cell_value (archive_bytes a) k 0) (at floats m) e
      ∙ q

  -- so Φ, Φ_A, the Ps, W and sigma2
  phi-back : table plus_zero 6 6 (coefficients (archive_bytes a)) (coefficients (archive_bytes a)) (cell_value (archive_bytes a) 15 0) ≡ a.phi
  unfolding kind_at archive_kinds sizes_at width archived
  phi-back = square-back 15 a.phi (λ r d l m. archive-cells 15 0 r d (record { index = lit< tt; row = l; column = m })) h.phi_table

  phi_a-back : table plus_zero 6 6 (coefficients (archive_bytes a)) (coefficients (archive_bytes a)) (cell_value (archive_bytes a) 16 0) ≡ a.phi_a
  unfolding kind_at archive_kinds sizes_at width archived
  phi_a-back = square-back 16 a.phi_a (λ r d l m. archive-cells 16 0 r d (record { index = lit< tt; row = l; column = m })) h.phi_a_table

  ps-back : stack 4 (parameters (archive_bytes a)) (λ i. table plus_zero 6 6 (coefficients (archive_bytes a)) (coefficients (archive_bytes a)) (cell_value (archive_bytes a) 17 i)) ≡ a.ps
  unfolding kind_at archive_kinds sizes_at width archived
  ps-back =
      ap₂ (λ (N p : ℕ). stack 4 N (λ i. table plus_zero 6 6 p p (cell_value (archive_bytes a) 17 i))) archive-parameters archive-coefficients
      ∙ stack-ext 4 a.parameters (λ i. table plus_zero 6 6 a.coefficients a.coefficients (cell_value (archive_bytes a) 17 i)) (λ i. table plus_zero 6 6 a.coefficients a.coefficients (at floats (matrix_at a.ps i)))
      (λ i b. table-ext plus_zero 6 6 a.coefficients a.coefficients (cell_value (archive_bytes a) 17 i) (at floats (matrix_at a.ps i)) (λ r d l m. archive-cells 17 i r d (record { index = b; row = l; column = m })))
      ∙ h.ps_table

  w-back : table plus_zero 6 6 (parameters (archive_bytes a)) (parameters (archive_bytes a)) (cell_value (archive_bytes a) 14 0) ≡ a.w
  unfolding kind_at archive_kinds sizes_at width archived
  w-back =
      ap (λ (N : ℕ). table plus_zero 6 6 N N (cell_value (archive_bytes a) 14 0)) archive-parameters
      ∙ table-ext plus_zero 6 6 a.parameters a.parameters (cell_value (archive_bytes a) 14 0) (at floats a.w) (λ r d l m. archive-cells 14 0 r d (record { index = lit< tt; row = l; column = m }))
      ∙ h.w_table

  sigma2-back : cell_value (archive_bytes a) 18 0 0 0 ≡ a.sigma2
  unfolding kind_at archive_kinds sizes_at width archived
  sigma2-back = archive-cells 18 0 0 0 (record { index = lit< tt; row = lit< tt; column = lit< tt })

  -- so what the file archives is the archive
  archive-same : archive_of (archive_bytes a) ≡ a
  unfolding archive_of
  archive-same = rw (phi-back, phi_a-back, ps-back, w-back, sigma2-back, archive-coefficients, archive-parameters)

  -- ---- no reason refuses the file
  -- every value of an archive is an f64's bits
  value-bits : (k n r d : ℕ) → Inside (kind_at (archive_kinds_of a) k) n r d → (kind_at archive_table k).value ≡ FloatBits
  unfolding kind_at archive_kinds sizes_at limits
  value-bits = each-cell (archive_kinds_of a) (λ k n r d. (kind_at archive_table k).value ≡ FloatBits)
      (λ n r d w. refl, (λ n r d w. refl, (λ n r d w. refl, (λ n r d w. refl, (λ n r d w. refl, (λ n r d w. refl, (λ n r d w. refl, (λ n r d w. refl, tt))))))))

  -- no record is bad: it lies within the sizes, and so within the limits; byte 3 is 0; its value is an f64's bits
  record-good : (i : ℕ) → i < slot_count (archive_kinds_of a) → bad_record archive_table (file_of (archive_kinds_of a) (archive_content a)) i ≡ false
  unfolding bad_record out_of beyond value_holds
  record-good i l =
      let s = file_of (archive_kinds_of a) (archive_content a) in
      let x = cell-of (archive_kinds_of a) i l in
      let y = record-fitting (archive_kinds_of a) (archive_content a) archive-fitting x.kind x.number x.row x.column x.below x.inside in
      let kind : kind_of s i ≡ x.kind = ap (λ (j : ℕ). kind_of s j) (sym x.place) ∙ y.kind in
      let padding : padding_of s i ≡ 0 = ap (λ (j : ℕ). padding_of s j) (sym x.place) ∙ y.padding in
      let z = kind_at (archive_kinds_of a) (kind_of s i) in
      let u = kind_at archive_table (kind_of s i) in
      let v = within z s i (file-beyond (archive_kinds_of a) (archive_content a) archive-fitting i l) in
      let o = orderly-at (archive_kinds_of a) (kind_of s i) (archive-orderly (sizes_at a.coefficients a.parameters)) in
      let b = orderly-at archive_table (kind_of s i) (archive-orderly (limits 1)) in
      let n = narrower (sizes_at a.coefficients a.parameters) (limits 1) (archive-sizes-below a.coefficients a.parameters h.coefficients_below h.parameters_below) Archived (kind_of s i) in
      let bits : u.value ≡ FloatBits = ap (λ (k : ℕ). (kind_at archive_table k).value) kind ∙ value-bits x.kind x.number x.row x.column x.inside in
      rw (
        wider-holds z.row u.row (row_of s i) o.row b.row n.row v.row,
        wider-holds z.column u.column (column_of s i) o.column b.column n.column v.column,
        wider-holds z.count u.count (count_of s i) (told-count z.count (numbers_matrix (kind_of s i)) o.number) (told-count u.count (numbers_matrix (kind_of s i)) b.number) n.number v.number,
        padding,
        bits,
      )

  -- each number is finite
  record-finite : (i : ℕ) → i < slot_count (archive_kinds_of a) → not_finite (file_of (archive_kinds_of a) (archive_content a)) i ≡ false
  unfolding not_finite archive_content
  record-finite i l =
      let s = file_of (archive_kinds_of a) (archive_content a) in
      let x = cell-of (archive_kinds_of a) i l in
      let y = record-fitting (archive_kinds_of a) (archive_content a) archive-fitting x.kind x.number x.row x.column x.below x.inside in
      let w = archive-cell a x.kind x.number x.row x.column x.inside in
      let e : value_of s i ≡ archived a x.kind x.number x.row x.column =
      ap (λ (j : ℕ). value_of s j) (sym x.place) ∙ ap (of_bits binary64) y.bits ∙ of_bits-to_bits binary64 (archived a x.kind x.number x.row x.column) (h.written x.kind x.number x.row x.column w) in
      ap (λ (v : Float). not (is_finite v)) e ∙ ap not (h.finite x.kind x.number x.row x.column w)

  -- and each scaled one is the residual one times or divided by sigma2
  scaled-back : (k : ℕ) → misscaled (archive_bytes a) k ≡ false
  unfolding misscaled
  scaled-back k =
      ap (λ (u : Table). any (width (kind_at u k).count) (λ n. any (width (kind_at u k).row) (λ r. any (width (kind_at u k).column) (λ d. differs n r d)))) archive-kinds
      ∙ none-any-cells (width z.count) (width z.row) (width z.column) differs (λ n r d ln lr ld. same n r d (record { index = ln; row = lr; column = ld }))
    where
      z : Kind
      z = kind_at (archive_kinds_of a) k

      differs : ℕ → ℕ → ℕ → Bool
      differs n r d = not (eqb (to_bits binary64 (cell_value (archive_bytes a) k n r d)) (to_bits binary64 (archived (archive_of (archive_bytes a)) k n r d)))

      same : (n r d : ℕ) → ArchiveCell a k n r d → differs n r d ≡ false
      same n r d w = ap not (eq-eqb _ _ (ap (to_bits binary64) (archive-cells k n r d w ∙ sym (ap (λ (b : Archive). archived b k n r d) archive-same))))

  -- so the file is accepted
  archive-accepted : refusal (archive_bytes a) ≡ 0
  unfolding refusal reasons length_reasons order_reasons form_reasons value_reasons scaled_reasons first archive_bytes
  archive-accepted =
      let s = file_of (archive_kinds_of a) (archive_content a) in
      let e = count-file (archive_kinds_of a) (archive_content a) in
      let u = archive_kinds_of a in
      let f = archive_content a in
      let length-right : not (eqb (length s % 16) 0) ≡ false = ap not (eq-eqb (length s % 16) 0 (whole-file u f)) in
      let order : falls s ≡ false = written-rises u f archive-fitting (archive-orderly (sizes_at a.coefficients a.parameters)) in
      let good : any (count s) (bad_record archive_table s) ≡ false = none_any (count s) (bad_record archive_table s) (λ i l. record-good i (omega arith)) in
      let once : any (count s) (again u s) ≡ false = none_any (count s) (again u s) (λ i l. file-again u f archive-fitting i (omega arith)) in
      let complete : any kind_numbers (missing u s) ≡ false = none_any kind_numbers (missing u s) (λ k l. file-missing u f archive-fitting k l) in
      let inside : any (count s) (beyond u s) ≡ false = none_any (count s) (beyond u s) (λ i l. file-beyond u f archive-fitting i (omega arith)) in
      let finite : any (count s) (not_finite s) ≡ false = none_any (count s) (not_finite s) (λ i l. record-finite i (omega arith)) in
      let positive : le (archive_of s).sigma2 plus_zero ≡ false = ap (λ (b : Archive). le b.sigma2 plus_zero) archive-same ∙ h.positive in
      let k11 : misscaled s 11 ≡ false = scaled-back 11 in
      let k12 : misscaled s 12 ≡ false = scaled-back 12 in
      let k13 : misscaled s 13 ≡ false = scaled-back 13 in
      let e : kinds s ≡ u = archive-kinds in
      rw (e, length-right, order, good, once, complete, inside, finite, positive, k11, k12, k13)

-- AN ARCHIVE THAT CAN BE WRITTEN IS READ BACK
archive-reads-back : (a : Archive) → Archivable a → ReadsBack a
archive-reads-back a h = record { accepted = archive-accepted a h; same = archive-same a h; cells = archive-cells a h }

-- ---- an accepted series
-- a search by rows and columns
fold-any-cells : (r c : ℕ) (q : ℕ → ℕ → Bool) → fold 0 r (λ i z. fold 0 c (λ j z. z || q i j) z) false ≡ any r (λ i. any c (q i))
fold-any-cells r c q =
    fold-ext 0 r (λ i z. fold 0 c (λ j z. z || q i j) z) (λ i z. z || any c (q i)) false (λ i l m z. fold-any c (q i) z) ∙ fold-any r (λ i. any c (q i)) false

none-cells : (r c : ℕ) (q : ℕ → ℕ → Bool) → fold 0 r (λ i z. fold 0 c (λ j z. z || q i j) z) false ≡ false → (i j : ℕ) → i < r → j < c → q i j ≡ false
none-cells r c q e i j h l = any_none c (q i) j l (any_none r (λ i. any c (q i)) i h (sym (fold-any-cells r c q) ∙ e))

-- where not one number of a matrix fails to be finite each is
all-finite : (r c : ℕ) (m : Rows) → not_all_finite r c m ≡ false → (i j : ℕ) → i < r → j < c → is_finite (at floats m i j) ≡ true
unfolding not_all_finite
all-finite r c m e i j h l = not-false (is_finite (at floats m i j)) (none-cells r c (λ i j. not (is_finite (at floats m i j))) e i j h l)

all-finite-marked : (r c : ℕ) (m : List (List Marked)) → not_all_finite_marked r c m ≡ false → (i j : ℕ) → i < r → j < c → is_finite (at marks m i j).value ≡ true
unfolding not_all_finite_marked
all-finite-marked r c m e i j h l = not-false (is_finite (at marks m i j).value) (none-cells r c (λ i j. not (is_finite (at marks m i j).value)) e i j h l)

-- so for all that the adjustment's late refusal asks
record FiniteOutput (p N : ℕ) (phi : Rows) (sigma2 : Float) (a : Adjustment) : Type 0 where
  phi_a : not_all_finite p p a.phi_a ≡ false
  w : not_all_finite N N a.w ≡ false
  phi_up : not_all_finite_marked p p (scaled_up marks p phi sigma2) ≡ false
  phi_a_up : not_all_finite_marked p p (scaled_up marks p a.phi_a sigma2) ≡ false
  ps : (r : ℕ) → r < N → not_all_finite p p (matrix_at a.ps r) ≡ false
  ps_down : (r : ℕ) → r < N → not_all_finite_marked p p (scaled_down marks p (matrix_at a.ps r) sigma2) ≡ false

finite-output : (p N : ℕ) (phi : Rows) (sigma2 : Float) (a : Adjustment) → output_not_finite p N phi sigma2 a ≡ false → FiniteOutput p N phi sigma2 a
unfolding output_not_finite
finite-output p N phi sigma2 a e =
    let A : Bool = not_all_finite p p a.phi_a in
    let B : Bool = not_all_finite N N a.w in
    let C : Bool = not_all_finite_marked p p (scaled_up marks p phi sigma2) in
    let D : Bool = not_all_finite_marked p p (scaled_up marks p a.phi_a sigma2) in
    let x : ℕ → Bool = λ r. not_all_finite p p (matrix_at a.ps r) in
    let y : ℕ → Bool = λ r. not_all_finite_marked p p (scaled_down marks p (matrix_at a.ps r) sigma2) in
    let E : Bool = fold 0 N (λ r z. z || x r || y r) false in
    let d = or-false (A || B || C || D) E e in
    let c = or-false (A || B || C) D d.0 in
    let b = or-false (A || B) C c.0 in
    let f = or-false A B b.0 in
    let each : any N (λ r. x r || y r) ≡ false = sym (fold-ext 0 N (λ r z. z || x r || y r) (λ r z. z || (x r || y r)) false (λ r l m z. or_assoc z (x r) (y r)) ∙ fold-any N (λ r. x r || y r) false) ∙ d.1 in
    record {
      phi_a = f.0;
      w = f.1;
      phi_up = b.1;
      phi_a_up = c.1;
      ps = λ r l. (or-false (x r) (y r) (any_none N (λ r. x r || y r) r l each)).0;
      ps_down = λ r l. (or-false (x r) (y r) (any_none N (λ r. x r || y r) r l each)).1;
    }

-- a marked cell's value is the plain product, or quotient
up-value : (p : ℕ) (m : Rows) (x : Float) (i j : ℕ) → p ≤ 6 → i < p → j < p → (at marks (scaled_up marks p m x) i j).value ≡ mul binary64 (at floats m i j) x
unfolding scaled_up times_number given_cells
up-value p m x i j hp h l =
    let g : List (List Marked) = given_cells marks 6 6 p p m in
    ap (λ (a : Marked). a.value)
    (table_at (zero_of marks) 6 6 p p (λ i j. marked_mul (at marks g i j) (given x)) i j marks.void h l hp hp
    ∙ ap (λ (a : Marked). marked_mul a (given x)) (table_at (zero_of marks) 6 6 p p (λ i j. given (at floats m i j)) i j marks.void h l hp hp))
    ∙ mul-value (given (at floats m i j)) (given x)

down-value : (p : ℕ) (m : Rows) (x : Float) (i j : ℕ) → p ≤ 6 → i < p → j < p → (at marks (scaled_down marks p m x) i j).value ≡ div binary64 (at floats m i j) x
unfolding scaled_down over_number given_cells
down-value p m x i j hp h l =
    let g : List (List Marked) = given_cells marks 6 6 p p m in
    ap (λ (a : Marked). a.value)
    (table_at (zero_of marks) 6 6 p p (λ i j. marked_div (at marks g i j) (given x)) i j marks.void h l hp hp
    ∙ ap (λ (a : Marked). marked_div a (given x)) (table_at (zero_of marks) 6 6 p p (λ i j. given (at floats m i j)) i j marks.void h l hp hp))
    ∙ div_value (given (at floats m i j)) (given x)

-- a series that neither the reader nor the adjustment refuses
module _ (w : ℕ) (c : Cutoffs) (s : List ℕ) (e : series_refusal w c s ≡ 0) where
  pub series-accepted : series.refusal w s ≡ 0
  unfolding series_refusal series_reasons series.refusal
  series-accepted = first-front (series.reasons w s) (adjustment_reasons c (series.design s) (series.phi s) (series.sigma2 s)) e

  -- none of the reader's reasons holds
  series-facts : AcceptedSeries w s
  series-facts = accepted-series w s series-accepted

  -- nor any of the adjustment's
  pub series-adjusted : adjustment_refusal c (series.design s) (series.phi s) (series.sigma2 s) ≡ 0
  unfolding series_refusal series_reasons series.refusal series.reasons length_reasons order_reasons form_reasons series.block_reasons series.size_reasons series.value_reasons adjustment_refusal
  series-adjusted = sym (first_next (series.reasons w s) (adjustment_reasons c (series.design s) (series.phi s) (series.sigma2 s)) refl series-accepted) ∙ e

  -- so each number of the output is finite
  output-finite : output_not_finite (series.coefficients s) (matrices (series.design s)) (series.phi s) (series.sigma2 s) (adjusted c s) ≡ false
  unfolding adjustment_refusal adjustment_reasons adjusted series.design series.as_sent shortened
  output-finite = first-none (adjustment_reasons c (series.design s) (series.phi s) (series.sigma2 s)) refl series-adjusted 3 (lit< tt)

  -- ---- its sizes: "coefficients p 1–6", "block parameters at most 3 over all blocks", and one P more
  p-most : series.coefficients s ≤ 6
  p-most = (series-sized w s series-facts).coefficients

  N-least : 1 ≤ matrices (series.design s)
  N-least = omega arith

  N-most : matrices (series.design s) ≤ 4
  N-most = matrices-bound w s series-facts

  -- ---- its numbers
  -- what the adjustment gives are f64 numbers in tables, all finite
  in_tables : WrittenAdjustment c (series.design s) (series.phi s)
  unfolding series.design series.as_sent shortened
  in_tables = adjustment-in-tables c (series.design s) (series.phi s) p-most N-most

  all-parts : FiniteOutput (series.coefficients s) (matrices (series.design s)) (series.phi s) (series.sigma2 s) (adjusted c s)
  all-parts = finite-output (series.coefficients s) (matrices (series.design s)) (series.phi s) (series.sigma2 s) (adjusted c s) output-finite

  -- so each number that is archived is an f64 number
  numbers-written : (k n r d : ℕ) → Inside (kind_at (archive_kinds_of (series_archive c s)) k) n r d → T (fits binary64 (archived (series_archive c s) k n r d))
  unfolding series_archive archive_kinds sizes_at width archived adjusted series.design series.as_sent shortened
  numbers-written =
      each-cell (archive_kinds_of (series_archive c s)) (λ k n r d. T (fits binary64 (archived (series_archive c s) k n r d))) (
        λ n r d v. mul-fits binary64 _ _,
        (
          λ n r d v. mul-fits binary64 _ _,
          (
            λ n r d v. div-fits binary64 _ _,
            (
              λ n r d v. in_tables.w r d v.row v.column,
              (
                λ n r d v. phi-fits s p-most r d v.row v.column,
                (λ n r d v. in_tables.phi_a r d v.row v.column, (λ n r d v. in_tables.ps n v.number r d v.row v.column, (λ n r d v. sigma2-fits s, tt))),
              ),
            ),
          ),
        ),
      )

  -- and finite: the adjustment's refusal 4 asks for all but Φ and sigma2, and for these the reader's does
  numbers-finite : (k n r d : ℕ) → Inside (kind_at (archive_kinds_of (series_archive c s)) k) n r d → is_finite (archived (series_archive c s) k n r d) ≡ true
  unfolding series_archive archive_kinds sizes_at width archived adjusted series.design series.as_sent shortened
  numbers-finite =
      let p : ℕ = series.coefficients s in
      let N : ℕ = matrices (series.design s) in
      let x : Float = series.sigma2 s in
      let scaled : (m : Rows) → not_all_finite_marked p p (scaled_up marks p m x) ≡ false → (r d : ℕ) → r < p → d < p → is_finite (mul binary64 (at floats m r d) x) ≡ true =
      λ m e r d h l. rw (up-value p m x r d p-most h l) at (all-finite-marked p p (scaled_up marks p m x) e r d h l) in
      let divided : (m : Rows) → not_all_finite_marked p p (scaled_down marks p m x) ≡ false → (r d : ℕ) → r < p → d < p → is_finite (div binary64 (at floats m r d) x) ≡ true =
      λ m e r d h l. rw (down-value p m x r d p-most h l) at (all-finite-marked p p (scaled_down marks p m x) e r d h l) in
      each-cell (archive_kinds_of (series_archive c s)) (λ k n r d. is_finite (archived (series_archive c s) k n r d) ≡ true) (
        λ n r d v. scaled (series.phi s) all-parts.phi_up r d v.row v.column,
        (
          λ n r d v. scaled (adjusted c s).phi_a all-parts.phi_a_up r d v.row v.column,
          (
            λ n r d v. divided (matrix_at (adjusted c s).ps n) (all-parts.ps_down n v.number) r d v.row v.column,
            (
              λ n r d v. all-finite N N (adjusted c s).w all-parts.w r d v.row v.column,
              (
                λ n r d v. rw (phi-at s p-most r d v.row v.column) (cell-finite (series.kinds s) s 6 0 r d series-facts.finite),
                (
                  λ n r d v. all-finite p p (adjusted c s).phi_a all-parts.phi_a r d v.row v.column,
                  (
                    λ n r d v. all-finite p p (matrix_at (adjusted c s).ps n) (all-parts.ps n v.number) r d v.row v.column,
                    (λ n r d v. cell-finite (series.kinds s) s 7 0 0 0 series-facts.finite, tt),
                  ),
                ),
              ),
            ),
          ),
        ),
      )

  phi-again : table plus_zero 6 6 (series.coefficients s) (series.coefficients s) (at floats (series.phi s)) ≡ series.phi s
  unfolding series.phi
  phi-again = table-again plus_zero 6 6 (series.coefficients s) (series.coefficients s) (series.cell_value s 6) nan p-most p-most

  -- WHAT IS ARCHIVED OF AN ACCEPTED SERIES CAN BE WRITTEN
  pub series-archivable : Archivable (series_archive c s)
  unfolding series_archive adjusted series.design series.as_sent shortened
  series-archivable =
      record {
        some_coefficients = (series-sized w s series-facts).some;
        coefficients_below = p-most;
        some_parameters = N-least;
        parameters_below = N-most;
        written = λ k n r d v. numbers-written k n r d (archive-inside (series_archive c s) k n r d v);
        finite = λ k n r d v. numbers-finite k n r d (archive-inside (series_archive c s) k n r d v);
        phi_table = phi-again;
        phi_a_table = in_tables.phi_a_table;
        ps_table = in_tables.ps_table;
        w_table = in_tables.w_table;
        positive = series-facts.positive;
      }

  -- and so it is read back
  pub series-reads-back : ReadsBack (series_archive c s)
  series-reads-back = archive-reads-back (series_archive c s) series-archivable
