-- A series' own tests. A Kenward–Roger series that its reader accepts has its records of kinds 8 to 10 (β, contrast, β_H) at its end. Read as the second file of an archive of as many coefficients
-- they are accepted, and they give the tests what the series gives them.
use Prim.Native.Nat.{ℕ, ◌%◌, ◌<◌, ◌≤◌}
use mathlib.Core.Path.{◌≡◌, refl, ap, ap₂, sym, ◌∙◌, fun_ext}
use mathlib.Core.Bool.{true, false, not, ◌&&◌}
use mathlib.Core.List.{List}
use native.Mathlib.Omega.{arith}
use native.Mathlib.Decide.{dec_lt}
use lib.Dec.{eqb, lit<}
use lib.ListN.{length}
use lib.Ieee.{Float}
use borrow.Author.Tests.{eq-eqb, ne_eqb, not-false}
use Rattle.arithmetic.specs.Numbers.{plus_zero, is_zero}
use Rattle.algebra.specs.Table.{row, table}
use Rattle.algebra.specs.Reasons.{first}
use Rattle.records.specs.declared.Kind.{Kind}
use Rattle.records.specs.declared.Sizes.{Sizes}
use Rattle.records.specs.format.Scan.{any}
use Rattle.records.specs.format.Kinds.{width, index_of, Table, kind_at, kind_numbers, by_row, unread, kenward_roger_kinds, test_kinds, limits, kenward_roger, test_table}
use Rattle.records.specs.format.File.{count, kind_of, row_of, bad_record, again, has, is_cell, rows, present, beyond, missing, not_finite, length_reasons, form_reasons}
use Rattle.records.specs.format.Order.{falls, order_reasons}
use Rattle.records.specs.readers.Series as series
use Rattle.records.specs.readers.SecondFile as second
use Rattle.records.proofs.format.ScanLaws.{any_none, none_any, any-none-cells, any_found}
use Rattle.records.proofs.format.Slots.{within, good-within, cell-names}
use Rattle.records.proofs.readers.Limits.{holds-below, field-below-most, rows_inside}
use Rattle.records.proofs.readers.AcceptedSeries.{AcceptedSeries, accepted-series}
use Rattle.records.proofs.format.TailLaws.{records_from, whole-tail, falls-tail, Parted, parted, tests-tail, missing-unread, none-parted, rows-parted, not_finite-parted, bad-parted, beyond-parted, again-parted, missing-parted, cell-parted}

-- ---- the tables of a series and of a second file
-- they say the same of the kinds from 8 on, where the sizes that these kinds name are the same
late-kinds : (y z : Sizes) (k : ℕ) → 8 ≤ k → y.coefficients ≡ z.coefficients → y.contrasts ≡ z.contrasts → y.hypothesis ≡ z.hypothesis → kind_at (test_kinds y) k ≡ kind_at (kenward_roger_kinds z) k
unfolding kind_at test_kinds kenward_roger_kinds
late-kinds y z k l p q r =
    rw (ne_eqb k 1 (λ e. omega arith), ne_eqb k 2 (λ e. omega arith), ne_eqb k 3 (λ e. omega arith), ne_eqb k 4 (λ e. omega arith), ne_eqb k 5 (λ e. omega arith), ne_eqb k 6 (λ e. omega arith), ne_eqb k 7 (λ e. omega arith), p, q, r)

-- and a second file has no other kind
other-kinds : (z : Sizes) (k : ℕ) → (8 ≤ k → k ≤ 10 → ⊥) → kind_at (test_kinds z) k ≡ unread
unfolding kind_at test_kinds
other-kinds z k h = rw (ne_eqb k 8 (λ e. h (omega arith) (omega arith)), ne_eqb k 9 (λ e. h (omega arith) (omega arith)), ne_eqb k 10 (λ e. h (omega arith) (omega arith)))

-- so a series that has no bad record has no kind above 10
low-kinds : (w : ℕ) (s : List ℕ) (i : ℕ) → bad_record (kenward_roger w) s i ≡ false → kind_of s i ≤ 10
unfolding limits
low-kinds w s i good = go (dec_lt 10 (kind_of s i))
  where
    go : Dec (10 < kind_of s i) → kind_of s i ≤ 10
    go (no l) = omega arith
    go (yes l) =
        let e : kind_at (kenward_roger w) (kind_of s i) ≡ unread = sym (late-kinds (limits 1) (limits w) (kind_of s i) (omega arith) refl refl refl) ∙ other-kinds (limits 1) (kind_of s i) (λ a b. omega arith) in
        let h = (within (kind_at (kenward_roger w) (kind_of s i)) s i (good-within (kenward_roger w) s i good)).row in
        let z = holds-below (kind_at (kenward_roger w) (kind_of s i)).row (row_of s i) 0 (ap (λ (y : Kind). y.row) e) h in
        absurd (omega arith)

-- ---- a kind that is named by the row alone: where no record lies beyond its p rows and none is missing, it has p rows
module _ (t : Table) (s : List ℕ) (k p : ℕ) (is : kind_at t k ≡ by_row p) where
  -- no fewer: each row below p has a record, and a row that has one is below the number of rows
  has-row : (r : ℕ) → r < p → missing t s k ≡ false → has t s k 0 r 0 ≡ true
  unfolding missing width
  has-row r l none =
      let h : any 1 (λ n. any p (λ r. any 1 (λ c. not (has t s k n r c)))) ≡ false = rw is at none in
      not-false (has t s k 0 r 0) (any-none-cells 1 p 1 (λ n r c. not (has t s k n r c)) h 0 r 0 (lit< tt) l (lit< tt))

  rows-least : (r : ℕ) → has t s k 0 r 0 ≡ true → r < rows s k
  unfolding has rows index_of
  rows-least r h =
      let f = any_found (count s) (is_cell t s k 0 r 0) h in
      let n = cell-names t s k 0 r 0 f.index f.passes in
      let e : kind_at t (kind_of s f.index) ≡ by_row p = ap (kind_at t) n.kind ∙ is in
      let a : row_of s f.index ≡ r = ap (λ (y : Kind). index_of y.row (row_of s f.index)) (sym e) ∙ n.row in
      let m = field-below-most s k (row_of s) f.index f.below n.kind in
      omega arith

  -- and no more
  rows_whole : any (count s) (beyond t s) ≡ false → missing t s k ≡ false → rows s k ≡ p
  unfolding beyond
  rows_whole none complete = go (dec_lt (rows s k) p) (rows_inside t s (λ i l. any_none (count s) (beyond t s) i l none) k p (ap (λ (y : Kind). y.row) is))
    where
      go : Dec (rows s k < p) → rows s k ≤ p → rows s k ≡ p
      go (yes l) h = absurd (let z = rows-least (rows s k) (has-row (rows s k) l complete) in omega arith)
      go (no l) h = omega arith

-- ---- what the tests take from a second file u is what they take from a series s
pub record TestsSame (s u : List ℕ) : Type 0 where
  pub coefficients : second.coefficients u ≡ series.coefficients s
  pub contrast_rows : second.contrast_rows u ≡ series.contrast_rows s
  pub beta : second.beta u ≡ series.beta s
  pub beta_h : second.beta_h u ≡ series.beta_h s
  pub contrast : second.contrast u ≡ series.contrast s

module _ (w : ℕ) (s : List ℕ) (a : AcceptedSeries w s) (x : Parted s 8 (count s)) where
  abbrev u : List ℕ
  u = records_from s x.place

  -- the records of kinds 8 to 10 are this tail
  own-tail : second.own_tests s ≡ u
  unfolding second.own_tests
  own-tail = tests-tail s x a.formed.whole (λ i l. low-kinds w s i (any_none (count s) (bad_record (kenward_roger w) s) i l a.formed.good))

  -- ---- the sizes are the same: β has a row for each coefficient
  rows-own : (k : ℕ) → 8 ≤ k → rows u k ≡ rows s k
  rows-own k l = rows-parted s 8 x k l

  beta-rows : rows s 8 ≡ series.coefficients s
  unfolding kind_at kenward_roger_kinds series.sizes
  beta-rows = rows_whole (series.kinds s) s 8 (series.coefficients s) refl a.formed.within (any_none kind_numbers (missing (series.kinds s) s) 8 (lit< tt) a.formed.complete)

  coefficients-own : second.coefficients u ≡ series.coefficients s
  coefficients-own = let e = rows-own 8 (omega arith) in let f = beta-rows in omega arith

  hypothesis-own : present u 10 && present u 9 ≡ present s 10 && present s 9
  hypothesis-own = rw (rows-own 10 (omega arith), rows-own 9 (omega arith))

  -- so the tables at the sizes say the same
  agree : (k : ℕ) → 8 ≤ k → kind_at (second.kinds u) k ≡ kind_at (series.kinds s) k
  unfolding second.sizes series.sizes
  agree k l = late-kinds (second.sizes u) (series.sizes s) k l coefficients-own (rows-own 9 (omega arith)) hypothesis-own

  -- and so do the tables at the limits
  agree-limits : (k : ℕ) → 8 ≤ k → kind_at test_table k ≡ kind_at (kenward_roger w) k
  unfolding limits
  agree-limits k l = late-kinds (limits 1) (limits w) k l refl refl refl

  -- ---- each cell has its number
  cell-own : (k r c : ℕ) → 8 ≤ k → second.cell_value u k r c ≡ series.cell_value s k r c
  cell-own k r c l = cell-parted s 8 x (series.kinds s) (second.kinds u) agree k 0 r c l

  -- what is made of β or β_H, and what is made of the contrast, is the same
  by-column : {B : Type 0} (k : ℕ) → 8 ≤ k → (g : ℕ → (ℕ → Float) → B) → g (second.coefficients u) (λ i. second.cell_value u k i 0) ≡ g (series.coefficients s) (λ i. series.cell_value s k i 0)
  by-column k l g = ap₂ g coefficients-own (fun_ext (λ i. cell-own k i 0 l))

  by-contrast : {B : Type 0} (g : ℕ → ℕ → (ℕ → ℕ → Float) → B) → g (second.contrast_rows u) (second.coefficients u) (second.cell_value u 9) ≡ g (series.contrast_rows s) (series.coefficients s) (series.cell_value s 9)
  by-contrast g =
      ap₂ (λ (r p : ℕ). g r p (second.cell_value u 9)) (rows-own 9 (omega arith)) coefficients-own
      ∙ ap (g (series.contrast_rows s) (series.coefficients s)) (fun_ext (λ r. fun_ext (λ c. cell-own 9 r c (omega arith))))

  same-own : TestsSame s u
  unfolding second.beta second.beta_h second.contrast series.beta series.beta_h series.contrast
  same-own =
      record {
        coefficients = coefficients-own;
        contrast_rows = rows-own 9 (omega arith);
        beta = by-column 8 (omega arith) (row plus_zero 6);
        beta_h = by-column 10 (omega arith) (row plus_zero 6);
        contrast = by-contrast (table plus_zero 6 6);
      }

  -- ---- no reason refuses it
  whole-own : length u % 16 ≡ 0
  whole-own = whole-tail s x.place a.formed.whole

  rises-own : falls u ≡ false
  rises-own = falls-tail s x.place a.formed.rises

  good-own : any (count u) (bad_record test_table u) ≡ false
  good-own = none-parted s 8 x (bad_record (kenward_roger w) s) (bad_record test_table u) a.formed.good (bad-parted s 8 x (kenward_roger w) test_table agree-limits)

  once-own : any (count u) (again (second.kinds u) u) ≡ false
  once-own = none-parted s 8 x (again (series.kinds s) s) (again (second.kinds u) u) a.formed.once (again-parted s 8 x (series.kinds s) (second.kinds u) agree)

  within-own : any (count u) (beyond (second.kinds u) u) ≡ false
  within-own = none-parted s 8 x (beyond (series.kinds s) s) (beyond (second.kinds u) u) a.formed.within (beyond-parted s 8 x (series.kinds s) (second.kinds u) agree)

  finite-own : any (count u) (not_finite u) ≡ false
  finite-own = none-parted s 8 x (not_finite s) (not_finite u) a.finite (λ i l. not_finite-parted s 8 x i)

  complete-own : any kind_numbers (missing (second.kinds u) u) ≡ false
  complete-own = none_any kind_numbers (missing (second.kinds u) u) (λ k l. go k l (dec_lt k 8))
    where
      go : (k : ℕ) → k < kind_numbers → Dec (k < 8) → missing (second.kinds u) u k ≡ false
      go k l (yes h) = missing-unread (second.kinds u) u k (other-kinds (second.sizes u) k (λ b c. omega arith))
      go k l (no h) = missing-parted s 8 x (series.kinds s) (second.kinds u) agree k (omega arith) ∙ any_none kind_numbers (missing (series.kinds s) s) k l a.formed.complete

  nonzero-own : second.zero_contrast u ≡ false
  unfolding second.zero_contrast series.zero_contrast
  nonzero-own = by-contrast (λ r p f. not (eqb r 0) && not (any r (λ i. any p (λ j. not (is_zero (f i j)))))) ∙ a.nonzero

  accepted-own : second.refusal (series.coefficients s) u ≡ 0
  unfolding second.refusal second.reasons second.formed_for second.value_reasons length_reasons order_reasons form_reasons first
  accepted-own = rw (whole-own, rises-own, good-own, once-own, complete-own, within-own, eq-eqb (second.coefficients u) (series.coefficients s) coefficients-own, finite-own, nonzero-own)

-- ---- THE LAWS
-- the kinds below 8 stand before the others in a file that the reader accepts
own-parted : (w : ℕ) (s : List ℕ) → AcceptedSeries w s → Parted s 8 (count s)
own-parted w s a = parted s a.formed.rises 8 (count s) (omega arith)

-- so its own tests stand at its end
tests-end : (w : ℕ) (s : List ℕ) (a : AcceptedSeries w s) → second.own_tests s ≡ records_from s (own-parted w s a).place
tests-end w s a = own-tail w s a (own-parted w s a)

-- they are accepted as the second file of an archive of its coefficients
pub tests-accepted : (w : ℕ) (s : List ℕ) → series.refusal w s ≡ 0 → second.refusal (series.coefficients s) (second.own_tests s) ≡ 0
tests-accepted w s e =
    let a = accepted-series w s e in
    let x = own-parted w s a in
    rw (tests-end w s a) (accepted-own w s a x)

-- and give the tests what the series gives them
pub tests_same : (w : ℕ) (s : List ℕ) → series.refusal w s ≡ 0 → TestsSame s (second.own_tests s)
tests_same w s e =
    let a = accepted-series w s e in
    let x = own-parted w s a in
    rw (tests-end w s a) (same-own w s a x)
