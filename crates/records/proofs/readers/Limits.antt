-- A file with no bad record keeps within its call's limits, and what its sizes leave a kind lies within what the limits leave it.
use Prim.Native.Nat.{ℕ, ◌+◌, ◌*◌, ◌<◌, ◌≤◌}
use mathlib.Core.Path.{◌≡◌, refl, ap, sym, ◌∙◌}
use mathlib.Core.Bool.{Bool, true, false, ◌&&◌, cond}
use mathlib.Core.List.{List, [], ◌∷◌}
use native.Mathlib.Nat.{mul-le-mul}
use native.Mathlib.Omega.{arith}
use native.Mathlib.Decide.{dec_lt}
use lib.Dec.{eqb, ltb}
use borrow.Author.Tests.{eqb-true, eq-eqb, ne_eqb, ltb-true}
use Rattle.records.specs.declared.Field.{Field}
use Rattle.records.specs.declared.Field.TheVariants.{Index}
use Rattle.records.specs.declared.Kind.{Kind}
use Rattle.records.specs.declared.Sizes.{Sizes}
use Rattle.records.specs.declared.Shape.TheVariants.{Series, Test, Archived, Second}
use Rattle.records.specs.format.Scan.{any, most, total}
use Rattle.records.specs.format.Kinds.{holds, width, Table, kind_at, kind_numbers, by_row_and_column, by_count, unread, kenward_roger_kinds, satterthwaite_kinds, archive_kinds, test_kinds, kinds_of, limits, kenward_roger, satterthwaite, archive_table, test_table}
use Rattle.records.specs.format.Cells.{slots, first_slot, slot_count}
use Rattle.records.specs.format.File.{count, kind_of, row_of, column_of, out_of, bad_record, rows, columns}
use Rattle.records.specs.readers.Series as series
use Rattle.records.specs.readers.Parameters as parameters
use Rattle.records.specs.readers.Archive as archive
use Rattle.records.specs.readers.SecondFile as second
use Rattle.records.proofs.format.ScanLaws.{and-true, any_none, most-le, le-most, total-grows}
use Rattle.records.proofs.format.Slots.{Inside, Within, within, good-within}
use Rattle.records.specs.declared.Shape.{Shape}

-- ---- the largest indices of a file: one more than the largest number in a field of a kind's records
-- a number that a field with a limit holds is below it
pub holds-below : (f : Field) (x limit : ℕ) → f ≡ Index limit → holds f x ≡ true → x < limit
unfolding holds
holds-below f x limit e h = ltb-true x limit (ap (λ (g : Field). holds g x) (sym e) ∙ h)

-- each record's is below the most
pub field-below-most : (s : List ℕ) (k : ℕ) (field : ℕ → ℕ) (j : ℕ) → j < count s → kind_of s j ≡ k → field j < most (count s) (λ i. cond (eqb (kind_of s i) k) (field i + 1) 0)
field-below-most s k field j l e =
    let z : field j + 1 ≤ most (count s) (λ i. cond (eqb (kind_of s i) k) (field i + 1) 0) = rw (eq-eqb (kind_of s j) k e) at (le-most (count s) (λ i. cond (eqb (kind_of s i) k) (field i + 1) 0) j l) in
    omega arith

-- and where each record lies within what its kind has the most is within the kind's limit
module _ (t : Table) (s : List ℕ) (inside : (i : ℕ) → i < count s → out_of (kind_at t (kind_of s i)) s i ≡ false) where
  most-within : (part : Kind → Field) (field : ℕ → ℕ) → ((z : Kind) (i : ℕ) → Within z s i → holds (part z) (field i) ≡ true) → (k limit : ℕ) → part (kind_at t k) ≡ Index limit
      → most (count s) (λ i. cond (eqb (kind_of s i) k) (field i + 1) 0) ≤ limit
  most-within part field held k limit e = most-le (count s) (λ i. cond (eqb (kind_of s i) k) (field i + 1) 0) limit (λ i l. go i l (eqb (kind_of s i) k) refl)
    where
      go : (i : ℕ) → i < count s → (b : Bool) → eqb (kind_of s i) k ≡ b → cond b (field i + 1) 0 ≤ limit
      go i l false q = omega arith
      go i l true q =
          let z = kind_at t (kind_of s i) in
          let h = holds-below (part z) (field i) limit (ap (λ (j : ℕ). part (kind_at t j)) (eqb-true (kind_of s i) k q) ∙ e) (held z i (within z s i (inside i l))) in
          omega arith

  pub rows_inside : (k limit : ℕ) → (kind_at t k).row ≡ Index limit → rows s k ≤ limit
  unfolding rows
  rows_inside k limit e = most-within (λ (z : Kind). z.row) (row_of s) (λ z i w. w.row) k limit e

  pub columns-inside : (k limit : ℕ) → (kind_at t k).column ≡ Index limit → columns s k ≤ limit
  unfolding columns
  columns-inside k limit e = most-within (λ (z : Kind). z.column) (column_of s) (λ z i w. w.column) k limit e

-- so in a file with no bad record
module _ (t : Table) (s : List ℕ) (good : any (count s) (bad_record t s) ≡ false) where
  pub rows-within : (k limit : ℕ) → (kind_at t k).row ≡ Index limit → rows s k ≤ limit
  rows-within = rows_inside t s (λ i l. good-within t s i (any_none (count s) (bad_record t s) i l good))

  pub columns-within : (k limit : ℕ) → (kind_at t k).column ≡ Index limit → columns s k ≤ limit
  columns-within = columns-inside t s (λ i l. good-within t s i (any_none (count s) (bad_record t s) i l good))

-- ---- sizes below sizes
pub record Below (a b : Sizes) : Type 0 where
  pub specimens : a.specimens ≤ b.specimens
  pub coefficients : a.coefficients ≤ b.coefficients
  pub columns : a.columns ≤ b.columns
  pub blocks : a.blocks ≤ b.blocks
  pub thetas : a.thetas ≤ b.thetas
  pub contrasts : a.contrasts ≤ b.contrasts
  pub parameters : a.parameters ≤ b.parameters
  pub weighted : a.weighted ≡ true → b.weighted ≡ true
  pub hypothesis : a.hypothesis ≡ true → b.hypothesis ≡ true

-- document 01, "Limits": a series' sizes, and a test's, are below the limits
pub series-below : (w : ℕ) → 1 ≤ w → (s : List ℕ) → any (count s) (bad_record (kenward_roger w) s) ≡ false → Below (series.sizes s) (limits w)
unfolding series.sizes kind_at kenward_roger_kinds limits
series-below w h s g =
    let a = rows-within (kenward_roger w) s g 1 w refl in
    let b = columns-within (kenward_roger w) s g 1 6 refl in
    record {
      specimens = omega arith;
      coefficients = omega arith;
      columns = columns-within (kenward_roger w) s g 2 w refl;
      blocks = rows-within (kenward_roger w) s g 3 3 refl;
      thetas = rows-within (kenward_roger w) s g 4 3 refl;
      contrasts = rows-within (kenward_roger w) s g 9 6 refl;
      parameters = omega arith;
      weighted = λ _. refl;
      hypothesis = λ _. refl;
    }

pub parameters-below : (s : List ℕ) → any (count s) (bad_record satterthwaite s) ≡ false → Below (parameters.sizes s) (limits 1)
unfolding parameters.sizes kind_at satterthwaite_kinds limits
parameters-below s g =
    let a = rows-within satterthwaite s g 8 6 refl in
    let b = rows-within satterthwaite s g 9 6 refl in
    let c = rows-within satterthwaite s g 32 4 refl in
    let d = columns-within satterthwaite s g 32 4 refl in
    record {
      specimens = omega arith;
      coefficients = omega arith;
      columns = omega arith;
      blocks = omega arith;
      thetas = omega arith;
      contrasts = omega arith;
      parameters = omega arith;
      weighted = λ _. refl;
      hypothesis = λ _. refl;
    }

pub archive-sizes-below : (p N : ℕ) → p ≤ 6 → N ≤ 4 → Below (archive.sizes_at p N) (limits 1)
unfolding archive.sizes_at limits
archive-sizes-below p N few fewer =
    record {
      specimens = omega arith;
      coefficients = few;
      columns = omega arith;
      blocks = omega arith;
      thetas = omega arith;
      contrasts = omega arith;
      parameters = fewer;
      weighted = λ _. refl;
      hypothesis = λ _. refl;
    }

pub archive-below : (s : List ℕ) → any (count s) (bad_record archive_table s) ≡ false → Below (archive.sizes s) (limits 1)
unfolding archive.sizes kind_at archive_kinds limits
archive-below s g =
    let a = rows-within archive_table s g 11 6 refl in
    let b = columns-within archive_table s g 11 6 refl in
    let c = rows-within archive_table s g 14 4 refl in
    let d = columns-within archive_table s g 14 4 refl in
    archive-sizes-below (archive.coefficients s) (archive.parameters s) (omega arith) (omega arith)

pub second_below : (s : List ℕ) → any (count s) (bad_record test_table s) ≡ false → Below (second.sizes s) (limits 1)
unfolding second.sizes kind_at test_kinds limits
second_below s g =
    let a = rows-within test_table s g 8 6 refl in
    let b = rows-within test_table s g 9 6 refl in
    record {
      specimens = omega arith;
      coefficients = omega arith;
      columns = omega arith;
      blocks = omega arith;
      thetas = omega arith;
      contrasts = omega arith;
      parameters = omega arith;
      weighted = λ _. refl;
      hypothesis = λ _. refl;
    }

-- ---- what holds of each number and kind that a table lists, and of a kind that it does not list, holds of each kind by its number
abbrev pub AllNumbered : Table → (ℕ → Kind → Type 0) → Type 0
AllNumbered [] Q = Unit {0}
AllNumbered (e ∷ t) Q = Q e.0 e.1 × AllNumbered t Q

pub each-numbered : (t : Table) (Q : ℕ → Kind → Type 0) → AllNumbered t Q → (k : ℕ) → Q k unread → Q k (kind_at t k)
unfolding kind_at
each-numbered [] Q h k u = u
each-numbered (e ∷ t) Q h k u = go (eqb k e.0) refl (each-numbered t Q h.1 k u)
  where
    go : (b : Bool) → eqb k e.0 ≡ b → Q k (kind_at t k) → Q k (cond b e.1 (kind_at t k))
    go true q x = rw (eqb-true k e.0 q) h.0
    go false q x = x

-- ---- what holds of the table of each kind of file holds of the table of any
pub each-file : (P : (Sizes → Table) → Type 0) → P kenward_roger_kinds → P satterthwaite_kinds → P archive_kinds → P test_kinds → (file : Shape) → P (λ z. kinds_of file z)
each-file P series parameters archive second Series = series
each-file P series parameters archive second Test = parameters
each-file P series parameters archive second Archived = archive
each-file P series parameters archive second Second = second

-- ---- so that they leave each kind no more cells
pub record Narrower (a b : Kind) : Type 0 where
  pub number : width a.count ≤ width b.count
  pub row : width a.row ≤ width b.row
  pub column : width a.column ≤ width b.column

abbrev Narrowers : Table → Table → Type 0
Narrowers [] [] = Unit {0}
Narrowers [] (b ∷ u) = ⊥
Narrowers (a ∷ t) [] = ⊥
Narrowers (a ∷ t) (b ∷ u) = (a.0 ≡ b.0) × Narrower a.1 b.1 × Narrowers t u

narrower-at : (t u : Table) → Narrowers t u → (k : ℕ) → Narrower (kind_at t k) (kind_at u k)
unfolding kind_at
narrower-at [] [] h k = record { number = omega arith; row = omega arith; column = omega arith }
narrower-at [] (b ∷ u) h k = absurd h
narrower-at (a ∷ t) [] h k = absurd h
narrower-at (a ∷ t) (b ∷ u) h k = rw h.0 (go (eqb k b.0) (narrower-at t u h.2 k))
  where
    go : (x : Bool) → Narrower (kind_at t k) (kind_at u k) → Narrower (cond x a.1 (kind_at t k)) (cond x b.1 (kind_at u k))
    go true n = h.1
    go false n = n

guarded : (x y : Bool) (n m : ℕ) → (x ≡ true → y ≡ true) → n ≤ m → cond x n 0 ≤ cond y m 0
guarded true y n m f l = rw (f refl) l
guarded false y n m f l = omega arith

module _ (a b : Sizes) (h : Below a b) where
  series-narrowers : Narrowers (kenward_roger_kinds a) (kenward_roger_kinds b)
  unfolding kenward_roger_kinds width
  series-narrowers =
      let same : 1 ≤ 1 = omega arith in
      let w = guarded a.weighted b.weighted a.specimens b.specimens h.weighted h.specimens in
      let y = guarded a.hypothesis b.hypothesis a.coefficients b.coefficients h.hypothesis h.coefficients in (
        refl,
        record { number = same; row = h.specimens; column = h.coefficients },
        (
          refl,
          record { number = same; row = h.specimens; column = h.columns },
          (
            refl,
            record { number = same; row = h.blocks; column = same },
            (
              refl,
              record { number = same; row = h.thetas; column = same },
              (
                refl,
                record { number = same; row = w; column = same },
                (
                  refl,
                  record { number = same; row = h.coefficients; column = h.coefficients },
                  (
                    refl,
                    record { number = same; row = same; column = same },
                    (
                      refl,
                      record { number = same; row = h.coefficients; column = same },
                      (
                        refl,
                        record { number = same; row = h.contrasts; column = h.coefficients },
                        (refl, record { number = same; row = y; column = same }, tt),
                      ),
                    ),
                  ),
                ),
              ),
            ),
          ),
        ),
      )

  parameters-narrowers : Narrowers (satterthwaite_kinds a) (satterthwaite_kinds b)
  unfolding satterthwaite_kinds width
  parameters-narrowers =
      let same : 1 ≤ 1 = omega arith in
      let y = guarded a.hypothesis b.hypothesis a.coefficients b.coefficients h.hypothesis h.coefficients in (
        refl,
        record { number = same; row = h.coefficients; column = same },
        (
          refl,
          record { number = same; row = h.contrasts; column = h.coefficients },
          (
            refl,
            record { number = same; row = y; column = same },
            (
              refl,
              record { number = same; row = h.coefficients; column = h.coefficients },
              (
                refl,
                record { number = h.parameters; row = h.coefficients; column = h.coefficients },
                (refl, record { number = same; row = h.parameters; column = h.parameters }, tt),
              ),
            ),
          ),
        ),
      )

  archive-narrowers : Narrowers (archive_kinds a) (archive_kinds b)
  unfolding archive_kinds width
  archive-narrowers =
      let same : 1 ≤ 1 = omega arith in
      let square : Narrower (by_row_and_column a.coefficients a.coefficients) (by_row_and_column b.coefficients b.coefficients) = record { number = same; row = h.coefficients; column = h.coefficients } in
      let squares : Narrower (by_count a.parameters a.coefficients a.coefficients) (by_count b.parameters b.coefficients b.coefficients) = record { number = h.parameters; row = h.coefficients; column = h.coefficients } in
      (refl, square, (refl, square, (refl, squares, (refl, record { number = same; row = h.parameters; column = h.parameters }, (refl, square, (refl, square, (refl, squares, (refl, record { number = same; row = same; column = same }, tt))))))))

  second-narrowers : Narrowers (test_kinds a) (test_kinds b)
  unfolding test_kinds width
  second-narrowers =
      let same : 1 ≤ 1 = omega arith in
      let y = guarded a.hypothesis b.hypothesis a.coefficients b.coefficients h.hypothesis h.coefficients in
      (refl, record { number = same; row = h.coefficients; column = same }, (refl, record { number = same; row = h.contrasts; column = h.coefficients }, (refl, record { number = same; row = y; column = same }, tt)))

  pub narrower : (file : Shape) (k : ℕ) → Narrower (kind_at (kinds_of file a) k) (kind_at (kinds_of file b) k)
  narrower file k =
      each-file (λ T. Narrower (kind_at (T a) k) (kind_at (T b) k))
      (narrower-at (kenward_roger_kinds a) (kenward_roger_kinds b) series-narrowers k)
      (narrower-at (satterthwaite_kinds a) (satterthwaite_kinds b) parameters-narrowers k)
      (narrower-at (archive_kinds a) (archive_kinds b) archive-narrowers k)
      (narrower-at (test_kinds a) (test_kinds b) second-narrowers k)
      file

  pub fewer-slots : (file : Shape) (k : ℕ) → first_slot (kinds_of file a) k ≤ first_slot (kinds_of file b) k
  unfolding first_slot slots
  fewer-slots file k = total-grows k _ _ (λ j _. let n = narrower file j in mul-le-mul (mul-le-mul n.number n.row) n.column)

-- ---- no file has a kind past the kinds' numbers
abbrev all_below : Table → Bool
all_below [] = true
all_below (e ∷ t) = ltb e.0 kind_numbers && all_below t

unread-from : (t : Table) (k : ℕ) → kind_numbers ≤ k → all_below t ≡ true → kind_at t k ≡ unread
unfolding kind_at
unread-from [] k l h = refl
unread-from (e ∷ t) k l h =
    let p = and-true (ltb e.0 kind_numbers) (all_below t) h in
    rw (ne_eqb k e.0 (λ q. absurd (omega (arith, ltb-true e.0 kind_numbers p.0)))) (unread-from t k l p.1)

pub kind-below : (file : Shape) (z : Sizes) (k n r c : ℕ) → Inside (kind_at (kinds_of file z) k) n r c → k < kind_numbers
unfolding width kenward_roger_kinds satterthwaite_kinds archive_kinds test_kinds
kind-below file z k n r c w = go (dec_lt k kind_numbers)
  where
    go : Dec (k < kind_numbers) → k < kind_numbers
    go (yes l) = l
    go (no l) =
        let h : kind_numbers ≤ k = omega arith in
        let e = each-file (λ T. kind_at (T z) k ≡ unread) (unread-from (kenward_roger_kinds z) k h refl) (unread-from (satterthwaite_kinds z) k h refl) (unread-from (archive_kinds z) k h refl) (unread-from (test_kinds z) k h refl) file in
        let f = ap (λ (y : Kind). width y.row) e in
        let g = w.row in
        absurd (omega arith)

-- every cell that the limits allow a file, w being that of specimens
abbrev pub most_cells : ℕ → Shape → ℕ
most_cells w Series = w * w + 7 * w + 91
most_cells w Test = 244
most_cells w Archived = 449
most_cells w Second = 48

pub slot-count : (w : ℕ) (file : Shape) → slot_count (kinds_of file (limits w)) ≡ most_cells w file
unfolding first_slot total slots width kind_at kenward_roger_kinds satterthwaite_kinds archive_kinds test_kinds limits
slot-count w Series = omega arith
slot-count w Test = refl
slot-count w Archived = refl
slot-count w Second = refl
