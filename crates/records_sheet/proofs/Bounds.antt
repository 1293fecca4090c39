-- Sizes that a byte can name leave each kind at most 256 of each index, and so few slots that a usize counts them.
use Prim.Native.Nat.{ℕ, zero, suc, ◌+◌, ◌*◌, ◌≤◌}
use native.Mathlib.Nat.{mul-le-mul}
use native.Mathlib.Omega.{arith}
use mathlib.Core.Path.{◌≡◌, refl, sym, ap₂, ◌∙◌}
use mathlib.Core.Bool.{Bool, true, false, cond}
use mathlib.Core.List.{List}
use lib.ListN.{set, replicate}
use Rattle.algebra.specs.Fold.{fold}
use Rattle.algebra.specs.Table.{row}
use Rattle.algebra.proofs.FoldLaws.{fold_more}
use Rattle.records.specs.declared.Kind.{Kind}
use Rattle.records.specs.declared.Sizes.{Sizes}
use Rattle.records.specs.format.Scan.{total}
use Rattle.records.specs.format.Kinds.{width, Table, kind_at, by_row_and_column, by_count, kinds_of, kenward_roger_kinds, satterthwaite_kinds, archive_kinds, test_kinds}
use Rattle.records.specs.format.Cells.{slots, first_slot}
use Rattle.records.proofs.format.ScanLaws.{total-more}
use Rattle.records.proofs.readers.Limits.{AllNumbered, each-numbered, each-file}
use Rattle.records_sheet.specs.joints.Sheet.{Small}
use Rattle.records.specs.declared.Shape.{Shape}

pub record Widths (y : Kind) : Type 0 where
  pub number : width y.count ≤ 256
  pub row : width y.row ≤ 256
  pub column : width y.column ≤ 256

abbrev AllWidths : Table → Type 0
AllWidths t = AllNumbered t (λ k y. Widths y)

widths-at : (t : Table) → AllWidths t → (k : ℕ) → Widths (kind_at t k)
unfolding width
widths-at t h k = each-numbered t (λ k y. Widths y) h k (record { number = omega arith; row = omega arith; column = omega arith })

-- what may be absent wholly
pub cond-le : (b : Bool) (n m : ℕ) → n ≤ m → cond b n 0 ≤ m
cond-le true n m l = l
cond-le false n m l = omega arith

module _ (z : Sizes) (h : Small z) where
  one : 1 ≤ 256
  one = omega arith

  series-widths : AllWidths (kenward_roger_kinds z)
  unfolding kenward_roger_kinds width
  series-widths = (
    record { number = one; row = h.specimens; column = h.coefficients },
    (
      record { number = one; row = h.specimens; column = h.columns },
      (
        record { number = one; row = h.blocks; column = one },
        (
          record { number = one; row = h.thetas; column = one },
          (
            record { number = one; row = cond-le z.weighted z.specimens 256 h.specimens; column = one },
            (
              record { number = one; row = h.coefficients; column = h.coefficients },
              (
                record { number = one; row = one; column = one },
                (
                  record { number = one; row = h.coefficients; column = one },
                  (
                    record { number = one; row = h.contrasts; column = h.coefficients },
                    (
                      record { number = one; row = cond-le z.hypothesis z.coefficients 256 h.coefficients; column = one },
                      tt,
                    ),
                  ),
                ),
              ),
            ),
          ),
        ),
      ),
    ),
  )

  parameter-widths : AllWidths (satterthwaite_kinds z)
  unfolding satterthwaite_kinds width
  parameter-widths = (
    record { number = one; row = h.coefficients; column = one },
    (
      record { number = one; row = h.contrasts; column = h.coefficients },
      (
        record { number = one; row = cond-le z.hypothesis z.coefficients 256 h.coefficients; column = one },
        (
          record { number = one; row = h.coefficients; column = h.coefficients },
          (
            record { number = h.parameters; row = h.coefficients; column = h.coefficients },
            (
              record { number = one; row = h.parameters; column = h.parameters },
              tt,
            ),
          ),
        ),
      ),
    ),
  )

  archive-widths : AllWidths (archive_kinds z)
  unfolding archive_kinds width
  archive-widths =
      let square : Widths (by_row_and_column z.coefficients z.coefficients) = record { number = one; row = h.coefficients; column = h.coefficients } in
      let squares : Widths (by_count z.parameters z.coefficients z.coefficients) = record { number = h.parameters; row = h.coefficients; column = h.coefficients } in
      (square, (square, (squares, (record { number = one; row = h.parameters; column = h.parameters }, (square, (square, (squares, (record { number = one; row = one; column = one }, tt))))))))

  second-widths : AllWidths (test_kinds z)
  unfolding test_kinds width
  second-widths = (
    record { number = one; row = h.coefficients; column = one },
    (
      record { number = one; row = h.contrasts; column = h.coefficients },
      (
        record { number = one; row = cond-le z.hypothesis z.coefficients 256 h.coefficients; column = one },
        tt,
      ),
    ),
  )

  pub widths : (file : Shape) (k : ℕ) → Widths (kind_at (kinds_of file z) k)
  widths file k =
      each-file (λ T. Widths (kind_at (T z) k)) (widths-at (kenward_roger_kinds z) series-widths k) (widths-at (satterthwaite_kinds z) parameter-widths k) (widths-at (archive_kinds z) archive-widths k) (widths-at (test_kinds z) second-widths k) file

-- ---- products of small numbers
pub two-widths : (a b : ℕ) → a ≤ 256 → b ≤ 256 → a * b ≤ 65536
two-widths a b h k = mul-le-mul h k

pub slots-bound : (y : Kind) → Widths y → slots y ≤ 16777216
unfolding slots
slots-bound y w = let a : width y.count * width y.row ≤ 65536 = mul-le-mul w.number w.row in mul-le-mul a w.column

-- ---- the first slots
module _ (file : Shape) (z : Sizes) (h : Small z) where
  pub first-bound : (k : ℕ) → first_slot (kinds_of file z) k ≤ k * 16777216
  unfolding first_slot total
  first-bound zero = omega arith
  first-bound (suc k) = let a = first-bound k in let b = slots-bound (kind_at (kinds_of file z) k) (widths z h file k) in omega arith

  pub all-bound : (k : ℕ) → k ≤ 33 → first_slot (kinds_of file z) k ≤ 553648128
  all-bound k l = let a = first-bound k in let b : k * 16777216 ≤ 33 * 16777216 = scaled k l in omega arith
    where
      scaled : (k : ℕ) → k ≤ 33 → k * 16777216 ≤ 33 * 16777216
      scaled k l = omega arith

-- the array of first slots as the loop fills it
pub firsts-start : (t : Table) → replicate 34 0 ≡ row 0 34 1 (first_slot t)
unfolding row fold first_slot total
firsts-start t = refl

pub firsts_more : (t : Table) (k v : ℕ) (xs : List ℕ) → xs ≡ row 0 34 (k + 1) (first_slot t) → v ≡ first_slot t (k + 1) → set xs (k + 1) v ≡ row 0 34 (k + 1 + 1) (first_slot t)
unfolding row
firsts_more t k v xs e f =
    ap₂ (λ (l : List ℕ) (x : ℕ). set l (k + 1) x) e f
    ∙ sym (fold_more 0 (k + 1) (λ j ys. set ys j (first_slot t j)) (replicate 34 0) (omega arith))

pub first_more : (t : Table) (k a b : ℕ) → a ≡ first_slot t k → b ≡ slots (kind_at t k) → a + b ≡ first_slot t (k + 1)
unfolding first_slot
first_more t k a b e f = ap₂ ◌+◌ e f ∙ sym (total-more k (λ j. slots (kind_at t j)))
