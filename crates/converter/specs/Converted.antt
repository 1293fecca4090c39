-- Demand 3, the verdict survives a change of converter: another converter gives sigma2, β, β_H and the contrast's rows times powers of two, and with the Satterthwaite call v and the
-- Jacobians in sigma2's place; an archive holds sigma2 and what was multiplied or divided by it. The converted file is the file with these values multiplied, all other bytes as they were.
-- A change is any such rewriting: of any kinds, by a power of two that may differ from cell to cell, as a factor or as a divisor.
use Rattle.std.specs.Prelude.{ℕ, ◌-◌, ◌/◌, ◌%◌, Bool, false, ◌&&◌, ◌||◌, cond, List, eqb, leb, ltb, ℤ, ◌+ℤ◌, length, Float}
use Rattle.std.specs.Float.{binary64}
use Rattle.std.specs.Float.Ieee.{mul, div, to_bits}
use Rattle.arithmetic.specs.Scale.{power_of_two}
use Rattle.algebra.specs.Table.{row}
use Rattle.records.specs.format.Bytes.{byte, bytes_of}
use Rattle.records.specs.format.File.{count, kind_of, row_of, column_of, count_of, value_of}
use Rattle.records.specs.format.KindNumbers.{kind_sigma2, kind_beta, kind_contrast, kind_beta_h, kind_scaled_phi, kind_scaled_phi_a, kind_scaled_p, kind_archived_sigma2, kind_v, kind_jacobian}

-- A change of converter: the kinds whose values it rewrites; of those, the kinds that it divides by the power of two, any other it multiplies; and the power by kind, count, row and column.
pub record Change : Type 0 where
  pub rewrites : ℕ → Bool
  pub divides : ℕ → Bool
  pub shift : ℕ → ℕ → ℕ → ℕ → ℤ

-- "7 sigma2; 8 β; 9 contrast; 10 β_H": sigma2 by 4 ^ k, β and β_H by 2 ^ k, row r of the contrast by a power of its own, 2 ^ (m r)
unfoldable pub kenward_roger_shift : ℤ → (ℕ → ℤ) → ℕ → ℕ → ℕ → ℕ → ℤ
kenward_roger_shift k m kind n r c = cond (eqb kind kind_sigma2) (k +ℤ k) (cond (eqb kind kind_contrast) (m r) k)

abbrev pub kenward_roger_change : ℤ → (ℕ → ℤ) → Change
kenward_roger_change k m = record { rewrites = λ kind. eqb kind kind_sigma2 || eqb kind kind_beta || eqb kind kind_contrast || eqb kind kind_beta_h; divides = λ kind. false; shift = kenward_roger_shift k m }

-- "The Satterthwaite call reads kinds 8, 9, 10, 30 v, 31 Jacobian": v and the Jacobians by 4 ^ k, β and β_H by 2 ^ k
unfoldable pub satterthwaite_shift : ℤ → ℕ → ℕ → ℕ → ℕ → ℤ
satterthwaite_shift k kind n r c = cond (eqb kind kind_v || eqb kind kind_jacobian) (k +ℤ k) k

abbrev pub satterthwaite_change : ℤ → Change
satterthwaite_change k = record { rewrites = λ kind. eqb kind kind_beta || eqb kind kind_beta_h || eqb kind kind_v || eqb kind kind_jacobian; divides = λ kind. false; shift = satterthwaite_shift k }

-- Document 02, "Req 02": "kind 11 Φ, 12 Φ_A, 13 P (the count field is its index), 14 W", in response units; "Φ, Φ_A and P in residual units and sigma2 follow as kinds 15 to 18". What is
-- in response units is, in document 01, "Φ and Φ_A times sigma2, each P divided by it; W unchanged": so in an archive sigma2 and kinds 11 and 12 by 4 ^ k, kind 13 divided by 4 ^ k, and
-- kinds 14 to 17 as they were. Its second file holds the kinds 8 to 10 of a series, and changes as a series does.
abbrev pub archive_change : ℤ → Change
archive_change k = record {
  rewrites = λ kind. eqb kind kind_scaled_phi || eqb kind kind_scaled_phi_a || eqb kind kind_scaled_p || eqb kind kind_archived_sigma2;
  divides = λ kind. eqb kind kind_scaled_p;
  shift = λ kind n r c. k +ℤ k;
}

-- what the change makes of a value x of kind k, count n, row r and column c: the quotient by its power of two or the product with it, as f64 division and multiplication give them
unfoldable pub rewritten : Change → ℕ → ℕ → ℕ → ℕ → Float → Float
rewritten g k n r c x = let p : Float = power_of_two (g.shift k n r c) in cond (g.divides k) (div binary64 x p) (mul binary64 x p)

-- the bits of record i's new value; its count, row and column are the record's own fields
unfoldable pub new_bits : Change → List ℕ → ℕ → ℕ
new_bits g s i = to_bits binary64 (rewritten g (kind_of s i) (count_of s i) (row_of s i) (column_of s i) (value_of s i))

-- byte p of the converted file: of the bytes 8 to 15 of a record with a rewritten kind the new value's, any other as it was
unfoldable pub new_byte : Change → List ℕ → ℕ → ℕ
new_byte g s p =
    let i : ℕ = p / 16 in
    cond (leb 8 (p % 16) && (ltb i (count s) && g.rewrites (kind_of s i))) (byte (bytes_of 8 (new_bits g s i)) (p % 16 - 8)) (byte s p)

unfoldable pub converted : Change → List ℕ → List ℕ
converted g s = row 0 (length s) (length s) (new_byte g s)
