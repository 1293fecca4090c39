-- Converted files, computed: document 01's `pulltest` series with a second contrast row and β_H, a Satterthwaite series of one coefficient and one parameter, one of two parameters under a change
-- that divides, by a power that differs from cell to cell, and the archive of document 01's example.
use Prim.Native.Nat.{ℕ}
use mathlib.Core.Path.{◌≡◌, refl}
use mathlib.Core.Bool.{◌||◌, cond}
use mathlib.Core.List.{List, ◌++◌}
use lib.Dec.{eqb}
use lib.IntN.{ℤ, pos, negsuc, ◌+ℤ◌}
use lib.Ieee.{mul, div, of_bits, to_bits}
use Rattle.algebra.specs.Fold.{fold}
use Rattle.algebra.specs.Table.{row}
use Rattle.records.specs.format.Bytes.{word, long, bytes_of}
use Rattle.records.specs.format.Written.{record_of}
use Rattle.records.proofs.readers.ArchiveExamples.{example_archive}
use Rattle.converter.specs.Converted.{Change, kenward_roger_shift, kenward_roger_change, satterthwaite_shift, satterthwaite_change, archive_change, rewritten, new_bits, new_byte, converted}

-- two contrast rows, each with a power of its own
abbrev by : ℤ → ℤ → ℕ → ℤ
by m0 m1 r = cond (eqb r 0) m0 m1

-- X 1,1, Φ 0.5, and sigma2, β, the two contrast rows and β_H
abbrev series : ℕ → ℕ → ℕ → ℕ → ℕ → List ℕ
series v b l0 l1 h =
    record_of 1 0 0 0 0x3ff0000000000000
    ++ (record_of 1 1 0 0 0x3ff0000000000000
    ++ (record_of 6 0 0 0 0x3fe0000000000000 ++ (record_of 7 0 0 0 v ++ (record_of 8 0 0 0 b ++ (record_of 9 0 0 0 l0 ++ (record_of 9 1 0 0 l1 ++ record_of 10 0 0 0 h))))))

-- β, contrast 1, β_H, v, the Jacobian, A 0.5
abbrev other : ℕ → ℕ → ℕ → ℕ → List ℕ
other b h v j =
    record_of 8 0 0 0 b
    ++ (record_of 9 0 0 0 0x3ff0000000000000 ++ (record_of 10 0 0 0 h ++ (record_of 30 0 0 0 v ++ (record_of 31 0 0 0 j ++ record_of 32 0 0 0 0x3fe0000000000000))))

-- each parameter in a unit of its own: Jacobian n times 2 ^ (h n), and A's cell (i, j) divided by 2 ^ (h i + h j)
abbrev units : (ℕ → ℤ) → Change
units h = record { rewrites = λ kind. eqb kind 31 || eqb kind 32; divides = λ kind. eqb kind 32; shift = λ kind n r c. cond (eqb kind 31) (h n) (h r +ℤ h c) }

-- two Jacobians and the four cells of A
abbrev parameters : ℕ → ℕ → ℕ → ℕ → ℕ → ℕ → List ℕ
parameters j0 j1 a00 a01 a10 a11 = record_of 31 0 0 0 j0 ++ (record_of 31 0 0 1 j1 ++ (record_of 32 0 0 0 a00 ++ (record_of 32 0 1 0 a01 ++ (record_of 32 1 0 0 a10 ++ record_of 32 1 1 0 a11))))

-- the example's archive with these for Φ, Φ_A and P in response units and for sigma2: W 2, and in residual units Φ ½, Φ_A ½ and P -2, as they were
abbrev pub archive_with : ℕ → ℕ → ℕ → ℕ → List ℕ
archive_with phi phi_a p sigma2 =
    record_of 11 0 0 0 phi
    ++ (record_of 12 0 0 0 phi_a
    ++ (record_of 13 0 0 0 p
    ++ (record_of 14 0 0 0 0x4000000000000000
    ++ (record_of 15 0 0 0 0x3fe0000000000000 ++ (record_of 16 0 0 0 0x3fe0000000000000 ++ (record_of 17 0 0 0 0xc000000000000000 ++ record_of 18 0 0 0 sigma2))))))

pub record Computed : Type 0 where
  -- k = 1, m 0 = -1, m 1 = 3: sigma2 8 becomes 32, β 6 becomes 12, contrast row 0 becomes 1/2 and row 1 becomes 8, β_H 2 becomes 4
  pub up : converted (kenward_roger_change (pos 1) (by (negsuc 0) (pos 3))) (series 0x4020000000000000 0x4018000000000000 0x3ff0000000000000 0x3ff0000000000000 0x4000000000000000)
      ≡ series 0x4040000000000000 0x4028000000000000 0x3fe0000000000000 0x4020000000000000 0x4010000000000000
  -- k = -1, m 0 = 1, m 1 = -3: sigma2 8 becomes 2, β 6 becomes 3, row 0 becomes 2 and row 1 becomes 1/8, β_H 2 becomes 1
  pub down : converted (kenward_roger_change (negsuc 0) (by (pos 1) (negsuc 2))) (series 0x4020000000000000 0x4018000000000000 0x3ff0000000000000 0x3ff0000000000000 0x4000000000000000)
      ≡ series 0x4000000000000000 0x4008000000000000 0x4000000000000000 0x3fc0000000000000 0x3ff0000000000000
  -- k = 1: β 4 becomes 8, β_H 2 becomes 4, v 4 becomes 16, the Jacobian 4 becomes 16; contrast and A stay
  pub variance : converted (satterthwaite_change (pos 1)) (other 0x4010000000000000 0x4000000000000000 0x4010000000000000 0x4010000000000000)
      ≡ other 0x4020000000000000 0x4010000000000000 0x4030000000000000 0x4030000000000000
  -- h 0 = 1, h 1 = -3: the Jacobians 4 and 4 become 8 and 1/2; A's 1, 1, 1, 1 become 1/4, 4, 4 and 64
  pub divided : converted (units (by (pos 1) (negsuc 2))) (parameters 0x4010000000000000 0x4010000000000000 0x3ff0000000000000 0x3ff0000000000000 0x3ff0000000000000 0x3ff0000000000000)
      ≡ parameters 0x4020000000000000 0x3fe0000000000000 0x3fd0000000000000 0x4010000000000000 0x4010000000000000 0x4050000000000000
  -- the archive of document 01's example, k = 5: Φ 4 and Φ_A 4 become 4096, P -1/4 becomes -1/4096, sigma2 8 becomes 8192; the other 64 bytes stay
  pub archive : converted (archive_change (pos 5)) example_archive ≡ archive_with 0x40b0000000000000 0x40b0000000000000 0xbf30000000000000 0x40c0000000000000

pub computed : Computed
unfolding converted new_byte new_bits rewritten kenward_roger_shift satterthwaite_shift row fold word long bytes_of mul div of_bits to_bits
computed = record { up = refl; down = refl; variance = refl; divided = refl; archive = refl }
