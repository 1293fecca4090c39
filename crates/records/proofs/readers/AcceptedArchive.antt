-- What holds of an archive's file that the reader does not refuse: none of its reasons.
use Prim.Native.Nat.{ℕ, ◌≤◌}
use mathlib.Core.Path.{◌≡◌, refl}
use mathlib.Core.Bool.{false}
use mathlib.Core.List.{List}
use native.Mathlib.Omega.{arith}
use lib.Dec.{lit≤}
use lib.Ieee.{le}
use Rattle.arithmetic.specs.Numbers.{plus_zero}
use Rattle.algebra.proofs.ReasonLaws.{NoneHolds, first-none}
use Rattle.records.specs.format.Scan.{any}
use Rattle.records.specs.format.Kinds.{limits}
use Rattle.records.specs.format.File.{count, not_finite}
use Rattle.records.specs.readers.Archive.{reader, sizes_at, coefficients, parameters, sizes, archive_of, misscaled, value_reasons, scaled_reasons, reasons, refusal}
use Rattle.records.proofs.readers.ReaderLaws.{WellFormed, accepted-formed, accepted-own, well-formed}
use Rattle.records.proofs.readers.Limits.{archive-below}

pub record AcceptedArchive (s : List ℕ) : Type 0 where
  pub formed : WellFormed reader s
  pub finite : any (count s) (not_finite s) ≡ false
  pub positive : le (archive_of s).sigma2 plus_zero ≡ false
  pub phi_scaled : misscaled s 11 ≡ false
  pub phi_a_scaled : misscaled s 12 ≡ false
  pub ps_scaled : misscaled s 13 ≡ false

pub accepted-archive : (s : List ℕ) → refusal s ≡ 0 → AcceptedArchive s
unfolding refusal reasons value_reasons scaled_reasons
accepted-archive s e =
    let n : NoneHolds (reader.own s) = first-none (reader.own s) refl (accepted-own reader s e) in
    record {
      formed = well-formed reader s (accepted-formed reader s e);
      finite = n 0 (lit≤ tt);
      positive = n 1 (lit≤ tt);
      phi_scaled = n 2 (lit≤ tt);
      phi_a_scaled = n 3 (lit≤ tt);
      ps_scaled = n 4 (lit≤ tt);
    }

-- its sizes are within the limits: 1 to 6 coefficients, 1 to 4 variance parameters
pub record ArchiveSized (s : List ℕ) : Type 0 where
  pub some_coefficients : 1 ≤ coefficients s
  pub coefficients_below : coefficients s ≤ 6
  pub some_parameters : 1 ≤ parameters s
  pub parameters_below : parameters s ≤ 4

pub archive-sized : (s : List ℕ) → AcceptedArchive s → ArchiveSized s
unfolding sizes sizes_at limits
archive-sized s h =
    let b = archive-below s h.formed.good in
    record { some_coefficients = omega arith; coefficients_below = b.coefficients; some_parameters = omega arith; parameters_below = b.parameters }
