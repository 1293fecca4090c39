-- What holds of a Satterthwaite file that the reader does not refuse: it is of good form, and its values are finite.
use Prim.Native.Nat.{ℕ}
use mathlib.Core.Path.{◌≡◌, refl}
use mathlib.Core.Bool.{false}
use mathlib.Core.List.{List, []}
use Rattle.algebra.proofs.ReasonLaws.{passed}
use Rattle.records.specs.format.Scan.{any}
use Rattle.records.specs.format.File.{count, not_finite}
use Rattle.records.specs.readers.Parameters.{reader, value_reasons, reasons, refusal}
use Rattle.records.proofs.readers.ReaderLaws.{WellFormed, accepted-formed, accepted-own, well-formed}

pub record AcceptedParameters (s : List ℕ) : Type 0 where
  pub formed : WellFormed reader s
  pub finite : any (count s) (not_finite s) ≡ false

pub accepted-parameters : (s : List ℕ) → refusal s ≡ 0 → AcceptedParameters s
unfolding refusal reasons value_reasons
accepted-parameters s e = record { formed = well-formed reader s (accepted-formed reader s e); finite = (passed 4 (any (count s) (not_finite s)) [] refl (accepted-own reader s e)).0 }
