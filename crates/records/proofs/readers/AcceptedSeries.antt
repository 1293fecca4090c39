-- What holds of a Kenward–Roger file that the reader does not refuse: none of its reasons.
use Prim.Native.Nat.{ℕ}
use mathlib.Core.Path.{◌≡◌, refl}
use mathlib.Core.Bool.{false}
use mathlib.Core.List.{List}
use lib.Dec.{lit≤}
use lib.Ieee.{le}
use Rattle.arithmetic.specs.Numbers.{plus_zero}
use Rattle.algebra.proofs.ReasonLaws.{NoneHolds, first-none}
use Rattle.records.specs.format.Scan.{any}
use Rattle.records.specs.format.File.{count, not_finite}
use Rattle.records.specs.readers.Shortened.{all_torn}
use Rattle.records.specs.readers.Series.{reader, sigma2, as_sent, miscounted, bad_size, bad_weight, misfit, zero_contrast, block_reasons, size_reasons, value_reasons, reasons, refusal}
use Rattle.records.proofs.readers.ReaderLaws.{WellFormed, accepted-formed, accepted-own, well-formed}
use Rattle.records.proofs.format.ScanLaws.{or-false}

pub record AcceptedSeries (w : ℕ) (s : List ℕ) : Type 0 where
  pub formed : WellFormed (reader w) s
  pub counted : any (count s) (miscounted s) ≡ false
  pub sized : bad_size s ≡ false
  pub pulled : all_torn (as_sent s) ≡ false
  pub finite : any (count s) (not_finite s) ≡ false
  pub positive : le (sigma2 s) plus_zero ≡ false
  pub weighed : bad_weight s ≡ false
  pub fits : misfit s ≡ false
  pub nonzero : zero_contrast s ≡ false

pub accepted-series : (w : ℕ) (s : List ℕ) → refusal w s ≡ 0 → AcceptedSeries w s
unfolding refusal reasons block_reasons size_reasons value_reasons
accepted-series w s e =
    let n : NoneHolds ((reader w).own s) = first-none ((reader w).own s) refl (accepted-own (reader w) s e) in
    let three = or-false (bad_size s) (all_torn (as_sent s)) (n 1 (lit≤ tt)) in
    record {
      formed = well-formed (reader w) s (accepted-formed (reader w) s e);
      counted = n 0 (lit≤ tt);
      sized = three.0;
      pulled = three.1;
      finite = n 2 (lit≤ tt);
      positive = n 3 (lit≤ tt);
      weighed = n 4 (lit≤ tt);
      fits = n 5 (lit≤ tt);
      nonzero = n 6 (lit≤ tt);
    }
