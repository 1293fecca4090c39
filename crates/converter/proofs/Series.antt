-- The Kenward–Roger series of the converted file, from the one law that it is read alike: its sizes, blocks, design and Φ are the file's, whatever the powers.
use Prim.Native.Nat.{ℕ}
use mathlib.Core.Path.{◌≡◌, refl, ap}
use mathlib.Core.Bool.{true, false}
use mathlib.Core.List.{List}
use lib.IntN.{ℤ}
use Rattle.records.specs.declared.Sizes.{Sizes}
use Rattle.records.specs.declared.Value.TheVariants.{Float as FloatBits}
use Rattle.records.specs.format.Kinds.{kind_at, kenward_roger_kinds}
use Rattle.records.specs.format.Alike.{Stays}
use Rattle.records.specs.readers.Shortened.{shortened}
use Rattle.records.specs.readers.Series.{sizes, kinds, as_sent, design, phi}
use Rattle.records.proofs.readers.SameSeries as same
use Rattle.converter.specs.Converted.{kenward_roger_change, converted}
use Rattle.converter.specs.ReadAlike.{OnFloats, is_number, numbered, ReadAlike}
use Rattle.converter.proofs.Among.{among}
use Rattle.converter.proofs.Fields.{kept-stays}
use Rattle.converter.proofs.ReadAlike.{converted-reads-alike}

-- sigma2, β, contrast and β_H: f64 bits, in cells that the fields name, at any sizes
series-floats : (k : ℤ) (m : ℕ → ℤ) (z : Sizes) → OnFloats (kenward_roger_change k m) (kenward_roger_kinds z)
unfolding kind_at kenward_roger_kinds
series-floats k m z = among 7 8 9 10 (λ j. (kind_at (kenward_roger_kinds z) j).value ≡ FloatBits) refl refl refl refl

pub series-numbered : (k : ℤ) (m : ℕ → ℤ) (z : Sizes) (kind : ℕ) → (kenward_roger_change k m).rewrites kind ≡ true → numbered (kind_at (kenward_roger_kinds z) kind) ≡ false
unfolding kind_at kenward_roger_kinds is_number
series-numbered k m z = among 7 8 9 10 (λ j. numbered (kind_at (kenward_roger_kinds z) j) ≡ false) refl refl refl refl

module _ (k : ℤ) (m : ℕ → ℤ) (s : List ℕ) where
  abbrev s' : List ℕ
  s' = converted (kenward_roger_change k m) s

  pub series-alike : (z : Sizes) → ReadAlike (kenward_roger_change k m) (kenward_roger_kinds z) (kinds s) s (converted (kenward_roger_change k m) s)
  series-alike z = converted-reads-alike (kenward_roger_change k m) (kenward_roger_kinds z) (kinds s) s (series-floats k m z)

  alike : ReadAlike (kenward_roger_change k m) (kinds s) (kinds s) s (converted (kenward_roger_change k m) s)
  alike = series-alike (sizes s)

  -- the values of a kind that is not rewritten
  pub stays : (kind : ℕ) → (kenward_roger_change k m).rewrites kind ≡ false → Stays s (converted (kenward_roger_change k m) s) kind
  stays = kept-stays (kenward_roger_change k m) s

  -- the weights too, so that the same specimens are torn
  pub sent-same : as_sent (converted (kenward_roger_change k m) s) ≡ as_sent s
  sent-same = same.sent-same alike.alike (stays 1 refl) (stays 2 refl) (stays 4 refl) (stays 5 refl)

  pub design-same : design (converted (kenward_roger_change k m) s) ≡ design s
  unfolding design
  design-same = ap shortened sent-same

  pub phi-same : phi (converted (kenward_roger_change k m) s) ≡ phi s
  phi-same = same.phi-same alike.alike (stays 6 refl)
