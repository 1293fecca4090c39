-- A series' own archive and tests. Under another converter they are what the change of an archive and the change of its second file make of them; and as a pair of files they have the
-- series' run, so that what holds of every pair holds of them.
use Prim.Native.Nat.{ℕ, ◌*◌, ◌<◌, ◌≤◌, max}
use mathlib.Core.Path.{◌≡◌, sym, ap, ◌∙◌, subst}
use mathlib.Core.List.{List}
use lib.Dec.{T}
use lib.IntN.{ℤ, nat_abs, ◌+ℤ◌}
use lib.ListN.{get_or}
use lib.Ieee.{Float, binary64, fits}
use Rattle.arithmetic.specs.Scale.{scale}
use Rattle.algebra.specs.Small.{Rows}
use Rattle.arithmetic_cutoffs.specs.declared.Cutoffs.{Cutoffs}
use Rattle.adjustment.specs.Covariance.{Design, matrices}
use Rattle.adjustment.specs.Adjusted.{adjustment}
use Rattle.tests.specs.declared.Entry.{Entry}
use Rattle.tests.specs.Answer.{no_entry}
use Rattle.tests.specs.declared.Run.{Run}
use Rattle.tests.specs.KenwardRoger.{scaled_by}
use Rattle.records.specs.readers.Series.{coefficients, contrast_rows, sizes, design, phi, sigma2}
use Rattle.records.specs.readers.Archive as archive
use Rattle.records.specs.readers.Archive.{Archive, archive_bytes}
use Rattle.records.specs.readers.SecondFile as second
use Rattle.records.specs.readers.SecondFile.{own_tests, is_test_kind}
use Rattle.records.specs.calls.KenwardRogerCall.{adjusted, scaled, run, number, entries}
use Rattle.records.specs.calls.ArchiveCall.{series_archive, series_refusal, in_response_units, archive_run, from_archive_number, from_archive_entries}
use Rattle.records.proofs.promises.OwnTests.{TestsSame, tests_same}
use Rattle.records.proofs.promises.ArchiveBack.{archive-coefficients, series-accepted, series-archivable, series-reads-back}
use Rattle.records.proofs.promises.ArchiveKeeps.{answered-archived}
use Rattle.records.proofs.readers.SeriesInput.{sigma2-fits}
use Rattle.converter.specs.Converted.{kenward_roger_change, converted}
use Rattle.converter.specs.SeriesDemand.{AllInside, AllBear}
use Rattle.converter.specs.ArchiveDemand.{PairInside, OwnConverted, OwnArchiveConverted}
use Rattle.converter.proofs.Archive.{with_sigma2, ArchiveMoves}
use Rattle.converter.proofs.OwnArchive.{archive-converted}
use Rattle.converter.proofs.Parts.{records-converted}
use Rattle.converter.proofs.Series.{series-alike, design-same, phi-same}
use Rattle.converter_theorems.proofs.SeriesCall.{entries-are, scaled-input, scaling}
use Rattle.converter_theorems.proofs.ArchiveCall.{pair-entries}

-- ---- under another converter
abbrev archive_at : Cutoffs → ℕ → Design → Rows → Float → Archive
archive_at c p d f v =
    record { coefficients = p; parameters = matrices d; phi = f; phi_a = (adjustment c d f).phi_a; ps = (adjustment c d f).ps; w = (adjustment c d f).w; sigma2 = v }

module _ {t : ℕ} (w : ℕ) (c : Cutoffs) (s : List ℕ) (k : ℤ) (m : ℕ → ℤ) (near : 2 * nat_abs k ≤ t) (nears : (r : ℕ) → r < contrast_rows s → nat_abs (m r) ≤ t) (e : number w c s ≡ 0)
    (bears : AllBear t w c s) where
  abbrev s' : List ℕ
  s' = converted (kenward_roger_change k m) s

  sigma2-moved : sigma2 s' ≡ scale (k +ℤ k) (sigma2 s)
  sigma2-moved = (scaled-input w c s k m near nears e bears).sigma2

  -- the converted series archives what the series does, but for sigma2
  archive-of-converted : series_archive c s' ≡ with_sigma2 (series_archive c s) (scale (k +ℤ k) (sigma2 s))
  unfolding series_archive adjusted
  archive-of-converted =
      ap (λ (p : ℕ). archive_at c p (design s') (phi s') (sigma2 s')) (ap (max 1) ((series-alike k m s (sizes s)).same_columns 1))
      ∙ ap (λ (d : Design). archive_at c (coefficients s) d (phi s') (sigma2 s')) (design-same k m s)
      ∙ ap (λ (f : Rows). archive_at c (coefficients s) (design s) f (sigma2 s')) (phi-same k m s)
      ∙ ap (archive_at c (coefficients s) (design s) (phi s)) sigma2-moved

  series-moves : ArchiveMoves k (series_archive c s)
  unfolding series_archive adjusted
  series-moves =
      let x = scaling w c s k m near nears e bears in
      let y = rw sigma2-moved at x in
      record { again = subst (λ (v : Float). T (fits binary64 v)) sigma2-moved (sigma2-fits s'); phi = y.phi; phi_a = y.phi_a; ps = y.ps }

  own-converted : OwnConverted c k m s (converted (kenward_roger_change k m) s)
  unfolding own_tests series_archive
  own-converted =
      let refusal = answered-archived w c s e in
      let a = series-archivable w c s refusal in
      record {
        archive = ap archive_bytes archive-of-converted ∙ archive-converted k (series_archive c s) a.coefficients_below a.parameters_below (series-reads-back w c s refusal) series-moves;
        tests = records-converted (kenward_roger_change k m) is_test_kind s;
      }

pub own-archive-converted : OwnArchiveConverted
own-archive-converted w c t s k m near nears e bears = own-converted w c s k m near nears e bears

-- ---- as a pair of files
module _ (w : ℕ) (c : Cutoffs) (s : List ℕ) (e : number w c s ≡ 0) where
  abbrev file : List ℕ
  file = archive_bytes (series_archive c s)

  refusal : series_refusal w c s ≡ 0
  refusal = answered-archived w c s e

  tests : TestsSame s (own_tests s)
  tests = tests_same w s (series-accepted w c s refusal)

  pub own-rows : second.contrast_rows (own_tests s) ≡ contrast_rows s
  own-rows = tests.contrast_rows

  own-run : archive_run c (archive_bytes (series_archive c s)) (own_tests s) ≡ run c s
  unfolding archive_run run in_response_units series_archive scaled scaled_by
  own-run = rw ((series-reads-back w c s refusal).same, tests.beta, tests.beta_h, tests.contrast_rows, tests.contrast)

  -- all of its entries in use are inside where the series' are
  pub own-inside : from_archive_number c (archive_bytes (series_archive c s)) (own_tests s) ≡ 0 → AllInside w c s → PairInside c (archive_bytes (series_archive c s)) (own_tests s)
  unfolding series_archive
  own-inside n inside =
      let same : from_archive_entries c file (own_tests s) ≡ entries w c s = pair-entries c file (own_tests s) n ∙ ap (λ (r : Run). r.entries) own-run ∙ sym (entries-are c s w e) in
      let p : archive.coefficients file ≡ coefficients s = archive-coefficients (series_archive c s) (series-archivable w c s refusal) in
      record {
        coefficient = λ i h. ap (λ (es : List Entry). (get_or es i no_entry).inside) same ∙ inside.coefficient i (subst (λ (j : ℕ). i < j) p h);
        contrast = λ h. ap (λ (es : List Entry). (get_or es 6 no_entry).inside) same ∙ inside.contrast (subst (λ (j : ℕ). 0 < j) own-rows h);
      }
