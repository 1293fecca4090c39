-- What the code reads off the sheets of an archive and of the second file that is lent with it is what the two files say, and so the run is theirs.
use Prim.Native.Nat.{ℕ, ◌+◌, ◌*◌, ◌<◌, ◌≤◌}
use native.Mathlib.Omega.{arith}
use mathlib.Core.Path.{◌≡◌, refl, sym, ap, ◌∙◌, subst}
use mathlib.Core.Bool.{cond, ◌&&◌}
use mathlib.Core.List.{List}
use lib.Dec.{lit<}
use lib.ListN.{length, get_or}
use lib.Ieee.{Float, nan}
use Rattle.arithmetic_cutoffs.specs.declared.Cutoffs.{Cutoffs}
use Rattle.arithmetic.specs.declared.Marked.{Marked}
use Rattle.algebra.specs.Kind.{marks}
use Rattle.algebra.specs.Small.{Rows}
use Rattle.tests.specs.KenwardRoger.{Scaled, run_of}
use Rattle.tests_run.specs.joints.Units.{response_units}
use Rattle.records.specs.declared.Sizes.{Sizes}
use Rattle.records.specs.format.Kinds.{width, kind_at, kinds_of, kind_numbers, archive_kinds, archive_table, test_kinds, test_table}
use Rattle.records.specs.format.Cells.{first_slot, slot_count}
use Rattle.records.specs.format.File.{count, present}
use Rattle.records.specs.readers.Archive as archive
use Rattle.records.specs.readers.SecondFile as second
use Rattle.records.specs.calls.ArchiveCall.{in_response_units, archive_run}
use Rattle.records.proofs.readers.Limits.{slot-count}
use Rattle.records_sheet.specs.joints.Sheet.{first_slots, sheet_after}
use Rattle.records_sheet.proofs.Sheets.{length-sheet}
use Rattle.records_sheet.proofs.Bounds.{cond-le}
use Rattle.records_sheet_parts.specs.joints.Parts.{numbers_at, cells_at, stack_at}
use Rattle.records_sheet_parts.proofs.Read.{Flat, kind-starts, kind_fits, numbers-read, given-read, cells-read}
use Rattle.records_form.proofs.FormLaws.{FormedSizes}
use Rattle.records_archive_reader.proofs.ReaderLaws.{GivesArchive, archive-sizes-taken, gives-archive, w_fits, phi-fits, phi-a-fits, ps-fit, variance-fits}
use Rattle.records_second_file.proofs.SecondLaws.{second-sizes, same-coefficients, as_many, contrast-flat}
use Rattle.records_archive_test.specs.joints.Read.{ArchiveOnSheet, SecondOnSheet}
use Rattle.records.specs.declared.Shape.TheVariants.{Archived, Second}

-- the sheets of the call have room for every cell that the limits allow
pub archive-sheet : slot_count archive_table ≤ 512
archive-sheet = let e = slot-count 1 Archived in omega arith

pub tests-sheet : slot_count test_table ≤ 64
tests-sheet = let e = slot-count 1 Second in omega arith

-- ---- what the sizes leave the second file's other kinds
module _ (z : Sizes) where
  beta-flat : Flat (kind_at (kinds_of Second z) 8) z.coefficients 1
  unfolding kind_at test_kinds width
  beta-flat = record { number = refl; row = refl; column = refl }

  hypothesis-flat : Flat (kind_at (kinds_of Second z) 10) (cond z.hypothesis z.coefficients 0) 1
  unfolding kind_at test_kinds width
  hypothesis-flat = record { number = refl; row = refl; column = refl }

-- ---- what the sheet xs of a second file gives. "(β_H is then 0)": where the file has none, or no contrast, no record names a cell of it
record GivesTests (t : List ℕ) (xs : List Float) : Type 0 where
  beta : numbers_at xs 6 (first_slot (second.kinds t) 8) (second.coefficients t) ≡ second.beta t
  beta_h : numbers_at xs 6 (first_slot (second.kinds t) 10) (cond (present t 10 && present t 9) (second.coefficients t) 0) ≡ second.beta_h t
  contrast : cells_at xs (first_slot (second.kinds t) 9) (second.contrast_rows t) (second.coefficients t) ≡ second.contrast t

-- ---- a second file that its reader takes, on its sheet
module _ (p : ℕ) (t : List ℕ) (xs : List Float) (h : SecondOnSheet p t xs) where
  own-tests : FormedSizes Second 1 t (second.sizes t)
  own-tests = second-sizes p t h.taken (second.sizes t) refl

  tests-given : GivesTests t xs
  unfolding second.sizes second.beta second.beta_h second.contrast
  tests-given =
      let z : Sizes = second.sizes t in
      let w = own-tests.within in
      let room : slot_count (second.kinds t) ≤ length xs = let a = own-tests.fit in let b = h.room in omega arith in
      subst (GivesTests t) (sym h.numbers)
      (record {
        beta = numbers-read Second z t w (length xs) room 6 8 (second.coefficients t) (beta-flat z);
        beta_h = given-read Second z t w (length xs) room 6 10 (second.coefficients t) (present t 10 && present t 9) (hypothesis-flat z);
        contrast = cells-read Second z t w (length xs) room 9 (second.contrast_rows t) (second.coefficients t) (contrast-flat z);
      })

  -- with the sizes and the first slots that the code has at hand
  module _ (z : Sizes) (ez : z ≡ second.sizes t) where
    pub tests-sizes : FormedSizes Second 1 t z
    tests-sizes = second-sizes p t h.taken z ez

    of-beta : z.coefficients ≡ p
    of-beta = sym (same-coefficients t z ez) ∙ as_many p t h.taken

    module _ (fs : List ℕ) (ef : fs ≡ first_slots (kinds_of Second z)) where
      on-sheet-of : (k r c : ℕ) → k < kind_numbers → Flat (kind_at (kinds_of Second z) k) r c → get_or fs k 0 + r * c ≤ length xs
      on-sheet-of k r c l f = let a = tests-sizes.fit in let b = h.room in kind_fits (kinds_of Second z) fs ef (length xs) (omega arith) k l r c f

      pub estimates-fit : get_or fs 8 0 + p ≤ length xs
      estimates-fit = let e = of-beta in let a = on-sheet-of 8 z.coefficients 1 (lit< tt) (beta-flat z) in omega arith

      pub contrast-rows-fit : get_or fs 9 0 + z.contrasts * p ≤ length xs
      contrast-rows-fit = subst (λ (n : ℕ). get_or fs 9 0 + z.contrasts * n ≤ length xs) of-beta (on-sheet-of 9 z.contrasts z.coefficients (lit< tt) (contrast-flat z))

      -- g: how many numbers β_H has
      pub hypothesis-fits : (g : ℕ) → g ≡ cond z.hypothesis p 0 → (get_or fs 10 0 + g ≤ length xs) × (g ≤ 6)
      hypothesis-fits g e =
          let q : g ≡ cond z.hypothesis z.coefficients 0 = e ∙ ap (λ (n : ℕ). cond z.hypothesis n 0) (sym of-beta) in
          let a = on-sheet-of 10 (cond z.hypothesis z.coefficients 0) 1 (lit< tt) (hypothesis-flat z) in
          let b = cond-le z.hypothesis z.coefficients 6 tests-sizes.coefficients in
          (omega arith, omega arith)

      -- the run is that of what the file says
      pub tests-run-is : (c : Cutoffs) (m : Scaled Marked) (b bh : List Float) (l : Rows) (g : ℕ) → b ≡ numbers_at xs 6 (get_or fs 8 0) p → g ≡ cond z.hypothesis p 0 → bh ≡ numbers_at xs 6 (get_or fs 10 0) g
          → l ≡ cells_at xs (get_or fs 9 0) z.contrasts p
          → run_of marks c m b bh z.contrasts l ≡ run_of marks c m (second.beta t) (second.beta_h t) (second.contrast_rows t) (second.contrast t)
      unfolding second.sizes
      tests-run-is c m b bh l g eb eg eh el =
          let y = tests-given in
          rw (eb, eh, eg, el, kind-starts (kinds_of Second z) fs ef 8 (lit< tt), kind-starts (kinds_of Second z) fs ef 9 (lit< tt), kind-starts (kinds_of Second z) fs ef 10 (lit< tt), ← of-beta, ez, y.beta, y.beta_h, y.contrast)

-- what is lent holds the second file once its reader takes it
pub second-taken : (p : ℕ) (t : List ℕ) (L : ℕ) (ys : List Float) → slot_count test_table ≤ L → second.refusal p t ≡ 0 → ys ≡ sheet_after L (second.kinds t) t (count t) → SecondOnSheet p t ys
second-taken p t L ys l e q =
    let n : length ys ≡ L = ap length q ∙ length-sheet L (second.kinds t) t (count t) in
    record { taken = e; numbers = q ∙ ap (λ (m : ℕ). sheet_after m (second.kinds t) t (count t)) (sym n); room = omega arith }

-- ---- an archive: what is lent holds it once its reader takes it
pub archive-taken : (s : List ℕ) (L : ℕ) (ys : List Float) → slot_count archive_table ≤ L → archive.refusal s ≡ 0 → ys ≡ sheet_after L (archive.kinds s) s (count s) → ArchiveOnSheet s ys
archive-taken s L ys l e q =
    let n : length ys ≡ L = ap length q ∙ length-sheet L (archive.kinds s) s (count s) in
    record { taken = e; numbers = q ∙ ap (λ (m : ℕ). sheet_after m (archive.kinds s) s (count s)) (sym n); room = omega arith }

-- the sizes at hand have the file's coefficients
pub archive-p : (s : List ℕ) (z : Sizes) → z ≡ archive.sizes s → z.coefficients ≡ archive.coefficients s
unfolding archive.sizes archive.sizes_at
archive-p s z e = ap (λ (y : Sizes). y.coefficients) e

-- one that its reader takes, on its sheet, with the sizes that the code has at hand
module _ (s : List ℕ) (xs : List Float) (h : ArchiveOnSheet s xs) (z : Sizes) (ez : z ≡ archive.sizes s) where
  own_room : slot_count (archive_kinds z) ≤ length xs
  own_room = let a = (archive-sizes-taken s z h.taken ez).fit in let b = h.room in omega arith

  archive-given : GivesArchive s xs
  archive-given =
      let a = (archive-sizes-taken s (archive.sizes s) h.taken refl).fit in
      let b = h.room in
      gives-archive s h.taken (length xs) (omega arith) xs h.numbers

  module _ (fs : List ℕ) (ef : fs ≡ first_slots (kinds_of Archived z)) where
    firsts-are : fs ≡ first_slots (archive_kinds z)
    firsts-are = ef

    pub inverse-fits : get_or fs 14 0 + z.parameters * z.parameters ≤ length xs
    inverse-fits = w_fits z fs firsts-are (length xs) own_room

    pub square-fits : get_or fs 15 0 + z.coefficients * z.coefficients ≤ length xs
    square-fits = (phi-fits z fs firsts-are (length xs) own_room).1

    pub adjusted-fits : get_or fs 16 0 + z.coefficients * z.coefficients ≤ length xs
    adjusted-fits = (phi-a-fits z fs firsts-are (length xs) own_room).1

    pub squares-fit : get_or fs 17 0 + z.parameters * (z.coefficients * z.coefficients) ≤ length xs
    squares-fit = (ps-fit z fs firsts-are (length xs) own_room).1

    -- sigma2's place, so low that its bytes can be counted
    pub sigma2-stands : (get_or fs 18 0 < length xs) × (get_or fs 18 0 < 449)
    sigma2-stands =
        let a = (archive-sizes-taken s z h.taken ez).fit in
        let b = slot-count 1 Archived in
        (variance-fits z fs firsts-are (length xs) own_room, variance-fits z fs firsts-are 449 (omega arith))

    -- the run is that of what the two files say
    pub archive-run-is : (c : Cutoffs) (t : List ℕ) (phi phi_a w : Rows) (ps : List Rows) (x : Float) → w ≡ cells_at xs (get_or fs 14 0) z.parameters z.parameters
        → phi ≡ cells_at xs (get_or fs 15 0) z.coefficients z.coefficients → phi_a ≡ cells_at xs (get_or fs 16 0) z.coefficients z.coefficients
        → ps ≡ stack_at xs (get_or fs 17 0) z.parameters z.coefficients → x ≡ get_or xs (get_or fs 18 0) nan
        → run_of marks c (response_units (record { p = z.coefficients; matrices = z.parameters; phi = phi; phi_a = phi_a; w = w }) ps x) (second.beta t) (second.beta_h t) (second.contrast_rows t) (second.contrast t) ≡ archive_run c s t
    unfolding archive_run in_response_units response_units archive.sizes archive.sizes_at archive.archive_of
    archive-run-is c t phi phi_a w ps x ew ep ea es ex =
        let y = archive-given in
        rw (
          ew,
          ep,
          ea,
          es,
          ex,
          kind-starts (archive_kinds z) fs firsts-are 14 (lit< tt),
          kind-starts (archive_kinds z) fs firsts-are 15 (lit< tt),
          kind-starts (archive_kinds z) fs firsts-are 16 (lit< tt),
          kind-starts (archive_kinds z) fs firsts-are 17 (lit< tt),
          kind-starts (archive_kinds z) fs firsts-are 18 (lit< tt),
          ez,
          y.phi,
          y.phi_a,
          y.w,
          y.ps,
          y.sigma2,
        )
