-- What the sheet of an accepted file gives the test is what the file sends.
use Prim.Native.Nat.{ℕ, ◌+◌, ◌*◌, ◌<◌, ◌≤◌}
use mathlib.Core.Path.{◌≡◌, refl, ap, ◌∙◌}
use mathlib.Core.Bool.{Bool, false, cond}
use mathlib.Core.List.{List}
use native.Mathlib.Omega.{arith}
use lib.Dec.{lit<}
use lib.ListN.{get_or}
use lib.Ieee.{Float}
use Rattle.arithmetic_cutoffs.specs.declared.Cutoffs.{Cutoffs}
use Rattle.algebra.specs.Kind.{marks}
use Rattle.algebra.specs.Small.{Rows}
use Rattle.tests.specs.declared.Tested.{Tested}
use Rattle.tests.specs.Satterthwaite.{Inputs, satterthwaite as test}
use Rattle.records.specs.declared.Sizes.{Sizes}
use Rattle.records.specs.format.Scan.{any}
use Rattle.records.specs.format.Kinds.{width, Table, kind_at, kinds_of, kind_numbers, satterthwaite_kinds}
use Rattle.records.specs.format.Cells.{slots, first_slot, slot_count}
use Rattle.records.specs.format.File.{count, beyond}
use Rattle.records.specs.readers.Parameters.{coefficients, contrast_rows, parameters, sizes, kinds, jacobians, inputs}
use Rattle.records.specs.calls.SatterthwaiteCall.{outcome}
use Rattle.records_sheet.proofs.Bounds.{cond-le}
use Rattle.records_sheet.specs.joints.Sheet.{first_slots, sheet_after}
use Rattle.records_sheet.proofs.Sheets.{firsts_at, ends-within}
use Rattle.records_sheet_parts.specs.joints.Parts.{numbers_at, cells_at, stack_at}
use Rattle.records_sheet_parts.proofs.Read.{Flat, Stack, flat-slots, stack-slots, numbers-read, given-read, cells-read, stack-read}
use Rattle.records_ddf.specs.joints.Gathered.{inputs_from}
use Rattle.records.specs.declared.Shape.TheVariants.{Test}

-- the inputs of a test, from their parts
abbrev inputs_of : ℕ → ℕ → ℕ → Rows → List Float → List Float → Rows → List Rows → Rows → Inputs
inputs_of p q n l b h v js a = record { p = p; q = q; n = n; l = l; beta = b; beta_h = h; v = v; js = js; a = a }

inputs-same : (p q n : ℕ) {l l' v v' a a' : Rows} {b b' h h' : List Float} {js js' : List Rows} → l ≡ l' → b ≡ b' → h ≡ h' → v ≡ v' → js ≡ js' → a ≡ a' → inputs_of p q n l b h v js a ≡ inputs_of p q n l' b' h' v' js' a'
inputs-same p q n el eb eh ev ej ea = rw (el, eb, eh, ev, ej, ea)

-- the cells that the test takes stand on a sheet of L numbers, from the first slots as the code has them
pub record OnSheet (z : Sizes) (fs : List ℕ) (L : ℕ) : Type 0 where
  pub estimates : get_or fs 8 0 + z.coefficients ≤ L
  pub contrast : get_or fs 9 0 + z.contrasts * z.coefficients ≤ L
  pub hypotheses : get_or fs 10 0 + cond z.hypothesis z.coefficients 0 ≤ L
  pub fewer : cond z.hypothesis z.coefficients 0 ≤ z.coefficients
  pub variance : get_or fs 30 0 + z.coefficients * z.coefficients ≤ L
  pub jacobians : get_or fs 31 0 + z.parameters * (z.coefficients * z.coefficients) ≤ L
  pub parameters : get_or fs 32 0 + z.parameters * z.parameters ≤ L

-- ---- what the sizes leave each kind
module _ (z : Sizes) where
  abbrev t : Table
  t = satterthwaite_kinds z

  estimates-flat : Flat (kind_at t 8) z.coefficients 1
  unfolding kind_at satterthwaite_kinds width
  estimates-flat = record { number = refl; row = refl; column = refl }

  contrast-flat : Flat (kind_at t 9) z.contrasts z.coefficients
  unfolding kind_at satterthwaite_kinds width
  contrast-flat = record { number = refl; row = refl; column = refl }

  hypotheses-flat : Flat (kind_at t 10) (cond z.hypothesis z.coefficients 0) 1
  unfolding kind_at satterthwaite_kinds width
  hypotheses-flat = record { number = refl; row = refl; column = refl }

  variance-flat : Flat (kind_at t 30) z.coefficients z.coefficients
  unfolding kind_at satterthwaite_kinds width
  variance-flat = record { number = refl; row = refl; column = refl }

  jacobians-stack : Stack (kind_at t 31) z.parameters z.coefficients z.coefficients
  unfolding kind_at satterthwaite_kinds width
  jacobians-stack = record { number = refl; row = refl; column = refl }

  parameters-flat : Flat (kind_at t 32) z.parameters z.parameters
  unfolding kind_at satterthwaite_kinds width
  parameters-flat = record { number = refl; row = refl; column = refl }

  -- ---- where they start, and that they stand on the sheet
  starts : (fs : List ℕ) → fs ≡ first_slots t → (k : ℕ) → k < kind_numbers → get_or fs k 0 ≡ first_slot t k
  starts fs e k l = ap (λ (y : List ℕ). get_or y k 0) e ∙ firsts_at t k (omega arith)

  module _ (fs : List ℕ) (e : fs ≡ first_slots t) (L : ℕ) (room : slot_count t ≤ L) where
    kind-on : (k m : ℕ) → k < kind_numbers → slots (kind_at t k) ≡ m → get_or fs k 0 + m ≤ L
    kind-on k m l q = let a = starts fs e k l in let b = ends-within t k l in omega arith

    table_on : (k r c : ℕ) → k < kind_numbers → Flat (kind_at t k) r c → get_or fs k 0 + r * c ≤ L
    table_on k r c l f = kind-on k (r * c) l (flat-slots (kind_at t k) r c f)

    pub on-sheet : OnSheet z fs L
    on-sheet =
        let b = table_on 8 z.coefficients 1 (lit< tt) estimates-flat in
        let h = table_on 10 (cond z.hypothesis z.coefficients 0) 1 (lit< tt) hypotheses-flat in
        record {
          estimates = omega arith;
          contrast = table_on 9 z.contrasts z.coefficients (lit< tt) contrast-flat;
          hypotheses = omega arith;
          fewer = cond-le z.hypothesis z.coefficients z.coefficients (omega arith);
          variance = table_on 30 z.coefficients z.coefficients (lit< tt) variance-flat;
          jacobians = kind-on 31 (z.parameters * (z.coefficients * z.coefficients)) (lit< tt) (stack-slots (kind_at t 31) z.parameters z.coefficients z.coefficients jacobians-stack);
          parameters = table_on 32 z.parameters z.parameters (lit< tt) parameters-flat;
        }

  -- a test from the parts of the sheet at hand; g is how many numbers β_H has
  pub test-is : (c : Cutoffs) (xs : List Float) (fs : List ℕ) → fs ≡ first_slots t → (g : ℕ) (l v a : Rows) (b h : List Float) (js : List Rows) (r : Tested) → g ≡ cond z.hypothesis z.coefficients 0
      → l ≡ cells_at xs (get_or fs 9 0) z.contrasts z.coefficients → b ≡ numbers_at xs 6 (get_or fs 8 0) z.coefficients → h ≡ numbers_at xs 6 (get_or fs 10 0) g
      → v ≡ cells_at xs (get_or fs 30 0) z.coefficients z.coefficients → js ≡ stack_at xs (get_or fs 31 0) z.parameters z.coefficients → a ≡ cells_at xs (get_or fs 32 0) z.parameters z.parameters
      → r ≡ test marks c (record { p = z.coefficients; q = z.contrasts; n = z.parameters; l = l; beta = b; beta_h = h; v = v; js = js; a = a }) → r ≡ test marks c (inputs_from xs z)
  unfolding inputs_from
  test-is c xs fs e g l v a b h js r eg el eb eh ev ej ea er =
      er
      ∙ ap (test marks c) (inputs-same z.coefficients z.contrasts z.parameters
      (el ∙ ap (λ (i : ℕ). cells_at xs i z.contrasts z.coefficients) (starts fs e 9 (omega arith)))
      (eb ∙ ap (λ (i : ℕ). numbers_at xs 6 i z.coefficients) (starts fs e 8 (omega arith)))
      (eh ∙ ap (λ (i : ℕ). numbers_at xs 6 i g) (starts fs e 10 (omega arith)) ∙ ap (numbers_at xs 6 (first_slot t 10)) eg)
      (ev ∙ ap (λ (i : ℕ). cells_at xs i z.coefficients z.coefficients) (starts fs e 30 (omega arith)))
      (ej ∙ ap (λ (i : ℕ). stack_at xs i z.parameters z.coefficients) (starts fs e 31 (omega arith)))
      (ea ∙ ap (λ (i : ℕ). cells_at xs i z.parameters z.parameters) (starts fs e 32 (omega arith))))

-- ---- a file within its sizes, on a sheet of N numbers
module _ (s : List ℕ) (within : any (count s) (beyond (kinds s) s) ≡ false) (N : ℕ) (room : slot_count (kinds s) ≤ N) where
  pub inputs-is : inputs_from (sheet_after N (kinds s) s (count s)) (sizes s) ≡ inputs s
  unfolding inputs_from inputs jacobians sizes
  inputs-is =
      let z : Sizes = sizes s in
      inputs-same (coefficients s) (contrast_rows s) (parameters s)
      (cells-read Test z s within N room 9 (contrast_rows s) (coefficients s) (contrast-flat z))
      (numbers-read Test z s within N room 6 8 (coefficients s) (estimates-flat z))
      (given-read Test z s within N room 6 10 (coefficients s) z.hypothesis (hypotheses-flat z))
      (cells-read Test z s within N room 30 (coefficients s) (coefficients s) (variance-flat z))
      (stack-read Test z s within N room 31 (parameters s) (coefficients s) (jacobians-stack z))
      (cells-read Test z s within N room 32 (parameters s) (parameters s) (parameters-flat z))

  -- the test of the sheet and the sizes at hand
  pub outcome-is : (c : Cutoffs) (z : Sizes) (xs : List Float) → z ≡ sizes s → xs ≡ sheet_after N (kinds s) s (count s) → test marks c (inputs_from xs z) ≡ outcome c s
  unfolding outcome
  outcome-is c z xs e f = rw (e, f) (ap (test marks c) inputs-is)
