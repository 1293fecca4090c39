-- What the code reads off a series' sheet, on which the torn specimens are left out, is the shortened series of the file, and so the adjustment and the run are the file's own.
use Prim.Native.Nat.{ℕ, ◌+◌, ◌-◌, ◌*◌, ◌<◌, ◌≤◌}
use native.Mathlib.Nat.{mul-le-mul_right}
use native.Mathlib.Omega.{arith}
use mathlib.Core.Path.{◌≡◌, refl, ap, ap₂, ◌∙◌}
use mathlib.Core.Bool.{Bool, true, false, cond, ◌&&◌}
use mathlib.Core.List.{List}
use mathlib.Core.Logic.{inl, inr}
use lib.ListN.{get_or, length, take, drop, length-drop}
use lib.Seq.{length-take-le}
use lib.Ieee.{Float, nan}
use Rattle.arithmetic.specs.declared.Marked.{Marked}
use Rattle.arithmetic_cutoffs.specs.declared.Cutoffs.{Cutoffs}
use Rattle.algebra.specs.Kind.{marks}
use Rattle.algebra.specs.Table.{row}
use Rattle.algebra.specs.Small.{Rows}
use Rattle.algebra_large.specs.joints.Slab.{rows_at, Holds}
use Rattle.adjustment.specs.declared.Block.{Block}
use Rattle.adjustment.specs.Blocks.{no_block, columns_before, places_before}
use Rattle.adjustment.specs.Covariance.{Design, matrices}
use Rattle.adjustment.specs.Adjusted.{adjustment, adjustment_refusal}
use Rattle.adjustment_covariance.specs.joints.Bounds.{Sound}
use Rattle.adjustment_covariance.specs.joints.Lent.{LentParts}
use Rattle.adjustment_work.specs.joints.Work.{design_of}
use Rattle.tests.specs.KenwardRoger.{Scaled, run_of}
use Rattle.tests_run.specs.joints.Units.{response_units}
use Rattle.tests_run.proofs.RunLaws.{response-units-is}
use Rattle.records.specs.declared.Sizes.{Sizes}
use Rattle.records.specs.format.Kinds.{width, kind_at, kind_numbers, kenward_roger_kinds, limits}
use Rattle.records.specs.format.Cells.{first_slot, slot_count}
use Rattle.records.specs.format.File.{present}
use Rattle.records.specs.readers.Shortened.{kept_specimens, shortened}
use Rattle.records.specs.readers.Series.{specimens, coefficients, z_columns, block_count, thetas, contrast_rows, weight_count, sizes, kinds, block_of, as_sent, design, phi, sigma2, beta, beta_h, contrast}
use Rattle.records.specs.calls.KenwardRogerCall.{adjusted, scaled, run}
use Rattle.records.proofs.readers.AcceptedSeries.{AcceptedSeries, accepted-series}
use Rattle.records.proofs.readers.Limits.{Below}
use Rattle.records.proofs.readers.ShortLaws.{short_n}
use Rattle.records_sheet.proofs.Sheets.{firsts_at, next_start, ends-within, below-small}
use Rattle.records_sheet.proofs.Bounds.{all-bound}
use Rattle.records_sheet_parts.specs.joints.Parts.{numbers_at, cells_at}
use Rattle.records_sheet_parts.proofs.Read.{Flat, flat-slots}
use Rattle.records_series.proofs.Accepted.{limits as Limits-of, sound-blocks}
use Rattle.records_refusals.specs.joints.Room.{SeriesShort}
use Rattle.records_refusals.proofs.RoomLaws.{accepted-below, accepted-room}
use Rattle.records_kenward_roger.proofs.ShortRead.{flat-x, flat-z, flat-weight, kept-most, weights_kept, weights-most, firsts-rise, short_read, x-rows, z-rows, weights-line, numbers-left, given-left, cells_left, alone-left}
use Rattle.records.specs.declared.Shape.TheVariants.{Series}

-- ---- the kinds of a series that stay as they are, by their rows and columns
module _ (s : List ℕ) where
  flat-theta : Flat (kind_at (kinds s) 4) (thetas s) 1
  unfolding kind_at kenward_roger_kinds sizes width
  flat-theta = record { number = refl; row = refl; column = refl }

  flat-phi : Flat (kind_at (kinds s) 6) (coefficients s) (coefficients s)
  unfolding kind_at kenward_roger_kinds sizes width
  flat-phi = record { number = refl; row = refl; column = refl }

  flat-sigma2 : Flat (kind_at (kinds s) 7) 1 1
  unfolding kind_at kenward_roger_kinds sizes width
  flat-sigma2 = record { number = refl; row = refl; column = refl }

  flat-beta : Flat (kind_at (kinds s) 8) (coefficients s) 1
  unfolding kind_at kenward_roger_kinds sizes width
  flat-beta = record { number = refl; row = refl; column = refl }

  flat-contrast : Flat (kind_at (kinds s) 9) (contrast_rows s) (coefficients s)
  unfolding kind_at kenward_roger_kinds sizes width
  flat-contrast = record { number = refl; row = refl; column = refl }

  abbrev hypotheses : ℕ
  hypotheses = cond (present s 10 && present s 9) (coefficients s) 0

  flat-hypothesis : Flat (kind_at (kinds s) 10) hypotheses 1
  unfolding kind_at kenward_roger_kinds sizes width
  flat-hypothesis = record { number = refl; row = refl; column = refl }

-- the numbers of kind k as they are lent, from its first slot to the next kind's
abbrev pub part_of : List ℕ → List Float → ℕ → List Float
part_of fs xs k = take (get_or fs (k + 1) 0 - get_or fs k 0) (drop (get_or fs k 0) xs)

-- the first m weights as they are lent
abbrev pub weights_of : List ℕ → List Float → ℕ → List Float
weights_of fs xs m = take (get_or fs 5 0 + m - get_or fs 5 0) (drop (get_or fs 5 0) xs)

-- ---- a series that the reader takes, on its sheet without its torn specimens
module _ (w : ℕ) (s : List ℕ) (fs : List ℕ) (xs : List Float) (h : SeriesShort w s (sizes s) fs xs) where
  facts : AcceptedSeries w s
  facts = accepted-series w s h.taken

  below : Below (sizes s) (limits w)
  below = accepted-below w h.some s h.taken

  room : slot_count (kinds s) ≤ length xs
  room = accepted-room w h.some s h.taken (length xs) h.written

  abbrev sheet : List Float
  sheet = short_read s (length xs)

  -- how many specimens are kept
  abbrev left : ℕ
  left = length (kept_specimens (as_sent s))

  starts-at : (k : ℕ) → k < 34 → get_or fs k 0 ≡ first_slot (kinds s) k
  starts-at k l = ap (λ (l : List ℕ). get_or l k 0) h.starts ∙ firsts_at (kinds s) k l

  -- where a kind ends
  ends_at : (k r c : ℕ) → k < kind_numbers → Flat (kind_at (kinds s) k) r c → get_or fs k 0 + r * c ≤ length xs
  ends_at k r c l f =
      let a = starts-at k (omega arith) in
      let b = ends-within (kinds s) k l in
      let d = flat-slots (kind_at (kinds s) k) r c f in
      let e = room in
      omega arith

  span_of : (k r c : ℕ) → k < kind_numbers → Flat (kind_at (kinds s) k) r c → get_or fs (k + 1) 0 - get_or fs k 0 ≡ r * c
  span_of k r c l f =
      let a = starts-at k (omega arith) in
      let b = starts-at (k + 1) (omega arith) in
      let d = flat-slots (kind_at (kinds s) k) r c f in
      let e = next_start (kinds s) k in
      omega arith

  theta-are : numbers_at sheet 3 (first_slot (kinds s) 4) (thetas s) ≡ (design s).theta
  unfolding design shortened as_sent
  theta-are = numbers-left s facts.formed.within (length xs) room 3 4 (thetas s) (inl (omega arith, omega arith)) (flat-theta s)

  phi-are : cells_at sheet (first_slot (kinds s) 6) (coefficients s) (coefficients s) ≡ phi s
  unfolding phi
  phi-are = cells_left s facts.formed.within (length xs) room 6 (coefficients s) (coefficients s) (inr (omega arith)) (flat-phi s)

  sigma2-is : get_or sheet (first_slot (kinds s) 7) nan ≡ sigma2 s
  sigma2-is = alone-left s facts.formed.within (length xs) room 7 (inr (omega arith)) (flat-sigma2 s)

  beta-are : numbers_at sheet 6 (first_slot (kinds s) 8) (coefficients s) ≡ beta s
  unfolding beta
  beta-are = numbers-left s facts.formed.within (length xs) room 6 8 (coefficients s) (inr (omega arith)) (flat-beta s)

  contrast-are : cells_at sheet (first_slot (kinds s) 9) (contrast_rows s) (coefficients s) ≡ contrast s
  unfolding contrast
  contrast-are = cells_left s facts.formed.within (length xs) room 9 (contrast_rows s) (coefficients s) (inr (omega arith)) (flat-contrast s)

  -- "(β_H is then 0)": where the file has none, or no contrast, no record names a cell of it
  hypothesis-are : numbers_at sheet 6 (first_slot (kinds s) 10) (hypotheses s) ≡ beta_h s
  unfolding beta_h
  hypothesis-are = given-left s facts.formed.within (length xs) room 6 10 (coefficients s) (present s 10 && present s 9) (inr (omega arith)) (flat-hypothesis s)

  -- ---- the adjustment and the run from the parts
  part-is : (k r c : ℕ) → k < kind_numbers → Flat (kind_at (kinds s) k) r c → part_of fs xs k ≡ take (r * c) (drop (first_slot (kinds s) k) sheet)
  part-is k r c l f =
      let a = span_of k r c l f in
      let b = starts-at k (omega arith) in
      let d = h.numbers in
      ap₂ (λ (m : ℕ) (q : List Float). take m q) a (ap₂ (λ (j : ℕ) (q : List Float). drop j q) b d)

  -- how long they are, and that the weights of the specimens that are kept lie on the sheet
  part-long : (k r c : ℕ) → k < kind_numbers → Flat (kind_at (kinds s) k) r c → length (part_of fs xs k) ≡ r * c
  part-long k r c l f =
      let a = span_of k r c l f in
      let b = ends_at k r c l f in
      let d = length-drop (get_or fs k 0) xs in
      length-take-le (get_or fs (k + 1) 0 - get_or fs k 0) (drop (get_or fs k 0) xs) (omega arith) ∙ a

  weights-within : get_or fs 5 0 + weights_kept s ≤ length xs
  weights-within = let a = ends_at 5 (weight_count s) 1 (omega arith) (flat-weight s) in let b = weights-most s in omega arith

  abbrev made : Rows → Rows → List Float → List Float → Design
  made x z w t = record {
    n = left;
    p = coefficients s;
    x = x;
    z = z;
    weighted = present s 5;
    weights = w;
    blocks = row no_block 3 (block_count s) (block_of s);
    count = block_count s;
    theta = t;
  }

  -- the weights, the thetas, Φ and sigma2 as they are lent
  weights-lent : weights_of fs xs (weights_kept s) ≡ (design s).weights
  weights-lent =
      ap (λ (m : ℕ). take m (drop (get_or fs 5 0) xs)) (just (get_or fs 5 0) (weights_kept s))
      ∙ ap₂ (λ (q : List Float) (j : ℕ). take (weights_kept s) (drop j q)) h.numbers (starts-at 5 (omega arith))
      ∙ weights-line s facts.formed.within (length xs) room
    where
      just : (a m : ℕ) → a + m - a ≡ m
      just a m = omega arith

  theta-lent : numbers_at xs 3 (get_or fs 4 0) (thetas s) ≡ (design s).theta
  theta-lent = ap₂ (λ (q : List Float) (j : ℕ). numbers_at q 3 j (thetas s)) h.numbers (starts-at 4 (omega arith)) ∙ theta-are

  phi-lent : cells_at xs (get_or fs 6 0) (coefficients s) (coefficients s) ≡ phi s
  phi-lent = ap₂ (λ (q : List Float) (j : ℕ). cells_at q j (coefficients s) (coefficients s)) h.numbers (starts-at 6 (omega arith)) ∙ phi-are

  sigma2-lent : get_or xs (get_or fs 7 0) nan ≡ sigma2 s
  sigma2-lent = ap₂ (λ (q : List Float) (j : ℕ). get_or q j nan) h.numbers (starts-at 7 (omega arith)) ∙ sigma2-is

  -- the design, as it is lent
  own : design_of left (coefficients s) (part_of fs xs 1) (coefficients s) (part_of fs xs 2) (z_columns s) (z_columns s) (present s 5) (weights_of fs xs (weights_kept s)) (row no_block 3 (block_count s) (block_of s)) (block_count s)
      (numbers_at xs 3 (get_or fs 4 0) (thetas s)) ≡ design s
  unfolding design shortened as_sent
  own =
      let ex = part-is 1 (specimens s) (coefficients s) (omega arith) (flat-x s) in
      let ez = part-is 2 (specimens s) (z_columns s) (omega arith) (flat-z s) in
      let ws : List Float = weights_of fs xs (weights_kept s) in
      let z : Rows = rows_at (z_columns s) 0 left (z_columns s) (part_of fs xs 2) in
      let t : List Float = numbers_at xs 3 (get_or fs 4 0) (thetas s) in
      ap (λ (y : Rows). made y z ws t) (ap (λ (q : List Float). rows_at (coefficients s) 0 left (coefficients s) q) ex ∙ x-rows s facts.formed.within (length xs) room)
      ∙ ap (λ (y : Rows). made (design s).x y ws t) (ap (λ (q : List Float). rows_at (z_columns s) 0 left (z_columns s) q) ez ∙ z-rows s facts.formed.within (length xs) room)
      ∙ ap (λ (y : List Float). made (design s).x (design s).z y t) weights-lent
      ∙ ap (λ (y : List Float). made (design s).x (design s).z (design s).weights y) theta-lent

  own-sound : Sound (row no_block 3 (block_count s) (block_of s)) (block_count s)
  unfolding design shortened as_sent
  own-sound =
      let b = sound-blocks w h.some s facts in
      record { few = b.few; small = b.small; counted = (let e = b.counted in let l = (Limits-of w h.some s facts).columns in let m = h.most in omega arith); thetas = b.thetas }

  own-columns : columns_before (row no_block 3 (block_count s) (block_of s)) (block_count s) ≡ z_columns s
  unfolding design shortened as_sent
  own-columns = (sound-blocks w h.some s facts).counted

  own-places : places_before (row no_block 3 (block_count s) (block_of s)) (block_count s) + 1 ≡ matrices (design s)
  unfolding design shortened as_sent
  own-places = refl

  own-few : matrices (design s) ≤ 4
  unfolding design shortened as_sent
  own-few = let b = (sound-blocks w h.some s facts).thetas in omega arith

  -- what the adjustment asks of the lent design: X and Z have a row for each specimen that was sent
  own-lent : LentParts left (z_columns s) (z_columns s) (part_of fs xs 2) (present s 5) (weights_of fs xs (weights_kept s)) (row no_block 3 (block_count s) (block_of s)) (block_count s)
  own-lent = record {
    sound = own-sound;
    within = let e = own-columns in omega arith;
    held = record { wide = omega arith; fits = (let e = part-long 2 (specimens s) (z_columns s) (omega arith) (flat-z s) in let m = mul-le-mul_right (z_columns s) (kept-most s) in omega arith) };
    weighed = λ e.
        let d = length-drop (get_or fs 5 0) xs in
        let l = weights-within in
        let k = length-take-le (get_or fs 5 0 + weights_kept s - get_or fs 5 0) (drop (get_or fs 5 0) xs) (omega arith) in
        let m : weights_kept s ≡ left = ap (λ (b : Bool). cond b left 0) e in
        omega arith;
  }

  own-holds : Holds (coefficients s) 0 left (coefficients s) (length (part_of fs xs 1))
  own-holds = record { wide = omega arith; fits = (let e = part-long 1 (specimens s) (coefficients s) (omega arith) (flat-x s) in let m = mul-le-mul_right (coefficients s) (kept-most s) in omega arith) }

  own-run : (c : Cutoffs)
      → run_of marks c (response_units (record { p = coefficients s; matrices = matrices (design s); phi = cells_at xs (get_or fs 6 0) (coefficients s) (coefficients s); phi_a = (adjusted c s).phi_a; w = (adjusted c s).w }) (adjusted c s).ps (get_or xs (get_or fs 7 0) nan))
      (numbers_at xs 6 (get_or fs 8 0) (coefficients s)) (numbers_at xs 6 (get_or fs 10 0) (hypotheses s)) (contrast_rows s) (cells_at xs (get_or fs 9 0) (contrast_rows s) (coefficients s))
      ≡ run c s
  unfolding run scaled
  own-run c =
      rw (phi-lent, ap₂ (λ (q : List Float) (j : ℕ). numbers_at q 6 j (coefficients s)) h.numbers (starts-at 8 (omega arith)) ∙ beta-are, ap₂ (λ (q : List Float) (j : ℕ). numbers_at q 6 j (hypotheses s)) h.numbers (starts-at 10 (omega arith)) ∙ hypothesis-are, ap₂ (λ (q : List Float) (j : ℕ). cells_at q j (contrast_rows s) (coefficients s)) h.numbers (starts-at 9 (omega arith)) ∙ contrast-are, sigma2-lent)
      (ap (λ (q : Scaled Marked). run_of marks c q (beta s) (beta_h s) (contrast_rows s) (contrast s)) (response-units-is (coefficients s) (matrices (design s)) (phi s) (sigma2 s) (adjusted c s)))

-- ---- the same with the sizes that the code has at hand
module _ (w : ℕ) (s : List ℕ) (z : Sizes) (fs : List ℕ) (xs : List Float) (h : SeriesShort w s z fs xs) where
  read : SeriesShort w s (sizes s) fs xs
  read = record { some = h.some; most = h.most; taken = h.taken; sized = refl; starts = h.starts; numbers = h.numbers; written = h.written }

  -- document 01's limits
  pub bounds-are : Below z (limits w)
  bounds-are = rw h.sized (below w s fs xs read)

  pub few-coefficients : z.coefficients ≤ 6
  unfolding limits
  few-coefficients = bounds-are.coefficients

  pub few-blocks : z.blocks ≤ 3
  unfolding limits
  few-blocks = bounds-are.blocks

  pub few-thetas : z.thetas ≤ 3
  unfolding limits
  few-thetas = bounds-are.thetas

  pub few-contrasts : z.contrasts ≤ 6
  unfolding limits
  few-contrasts = bounds-are.contrasts

  pub few-hypotheses : cond z.hypothesis z.coefficients 0 ≤ 6
  few-hypotheses = go z.hypothesis few-coefficients
    where
      go : (b : Bool) → z.coefficients ≤ 6 → cond b z.coefficients 0 ≤ 6
      go true l = l
      go false l = omega arith

  -- where the kinds start: in their order, within the sheet, and so low that their bytes can be counted
  pub in_order : (k : ℕ) → k < 33 → get_or fs k 0 ≤ get_or fs (k + 1) 0
  in_order k l =
      let a = starts-at w s fs xs read k (omega arith) in
      let b = starts-at w s fs xs read (k + 1) (omega arith) in
      let e = next_start (kinds s) k in
      omega arith

  pub start-within : (k : ℕ) → k ≤ 33 → (get_or fs k 0 ≤ length xs) × (get_or fs k 0 ≤ 553648128)
  start-within k l =
      let a = starts-at w s fs xs read k (omega arith) in
      let b : first_slot (kinds s) k ≤ slot_count (kinds s) = firsts-rise (kinds s) k kind_numbers l in
      let d = room w s fs xs read in
      let e : first_slot (kinds s) k ≤ 553648128 = all-bound Series (sizes s) (below-small (sizes s) w h.most (below w s fs xs read)) k l in
      (omega arith, omega arith)

  pub sigma2-place : get_or fs 7 0 < length xs
  sigma2-place = let a = ends_at w s fs xs read 7 1 1 (omega arith) (flat-sigma2 s) in omega arith

  pub theta-ends : get_or fs 4 0 + z.thetas ≤ length xs
  unfolding sizes
  theta-ends = rw h.sized (let a = ends_at w s fs xs read 4 (thetas s) 1 (omega arith) (flat-theta s) in omega arith)

  pub phi-ends : get_or fs 6 0 + z.coefficients * z.coefficients ≤ length xs
  unfolding sizes
  phi-ends = rw h.sized (ends_at w s fs xs read 6 (coefficients s) (coefficients s) (omega arith) (flat-phi s))

  pub beta-ends : get_or fs 8 0 + z.coefficients ≤ length xs
  unfolding sizes
  beta-ends = rw h.sized (let a = ends_at w s fs xs read 8 (coefficients s) 1 (omega arith) (flat-beta s) in omega arith)

  pub contrast-ends : get_or fs 9 0 + z.contrasts * z.coefficients ≤ length xs
  unfolding sizes
  contrast-ends = rw h.sized (ends_at w s fs xs read 9 (contrast_rows s) (coefficients s) (omega arith) (flat-contrast s))

  pub hypothesis-ends : get_or fs 10 0 + cond z.hypothesis z.coefficients 0 ≤ length xs
  unfolding sizes
  hypothesis-ends = rw h.sized (let a = ends_at w s fs xs read 10 (hypotheses s) 1 (omega arith) (flat-hypothesis s) in omega arith)

  -- the coefficients, Φ and sigma2 are the file's
  pub coefficients-read : z.coefficients ≡ coefficients s
  unfolding sizes
  coefficients-read = ap (λ (y : Sizes). y.coefficients) h.sized

  pub phi-read : cells_at xs (get_or fs 6 0) z.coefficients z.coefficients ≡ phi s
  unfolding sizes
  phi-read = rw h.sized (phi-lent w s fs xs read)

  pub sigma2-read : get_or xs (get_or fs 7 0) nan ≡ sigma2 s
  sigma2-read = sigma2-lent w s fs xs read

  module _ (blocks : List Block) (eb : blocks ≡ row no_block 3 z.blocks (block_of s)) where
    pub lent-sound : Sound blocks z.blocks
    unfolding sizes
    lent-sound = rw (eb, h.sized) (own-sound w s fs xs read)

    -- the number of matrices, as the code counts them
    pub matrices-are : (N : ℕ) → N ≡ places_before blocks z.blocks → N + 1 ≡ matrices (design s)
    unfolding sizes
    matrices-are N eN = rw (eN, eb, h.sized) (own-places w s fs xs read)

    pub matrices-few : (N : ℕ) → N ≡ places_before blocks z.blocks → N + 1 ≤ 4
    matrices-few N eN = rw (matrices-are N eN) (own-few w s fs xs read)

  -- ---- with the n specimens that are kept
  module _ (n : ℕ) (en : n ≡ (design s).n) where
    -- they are no more than the limit, and X has a row for each
    pub run-within : n ≤ w
    unfolding limits sizes
    run-within = let e = en ∙ short_n s in let k = kept-most s in let b = (below w s fs xs read).specimens in omega arith

    pub holds-is : Holds z.coefficients 0 n z.coefficients (length (part_of fs xs 1))
    unfolding sizes
    holds-is = rw (h.sized, en ∙ short_n s) (own-holds w s fs xs read)

    -- and their m weights
    module _ (m : ℕ) (em : m ≡ cond z.weighted n 0) where
      -- which are no more either, and end within the sheet
      pub few-weights : m ≤ w
      few-weights = rw em (go z.weighted run-within)
        where
          go : (b : Bool) → n ≤ w → cond b n 0 ≤ w
          go true l = l
          go false l = omega arith

      pub weighed-ends : get_or fs 5 0 + m ≤ length xs
      unfolding sizes
      weighed-ends = rw (em, h.sized, en ∙ short_n s) (weights-within w s fs xs read)

      module _ (blocks : List Block) (eb : blocks ≡ row no_block 3 z.blocks (block_of s)) (weighted : Bool) (ws : List Float) (eg : weighted ≡ z.weighted) (ew : ws ≡ weights_of fs xs m) where
        pub lent_is : LentParts n z.columns z.columns (part_of fs xs 2) weighted ws blocks z.blocks
        unfolding sizes
        lent_is = rw (eg, ew, em, eb, h.sized, en ∙ short_n s) (own-lent w s fs xs read)

        -- the adjustment is the file's
        module _ (c : Cutoffs) (theta : List Float) (q : Rows) (et : theta ≡ numbers_at xs 3 (get_or fs 4 0) z.thetas) (eq : q ≡ cells_at xs (get_or fs 6 0) z.coefficients z.coefficients) where
          abbrev lent : Design
          lent = design_of n z.coefficients (part_of fs xs 1) z.coefficients (part_of fs xs 2) z.columns z.columns weighted ws blocks z.blocks theta

          design-is : lent ≡ design s
          unfolding sizes
          design-is = rw (eg, ew, em, eb, et, h.sized, en ∙ short_n s) (own w s fs xs read)

          phi-is : q ≡ phi s
          phi-is = eq ∙ phi-read

          pub number-is-own : (v : Float) → v ≡ get_or xs (get_or fs 7 0) nan → adjustment_refusal c lent q v ≡ adjustment_refusal c (design s) (phi s) (sigma2 s)
          number-is-own v ev =
              ap (λ (d : Design). adjustment_refusal c d q v) design-is
              ∙ ap₂ (λ (k : Rows) (x : Float). adjustment_refusal c (design s) k x) phi-is (ev ∙ sigma2-read)

          pub adjusted-is : adjustment c lent q ≡ adjusted c s
          unfolding adjusted
          adjusted-is = ap₂ (λ (d : Design) (k : Rows). adjustment c d k) design-is phi-is

  -- the run is the file's
  pub run_is : (c : Cutoffs) (N : ℕ) (m phi_a v l : Rows) (ps : List Rows) (b bh : List Float) (x : Float) (n : ℕ) → N ≡ matrices (design s) → m ≡ cells_at xs (get_or fs 6 0) z.coefficients z.coefficients
      → b ≡ numbers_at xs 6 (get_or fs 8 0) z.coefficients → n ≡ cond z.hypothesis z.coefficients 0 → bh ≡ numbers_at xs 6 (get_or fs 10 0) n
      → l ≡ cells_at xs (get_or fs 9 0) z.contrasts z.coefficients → x ≡ get_or xs (get_or fs 7 0) nan
      → phi_a ≡ (adjusted c s).phi_a → ps ≡ (adjusted c s).ps → v ≡ (adjusted c s).w
      → run_of marks c (response_units (record { p = z.coefficients; matrices = N; phi = m; phi_a = phi_a; w = v }) ps x) b bh z.contrasts l ≡ run c s
  unfolding sizes
  run_is c N m phi_a v l ps b bh x n eN em eb en eh el ex e1 e2 e3 = rw (eN, em, eb, eh, en, el, ex, e1, e2, e3, h.sized) (own-run w s fs xs read c)
