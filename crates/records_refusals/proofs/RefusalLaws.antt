-- What the code reads off the sheet of a series is what the file says, and the number of a file by its length, order and form and by what comes after them.
use Prim.Native.Nat.{ℕ, ◌+◌, ◌*◌, ◌<◌, ◌≤◌}
use native.Mathlib.Omega.{arith}
use mathlib.Core.Path.{◌≡◌, refl, sym, ap, ◌∙◌, subst}
use mathlib.Core.Bool.{Bool, true, false, not, ◌&&◌, ◌||◌, cond}
use mathlib.Core.List.{List, []}
use lib.Dec.{eqb, lit≤}
use lib.ListN.{get_or}
use lib.Ieee.{Float, nan, lt, le}
use Rattle.arithmetic.specs.Numbers.{plus_zero, is_zero}
use Rattle.algebra.specs.Table.{row}
use Rattle.algebra.specs.Reasons.{first}
use Rattle.algebra.proofs.ReasonLaws.{passed}
use Rattle.adjustment.specs.declared.Block.{Block}
use Rattle.adjustment.specs.Blocks.{no_block}
use Rattle.records.specs.declared.Sizes.{Sizes}
use Rattle.records.specs.format.Scan.{any}
use Rattle.records.specs.format.Kinds.{width, Table, kind_at, kinds_of, kenward_roger_kinds, limits}
use Rattle.records.specs.format.Cells.{first_slot, slot_count}
use Rattle.records.specs.format.File.{count, beyond, not_finite, present}
use Rattle.records.specs.readers.Reader.{formed_number}
use Rattle.records.specs.readers.Shortened.{torn, all_torn, kept_specimens}
use Rattle.records.specs.readers.Series.{reader, specimens, coefficients, block_count, sizes, cell_value, sigma2, block_of, as_sent, miscounted, bad_size, bad_weight, misfit, zero_contrast, block_reasons, size_reasons, value_reasons, reasons, refusal}
use Rattle.records.proofs.format.ScanLaws.{any_same, any-hit}
use Rattle.records.proofs.readers.KeptLaws.{kept_same}
use Rattle.records.proofs.readers.ShortLaws.{torn-is}
use Rattle.records.proofs.readers.ReaderLaws.{reader-is, form-refuses, own-decides, accepted-formed, accepted-own}
use Rattle.records_sheet.specs.joints.Sheet.{first_slots, sheet_after}
use Rattle.records_sheet.proofs.Sheets.{firsts_at, ends-within}
use Rattle.records_sheet_parts.proofs.Read.{Flat, flat-slots, line-cell, alone-cell}
use Rattle.records_form.proofs.FormLaws.{FormedSizes, formed-sizes}
use Rattle.records_block_limits.specs.joints.Checks.{bad_size_in, misfit_in}
use Rattle.records_block_limits.proofs.BlockLaws.{size-read, misfit-read}
use Rattle.records_contrast.specs.joints.Contrast.{nonzeros, zero_contrast_in}
use Rattle.records_contrast.proofs.ContrastLaws.{contrast-read}
use Rattle.records_torn.specs.joints.Packed.{torn_at, kept_in}
use Rattle.records_refusals.specs.joints.Checks.{records_reader, records_refusal, negatives, bad_weight_in, all_torn_in, sheet_refusal}
use Rattle.records.specs.declared.Shape.TheVariants.{Series}

-- ---- where the weights, sigma2 and the contrast stand
module _ (z : Sizes) where
  abbrev t : Table
  t = kinds_of Series z

  weight-flat : Flat (kind_at t 5) (cond z.weighted z.specimens 0) 1
  unfolding kind_at kenward_roger_kinds width
  weight-flat = record { number = refl; row = refl; column = refl }

  variance-flat : Flat (kind_at t 7) 1 1
  unfolding kind_at kenward_roger_kinds width
  variance-flat = record { number = refl; row = refl; column = refl }

  contrast-flat : Flat (kind_at t 9) z.contrasts z.coefficients
  unfolding kind_at kenward_roger_kinds width
  contrast-flat = record { number = refl; row = refl; column = refl }

  -- the sheet has room for them
  pub variance-fits : (n : ℕ) → slot_count t ≤ n → first_slot t 7 < n
  variance-fits n l = let a = ends-within t 7 (lit≤ tt) in let b = flat-slots (kind_at t 7) 1 1 variance-flat in omega arith

  pub weights-fit : (n : ℕ) → slot_count t ≤ n → first_slot t 5 + cond z.weighted z.specimens 0 ≤ n
  weights-fit n l = let a = ends-within t 5 (lit≤ tt) in let b = flat-slots (kind_at t 5) (cond z.weighted z.specimens 0) 1 weight-flat in omega arith

  pub contrast-fits : (n : ℕ) → slot_count t ≤ n → first_slot t 9 + z.contrasts * z.coefficients ≤ n
  contrast-fits n l = let a = ends-within t 9 (lit≤ tt) in let b = flat-slots (kind_at t 9) z.contrasts z.coefficients contrast-flat in omega arith

  pub starts : (k : ℕ) (fs : List ℕ) → k < 34 → fs ≡ first_slots t → get_or fs k 0 ≡ first_slot t k
  starts k fs l e = ap (λ (x : List ℕ). get_or x k 0) e ∙ firsts_at t k l

  -- the refusals 5 to 8 as the code makes them
  pub sheet-cases : (bs : List Block) (sheet : List Float) (fs : List ℕ) → fs ≡ first_slots t
      → sheet_refusal z bs sheet ≡ cond (le (get_or sheet (get_or fs 7 0) nan) plus_zero) 5 (cond (bad_weight_in z sheet (get_or fs 5 0)) 6 (cond (misfit_in z bs) 7 (cond (zero_contrast_in z sheet (get_or fs 9 0)) 8 0)))
  unfolding sheet_refusal first
  sheet-cases bs sheet fs e = rw (starts 7 fs (lit≤ tt) e, starts 5 fs (lit≤ tt) e, starts 9 fs (lit≤ tt) e)

-- ---- what a series whose records lie within its sizes has there
and_same : (a b c : Bool) → (a ≡ true → b ≡ c) → a && b ≡ a && c
and_same true b c h = h refl
and_same false b c h = refl

-- whether a question is asked at all, of some numbers, or with each of them
none_stays : (b : Bool) (n : ℕ) (p : ℕ → Bool) → 1 ≤ n → b && not (any n (λ i. not (p i))) ≡ not (any n (λ i. not (b && p i)))
none_stays true n p l = refl
none_stays false n p l = sym (ap not (any-hit n (λ i. true) 0 l refl))

module _ (s : List ℕ) (within : any (count s) (beyond (kinds_of Series (sizes s)) s) ≡ false) (N : ℕ) (room : slot_count (kinds_of Series (sizes s)) ≤ N) where
  abbrev u : Table
  u = kinds_of Series (sizes s)

  abbrev sheet : List Float
  sheet = sheet_after N u s (count s)

  variance-read : get_or sheet (first_slot u 7) nan ≡ sigma2 s
  variance-read = alone-cell Series (sizes s) s within N room 7 (variance-flat (sizes s))

  weighted-flat : present s 5 ≡ true → Flat (kind_at u 5) (specimens s) 1
  unfolding sizes
  weighted-flat h = subst (λ (b : Bool). Flat (kind_at u 5) (cond b (specimens s) 0) 1) h (weight-flat (sizes s))

  -- a weight on the sheet is the file's
  weight-cell : present s 5 ≡ true → (i : ℕ) → i < specimens s → get_or sheet (first_slot u 5 + i) nan ≡ cell_value s 5 i 0
  weight-cell h i l = line-cell Series (sizes s) s within N room 5 (specimens s) i (weighted-flat h) l

  weight-read : bad_weight_in (sizes s) sheet (first_slot u 5) ≡ bad_weight s
  unfolding bad_weight_in bad_weight negatives sizes
  weight-read =
      and_same (present s 5) (any (specimens s) (λ i. lt (get_or sheet (first_slot u 5 + i) nan) plus_zero)) (any (specimens s) (λ i. lt (cell_value s 5 i 0) plus_zero))
      (λ h. any_same (specimens s) (λ i. lt (get_or sheet (first_slot u 5 + i) nan) plus_zero) (λ i. lt (cell_value s 5 i 0) plus_zero) (λ i l. ap (λ (x : Float). lt x plus_zero) (weight-cell h i l)))

  -- the sheet tells which specimens are torn, and so which are kept and whether all are torn
  torn-cell : (i : ℕ) → i < specimens s → present s 5 && torn_at sheet (first_slot u 5) i ≡ torn (as_sent s) i
  torn-cell i l = and_same (present s 5) (torn_at sheet (first_slot u 5) i) (is_zero (cell_value s 5 i 0)) (λ h. ap is_zero (weight-cell h i l)) ∙ sym (torn-is s i l)

  pub kept-on-sheet : kept_in (sizes s) sheet ≡ kept_specimens (as_sent s)
  unfolding kept_in sizes as_sent
  kept-on-sheet = kept_same (specimens s) (λ i. present s 5 && torn_at sheet (first_slot u 5) i) (torn (as_sent s)) torn-cell

  all-torn-read : all_torn_in (sizes s) sheet (first_slot u 5) ≡ all_torn (as_sent s)
  unfolding all_torn_in nonzeros all_torn sizes as_sent
  all-torn-read =
      none_stays (present s 5) (specimens s) (torn_at sheet (first_slot u 5)) (omega arith)
      ∙ ap not (any_same (specimens s) (λ i. not (present s 5 && torn_at sheet (first_slot u 5) i)) (λ i. not (torn (as_sent s) i)) (λ i l. ap not (torn-cell i l)))

  zero-read : zero_contrast_in (sizes s) sheet (first_slot u 9) ≡ zero_contrast s
  unfolding zero_contrast sizes
  zero-read = contrast-read Series (sizes s) s within N room (contrast-flat (sizes s))

  sheet-read : block_count s ≤ 3 → sheet_refusal (sizes s) (row no_block 3 (block_count s) (block_of s)) sheet ≡ cond (le (sigma2 s) plus_zero) 5 (cond (bad_weight s) 6 (cond (misfit s) 7 (cond (zero_contrast s) 8 0)))
  unfolding sheet_refusal first
  sheet-read few = rw (variance-read, weight-read, misfit-read s few, zero-read)

-- ---- the number of a file, by its length, order and form, and by what comes after them
abbrev late_number : List ℕ → ℕ
late_number s = cond (bad_size s || all_torn (as_sent s)) 3 (cond (any (count s) (not_finite s)) 4 (cond (le (sigma2 s) plus_zero) 5 (cond (bad_weight s) 6 (cond (misfit s) 7 (cond (zero_contrast s) 8 0)))))

pub refusal-cases : (w : ℕ) (s : List ℕ) → refusal w s ≡ cond (eqb (formed_number (reader w) s) 0) (cond (any (count s) (miscounted s)) 13 (late_number s)) (formed_number (reader w) s)
unfolding refusal reasons block_reasons size_reasons value_reasons first
refusal-cases w s = reader-is (reader w) s

-- with the blocks' parameter counts after the form
pub records-cases : (w : ℕ) (s : List ℕ) → records_refusal w s ≡ cond (eqb (formed_number (reader w) s) 0) (cond (any (count s) (miscounted s)) 13 0) (formed_number (reader w) s)
unfolding records_refusal block_reasons first
records-cases w s = reader-is (records_reader w) s

-- where none of these refuses a file, none of the length, order and form does, and no block is miscounted
pub record Recorded (w : ℕ) (s : List ℕ) : Type 0 where
  pub formed : formed_number (reader w) s ≡ 0
  pub counted : any (count s) (miscounted s) ≡ false

recorded : (w : ℕ) (s : List ℕ) → records_refusal w s ≡ 0 → Recorded w s
unfolding records_refusal block_reasons
recorded w s e = record { formed = accepted-formed (records_reader w) s e; counted = (passed 13 (any (count s) (miscounted s)) [] refl (accepted-own (records_reader w) s e)).0 }

-- so that its sizes z are small, and its cells have room
pub record Sound (w : ℕ) (s : List ℕ) (z : Sizes) : Type 0 where
  pub recorded : Recorded w s
  pub sized : z ≡ sizes s
  pub formed : FormedSizes Series w s z

pub sound-of : (w : ℕ) (s : List ℕ) (z : Sizes) → 1 ≤ w → w ≤ 256 → records_refusal w s ≡ 0 → z ≡ sizes s → Sound w s z
sound-of w s z some most e ez = let q = recorded w s e in record { recorded = q; sized = ez; formed = formed-sizes Series w some most s z q.formed ez }

-- ---- the number by who gives it
-- by the records alone: the file's, then the blocks'
pub file-refuses : (w : ℕ) (s : List ℕ) (r : ℕ) → r ≡ formed_number (reader w) s → (r ≡ 0 → ⊥) → r ≡ records_refusal w s
unfolding records_refusal
file-refuses w s r e h = form-refuses (records_reader w) s r e h

module _ (w : ℕ) (s : List ℕ) (formed : formed_number (reader w) s ≡ 0) where
  pub blocks-refuse : any (count s) (miscounted s) ≡ true → 13 ≡ records_refusal w s
  unfolding records_refusal block_reasons first
  blocks-refuse b = sym (own-decides (records_reader w) s formed ∙ rw b)

  pub none-refuses : any (count s) (miscounted s) ≡ false → 0 ≡ records_refusal w s
  unfolding records_refusal block_reasons first
  none-refuses b = sym (own-decides (records_reader w) s formed ∙ rw b)

pub records-refuse : (w : ℕ) (s : List ℕ) (r : ℕ) → r ≡ records_refusal w s → (r ≡ 0 → ⊥) → r ≡ refusal w s
records-refuse w s r e h = e ∙ records-cases w s ∙ go (eqb (formed_number (reader w) s) 0) (any (count s) (miscounted s)) (formed_number (reader w) s) (λ q. h (e ∙ records-cases w s ∙ q)) ∙ sym (refusal-cases w s)
  where
    go : (a b : Bool) (n : ℕ) → (cond a (cond b 13 0) n ≡ 0 → ⊥) → cond a (cond b 13 0) n ≡ cond a (cond b 13 (late_number s)) n
    go true true n q = refl
    go true false n q = absurd (q refl)
    go false b n q = refl

module _ (w : ℕ) (s : List ℕ) (z : Sizes) (h : Sound w s z) where
  late_is : refusal w s ≡ late_number s
  late_is = refusal-cases w s ∙ rw (h.recorded.formed, h.recorded.counted)

  pub size_is : (bs : List Block) (b : Bool) → bs ≡ row no_block 3 z.blocks (block_of s) → b ≡ bad_size_in bs z.blocks → b ≡ bad_size s
  unfolding sizes
  size_is bs b eb e =
      let n : z.blocks ≡ block_count s = ap (λ (y : Sizes). y.blocks) h.sized in
      let l = h.formed.blocks in
      e ∙ rw (eb, n) (size-read s (omega arith))

  -- its sheet has room for its cells, which lie within its sizes
  own-within : any (count s) (beyond (kinds_of Series (sizes s)) s) ≡ false
  own-within = subst (λ (y : Sizes). any (count s) (beyond (kinds_of Series y) s) ≡ false) h.sized h.formed.within

  own_room : (N : ℕ) → slot_count (kinds_of Series (limits w)) ≤ N → slot_count (kinds_of Series (sizes s)) ≤ N
  own_room N l = let f = h.formed.fit in subst (λ (y : Sizes). slot_count (kinds_of Series y) ≤ N) h.sized (omega arith)

  -- what the code finds of all weights is what the file says of them
  pub all-torn-is : (N : ℕ) (fs : List ℕ) (xs : List Float) (b : Bool) → slot_count (kinds_of Series (limits w)) ≤ N → fs ≡ first_slots (kinds_of Series z) → xs ≡ sheet_after N (kinds_of Series z) s (count s) → b ≡ all_torn_in z xs (get_or fs 5 0) → b ≡ all_torn (as_sent s)
  all-torn-is N fs xs b l ef ex e = e ∙ rw (starts z 5 fs (lit≤ tt) ef, ex, h.sized) (all-torn-read s own-within N (own_room N l))

  pub size-refuses : bad_size s ≡ true → 3 ≡ refusal w s
  size-refuses b = sym (late_is ∙ rw b)

  -- the later ones, of a file of good sizes
  module _ (b : bad_size s ≡ false) where
    pub torn-refuses : all_torn (as_sent s) ≡ true → 3 ≡ refusal w s
    torn-refuses a = sym (late_is ∙ rw (b, a))

    pub value-refuses : all_torn (as_sent s) ≡ false → any (count s) (not_finite s) ≡ true → 4 ≡ refusal w s
    value-refuses a v = sym (late_is ∙ rw (b, a, v))

    pub sheet-refuses : (N : ℕ) (bs : List Block) (xs : List Float) (r : ℕ) → all_torn (as_sent s) ≡ false → any (count s) (not_finite s) ≡ false → slot_count (kinds_of Series (limits w)) ≤ N → bs ≡ row no_block 3 z.blocks (block_of s) → xs ≡ sheet_after N (kinds_of Series z) s (count s)
        → r ≡ sheet_refusal z bs xs → r ≡ refusal w s
    unfolding sizes
    sheet-refuses N bs xs r a v l eb ex e =
        let n : z.blocks ≡ block_count s = ap (λ (y : Sizes). y.blocks) h.sized in
        let m = h.formed.blocks in
        let f : sheet_refusal z bs xs ≡ cond (le (sigma2 s) plus_zero) 5 (cond (bad_weight s) 6 (cond (misfit s) 7 (cond (zero_contrast s) 8 0))) = rw (ex, eb, n, h.sized) (sheet-read s own-within N (own_room N l) (omega arith)) in
        let d : refusal w s ≡ cond (le (sigma2 s) plus_zero) 5 (cond (bad_weight s) 6 (cond (misfit s) 7 (cond (zero_contrast s) 8 0))) = late_is ∙ rw (b, a, v) in
        e ∙ f ∙ sym d
