-- What the code reads off the sheet of an archive is what the file archives, and the number of an archive by its length, order and form and by what comes after them.
use Prim.Native.Nat.{ℕ, ◌+◌, ◌*◌, ◌<◌, ◌≤◌}
use native.Mathlib.Nat.{mul-le-mul}
use native.Mathlib.Omega.{arith}
use mathlib.Core.Path.{◌≡◌, refl, sym, ap, ap₂, ◌∙◌, subst}
use mathlib.Core.Bool.{Bool, true, false, ◌||◌, cond}
use mathlib.Core.List.{List, [], ◌++◌}
use lib.Dec.{lit<}
use lib.ListN.{length, get_or, replicate, length-replicate}
use lib.Ieee.{Float, nan, binary64, mul, div, le}
use Rattle.arithmetic.specs.Numbers.{plus_zero}
use Rattle.algebra.specs.Kind.{floats}
use Rattle.algebra.specs.Product.{at}
use Rattle.algebra.specs.Table.{table, blank}
use Rattle.algebra.specs.Small.{Rows}
use Rattle.algebra.specs.Reasons.{first}
use Rattle.algebra.proofs.FoldLaws.{span-at}
use Rattle.algebra.proofs.TableLaws.{table_at}
use Rattle.adjustment.specs.Adjusted.{matrix_at, stack}
use Rattle.records.specs.declared.Kind.{Kind}
use Rattle.records.specs.declared.Sizes.{Sizes}
use Rattle.records.specs.format.Scan.{any}
use Rattle.records.specs.format.Kinds.{width, Table, kind_at, kind_numbers, kinds_of, archive_kinds, archive_table}
use Rattle.records.specs.format.Cells.{slots, first_slot, slot_count, offset, slot}
use Rattle.records.specs.format.File.{count, beyond, not_finite}
use Rattle.records.specs.readers.Reader.{formed_number}
use Rattle.records.specs.readers.Archive.{reader, sizes_at, archived, coefficients, parameters, sizes, kinds, cell_value, archive_of, misscaled, value_reasons, scaled_reasons, reasons, refusal}
use Rattle.records.proofs.format.ScanLaws.{any_same}
use Rattle.records.proofs.format.Slots.{Inside, any_cells}
use Rattle.records.proofs.readers.ReaderLaws.{own-decides, accepted-formed}
use Rattle.records_sheet.specs.joints.Sheet.{first_slots, sheet_after}
use Rattle.records_sheet.proofs.Sheets.{cell-value, length-sheet}
use Rattle.records_sheet_parts.specs.joints.Parts.{cells_at, stack_at}
use Rattle.records_sheet_parts.proofs.Read.{Flat, Stack, flat-slots, stack-slots, alone-cell, cells-read, stack-read, kind-starts, kind-on, kind_fits}
use Rattle.records_form.proofs.FormLaws.{FormedSizes, formed-sizes, sheet-from}
use Rattle.records_archive_reader.specs.joints.Checks.{differs, in_units, not_scaled, misscaled_in, numbers_refusal}
use Rattle.records.specs.declared.Shape.TheVariants.{Archived}

-- ---- what the sizes leave each kind: the scaled Φ, Φ_A and P are the kinds 11 to 13, W is 14, then come Φ, Φ_A, P and sigma2
module _ (z : Sizes) where
  abbrev t : Table
  t = archive_kinds z

  -- a kind of as many rows and columns as there are coefficients, and of one for each parameter
  abbrev LikePhi : ℕ → Type 0
  LikePhi k = Flat (kind_at t k) z.coefficients z.coefficients

  abbrev LikePs : ℕ → Type 0
  LikePs k = Stack (kind_at t k) z.parameters z.coefficients z.coefficients

  scaled-phi-flat : LikePhi 11
  unfolding kind_at archive_kinds width
  scaled-phi-flat = record { number = refl; row = refl; column = refl }

  scaled-phi-a-flat : LikePhi 12
  unfolding kind_at archive_kinds width
  scaled-phi-a-flat = record { number = refl; row = refl; column = refl }

  scaled-ps-stack : LikePs 13
  unfolding kind_at archive_kinds width
  scaled-ps-stack = record { number = refl; row = refl; column = refl }

  w-flat : Flat (kind_at t 14) z.parameters z.parameters
  unfolding kind_at archive_kinds width
  w-flat = record { number = refl; row = refl; column = refl }

  phi-flat : LikePhi 15
  unfolding kind_at archive_kinds width
  phi-flat = record { number = refl; row = refl; column = refl }

  phi-a-flat : LikePhi 16
  unfolding kind_at archive_kinds width
  phi-a-flat = record { number = refl; row = refl; column = refl }

  ps-stack : LikePs 17
  unfolding kind_at archive_kinds width
  ps-stack = record { number = refl; row = refl; column = refl }

  variance-flat : Flat (kind_at t 18) 1 1
  unfolding kind_at archive_kinds width
  variance-flat = record { number = refl; row = refl; column = refl }

  -- ---- where they start, and that they stand on a sheet of L numbers
  module _ (fs : List ℕ) (e : fs ≡ first_slots t) where
    module _ (L : ℕ) (room : slot_count t ≤ L) where
      square-on : (k : ℕ) → k < kind_numbers → LikePhi k → get_or fs k 0 + z.coefficients * z.coefficients ≤ L
      square-on k l f = kind_fits t fs e L room k l z.coefficients z.coefficients f

      squares-on : (k : ℕ) → k < kind_numbers → LikePs k → get_or fs k 0 + z.parameters * (z.coefficients * z.coefficients) ≤ L
      squares-on k l f = kind-on t fs e L room k l (z.parameters * (z.coefficients * z.coefficients)) (stack-slots (kind_at t k) z.parameters z.coefficients z.coefficients f)

      pub w_fits : get_or fs 14 0 + z.parameters * z.parameters ≤ L
      w_fits = kind_fits t fs e L room 14 (lit< tt) z.parameters z.parameters w-flat

      pub variance-fits : get_or fs 18 0 < L
      variance-fits = let a = kind_fits t fs e L room 18 (lit< tt) 1 1 variance-flat in omega arith

      -- a scaled kind, and its residual one
      pub phi-fits : (get_or fs 11 0 + z.coefficients * z.coefficients ≤ L) × (get_or fs 15 0 + z.coefficients * z.coefficients ≤ L)
      phi-fits = (square-on 11 (lit< tt) scaled-phi-flat, square-on 15 (lit< tt) phi-flat)

      pub phi-a-fits : (get_or fs 12 0 + z.coefficients * z.coefficients ≤ L) × (get_or fs 16 0 + z.coefficients * z.coefficients ≤ L)
      phi-a-fits = (square-on 12 (lit< tt) scaled-phi-a-flat, square-on 16 (lit< tt) phi-a-flat)

      pub ps-fit : (get_or fs 13 0 + z.parameters * (z.coefficients * z.coefficients) ≤ L) × (get_or fs 17 0 + z.parameters * (z.coefficients * z.coefficients) ≤ L)
      ps-fit = (squares-on 13 (lit< tt) scaled-ps-stack, squares-on 17 (lit< tt) ps-stack)

    -- ---- the last reasons as the code makes them
    pub misscaled-cases : (xs : List Float)
        → misscaled_in z xs
        ≡ (not_scaled false xs (get_or fs 11 0) (get_or fs 15 0) (z.coefficients * z.coefficients) (get_or xs (get_or fs 18 0) nan)
        || not_scaled false xs (get_or fs 12 0) (get_or fs 16 0) (z.coefficients * z.coefficients) (get_or xs (get_or fs 18 0) nan)
        || not_scaled true xs (get_or fs 13 0) (get_or fs 17 0) (z.parameters * (z.coefficients * z.coefficients)) (get_or xs (get_or fs 18 0) nan))
    unfolding misscaled_in
    misscaled-cases xs = rw (kind-starts t fs e 11 (lit< tt), kind-starts t fs e 12 (lit< tt), kind-starts t fs e 13 (lit< tt), kind-starts t fs e 15 (lit< tt), kind-starts t fs e 16 (lit< tt), kind-starts t fs e 17 (lit< tt), kind-starts t fs e 18 (lit< tt))

    pub number-cases : (xs : List Float) → numbers_refusal z xs ≡ cond (le (get_or xs (get_or fs 18 0) nan) plus_zero) 5 (cond (misscaled_in z xs) 2 0)
    unfolding numbers_refusal
    number-cases xs = rw (kind-starts t fs e 18 (lit< tt))

  -- the sizes' products
  pub square-below : z.coefficients ≤ 6 → z.coefficients * z.coefficients ≤ 36
  square-below l = mul-le-mul l l

  pub squares-below : z.coefficients ≤ 6 → z.parameters ≤ 4 → z.parameters * (z.coefficients * z.coefficients) ≤ 144
  squares-below l m = mul-le-mul m (mul-le-mul l l)

-- ---- what the sheet xs of an archive gives: its matrices and sigma2
pub record GivesArchive (s : List ℕ) (xs : List Float) : Type 0 where
  pub phi : cells_at xs (first_slot (kinds s) 15) (coefficients s) (coefficients s) ≡ (archive_of s).phi
  pub phi_a : cells_at xs (first_slot (kinds s) 16) (coefficients s) (coefficients s) ≡ (archive_of s).phi_a
  pub w : cells_at xs (first_slot (kinds s) 14) (parameters s) (parameters s) ≡ (archive_of s).w
  pub ps : stack_at xs (first_slot (kinds s) 17) (parameters s) (coefficients s) ≡ (archive_of s).ps
  pub sigma2 : get_or xs (first_slot (kinds s) 18) nan ≡ (archive_of s).sigma2

-- three reasons of one number are one
one_number : (a b c : Bool) (n : ℕ) → cond (a || b || c) n 0 ≡ cond a n (cond b n (cond c n 0))
one_number true b c n = refl
one_number false true c n = refl
one_number false false c n = refl

-- ---- an archive within its sizes, on a sheet of L numbers
module _ (s : List ℕ) (within : any (count s) (beyond (kinds s) s) ≡ false) (L : ℕ) (room : slot_count (kinds s) ≤ L) where
  abbrev sheet : List Float
  sheet = sheet_after L (kinds s) s (count s)

  -- the number in a cell's slot
  slot-value : (k n r c : ℕ) → Inside (kind_at (kinds s) k) n r c → get_or sheet (first_slot (kinds s) k + offset (kind_at (kinds s) k) n r c) nan ≡ cell_value s k n r c
  unfolding slot
  slot-value k n r c i = cell-value Archived (sizes s) s within L room k n r c nan i

  variance-read : get_or sheet (first_slot (kinds s) 18) nan ≡ (archive_of s).sigma2
  unfolding archive_of
  variance-read = alone-cell Archived (sizes s) s within L room 18 (variance-flat (sizes s))

  sheet-gives-archive : GivesArchive s sheet
  unfolding archive_of sizes sizes_at stack
  sheet-gives-archive =
      let z : Sizes = sizes s in
      record {
        phi = cells-read Archived z s within L room 15 (coefficients s) (coefficients s) (phi-flat z);
        phi_a = cells-read Archived z s within L room 16 (coefficients s) (coefficients s) (phi-a-flat z);
        w = cells-read Archived z s within L room 14 (parameters s) (parameters s) (w-flat z);
        ps = stack-read Archived z s within L room 17 (parameters s) (coefficients s) (ps-stack z);
        sigma2 = variance-read;
      }

  -- a scaled kind k beside its residual one j, slot after slot: f makes the scaled number of the residual one
  scaled_read : (k j : ℕ) (f : Float → Float) → kind_at (kinds s) j ≡ kind_at (kinds s) k
      → ((n r c : ℕ) → Inside (kind_at (kinds s) k) n r c → archived (archive_of s) k n r c ≡ f (cell_value s j n r c))
      → any (slots (kind_at (kinds s) k)) (λ i. differs (get_or sheet (first_slot (kinds s) k + i) nan) (f (get_or sheet (first_slot (kinds s) j + i) nan))) ≡ misscaled s k
  unfolding misscaled differs
  scaled_read k j f e h =
      let y : Kind = kind_at (kinds s) k in
      any_cells y (λ i. differs (get_or sheet (first_slot (kinds s) k + i) nan) (f (get_or sheet (first_slot (kinds s) j + i) nan)))
      ∙ any_same (width y.count) _ _ (λ n l. any_same (width y.row) _ _ (λ r m. any_same (width y.column) _ _ (λ c o. here n r c (record { number = l; row = m; column = o }))))
    where
      there : (n r c : ℕ) → Inside (kind_at (kinds s) k) n r c → get_or sheet (first_slot (kinds s) j + offset (kind_at (kinds s) k) n r c) nan ≡ cell_value s j n r c
      there n r c i = subst (λ (y : Kind). Inside y n r c → get_or sheet (first_slot (kinds s) j + offset y n r c) nan ≡ cell_value s j n r c) e (slot-value j n r c) i

      here : (n r c : ℕ) → Inside (kind_at (kinds s) k) n r c
          → differs (get_or sheet (first_slot (kinds s) k + offset (kind_at (kinds s) k) n r c) nan) (f (get_or sheet (first_slot (kinds s) j + offset (kind_at (kinds s) k) n r c) nan))
          ≡ differs (cell_value s k n r c) (archived (archive_of s) k n r c)
      here n r c i = ap₂ differs (slot-value k n r c i) (ap f (there n r c i) ∙ sym (h n r c i))

  -- ---- within the limits: the scaled records of Φ, of Φ_A and of the Ps
  module _ (few : (coefficients s ≤ 6) × (parameters s ≤ 4)) where
    -- a cell of the table of kind j, where kind k has its cells
    phi-cell : (k j n r c : ℕ) → Flat (kind_at (kinds s) k) (coefficients s) (coefficients s) → Inside (kind_at (kinds s) k) n r c
        → at floats (table plus_zero 6 6 (coefficients s) (coefficients s) (cell_value s j 0)) r c ≡ cell_value s j n r c
    phi-cell k j n r c f i =
        let a = f.number in
        let b = i.number in
        let er = f.row in
        let ir = i.row in
        let ec = f.column in
        let ic = i.column in
        let e : 0 ≡ n = omega arith in
        table_at plus_zero 6 6 (coefficients s) (coefficients s) (cell_value s j 0) r c nan (omega arith) (omega arith) few.0 few.0 ∙ ap (λ (m : ℕ). cell_value s j m r c) e

    ps-cell : (n r c : ℕ) → Inside (kind_at (kinds s) 13) n r c → at floats (matrix_at (archive_of s).ps n) r c ≡ cell_value s 17 n r c
    unfolding archive_of stack kind_at archive_kinds width sizes sizes_at
    ps-cell n r c i =
        let f : ℕ → Rows = λ m. table plus_zero 6 6 (coefficients s) (coefficients s) (cell_value s 17 m) in
        let h = length-replicate 4 (blank plus_zero 6 6) in
        let l = few.1 in
        ap (λ (m : Rows). at floats m r c) (span-at 0 (parameters s) f (replicate 4 (blank plus_zero 6 6)) n [] (omega arith) i.number (omega arith))
        ∙ table_at plus_zero 6 6 (coefficients s) (coefficients s) (cell_value s 17 n) r c nan i.row i.column few.0 few.0

    -- a scaled table of kind k, whose residual one is of kind j: of Φ and of Φ_A; and the scaled Ps
    times-read : (k j : ℕ) → Flat (kind_at (kinds s) k) (coefficients s) (coefficients s) → kind_at (kinds s) j ≡ kind_at (kinds s) k
        → ((n r c : ℕ) → archived (archive_of s) k n r c ≡ mul binary64 (at floats (table plus_zero 6 6 (coefficients s) (coefficients s) (cell_value s j 0)) r c) (archive_of s).sigma2)
        → not_scaled false sheet (first_slot (kinds s) k) (first_slot (kinds s) j) (coefficients s * coefficients s) (archive_of s).sigma2 ≡ misscaled s k
    unfolding not_scaled in_units
    times-read k j f e h =
        ap (λ (m : ℕ). not_scaled false sheet (first_slot (kinds s) k) (first_slot (kinds s) j) m (archive_of s).sigma2) (sym (flat-slots (kind_at (kinds s) k) (coefficients s) (coefficients s) f))
        ∙ scaled_read k j (λ x. mul binary64 x (archive_of s).sigma2) e (λ n r c i. h n r c ∙ ap (λ (x : Float). mul binary64 x (archive_of s).sigma2) (phi-cell k j n r c f i))

    ps-read : not_scaled true sheet (first_slot (kinds s) 13) (first_slot (kinds s) 17) (parameters s * (coefficients s * coefficients s)) (archive_of s).sigma2 ≡ misscaled s 13
    unfolding not_scaled in_units archived kind_at archive_kinds sizes sizes_at
    ps-read =
        ap (λ (m : ℕ). not_scaled true sheet (first_slot (kinds s) 13) (first_slot (kinds s) 17) m (archive_of s).sigma2) (sym (stack-slots (kind_at (kinds s) 13) (parameters s) (coefficients s) (coefficients s) (scaled-ps-stack (sizes s))))
        ∙ scaled_read 13 17 (λ x. div binary64 x (archive_of s).sigma2) refl (λ n r c i. ap (λ (x : Float). div binary64 x (archive_of s).sigma2) (ps-cell n r c i))

    misscaled-read : misscaled_in (sizes s) sheet ≡ (misscaled s 11 || misscaled s 12 || misscaled s 13)
    unfolding misscaled_in sizes sizes_at archived archive_of kind_at archive_kinds
    misscaled-read = rw (variance-read, times-read 11 15 (scaled-phi-flat (sizes s)) refl (λ n r c. refl), times-read 12 16 (scaled-phi-a-flat (sizes s)) refl (λ n r c. refl), ps-read)

    numbers-judged : numbers_refusal (sizes s) sheet ≡ cond (le (archive_of s).sigma2 plus_zero) 5 (first (scaled_reasons s))
    unfolding numbers_refusal scaled_reasons first
    numbers-judged = rw (variance-read, misscaled-read) (ap (λ (x : ℕ). cond (le (archive_of s).sigma2 plus_zero) 5 x) (one_number (misscaled s 11) (misscaled s 12) (misscaled s 13) 2))

-- ---- an archive that is not refused: its sizes; z are those at hand
pub archive-sizes-taken : (s : List ℕ) (z : Sizes) → refusal s ≡ 0 → z ≡ sizes s → FormedSizes Archived 1 s z
unfolding refusal reasons
archive-sizes-taken s z h e = formed-sizes Archived 1 (omega arith) (omega arith) s z (accepted-formed reader s h) e

-- the sheet at hand, of L numbers
pub gives-archive : (s : List ℕ) → refusal s ≡ 0 → (L : ℕ) → slot_count (kinds s) ≤ L → (xs : List Float) → xs ≡ sheet_after L (kinds s) s (count s) → GivesArchive s xs
gives-archive s h L room xs e = subst (GivesArchive s) (sym e) (sheet-gives-archive s (archive-sizes-taken s (sizes s) h refl).within L room)

-- ---- the number of an archive of good form, by who gives it
module _ (s : List ℕ) (formed : formed_number reader s ≡ 0) where
  own-reasons : refusal s ≡ first (value_reasons s ++ scaled_reasons s)
  unfolding refusal reasons
  own-reasons = own-decides reader s formed

  pub value-refused : any (count s) (not_finite s) ≡ true → 4 ≡ refusal s
  unfolding value_reasons first
  value-refused h = sym (own-reasons ∙ rw h)

  pub numbers-refused : any (count s) (not_finite s) ≡ false → (L : ℕ) (z : Sizes) (xs : List Float) (n : ℕ) → slot_count archive_table ≤ L → z ≡ sizes s → xs ≡ sheet_after L (kinds_of Archived z) s (count s)
      → n ≡ numbers_refusal z xs → n ≡ refusal s
  unfolding sizes sizes_at value_reasons first
  numbers-refused v L z xs n l ez ex en =
      let a = formed-sizes Archived 1 (omega arith) (omega arith) s (sizes s) formed refl in
      let f = a.fit in
      en
      ∙ ap₂ numbers_refusal ez (sheet-from Archived L s z xs ez ex)
      ∙ numbers-judged s a.within L (omega arith) (a.coefficients, a.parameters)
      ∙ sym (own-reasons ∙ rw v)

-- the sheet has room for what the sizes leave each kind
pub sheet-room : (s : List ℕ) (L : ℕ) (z : Sizes) (xs : List Float) → FormedSizes Archived 1 s z → slot_count archive_table ≤ L → xs ≡ sheet_after L (kinds_of Archived z) s (count s) → slot_count (archive_kinds z) ≤ length xs
sheet-room s L z xs h l e = let f = h.fit in let n = ap length e ∙ length-sheet L (kinds_of Archived z) s (count s) in omega arith
