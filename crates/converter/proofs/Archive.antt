-- An archive under another converter, from the one law that it is read alike: its sizes and what stands in residual units are the archive's; and where each number that sigma2 scales moves
-- with sigma2, as the marks of a test from it say, every scaled record is again its residual one's times or divided by sigma2, so that no refusal comes.
use Prim.Native.Nat.{ℕ, ◌<◌}
use mathlib.Core.Path.{◌≡◌, refl, sym, ap, ap₂, ◌∙◌, subst, fun_ext}
use mathlib.Core.Bool.{Bool, true, false, not}
use mathlib.Core.List.{List}
use lib.Dec.{T, eqb}
use lib.IntN.{ℤ, neg_ℤ, ◌+ℤ◌}
use lib.Ieee.{Float, binary64, fits, mul, div, le, to_bits, of_bits}
use lib.Ieee.Bits.{of_bits-to_bits}
use lib.Ieee.Fits.{mul-fits, div-fits}
use borrow.Author.Tests.{eqb-true, eq-eqb, not-false}
use Rattle.arithmetic.specs.Numbers.{plus_zero}
use Rattle.arithmetic.specs.Scale.{scale, power_of_two}
use Rattle.arithmetic.proofs.ScaleLaws.{le-scale}
use Rattle.algebra.specs.Kind.{floats}
use Rattle.algebra.specs.Product.{at}
use Rattle.algebra.specs.Table.{table}
use Rattle.adjustment.specs.Adjusted.{matrix_at, stack}
use Rattle.records.specs.declared.Kind.{Kind}
use Rattle.records.specs.declared.Sizes.{Sizes}
use Rattle.records.specs.declared.Value.TheVariants.{Float as FloatBits}
use Rattle.records.specs.format.Scan.{any}
use Rattle.records.specs.format.Kinds.{Table, kind_at, width, archive_kinds, limits, archive_table}
use Rattle.records.specs.format.File.{count, cell, beyond, form_reasons}
use Rattle.records.specs.format.Order.{order_reasons}
use Rattle.records.specs.readers.Archive.{Archive, sizes_at, archived, coefficients, parameters, sizes, kinds, cell_value, archive_of, misscaled, value_reasons, scaled_reasons, reasons}
use Rattle.records.proofs.format.ScanLaws.{any-none-cells, none-any-cells}
use Rattle.records.proofs.format.Slots.{Inside}
use Rattle.records.proofs.format.CellLaws.{cell-fits}
use Rattle.records.proofs.readers.AcceptedArchive.{AcceptedArchive}
use Rattle.converter.specs.Converted.{archive_change, rewritten, converted}
use Rattle.converter.specs.ReadAlike.{moves, Exact, OnFloats, is_number, numbered, ReadAlike}
use Rattle.converter.proofs.Among.{among}
use Rattle.converter.proofs.ReadAlike.{converted-reads-alike, exact-cells}
use Rattle.converter.proofs.Asked.{none}

-- sigma2 and what it scales: f64 bits, in cells that the fields name, at any sizes
archive-floats : (k : ℤ) (z : Sizes) → OnFloats (archive_change k) (archive_kinds z)
unfolding kind_at archive_kinds
archive-floats k z = among 11 12 13 18 (λ j. (kind_at (archive_kinds z) j).value ≡ FloatBits) refl refl refl refl

archive-numbered : (k : ℤ) (z : Sizes) (kind : ℕ) → (archive_change k).rewrites kind ≡ true → numbered (kind_at (archive_kinds z) kind) ≡ false
unfolding kind_at archive_kinds is_number
archive-numbered k z = among 11 12 13 18 (λ j. numbered (kind_at (archive_kinds z) j) ≡ false) refl refl refl refl

-- ---- what is archived, from its parts; and the same with another sigma2
abbrev archive_from : ℕ → ℕ → (ℕ → ℕ → Float) → (ℕ → ℕ → Float) → (ℕ → ℕ → ℕ → Float) → (ℕ → ℕ → Float) → Float → Archive
archive_from p N phi phi_a ps w sigma2 = record {
  coefficients = p;
  parameters = N;
  phi = table plus_zero 6 6 p p phi;
  phi_a = table plus_zero 6 6 p p phi_a;
  ps = stack 4 N (λ i. table plus_zero 6 6 p p (ps i));
  w = table plus_zero 6 6 N N w;
  sigma2 = sigma2;
}

abbrev pub with_sigma2 : Archive → Float → Archive
with_sigma2 a x = record { coefficients = a.coefficients; parameters = a.parameters; phi = a.phi; phi_a = a.phi_a; ps = a.ps; w = a.w; sigma2 = x }

-- sigma2 times 4 ^ k is an f64 number, and each cell of Φ and Φ_A times sigma2 is then 4 ^ k times what it was, each of a P divided by sigma2 that over 4 ^ k
pub record ArchiveMoves (k : ℤ) (a : Archive) : Type 0 where
  pub again : T (fits binary64 (scale (k +ℤ k) a.sigma2))
  pub phi : (r c : ℕ) → r < a.coefficients → c < a.coefficients
      → mul binary64 (at floats a.phi r c) (scale (k +ℤ k) a.sigma2) ≡ scale (k +ℤ k) (mul binary64 (at floats a.phi r c) a.sigma2)
  pub phi_a : (r c : ℕ) → r < a.coefficients → c < a.coefficients
      → mul binary64 (at floats a.phi_a r c) (scale (k +ℤ k) a.sigma2) ≡ scale (k +ℤ k) (mul binary64 (at floats a.phi_a r c) a.sigma2)
  pub ps : (n r c : ℕ) → n < a.parameters → r < a.coefficients → c < a.coefficients
      → div binary64 (at floats (matrix_at a.ps n) r c) (scale (k +ℤ k) a.sigma2) ≡ scale (neg_ℤ (k +ℤ k)) (div binary64 (at floats (matrix_at a.ps n) r c) a.sigma2)

-- ---- any archive
module _ (k : ℤ) (s : List ℕ) where
  abbrev s' : List ℕ
  s' = converted (archive_change k) s

  alike : ReadAlike (archive_change k) archive_table (kinds s) s (converted (archive_change k) s)
  alike = converted-reads-alike (archive_change k) archive_table (kinds s) s (archive-floats k (limits 1))

  pub coefficients-same : coefficients (converted (archive_change k) s) ≡ coefficients s
  coefficients-same = rw (alike.same_rows 11, alike.same_columns 11)

  parameters-same : parameters s' ≡ parameters s
  parameters-same = rw (alike.same_rows 14, alike.same_columns 14)

  sizes-same : sizes s' ≡ sizes s
  unfolding sizes
  sizes-same = ap₂ sizes_at coefficients-same parameters-same

  kinds-same : kinds s' ≡ kinds s
  kinds-same = ap archive_kinds sizes-same

  stays : (kind n r c : ℕ) → (archive_change k).rewrites kind ≡ false → cell_value s' kind n r c ≡ cell_value s kind n r c
  stays kind n r c e = ap (λ (t : Table). cell t s' kind n r c) kinds-same ∙ alike.kept_cell kind n r c e

  table_stays : (kind n : ℕ) → (archive_change k).rewrites kind ≡ false → cell_value s' kind n ≡ cell_value s kind n
  table_stays kind n e = fun_ext (λ r. fun_ext (λ c. stays kind n r c e))

  -- what it archives is what the archive does, but for sigma2
  pub archive-same : archive_of (converted (archive_change k) s) ≡ with_sigma2 (archive_of s) (archive_of (converted (archive_change k) s)).sigma2
  unfolding archive_of
  archive-same =
      ap₂ (λ (p N : ℕ). archive_from p N (cell_value s' 15 0) (cell_value s' 16 0) (cell_value s' 17) (cell_value s' 14 0) (cell_value s' 18 0 0 0)) coefficients-same parameters-same
      ∙ ap (λ (f : ℕ → ℕ → Float). archive_from (coefficients s) (parameters s) f (cell_value s' 16 0) (cell_value s' 17) (cell_value s' 14 0) (cell_value s' 18 0 0 0)) (table_stays 15 0 refl)
      ∙ ap (λ (f : ℕ → ℕ → Float). archive_from (coefficients s) (parameters s) (cell_value s 15 0) f (cell_value s' 17) (cell_value s' 14 0) (cell_value s' 18 0 0 0)) (table_stays 16 0 refl)
      ∙ ap (λ (f : ℕ → ℕ → ℕ → Float). archive_from (coefficients s) (parameters s) (cell_value s 15 0) (cell_value s 16 0) f (cell_value s' 14 0) (cell_value s' 18 0 0 0))
      (fun_ext (λ n. table_stays 17 n refl))
      ∙ ap (λ (f : ℕ → ℕ → Float). archive_from (coefficients s) (parameters s) (cell_value s 15 0) (cell_value s 16 0) (cell_value s 17) f (cell_value s' 18 0 0 0)) (table_stays 14 0 refl)

  form-same : form_reasons archive_table (kinds s') s' ≡ form_reasons archive_table (kinds s) s
  form-same = ap (λ (t : Table). form_reasons archive_table t s') kinds-same ∙ alike.same_form

  -- its sigma2 is the f64 product
  pub sigma2-product : any (count s) (beyond (kinds s) s) ≡ false → (archive_of (converted (archive_change k) s)).sigma2 ≡ mul binary64 (archive_of s).sigma2 (power_of_two (k +ℤ k))
  unfolding archive_of rewritten
  sigma2-product within = ap (λ (t : Table). cell t s' 18 0 0 0) kinds-same ∙ alike.new_cell within 18 0 0 0 refl (archive-numbered k (sizes s) 18 refl)

  -- a cell of a rewritten kind, scaled exactly
  scales : Exact (archive_change k) s → any (count s) (beyond (kinds s) s) ≡ false → (kind n r c : ℕ) → (archive_change k).rewrites kind ≡ true
      → cell_value s' kind n r c ≡ scale (moves (archive_change k) kind n r c) (cell_value s kind n r c)
  scales h within kind n r c e = ap (λ (t : Table). cell t s' kind n r c) kinds-same ∙ alike.scaled_cell h within kind n r c e (archive-numbered k (sizes s) kind e)

-- ---- an archive that is not refused

module _ (s : List ℕ) (h : AcceptedArchive s) where
  -- a scaled number is what is archived: their bits are the same
  scaled-number : (kind n r c : ℕ) → misscaled s kind ≡ false → T (fits binary64 (archived (archive_of s) kind n r c)) → Inside (kind_at (kinds s) kind) n r c
      → cell_value s kind n r c ≡ archived (archive_of s) kind n r c
  unfolding misscaled
  scaled-number kind n r c e f v =
      let z : Kind = kind_at (kinds s) kind in
      let x : Float = cell_value s kind n r c in
      let y : Float = archived (archive_of s) kind n r c in
      let differs : ℕ → ℕ → ℕ → Bool = λ n r c. not (eqb (to_bits binary64 (cell_value s kind n r c)) (to_bits binary64 (archived (archive_of s) kind n r c))) in
      let same = any-none-cells (width z.count) (width z.row) (width z.column) differs e n r c v.number v.row v.column in
      sym (of_bits-to_bits binary64 x (cell-fits (kinds s) s kind n r c))
      ∙ ap (of_bits binary64) (eqb-true (to_bits binary64 x) (to_bits binary64 y) (not-false (eqb (to_bits binary64 x) (to_bits binary64 y)) same))
      ∙ of_bits-to_bits binary64 y f

  -- so is each number of a kind that the change rewrites
  abbrev IsArchived : ℕ → Type 0
  IsArchived kind = (n r c : ℕ) → Inside (kind_at (kinds s) kind) n r c → cell_value s kind n r c ≡ archived (archive_of s) kind n r c

  phi-archived : IsArchived 11
  unfolding archived
  phi-archived n r c = scaled-number 11 n r c h.phi_scaled (mul-fits binary64 (at floats (archive_of s).phi r c) (archive_of s).sigma2)

  phi_a-archived : IsArchived 12
  unfolding archived
  phi_a-archived n r c = scaled-number 12 n r c h.phi_a_scaled (mul-fits binary64 (at floats (archive_of s).phi_a r c) (archive_of s).sigma2)

  ps-archived : IsArchived 13
  unfolding archived
  ps-archived n r c = scaled-number 13 n r c h.ps_scaled (div-fits binary64 (at floats (matrix_at (archive_of s).ps n) r c) (archive_of s).sigma2)

  sigma2-archived : IsArchived 18
  unfolding kind_at archive_kinds width archived archive_of
  sigma2-archived n r c v = rw (none n v.number, none r v.row, none c v.column)

  -- ---- and each number that sigma2 scales moves with it
  module _ (k : ℤ) (m : ArchiveMoves k (archive_of s)) where
    abbrev after : Archive
    after = with_sigma2 (archive_of s) (scale (k +ℤ k) (archive_of s).sigma2)

    is-archived : (kind n r c : ℕ) → (archive_change k).rewrites kind ≡ true → Inside (kind_at (kinds s) kind) n r c → cell_value s kind n r c ≡ archived (archive_of s) kind n r c
    is-archived kind n r c e = among 11 12 13 18 IsArchived phi-archived phi_a-archived ps-archived sigma2-archived kind e n r c

    -- what is archived with the other sigma2 is, kind by kind, the number scaled by what the change does to it
    abbrev Moved : ℕ → Type 0
    Moved kind = (n r c : ℕ) → Inside (kind_at (kinds s) kind) n r c → archived after kind n r c ≡ scale (moves (archive_change k) kind n r c) (archived (archive_of s) kind n r c)

    phi-moved : Moved 11
    unfolding kind_at archive_kinds width sizes sizes_at archived archive_of
    phi-moved n r c v = m.phi r c v.row v.column

    phi_a-moved : Moved 12
    unfolding kind_at archive_kinds width sizes sizes_at archived archive_of
    phi_a-moved n r c v = m.phi_a r c v.row v.column

    ps-moved : Moved 13
    unfolding kind_at archive_kinds width sizes sizes_at archived archive_of
    ps-moved n r c v = m.ps n r c v.number v.row v.column

    sigma2-moved : Moved 18
    unfolding archived
    sigma2-moved n r c v = refl

    is-moved : (kind n r c : ℕ) → (archive_change k).rewrites kind ≡ true → Inside (kind_at (kinds s) kind) n r c
        → archived after kind n r c ≡ scale (moves (archive_change k) kind n r c) (archived (archive_of s) kind n r c)
    is-moved kind n r c e = among 11 12 13 18 Moved phi-moved phi_a-moved ps-moved sigma2-moved kind e n r c

    -- and an f64 number
    after-fits : (kind n r c : ℕ) → (archive_change k).rewrites kind ≡ true → T (fits binary64 (archived after kind n r c))
    unfolding archived
    after-fits kind n r c e =
        among 11 12 13 18 (λ kind. T (fits binary64 (archived after kind n r c)))
        (mul-fits binary64 (at floats (archive_of s).phi r c) after.sigma2) (mul-fits binary64 (at floats (archive_of s).phi_a r c) after.sigma2)
        (div-fits binary64 (at floats (matrix_at (archive_of s).ps n) r c) after.sigma2) m.again kind e

    archive-exact : Exact (archive_change k) s
    archive-exact =
        exact-cells (archive_change k) (kinds s) s h.formed.once h.formed.within (archive-numbered k (sizes s))
        (λ kind n r c e v. subst (λ (x : Float). T (fits binary64 x)) (is-moved kind n r c e v ∙ ap (scale (moves (archive_change k) kind n r c)) (sym (is-archived kind n r c e v)))
        (after-fits kind n r c e))

    -- what the converted archive says
    pub archive-after : archive_of (converted (archive_change k) s) ≡ with_sigma2 (archive_of s) (scale (k +ℤ k) (archive_of s).sigma2)
    unfolding archive_of
    archive-after = archive-same k s ∙ ap (with_sigma2 (archive_of s)) (scales k s archive-exact h.formed.within 18 0 0 0 refl)

    number-after : (kind n r c : ℕ) → (archive_change k).rewrites kind ≡ true → Inside (kind_at (kinds s) kind) n r c
        → cell_value (converted (archive_change k) s) kind n r c ≡ archived (archive_of (converted (archive_change k) s)) kind n r c
    number-after kind n r c e v =
        scales k s archive-exact h.formed.within kind n r c e
        ∙ ap (scale (moves (archive_change k) kind n r c)) (is-archived kind n r c e v)
        ∙ sym (is-moved kind n r c e v)
        ∙ ap (λ (a : Archive). archived a kind n r c) (sym archive-after)

    -- so that no scaled record is misscaled
    scaled-after : (kind : ℕ) → (archive_change k).rewrites kind ≡ true → misscaled (converted (archive_change k) s) kind ≡ false
    unfolding misscaled
    scaled-after kind e =
        let t : List ℕ = converted (archive_change k) s in
        let z : Kind = kind_at (kinds t) kind in
        none-any-cells (width z.count) (width z.row) (width z.column) (λ n r c. not (eqb (to_bits binary64 (cell_value t kind n r c)) (to_bits binary64 (archived (archive_of t) kind n r c))))
        (λ n r c i j l. ap not (eq-eqb (to_bits binary64 (cell_value t kind n r c)) (to_bits binary64 (archived (archive_of t) kind n r c))
        (ap (to_bits binary64) (number-after kind n r c e (subst (λ (y : Table). Inside (kind_at y kind) n r c) (kinds-same k s) (record { number = i; row = j; column = l }))))))

    positive-same : le (archive_of (converted (archive_change k) s)).sigma2 plus_zero ≡ le (archive_of s).sigma2 plus_zero
    positive-same = ap (λ (a : Archive). le a.sigma2 plus_zero) archive-after ∙ le-scale (k +ℤ k) (archive_of s).sigma2 plus_zero

    scaled-same : (kind : ℕ) → (archive_change k).rewrites kind ≡ true → misscaled s kind ≡ false → misscaled (converted (archive_change k) s) kind ≡ misscaled s kind
    scaled-same kind e none = scaled-after kind e ∙ sym none

    pub reasons-same : reasons (converted (archive_change k) s) ≡ reasons s
    unfolding reasons order_reasons value_reasons scaled_reasons
    reasons-same =
        rw ((alike k s).same_length, (alike k s).same_order, form-same k s, (alike k s).same_finite archive-exact, positive-same)
        (rw (scaled-same 11 refl h.phi_scaled, scaled-same 12 refl h.phi_a_scaled, scaled-same 13 refl h.ps_scaled))
