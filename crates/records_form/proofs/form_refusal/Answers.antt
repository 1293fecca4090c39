-- `records_form::form_refusal` meets its contract.
use Prim.Native.Nat.{ℕ, ◌≤◌}
use native.Mathlib.Omega.{arith}
use mathlib.Core.Path.{◌≡◌, sym, ap, ◌∙◌, subst}
use mathlib.Core.Bool.{Bool, false}
use mathlib.Core.List.{List}
use lib.ListN.{length}
use Rattle.records.specs.declared.Sizes.{Sizes}
use Rattle.records.specs.format.Scan.{any}
use Rattle.records.specs.format.Kinds.{kinds_of, kind_numbers, limits}
use Rattle.records.specs.format.File.{count, bad_record, again, missing, beyond}
use Rattle.records_sizes.specs.joints.Gathered.{sizes_of, reader_of}
use Rattle.records.specs.format.Cells.{slot_count}
use Rattle.records_sheet.specs.joints.Sheet.{Small, missing_in, flags_after}
use Rattle.records_sheet.proofs.Sheets.{any-missing-read, length-flags}
use Rattle.records_form.proofs.FormLaws.{bad-record, cell-again, cell-missing, cell-beyond, none-holds, sizes-small, sizes-fit}
use borrow.Author.Rules.{rules}
use Rattle.records_form.proofs.form_refusal.Reads as reads
use Rattle.records_form.proofs.form_refusal.Lts as lts
use Rattle.records_kinds.proofs.limits.Reads as limits-reads
use Rattle.records_limits.proofs.any_bad.Reads as any-bad-reads
use Rattle.records_limits.proofs.any_beyond.Reads as any-beyond-reads
use Rattle.records_sheet.proofs.any_missing.Reads as any-missing-reads
use Rattle.records_sheet.proofs.first_slots.Reads as first-slots-reads
use Rattle.records_sheet.proofs.mark_cells.Reads as mark-cells-reads
use Rattle.records_sizes.proofs.sizes_of.Reads as sizes-of-reads
use Rattle.records.specs.declared.Shape.{Shape}
use Rattle.records_form.proofs.form_refusal.Goals as goal

-- no record is bad, so that the sizes at hand are small and their cells have room
record Sound (file : Shape) (w : ℕ) (s : List ℕ) (z : Sizes) : Type 0 where
  sized : z ≡ sizes_of file s
  good : any (count s) (bad_record (kinds_of file (limits w)) s) ≡ false
  within : any (count s) (beyond (kinds_of file z) s) ≡ false
  small : Small z
  fit : slot_count (kinds_of file z) ≤ slot_count (kinds_of file (limits w))

sound-of : (file : Shape) (w : ℕ) (s : List ℕ) (z l : Sizes) (bad far : Bool) → 1 ≤ w → w ≤ 256 → l ≡ limits w → bad ≡ any (count s) (bad_record (kinds_of file l) s) → bad ≡ false → z ≡ sizes_of file s → far ≡ any (count s) (beyond (kinds_of file z) s) → far ≡ false → Sound file w s z
sound-of file w s z l bad far h1 h2 el eb fb ez ef ff =
    let g : any (count s) (bad_record (kinds_of file (limits w)) s) ≡ false = ap (λ (y : Sizes). any (count s) (bad_record (kinds_of file y) s)) (sym el) ∙ sym eb ∙ fb in
    record {
      sized = ez;
      good = g;
      within = sym ef ∙ ff;
      small = subst Small (sym ez) (sizes-small file w h1 s g h2);
      fit = subst (λ (y : Sizes). slot_count (kinds_of file y) ≤ slot_count (kinds_of file (limits w))) (sym ez) (sizes-fit file w h1 s g);
    }

absent : (file : Shape) (w : ℕ) (s : List ℕ) (z : Sizes) (r : Bool) (N : ℕ) (fs : List Bool) → Sound file w s z → slot_count (kinds_of file (limits w)) ≤ N → fs ≡ flags_after N (kinds_of file z) s (count s) → r ≡ any kind_numbers (missing_in (kinds_of file z) fs) → r ≡ any kind_numbers (missing (kinds_of file (sizes_of file s)) s)
absent file w s z r N fs h l ef er =
    let f = h.fit in
    let m : slot_count (kinds_of file z) ≤ N = omega arith in
    er
    ∙ ap (λ (x : List Bool). any kind_numbers (missing_in (kinds_of file z) x)) ef
    ∙ any-missing-read file z s h.within N m
    ∙ ap (λ (y : Sizes). any kind_numbers (missing (kinds_of file y) s)) h.sized

pub returns-then-any_bad : goal.returns-then-any_bad
returns-then-any_bad c =
    let a = c.args in
    let e = c.limits.ensures in
    bad-record (reader_of a.file a.w) a.s.now (ap (λ (z : Sizes). any (count a.s.now) (bad_record (kinds_of a.file z) a.s.now)) (sym e) ∙ sym c.any_bad.ensures ∙ c.if-any_bad.true)

pub returns-then-any_beyond : goal.returns-then-any_beyond
returns-then-any_beyond c =
    let a = c.args in
    let e = c.sizes_of-z.ensures in
    cell-beyond (reader_of a.file a.w) a.s.now (ap (λ (z : Sizes). any (count a.s.now) (beyond (kinds_of a.file z) a.s.now)) (sym e) ∙ sym c.any_beyond.ensures ∙ c.if-any_beyond.true)

pub first_slots-firsts-requires : goal.first_slots-firsts-requires
first_slots-firsts-requires c =
    let sound : Sound c.args.file c.args.w c.args.s.now c.sizes_of-z.result = let p = c.requires in
    sound-of c.args.file c.args.w c.args.s.now _ _ _ _ p.0 p.1 c.limits.ensures c.any_bad.ensures c.if-any_bad.false c.sizes_of-z.ensures c.any_beyond.ensures c.if-any_beyond.false in
    sound.small

pub mark_cells-requires : goal.mark_cells-requires
mark_cells-requires c =
    let sound : Sound c.args.file c.args.w c.args.s.now c.sizes_of-z.result = let p = c.requires in
    sound-of c.args.file c.args.w c.args.s.now _ _ _ _ p.0 p.1 c.limits.ensures c.any_bad.ensures c.if-any_bad.false c.sizes_of-z.ensures c.any_beyond.ensures c.if-any_beyond.false in
    let h = sound in
    let p = c.requires in
    let f = h.fit in
    record { small = (h.small, c.first_slots-firsts.ensures, h.within); flags_value = (p.2, omega arith) }

pub returns-then-mark_cells : goal.returns-then-mark_cells
returns-then-mark_cells c =
    let sound : Sound c.args.file c.args.w c.args.s.now c.sizes_of-z.result = let p = c.requires in
    sound-of c.args.file c.args.w c.args.s.now _ _ _ _ p.0 p.1 c.limits.ensures c.any_bad.ensures c.if-any_bad.false c.sizes_of-z.ensures c.any_beyond.ensures c.if-any_beyond.false in
    let h = sound in
    let a = c.args in
    let e = h.sized in
    cell-again (reader_of a.file a.w) a.s.now (ap (λ (z : Sizes). any (count a.s.now) (again (kinds_of a.file z) a.s.now)) (sym e) ∙ sym c.mark_cells.ensures.value ∙ c.if-mark_cells.true)

pub any_missing-requires : goal.any_missing-requires
any_missing-requires c =
    let sound : Sound c.args.file c.args.w c.args.s.now c.sizes_of-z.result = let p = c.requires in
    sound-of c.args.file c.args.w c.args.s.now _ _ _ _ p.0 p.1 c.limits.ensures c.any_bad.ensures c.if-any_bad.false c.sizes_of-z.ensures c.any_beyond.ensures c.if-any_beyond.false in
    let h = sound in
    let p = c.requires in
    let a = c.args in
    let f = h.fit in
    let e = ap length (c.mark_cells.ensures.flags_after c.if-mark_cells.false) ∙ length-flags (length a.flags.now) (kinds_of a.file c.sizes_of-z.result) a.s.now (count a.s.now) in
    (h.small, c.first_slots-firsts.ensures, omega arith)

pub returns-then-any_missing : goal.returns-then-any_missing
returns-then-any_missing c =
    let sound : Sound c.args.file c.args.w c.args.s.now c.sizes_of-z.result = let p = c.requires in
    sound-of c.args.file c.args.w c.args.s.now _ _ _ _ p.0 p.1 c.limits.ensures c.any_bad.ensures c.if-any_bad.false c.sizes_of-z.ensures c.any_beyond.ensures c.if-any_beyond.false in
    let h = sound in
    let a = c.args in
    let p = c.requires in
    let m = absent a.file a.w a.s.now _ _ (length a.flags.now) _ h p.3 (c.mark_cells.ensures.flags_after c.if-mark_cells.false) c.any_missing.ensures in
    cell-missing (reader_of a.file a.w) a.s.now (sym m ∙ c.if-any_missing.true)

pub returns : goal.returns
returns c =
    let sound : Sound c.args.file c.args.w c.args.s.now c.sizes_of-z.result = let p = c.requires in
    sound-of c.args.file c.args.w c.args.s.now _ _ _ _ p.0 p.1 c.limits.ensures c.any_bad.ensures c.if-any_bad.false c.sizes_of-z.ensures c.any_beyond.ensures c.if-any_beyond.false in
    let h = sound in
    let a = c.args in
    let p = c.requires in
    let m = absent a.file a.w a.s.now _ _ (length a.flags.now) _ h p.3 (c.mark_cells.ensures.flags_after c.if-mark_cells.false) c.any_missing.ensures in
    let e = h.sized in
    none-holds (reader_of a.file a.w) a.s.now h.good
    (ap (λ (z : Sizes). any (count a.s.now) (again (kinds_of a.file z) a.s.now)) (sym e) ∙ sym c.mark_cells.ensures.value ∙ c.if-mark_cells.false)
    (sym m ∙ c.if-any_missing.false)
    (ap (λ (z : Sizes). any (count a.s.now) (beyond (kinds_of a.file z) a.s.now)) (sym e) ∙ h.within)
