-- `records_refusals::refusal` meets its contract.
use Prim.Native.Nat.{◌≤◌}
use native.Mathlib.Omega.{arith}
use mathlib.Core.Path.{◌≡◌, sym, ap, ◌∙◌}
use mathlib.Core.Bool.{false}
use lib.Dec.{lit≤}
use lib.ListN.{length}
use Rattle.std.proofs.lemmas.Result.{IfOk-from_err}
use Rattle.records.specs.declared.Sizes.{Sizes}
use Rattle.records.specs.format.Kinds.{kinds_of}
use Rattle.records.specs.format.Cells.{slot_count}
use Rattle.records.specs.format.File.{count}
use Rattle.records.specs.readers.Shortened.{all_torn}
use Rattle.records.specs.readers.Series.{sizes, as_sent, bad_size}
use Rattle.records.proofs.format.RefusalNumbers.{no-zero, number-passed, on-ok}
use Rattle.records_sheet.specs.joints.Sheet.{sheet_after}
use Rattle.records_sheet.proofs.Sheets.{length-sheet}
use Rattle.records_refusals.proofs.RefusalLaws.{Sound, sound-of, starts, weights-fit, records-refuse, size_is, size-refuses, all-torn-is, torn-refuses, value-refuses, sheet-refuses}
use borrow.Author.Rules.{rules}
use Rattle.records.specs.declared.Shape.TheVariants.{Series}
use Rattle.records_refusals.proofs.refusal.Goals as goal

pub records_refusal-requires : goal.records_refusal-requires
records_refusal-requires c = let p = c.requires in (p.some, p.most, p.clear, p.flagged)

pub returns-in_err-records_refusal : goal.returns-in_err-records_refusal
returns-in_err-records_refusal c =
    let a = c.args in
    let passed = c.from_residual.ensures in
    record { value = number-passed _ _ passed.1 ∙ records-refuse a.w a.s.now _ c.in_err-records_refusal.ensures (no-zero _); sheet_after = IfOk-from_err _ _ passed.0 }

pub blocks_of-blocks-requires : goal.blocks_of-blocks-requires
blocks_of-blocks-requires c =
    let sound : let a = c.args in Sound a.w a.s.now c.series_sizes-z.result = sound-of c.args.w c.args.s.now _ c.requires.some c.requires.most (sym c.in_ok-records_refusal.ensures) c.series_sizes-z.ensures in
    sound.formed.blocks

pub bad_size-requires : goal.bad_size-requires
bad_size-requires c =
    let sound : let a = c.args in Sound a.w a.s.now c.series_sizes-z.result = sound-of c.args.w c.args.s.now _ c.requires.some c.requires.most (sym c.in_ok-records_refusal.ensures) c.series_sizes-z.ensures in
    (sound.formed.blocks, c.blocks_of-blocks.ensures.1)

pub returns-then-bad_size : goal.returns-then-bad_size
returns-then-bad_size c =
    let sound : let a = c.args in Sound a.w a.s.now c.series_sizes-z.result = sound-of c.args.w c.args.s.now _ c.requires.some c.requires.most (sym c.in_ok-records_refusal.ensures) c.series_sizes-z.ensures in
    let a = c.args in
    let h = sound in
    let e = size_is a.w a.s.now _ h _ _ c.blocks_of-blocks.ensures.0 c.bad_size.ensures in
    record { value = size-refuses a.w a.s.now _ h (sym e ∙ c.if-bad_size.true); sheet_after = tt }

pub first_slots-firsts-requires : goal.first_slots-firsts-requires
first_slots-firsts-requires c =
    let sound : let a = c.args in Sound a.w a.s.now c.series_sizes-z.result = sound-of c.args.w c.args.s.now _ c.requires.some c.requires.most (sym c.in_ok-records_refusal.ensures) c.series_sizes-z.ensures in
    sound.formed.small

pub fill_sheet-requires : goal.fill_sheet-requires
fill_sheet-requires c =
    let sound : let a = c.args in Sound a.w a.s.now c.series_sizes-z.result = sound-of c.args.w c.args.s.now _ c.requires.some c.requires.most (sym c.in_ok-records_refusal.ensures) c.series_sizes-z.ensures in
    let h = sound in
    let p = c.requires in
    let f = h.formed.fit in
    let l = p.written in
    record { small = (h.formed.small, c.first_slots-firsts.ensures, h.formed.within); sheet_value = (p.blank, omega arith) }

pub all_torn-requires : goal.all_torn-requires
all_torn-requires c =
    let sound : let a = c.args in Sound a.w a.s.now c.series_sizes-z.result = sound-of c.args.w c.args.s.now _ c.requires.some c.requires.most (sym c.in_ok-records_refusal.ensures) c.series_sizes-z.ensures in
    let filled-room : slot_count (kinds_of Series c.series_sizes-z.result) ≤ length c.fill_sheet.new.sheet = let a = c.args in
    let h = sound in
    let f = h.formed.fit in
    let l = c.requires.written in
    let e = ap length c.fill_sheet.ensures ∙ length-sheet (length a.sheet.now) (kinds_of Series c.series_sizes-z.result) a.s.now (count a.s.now) in
    omega arith in
    let z : Sizes = c.series_sizes-z.result in
    let e = starts z 5 _ (lit≤ tt) c.first_slots-firsts.ensures in
    let l = weights-fit z _ filled-room in
    omega arith

pub returns-then-all_torn : goal.returns-then-all_torn
returns-then-all_torn c =
    let sound : let a = c.args in Sound a.w a.s.now c.series_sizes-z.result = sound-of c.args.w c.args.s.now _ c.requires.some c.requires.most (sym c.in_ok-records_refusal.ensures) c.series_sizes-z.ensures in
    let good-size : bad_size c.args.s.now ≡ false = let a = c.args in
    sym (size_is a.w a.s.now _ sound _ _ c.blocks_of-blocks.ensures.0 c.bad_size.ensures) ∙ c.if-bad_size.false in
    let torn-found : c.all_torn.result ≡ all_torn (as_sent c.args.s.now) = let a = c.args in
    let first = c.first_slots-firsts.ensures in
    all-torn-is a.w a.s.now _ sound (length a.sheet.now) _ _ _ c.requires.written first c.fill_sheet.ensures c.all_torn.ensures in
    let a = c.args in
    record { value = torn-refuses a.w a.s.now _ sound good-size (sym torn-found ∙ c.if-all_torn.true); sheet_after = tt }

pub returns-then-any_not_finite : goal.returns-then-any_not_finite
returns-then-any_not_finite c =
    let sound : let a = c.args in Sound a.w a.s.now c.series_sizes-z.result = sound-of c.args.w c.args.s.now _ c.requires.some c.requires.most (sym c.in_ok-records_refusal.ensures) c.series_sizes-z.ensures in
    let good-size : bad_size c.args.s.now ≡ false = let a = c.args in
    sym (size_is a.w a.s.now _ sound _ _ c.blocks_of-blocks.ensures.0 c.bad_size.ensures) ∙ c.if-bad_size.false in
    let torn-found : c.all_torn.result ≡ all_torn (as_sent c.args.s.now) = let a = c.args in
    let first = c.first_slots-firsts.ensures in
    all-torn-is a.w a.s.now _ sound (length a.sheet.now) _ _ _ c.requires.written first c.fill_sheet.ensures c.all_torn.ensures in
    let a = c.args in
    let some_left = sym torn-found ∙ c.if-all_torn.false in
    record { value = value-refuses a.w a.s.now _ sound good-size some_left (sym c.any_not_finite.ensures ∙ c.if-any_not_finite.true); sheet_after = tt }

pub sheet_refusal-requires : goal.sheet_refusal-requires
sheet_refusal-requires c =
    let sound : let a = c.args in Sound a.w a.s.now c.series_sizes-z.result = sound-of c.args.w c.args.s.now _ c.requires.some c.requires.most (sym c.in_ok-records_refusal.ensures) c.series_sizes-z.ensures in
    let filled-room : slot_count (kinds_of Series c.series_sizes-z.result) ≤ length c.fill_sheet.new.sheet = let a = c.args in
    let h = sound in
    let f = h.formed.fit in
    let l = c.requires.written in
    let e = ap length c.fill_sheet.ensures ∙ length-sheet (length a.sheet.now) (kinds_of Series c.series_sizes-z.result) a.s.now (count a.s.now) in
    omega arith in
    let h = sound in
    record { small = (h.formed.small, h.formed.blocks, c.first_slots-firsts.ensures, filled-room); by_index = c.blocks_of-blocks.ensures.1 }

pub returns : goal.returns
returns c =
    let sound : let a = c.args in Sound a.w a.s.now c.series_sizes-z.result = sound-of c.args.w c.args.s.now _ c.requires.some c.requires.most (sym c.in_ok-records_refusal.ensures) c.series_sizes-z.ensures in
    let good-size : bad_size c.args.s.now ≡ false = let a = c.args in
    sym (size_is a.w a.s.now _ sound _ _ c.blocks_of-blocks.ensures.0 c.bad_size.ensures) ∙ c.if-bad_size.false in
    let torn-found : c.all_torn.result ≡ all_torn (as_sent c.args.s.now) = let a = c.args in
    let first = c.first_slots-firsts.ensures in
    all-torn-is a.w a.s.now _ sound (length a.sheet.now) _ _ _ c.requires.written first c.fill_sheet.ensures c.all_torn.ensures in
    let h = sound in
    let a = c.args in
    let some_left = sym torn-found ∙ c.if-all_torn.false in
    let values = sym c.any_not_finite.ensures ∙ c.if-any_not_finite.false in
    let blocks = c.blocks_of-blocks.ensures.0 in
    let e = c.fill_sheet.ensures in record { value = sheet-refuses a.w a.s.now _ h good-size (length a.sheet.now) _ _ _ some_left values c.requires.written blocks e c.sheet_refusal.ensures; sheet_after = on-ok c.sheet_refusal.result (e ∙ ap (λ (z : Sizes). sheet_after (length a.sheet.now) (kinds_of Series z) a.s.now (count a.s.now)) h.sized) }
