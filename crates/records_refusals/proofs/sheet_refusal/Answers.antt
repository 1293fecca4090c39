-- `records_refusals::sheet_refusal` meets its contract.
use Prim.Native.Nat.{ℕ}
use mathlib.Core.Path.{◌≡◌, sym, ◌∙◌}
use mathlib.Core.Bool.{Bool, true, false, cond}
use native.Mathlib.Omega.{arith}
use lib.Dec.{lit≤}
use lib.ListN.{length, get_or}
use lib.Ieee.{of_bits}
use Rattle.records_contrast.specs.joints.Contrast.{zero_contrast_in}
use Rattle.records_sheet.proofs.Bounds.{all-bound}
use Rattle.records_refusals.proofs.RefusalLaws.{starts, variance-fits, weights-fit, contrast-fits, sheet-cases}
use borrow.Author.Rules.{rules}
use Rattle.records.specs.declared.Shape.TheVariants.{Series}
use Rattle.records_refusals.proofs.sheet_refusal.Goals as goal

-- ---- the number, by the first of the tests that holds
abbrev number_by : Bool → Bool → Bool → Bool → ℕ
number_by p q r t = cond p 5 (cond q 6 (cond r 7 (cond t 8 0)))

seven : {p q r : Bool} (t : Bool) → p ≡ false → q ≡ false → r ≡ true → number_by p q r t ≡ 7
seven t e f g = rw (e, f, g)

eight : {p q r t : Bool} → p ≡ false → q ≡ false → r ≡ false → t ≡ true → number_by p q r t ≡ 8
eight e f g h = rw (e, f, g, h)

none : {p q r t : Bool} → p ≡ false → q ≡ false → r ≡ false → t ≡ false → number_by p q r t ≡ 0
none e f g h = rw (e, f, g, h)

pub offset_bounds-sheet-variance : goal.offset_bounds-sheet-variance
offset_bounds-sheet-variance c =
    let a = c.args in
    let p = c.requires.small in
    let e = starts a.z 7 a.firsts.now (lit≤ tt) p.2 in
    let b = all-bound Series a.z p.0 7 (lit≤ tt) in
    omega arith

pub bounds-sheet-variance : goal.bounds-sheet-variance
bounds-sheet-variance c =
    let a = c.args in
    let p = c.requires.small in
    let e = starts a.z 7 a.firsts.now (lit≤ tt) p.2 in
    let b = variance-fits a.z (length a.sheet.now) p.3 in
    omega arith

pub returns-then-sheet-variance : goal.returns-then-sheet-variance
unfolding of_bits
returns-then-sheet-variance c =
    let a = c.args in
    let p = c.requires.small in
    sym (rw (sheet-cases a.z a.blocks a.sheet.now a.firsts.now p.2, c.if-sheet-variance.true))

pub bad_weight-requires : goal.bad_weight-requires
bad_weight-requires c =
    let a = c.args in
    let p = c.requires.small in
    let e = starts a.z 5 a.firsts.now (lit≤ tt) p.2 in
    let b = weights-fit a.z (length a.sheet.now) p.3 in
    omega arith

pub returns-then-bad_weight : goal.returns-then-bad_weight
unfolding of_bits
returns-then-bad_weight c =
    let a = c.args in
    sym (rw (sheet-cases a.z a.blocks a.sheet.now a.firsts.now c.requires.small.2, c.if-sheet-variance.false, ← c.bad_weight.ensures, c.if-bad_weight.true))

pub returns-then-misfit : goal.returns-then-misfit
unfolding of_bits
returns-then-misfit c =
    let a = c.args in
    let b = sym c.bad_weight.ensures ∙ c.if-bad_weight.false in
    let t = zero_contrast_in a.z a.sheet.now (get_or a.firsts.now 9 0) in
    sym (sheet-cases a.z a.blocks a.sheet.now a.firsts.now c.requires.small.2 ∙ seven t c.if-sheet-variance.false b (sym c.misfit.ensures ∙ c.if-misfit.true))

pub zero_contrast-requires : goal.zero_contrast-requires
zero_contrast-requires c =
    let a = c.args in
    let p = c.requires.small in
    let e = starts a.z 9 a.firsts.now (lit≤ tt) p.2 in
    let b = contrast-fits a.z (length a.sheet.now) p.3 in
    (p.0, omega arith)

pub returns-then-zero_contrast : goal.returns-then-zero_contrast
unfolding of_bits
returns-then-zero_contrast c =
    let a = c.args in
    let b = sym c.bad_weight.ensures ∙ c.if-bad_weight.false in
    let d = sym c.misfit.ensures ∙ c.if-misfit.false in
    sym (sheet-cases a.z a.blocks a.sheet.now a.firsts.now c.requires.small.2 ∙ eight c.if-sheet-variance.false b d (sym c.zero_contrast.ensures ∙ c.if-zero_contrast.true))

pub returns : goal.returns
unfolding of_bits
returns c =
    let a = c.args in
    let b = sym c.bad_weight.ensures ∙ c.if-bad_weight.false in
    let d = sym c.misfit.ensures ∙ c.if-misfit.false in
    sym (sheet-cases a.z a.blocks a.sheet.now a.firsts.now c.requires.small.2 ∙ none c.if-sheet-variance.false b d (sym c.zero_contrast.ensures ∙ c.if-zero_contrast.false))
