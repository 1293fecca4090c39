-- `records_kenward_roger::kenward_roger_modcomp_data` meets its contract.
use Prim.Native.Nat.{ℕ, ◌*◌, ◌≤◌}
use native.Mathlib.Nat.{mul-le-mul}
use native.Mathlib.Omega.{arith}
use mathlib.Core.Path.{◌≡◌, refl, sym, ap, ◌∙◌}
use lib.ListN.{length, take}
use lib.Seq.{length-take-le}
use Rattle.adjustment.specs.Adjusted.{Adjustment}
use Rattle.records_refusals.specs.joints.Room.{SeriesShort}
use Rattle.records_kenward_roger.proofs.Calls.{few-blocks, few-thetas, few-coefficients, run-within, few-weights, weighed-ends, in_order, start-within, sigma2-place, theta-ends, phi-ends}
use Rattle.records_kenward_roger.proofs.Calls.{holds-is, lent_is, number-is-own, adjusted-is}
use Rattle.adjustment_kr_vcov_adj.proofs.CallLaws.{value-is, answer-is}
use Rattle.adjustment_adjusted.specs.joints.FromInformation.{phi_side}
use mathlib.Core.Bool.{Bool, cond}
use Rattle.records_kenward_roger.proofs.kenward_roger_modcomp_data.Goals as goal

square-small : (n : ℕ) → n ≤ 256 → n * n ≤ 65536
square-small n l = mul-le-mul l l

squares-within : (n m : ℕ) → n ≤ m → n * n ≤ m * m
squares-within n m l = mul-le-mul l l

same-most : {a b : ℕ} → a ≡ b → a ≤ b
same-most e = omega arith

pub overflow_mul-squares : goal.overflow_mul-squares
overflow_mul-squares c =
    let lent : SeriesShort c.args.limit c.args.s.now c.args.z c.args.firsts.now c.args.sheet.now = c.requires.0 in
    let within : c.args.n ≤ c.args.limit = run-within _ _ _ _ _ lent _ c.requires.1 in
    let few-specimens : c.args.n ≤ 256 = let x = within in let m = lent.most in omega arith in
    let y = square-small c.args.n few-specimens in omega arith

pub overflow_mul-squares-2 : goal.overflow_mul-squares-2
overflow_mul-squares-2 c =
    let lent : SeriesShort c.args.limit c.args.s.now c.args.z c.args.firsts.now c.args.sheet.now = c.requires.0 in
    let within : c.args.n ≤ c.args.limit = run-within _ _ _ _ _ lent _ c.requires.1 in
    let few-specimens : c.args.n ≤ 256 = let x = within in let m = lent.most in omega arith in
    let y = square-small c.args.n few-specimens in omega arith

pub overflow_mul-parts : goal.overflow_mul-parts
overflow_mul-parts c =
    let lent : SeriesShort c.args.limit c.args.s.now c.args.z c.args.firsts.now c.args.sheet.now = c.requires.0 in
    let within : c.args.n ≤ c.args.limit = run-within _ _ _ _ _ lent _ c.requires.1 in
    let few-specimens : c.args.n ≤ 256 = let x = within in let m = lent.most in omega arith in
    let m = few-specimens in omega arith

pub overflow_add-weighed : goal.overflow_add-weighed
overflow_add-weighed c =
    let lent : SeriesShort c.args.limit c.args.s.now c.args.z c.args.firsts.now c.args.sheet.now = c.requires.0 in
    let x = start-within _ _ _ _ _ lent 5 (omega arith) in
    let y = x.1 in
    let m = few-weights _ _ _ _ _ lent _ c.requires.1 _ c.given.ensures in
    let l = lent.most in
    omega arith

pub blocks_of-requires : goal.blocks_of-requires
blocks_of-requires c =
    let lent : SeriesShort c.args.limit c.args.s.now c.args.z c.args.firsts.now c.args.sheet.now = c.requires.0 in
    few-blocks _ _ _ _ _ lent

pub three_at-requires : goal.three_at-requires
three_at-requires c =
    let lent : SeriesShort c.args.limit c.args.s.now c.args.z c.args.firsts.now c.args.sheet.now = c.requires.0 in
    let h = lent in (theta-ends _ _ _ _ _ h, few-thetas _ _ _ _ _ h)

pub cells_at-phi-requires : goal.cells_at-phi-requires
cells_at-phi-requires c =
    let lent : SeriesShort c.args.limit c.args.s.now c.args.z c.args.firsts.now c.args.sheet.now = c.requires.0 in
    let h = lent in
    let few = few-coefficients _ _ _ _ _ h in
    (few, few, phi-ends _ _ _ _ _ h)

pub slice_bounds-vcov_adj16_with_pw-end : goal.slice_bounds-vcov_adj16_with_pw-end
slice_bounds-vcov_adj16_with_pw-end c =
    let lent : SeriesShort c.args.limit c.args.s.now c.args.z c.args.firsts.now c.args.sheet.now = c.requires.0 in
    let within : c.args.n ≤ c.args.limit = run-within _ _ _ _ _ lent _ c.requires.1 in
    let y = squares-within c.args.n c.args.limit within in
    let r = c.requires.2 in
    omega arith

pub slice_bounds-vcov_adj16_with_pw-end-2 : goal.slice_bounds-vcov_adj16_with_pw-end-2
slice_bounds-vcov_adj16_with_pw-end-2 c = sym (length-take-le _ _ ((let lent : SeriesShort c.args.limit c.args.s.now c.args.z c.args.firsts.now c.args.sheet.now = c.requires.0 in
    let within : c.args.n ≤ c.args.limit = run-within _ _ _ _ _ lent _ c.requires.1 in
    let y = squares-within c.args.n c.args.limit within in
    let r = c.requires.2 in
    omega arith)))

pub slice_bounds-vcov_adj16_with_pw-end-3 : goal.slice_bounds-vcov_adj16_with_pw-end-3
slice_bounds-vcov_adj16_with_pw-end-3 c =
    let lent : SeriesShort c.args.limit c.args.s.now c.args.z c.args.firsts.now c.args.sheet.now = c.requires.0 in
    let within : c.args.n ≤ c.args.limit = run-within _ _ _ _ _ lent _ c.requires.1 in
    let x = within in
    let r = c.requires.3 in
    omega arith

pub slice_bounds-vcov_adj16_with_pw-end-4 : goal.slice_bounds-vcov_adj16_with_pw-end-4
slice_bounds-vcov_adj16_with_pw-end-4 c = sym (length-take-le _ _ ((let lent : SeriesShort c.args.limit c.args.s.now c.args.z c.args.firsts.now c.args.sheet.now = c.requires.0 in
    let within : c.args.n ≤ c.args.limit = run-within _ _ _ _ _ lent _ c.requires.1 in
    let x = within in
    let r = c.requires.3 in
    omega arith)))

pub offset_bounds-sheet-x : goal.offset_bounds-sheet-x
offset_bounds-sheet-x c =
    let lent : SeriesShort c.args.limit c.args.s.now c.args.z c.args.firsts.now c.args.sheet.now = c.requires.0 in
    let lent_at : let a = c.args in SeriesShort a.limit a.s.now a.z a.firsts.now a.sheet.now = lent in
    let x = start-within _ _ _ _ _ lent_at 1 (omega arith) in let y = x.1 in omega arith

pub slice_bounds-design-count : goal.slice_bounds-design-count
slice_bounds-design-count c =
    let lent : SeriesShort c.args.limit c.args.s.now c.args.z c.args.firsts.now c.args.sheet.now = c.requires.0 in
    let lent_at : let a = c.args in SeriesShort a.limit a.s.now a.z a.firsts.now a.sheet.now = lent in
    in_order _ _ _ _ _ lent_at 1 (omega arith)

pub slice_bounds-design-start : goal.slice_bounds-design-start
slice_bounds-design-start c =
    let lent : SeriesShort c.args.limit c.args.s.now c.args.z c.args.firsts.now c.args.sheet.now = c.requires.0 in
    let lent_at : let a = c.args in SeriesShort a.limit a.s.now a.z a.firsts.now a.sheet.now = lent in
    in_order _ _ _ _ _ lent_at 1 (omega arith)

pub slice_bounds-design-end : goal.slice_bounds-design-end
slice_bounds-design-end c =
    let lent : SeriesShort c.args.limit c.args.s.now c.args.z c.args.firsts.now c.args.sheet.now = c.requires.0 in
    let lent_at : let a = c.args in SeriesShort a.limit a.s.now a.z a.firsts.now a.sheet.now = lent in
    (start-within _ _ _ _ _ lent_at 2 (omega arith)).0

pub offset_bounds-sheet-random : goal.offset_bounds-sheet-random
offset_bounds-sheet-random c =
    let lent : SeriesShort c.args.limit c.args.s.now c.args.z c.args.firsts.now c.args.sheet.now = c.requires.0 in
    let lent_at : let a = c.args in SeriesShort a.limit a.s.now a.z a.firsts.now a.sheet.now = lent in
    let x = start-within _ _ _ _ _ lent_at 2 (omega arith) in let y = x.1 in omega arith

pub slice_bounds-covariance-count : goal.slice_bounds-covariance-count
slice_bounds-covariance-count c =
    let lent : SeriesShort c.args.limit c.args.s.now c.args.z c.args.firsts.now c.args.sheet.now = c.requires.0 in
    let lent_at : let a = c.args in SeriesShort a.limit a.s.now a.z a.firsts.now a.sheet.now = lent in
    in_order _ _ _ _ _ lent_at 2 (omega arith)

pub slice_bounds-covariance-start : goal.slice_bounds-covariance-start
slice_bounds-covariance-start c =
    let lent : SeriesShort c.args.limit c.args.s.now c.args.z c.args.firsts.now c.args.sheet.now = c.requires.0 in
    let lent_at : let a = c.args in SeriesShort a.limit a.s.now a.z a.firsts.now a.sheet.now = lent in
    in_order _ _ _ _ _ lent_at 2 (omega arith)

pub slice_bounds-covariance-end : goal.slice_bounds-covariance-end
slice_bounds-covariance-end c =
    let lent : SeriesShort c.args.limit c.args.s.now c.args.z c.args.firsts.now c.args.sheet.now = c.requires.0 in
    let lent_at : let a = c.args in SeriesShort a.limit a.s.now a.z a.firsts.now a.sheet.now = lent in
    (start-within _ _ _ _ _ lent_at 3 (omega arith)).0

pub weights_on-requires : goal.weights_on-requires
weights_on-requires c =
    let lent : SeriesShort c.args.limit c.args.s.now c.args.z c.args.firsts.now c.args.sheet.now = c.requires.0 in
    (omega arith, weighed-ends _ _ _ _ _ lent _ c.requires.1 _ c.given.ensures, λ e. let none = c.given.ensures ∙ ap (λ (b : Bool). cond b c.args.n 0) e in omega arith)

pub offset_bounds-sheet-variance : goal.offset_bounds-sheet-variance
offset_bounds-sheet-variance c =
    let lent : SeriesShort c.args.limit c.args.s.now c.args.z c.args.firsts.now c.args.sheet.now = c.requires.0 in
    let lent_at : let a = c.args in SeriesShort a.limit a.s.now a.z a.firsts.now a.sheet.now = lent in
    let x = start-within _ _ _ _ _ lent_at 7 (omega arith) in let y = x.1 in omega arith

pub bounds-sheet-variance : goal.bounds-sheet-variance
bounds-sheet-variance c =
    let lent : SeriesShort c.args.limit c.args.s.now c.args.z c.args.firsts.now c.args.sheet.now = c.requires.0 in
    let lent_at : let a = c.args in SeriesShort a.limit a.s.now a.z a.firsts.now a.sheet.now = lent in
    sigma2-place _ _ _ _ _ lent_at

pub vcov_adj16_with_pw-requires : goal.vcov_adj16_with_pw-requires
vcov_adj16_with_pw-requires c =
    let h : SeriesShort c.args.limit c.args.s.now c.args.z c.args.firsts.now c.args.sheet.now = c.requires.0 in
    let within : c.args.n ≤ c.args.limit = run-within _ _ _ _ _ h _ c.requires.1 in
    let y = squares-within c.args.n c.args.limit within in
    let r = c.requires.2 in
    let q = c.requires.3 in
    let square_room : 6 * (c.args.n * c.args.n) ≤ length c.args.work.now = omega arith in
    let part_room : 36 * c.args.n ≤ length c.args.narrow.now = omega arith in
    let eb = c.blocks_of.ensures.0 in
    let own : 6 * (c.args.n * c.args.n) ≤ length (take (6 * (c.args.n * c.args.n)) c.args.work.now) = same-most (sym (length-take-le _ _ square_room)) in
    let narrow : 36 * c.args.n ≤ length (take (36 * c.args.n) c.args.narrow.now) = same-most (sym (length-take-le _ _ part_room)) in (
      record { high = omega arith; few = few-coefficients _ _ _ _ _ h; squares = own; parts = omega (arith, narrow) },
      holds-is _ _ _ _ _ h _ c.requires.1,
      lent_is _ _ _ _ _ h _ c.requires.1 _ c.given.ensures _ eb _ _ c.weights_on.ensures.0 c.weights_on.ensures.1,
    )

pub returns : goal.returns
returns c =
    let lent : SeriesShort c.args.limit c.args.s.now c.args.z c.args.firsts.now c.args.sheet.now = c.requires.0 in
    let eb = c.blocks_of.ensures.0 in
    let et = c.three_at.ensures in
    let ep = c.cells_at-phi.ensures in
    let em = c.given.ensures in
    let r = c.vcov_adj16_with_pw.ensures in
    let w = c.weights_on.ensures in
    let en = number-is-own _ _ _ _ _ lent _ c.requires.1 _ em _ eb _ _ w.0 w.1 c.args.c _ _ et ep _ refl in
    let ea = adjusted-is _ _ _ _ _ lent _ c.requires.1 _ em _ eb _ _ w.0 w.1 c.args.c _ _ et ep in
    record {
      number = r.told ∙ en;
      value = value-is _ _ _ (ap phi_side ea) r.value;
      ps = answer-is _ (λ (t : Adjustment). t.ps) _ _ _ _ ea r.ps_after;
    }
