-- `records_answer_text::put_coefficients` meets its contract: after i turns the first i lines stand.
use Prim.Native.Nat.{ℕ, ◌<◌}
use native.Mathlib.Omega.{arith}
use borrow.Author.Rules.{rules}
use mathlib.Core.Path.{◌≡◌, refl, ap, ◌∙◌}
use lib.ListN.{length}
use Rattle.records.specs.text.Text.{coefficient_lines}
use Rattle.records_answer_text.proofs.CursorLaws.{stay, named}
use Rattle.records_answer_text.proofs.TextLaws.{coefficients-more}
use Rattle.records_answer_text.proofs.put_coefficients.Goals as goal

pub loop-i-init : goal.loop-i-init
unfolding coefficient_lines
loop-i-init c = (omega arith, search rules, c.requires, refl, stay 0 _ _)

pub put_coefficient-next-requires : goal.put_coefficient-next-requires
put_coefficient-next-requires c =
    let x = c.loop-i.invariant.4.moved in
    let y = c.loop-i.invariant.4.short in
    (omega arith, omega arith)

pub loop-i-preserved : goal.loop-i-preserved
loop-i-preserved c =
    let g = c.args in
    let p = c.put_coefficient-next in (
      omega arith,
      c.loop-i.invariant.1,
      c.loop-i.invariant.2,
      p.auto.out ∙ c.loop-i.invariant.3,
      coefficients-more c.loop-i.i g.es c.loop-i.invariant.4 p.ensures,
    )

pub shape_of-out : goal.shape_of-out
shape_of-out c = c.loop-i.invariant.3

pub returns : goal.returns
returns c =
    let g = c.args in
    let six : c.loop-i.i ≡ 6 = omega arith in
    named c.loop-i.invariant.4 (ap (λ (k : ℕ). coefficient_lines k g.es) six) (omega arith)
