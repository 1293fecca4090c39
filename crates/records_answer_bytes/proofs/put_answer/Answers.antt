-- `records_answer_bytes::put_answer` meets its contract: after i turns the first i entries stand, and seven fill the answer.
use Prim.Native.Nat.{ℕ, ◌<◌, ◌*◌}
use mathlib.Core.Path.{◌≡◌, refl, ap, ◌∙◌}
use mathlib.Core.List.{List}
use native.Mathlib.Omega.{arith}
use borrow.Author.Rules.{rules}
use lib.ListN.{length, get_or, take}
use lib.Seq.{sets, take_all}
use Rattle.tests.specs.declared.Entry.{Entry}
use Rattle.tests.specs.Answer.{no_entry}
use Rattle.records.specs.format.Layout.{answer_bytes, entry_bytes}
use Rattle.records_little_endian.proofs.StoreLaws.{sets-all}
use Rattle.records_answer_bytes.proofs.LayoutLaws.{length-answer, store}
use Rattle.records_answer_bytes.proofs.put_answer.Goals as goal

pub loop-i-init : goal.loop-i-init
unfolding answer_bytes
loop-i-init c = (omega arith, search rules, c.requires, c.requires, refl)

pub loop-i-preserved : goal.loop-i-preserved
loop-i-preserved c =
    let g = c.args in
    let p = c.put_entry in
    let k : length p.new.a ≡ length c.loop-i.a = p.auto.a in
    let h : c.loop-i.i < length g.es = omega arith in (
      omega arith,
      c.loop-i.invariant.1,
      c.loop-i.invariant.2,
      omega arith,
      p.ensures ∙ ap (λ (a : List ℕ). sets a (24 * c.loop-i.i) (entry_bytes (get_or g.es c.loop-i.i no_entry))) c.loop-i.invariant.4 ∙ store g.a.now g.es c.loop-i.i no_entry h,
    )

pub returns : goal.returns
returns c =
    let g = c.args in
    let e : c.loop-i.i ≡ 7 = omega arith in
    let x : length g.es ≡ 7 = c.loop-i.invariant.1 in
    let all : take c.loop-i.i g.es ≡ g.es = take_all c.loop-i.i g.es (omega arith) in
    let k : length (answer_bytes g.es) ≡ length g.a.now = let y = length-answer g.es in let z = c.loop-i.invariant.2 in omega arith in
    c.loop-i.invariant.4 ∙ ap (λ (es : List Entry). sets g.a.now 0 (answer_bytes es)) all ∙ sets-all g.a.now (answer_bytes g.es) k
