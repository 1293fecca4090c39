-- `records_season::close_series` meets its contract.
use native.Mathlib.Omega.{arith}
use mathlib.Core.Path.{◌≡◌, refl, sym, ap, ◌∙◌}
use mathlib.Core.List.{List}
use lib.ListN.{length, replicate}
use lib.Ieee.{Float}
use Rattle.std.specs.Prelude.{Option}
use Rattle.tests.specs.declared.Entry.{Entry}
use Rattle.tests.specs.Answer.{no_entry}
use Rattle.records.specs.text.Season.{worst}
use Rattle.records.proofs.format.RefusalNumbers.{no-zero}
use Rattle.records_answer_text.proofs.CursorLaws.{then, named}
use Rattle.records_answer_text.proofs.TextLaws.{text-refused}
use Rattle.records_season.specs.joints.SeasonCame.{with_latest}
use Rattle.records_season.proofs.FedLaws.{f-is, refused-text, accepted-text}
use borrow.Author.Rules.{rules}
use Rattle.records_season.proofs.close_series.Goals as goal

pub returns-in-Err : goal.returns-in-Err
returns-in-Err c =
    let a = c.args in
    let none : List Entry = replicate 7 no_entry in
    let q = c.in-Err.ensures in
    let n = c.from.ensures ∙ q.value in
    let above : c.from.result ≡ 0 → ⊥ = λ z. no-zero _ (sym c.from.ensures ∙ z) in
    let kept = c.keep_latest.ensures ∙ ap (λ (f : Option Float). with_latest f a.window.now) (f-is a.a a.kept.now a.window.now none q.answered _ n no_entry refl) in
    record { window_after = kept; put = named c.put_refusal.ensures (text-refused _ none above ∙ refused-text a.a a.kept.now a.window.now none q.answered _ n above) (omega arith) }

pub returns : goal.returns
returns c =
    let a = c.args in
    let es = c.in-Ok.es in
    let seven : length es ≡ 7 = search rules in
    let q = c.in-Ok.ensures in
    let kept = c.keep_latest-2.ensures ∙ ap (λ (f : Option Float). with_latest f a.window.now) (f-is a.a a.kept.now a.window.now es q.answered _ q.value _ seven) in
    let worst-is = c.worst_of-w.ensures ∙ ap worst kept in
    let lines = accepted-text a.a a.kept.now a.window.now es q.answered _ q.value refl _ worst-is in
    record { window_after = kept; put = named (then c.put_run-next.ensures c.put_worst.ensures) lines (omega arith) }
