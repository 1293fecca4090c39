-- `records_answer_bytes::put_entry` meets its contract: three stores of eight bytes are the entry's 24.
use mathlib.Core.Path.{◌≡◌, refl, ◌∙◌}
use mathlib.Core.Bool.{Bool, true, false}
use mir.Val.{bool_byte}
use Rattle.records.specs.format.Layout.{flag}
use Rattle.records_answer_bytes.proofs.LayoutLaws.{entry-stored}
use Rattle.records_answer_bytes.proofs.put_entry.Goals as goal

-- what `u8::from` makes of a test
byte_of_test : (b : Bool) → bool_byte b ≡ flag b
byte_of_test true = refl
byte_of_test false = refl

pub returns : goal.returns
returns c =
    let g = c.args in
    entry-stored _ _ _ _ g.at g.e _ _ _ _ _ c.bits_of.ensures c.put_long.ensures c.bits_of-2.ensures c.put_long-2.ensures
    c.given_of.ensures c.given_of-2.ensures (c.from.ensures ∙ byte_of_test g.e.inside) c.put8.ensures
