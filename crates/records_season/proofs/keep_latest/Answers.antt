-- `records_season::keep_latest` meets its contract.
use mathlib.Core.Path.{◌≡◌, ap, ◌∙◌}
use mathlib.Core.List.{List}
use lib.ListN.{length, set}
use lib.Ieee.{Float}
use Rattle.std.specs.Prelude.{Option}
use Rattle.records_season.proofs.WindowCode.{turned}
use borrow.Author.Rules.{rules}
use Rattle.records_season.proofs.keep_latest.Goals as goal

pub returns : goal.returns
returns c =
    let twenty : length c.args.window.now ≡ 20 = search rules in
    ap (λ (l : List (Option Float)). set l 19 c.args.f) c.rotate_left.ensures.after ∙ turned c.args.window.now c.args.f twenty
