-- `records_season::Season::take_last_byte` meets its contract.
use Prim.Native.Nat.{◌<◌}
use native.Mathlib.Omega.{arith}
use mathlib.Core.Path.{sym, ◌∙◌}
use Rattle.records_season.specs.joints.SeasonCame.{closed_room}
use Rattle.records_season.proofs.FedLaws.{closing-fed, open-fed, set-again}
use Rattle.records_season.proofs.Season.take_last_byte.Goals as goal

pub returns-then-closes : goal.returns-then-closes
returns-then-closes c =
    let a = c.args in
    let small : a.b < 256 = omega (arith, c.ranges.b) in
    let whole = sym c.closes.ensures ∙ c.if-closes.true in
    let q = c.close_series-next.ensures in
    closing-fed a.a a.self.now.kept a.self.now.current a.self.now.window a.b small c.requires.1 whole _ q.window_after _ _ _ _ q.put _ c.nothing_yet.ensures

pub returns : goal.returns
returns c =
    let a = c.args in
    let small : a.b < 256 = omega (arith, c.ranges.b) in
    let open' = sym c.closes.ensures ∙ c.if-closes.false in
    let taken = c.take_byte.ensures ∙ set-again a.a a.self.now.kept a.self.now.current a.self.now.window a.b small c.requires.1 in
    open-fed a.a a.self.now.kept a.self.now.current a.self.now.window a.b small closed_room _ taken (λ e. open') _ _
