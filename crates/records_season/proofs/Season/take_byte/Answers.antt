-- `records_season::Season::take_byte` meets its contract.
use Prim.Native.Nat.{◌<◌}
use native.Mathlib.Omega.{arith}
use Rattle.records_season.proofs.FedLaws.{open-fed, fed-wider}
use Rattle.records_season.proofs.Season.take_byte.Goals as goal

pub take_last_byte-requires : goal.take_last_byte-requires
take_last_byte-requires c =
    let e = c.if-a-eq15.true in
    (c.requires.0, e, omega (arith, c.requires.1))

pub returns-then-a-eq15 : goal.returns-then-a-eq15
returns-then-a-eq15 c =
    let e = c.if-a-eq15.true in
    fed-wider c.take_last_byte.ensures (omega arith)

pub returns : goal.returns
returns c =
    let a = c.args in
    let small : a.b < 256 = omega (arith, c.ranges.b) in
    open-fed a.a a.self.now.kept a.self.now.current a.self.now.window a.b small _ _ c.take_byte.ensures (λ q. absurd (c.if-a-eq15.false q)) _ _
