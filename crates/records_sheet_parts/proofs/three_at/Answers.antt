-- `records_sheet_parts::three_at` meets its contract.
use Prim.Native.Nat.{◌+◌, ◌-◌}
use mathlib.Core.Path.{◌≡◌, ap, ◌∙◌}
use mathlib.Core.List.{List, ◌++◌}
use lib.ListN.{drop, replicate}
use lib.Ieee.{Float, of_bits}
use native.Mathlib.Omega.{arith}
use Rattle.arithmetic.specs.Numbers.{plus_zero}
use Rattle.records_sheet_parts.proofs.Copied.{copied}
use Rattle.records_sheet_parts.proofs.three_at.Goals as goal

pub returns : goal.returns
unfolding of_bits
returns c =
    let a = c.args in
    let e : a.at + a.n - a.at ≡ a.n = omega arith in
    ap (λ (xs : List Float). xs ++ drop a.n (replicate 3 plus_zero)) c.copy_from_slice.ensures.after ∙ copied a.sheet.now 3 a.at a.n _ e c.requires.0 c.requires.1
