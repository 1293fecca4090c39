-- `records_sheet::gap_in` meets its contract.
use Prim.Native.Nat.{ℕ, zero, suc, ◌+◌, ◌-◌, ◌≤◌}
use native.Mathlib.Numerals.{add-one}
use mathlib.Core.Path.{◌≡◌, refl, ap, ap₂, ◌∙◌}
use mathlib.Core.Bool.{Bool, true, false, not, ◌||◌, beq}
use mathlib.Core.List.{List}
use lib.ListN.{length, take, drop}
use native.Mathlib.Omega.{arith}
use Rattle.std.specs.List.{list_any}
use Rattle.std.proofs.Common.{length-drop}
use Rattle.std.proofs.lemmas.List.{get_or-drop}
use Rattle.std.proofs.lemmas.List.Folds.{list_any_more}
use Rattle.records.specs.format.Scan.{any}
use Rattle.records_sheet.specs.joints.Sheet.{gap}
use Rattle.records_sheet.proofs.gap_in.Goals as goal

unset : (y : Bool) → beq y false ≡ not y
unset true = refl
unset false = refl

-- one of the m flags from a place on is not set, asked of that part of the flags
gap-in-part : (flags : List Bool) (at m : ℕ) → at + m ≤ length flags → list_any (λ y. beq y false) (take m (drop at flags)) ≡ gap flags at m
unfolding gap any
gap-in-part flags at zero l = refl
gap-in-part flags at (suc m) l =
    let more = list_any_more (λ y. beq y false) (drop at flags) m false (omega (arith, length-drop at flags)) in
    rw (← add-one) (more ∙ ap₂ ◌||◌ (gap-in-part flags at m (omega arith)) (unset _ ∙ ap not (get_or-drop at flags m false)))

pub returns : goal.returns
returns c =
    let e : c.args.at + c.args.m - c.args.at ≡ c.args.m = omega arith in
    c.contains.ensures.value ∙ ap (λ (m : ℕ). list_any (λ y. beq y false) (take m (drop c.args.at c.args.flags.now))) e ∙ gap-in-part c.args.flags.now c.args.at c.args.m c.requires
