-- No two refusals have one number, and none has 0: the number of a result says which refusal it is, or that there is none.
use Prim.Native.Nat.{ℕ}
use mathlib.Core.Path.{◌≡◌, refl, sym, ap, ◌∙◌}
use native.Mathlib.Omega.{arith}
use Rattle.std.specs.Prelude.{◌-◌, List, [], ◌∷◌, get_or, Result, Ok, Err, IsOk, IsErr, IsErrAnd, OnOk}
use Rattle.records.specs.declared.refusal.Refusal.{Refusal}
use Rattle.records.specs.declared.refusal.Refusal.TheVariants.{LentLength, Form, Size, NotFinite, Variance, Weight, Misfit, ZeroContrast, NotDefinite, ZeroPivot, Eigenvalue, Order, BlockCount, CutoffTable}
use Rattle.records.specs.format.RefusalNumbers.{refusal_number, result_number}

-- the refusals in the order of their numbers, and the one that a number from 1 on names
abbrev refusals : List Refusal
refusals = LentLength ∷ Form ∷ Size ∷ NotFinite ∷ Variance ∷ Weight ∷ Misfit ∷ ZeroContrast ∷ NotDefinite ∷ ZeroPivot ∷ Eigenvalue ∷ Order ∷ BlockCount ∷ CutoffTable ∷ []

abbrev refusal_of : ℕ → Refusal
refusal_of n = get_or refusals (n - 1) CutoffTable

refusal-back : (e : Refusal) → refusal_of (refusal_number e) ≡ e
refusal-back LentLength = refl
refusal-back Form = refl
refusal-back Size = refl
refusal-back NotFinite = refl
refusal-back Variance = refl
refusal-back Weight = refl
refusal-back Misfit = refl
refusal-back ZeroContrast = refl
refusal-back NotDefinite = refl
refusal-back ZeroPivot = refl
refusal-back Eigenvalue = refl
refusal-back Order = refl
refusal-back BlockCount = refl
refusal-back CutoffTable = refl

pub one-number : (d e : Refusal) → refusal_number d ≡ refusal_number e → d ≡ e
one-number d e h = sym (refusal-back d) ∙ ap refusal_of h ∙ refusal-back e

-- no refusal has 0
pub no-zero : (e : Refusal) → refusal_number e ≡ 0 → ⊥
no-zero e h =
    let first : refusal_number e ≡ 1 = ap refusal_number (sym (refusal-back e) ∙ ap refusal_of h) in
    absurd (omega arith)

-- the number 0 says that it is Ok, and a refusal's number that it is that refusal
pub number-none : {A : Type 0} (r : Result A Refusal) → result_number r ≡ 0 → IsOk r
number-none (Ok x) h = refl
number-none (Err e) h = absurd (no-zero e h)

pub number-one : {A : Type 0} (r : Result A Refusal) (e : Refusal) → result_number r ≡ refusal_number e → r ≡ Err e
number-one (Ok x) e h = absurd (no-zero e (sym h))
number-one (Err d) e h = ap Err (one-number d e h)

-- what `?` passes on has the number of what was refused
pub number-passed : {A : Type 0} (r : Result A Refusal) (e : Refusal) → IsErrAnd r (λ d. d ≡ e) → result_number r ≡ refusal_number e
number-passed (Ok x) e h = absurd h
number-passed (Err d) e h = ap refusal_number h

-- what is so whatever the answer is so where it is Ok
pub on-ok : {A E P : Type 0} (r : Result A E) → P → OnOk r P
on-ok (Ok x) p = p
on-ok (Err e) p = tt
