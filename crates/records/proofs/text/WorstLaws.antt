-- The worst of F's (specs/promises/SeasonPrints.antt) is the earliest of the largest, and none only where no F is given.
use Prim.Native.Nat.{ℕ, ◌<◌}
use mathlib.Core.Path.{◌≡◌, refl, sym, ap, ◌∙◌, subst}
use mathlib.Core.Bool.{Bool, true, false, cond}
use mathlib.Core.List.{List, [], ◌∷◌, ◌++◌, append-nil, append_assoc}
use mathlib.Core.Logic.{◌⊎◌, inl, inr}
use native.Mathlib.Decide.{ℕ_discrete, dec_lt}
use native.Mathlib.Omega.{arith}
use lib.ListN.{length, get_or, get_or-append, get_or-eq_default, length-append}
use lib.Seq.{get_or-append_seam}
use lib.Ieee.{Float, lt, eq}
use Rattle.arithmetic.proofs.PlainLaws.{clash}
use Rattle.arithmetic.proofs.OrderLaws.{lt_trans, lt-level, lt-self}
use Rattle.std.specs.Prelude.{Option, Some, None}
use Rattle.records.specs.text.Season.{worse, worst_after}
use Rattle.records.specs.promises.SeasonPrints.{LargestIn, WorstOf}

-- ---- one more F at the end of a list
never : {X : Type 0} (f : Option Float) (x : Float) → f ≡ None → f ≡ Some x → X
never f x p q = absurd (let z : ◌≡◌ {A = ℕ} 0 1 = cc in omega arith)

not-given : (f : Option Float) → ((x : Float) → f ≡ Some x → ⊥) → f ≡ None
not-given None h = refl
not-given (Some x) h = absurd (h x refl)

-- an F that is given stands inside the list
inside : (gs : List (Option Float)) (j : ℕ) (y : Float) → get_or gs j None ≡ Some y → j < length gs
inside gs j y h = go (dec_lt j (length gs))
  where
    go : Dec (j < length gs) → j < length gs
    go (yes l) = l
    go (no l) = never (get_or gs j None) y (get_or-eq_default gs None (omega arith)) h

-- gs, followed by f
module _ (gs : List (Option Float)) (f : Option Float) where
  abbrev followed : List (Option Float)
  followed = gs ++ (f ∷ [])

  before : (j : ℕ) → j < length gs → get_or followed j None ≡ get_or gs j None
  before j l = get_or-append gs (f ∷ []) None j l

  at-end : get_or followed (length gs) None ≡ f
  at-end = get_or-append_seam gs f [] None

  -- what is given there was given before, or is the one that came
  either : (j : ℕ) (y : Float) → get_or followed j None ≡ Some y → (get_or gs j None ≡ Some y) ⊎ (f ≡ Some y)
  either j y h = go (dec_lt j (length gs)) (ℕ_discrete j (length gs))
    where
      go : Dec (j < length gs) → Dec (j ≡ length gs) → (get_or gs j None ≡ Some y) ⊎ (f ≡ Some y)
      go (yes l) d = inl (sym (before j l) ∙ h)
      go (no l) (yes e) = inr (sym at-end ∙ ap (λ (k : ℕ). get_or followed k None) (sym e) ∙ h)
      go (no l) (no d) = never (get_or followed j None) y (get_or-eq_default followed None (simp length-append (omega arith))) h

-- ---- the worst so far, of the F's so far
abbrev Worst : List (Option Float) → Option Float → Type 0
Worst gs None = (i : ℕ) → get_or gs i None ≡ None
Worst gs (Some x) = LargestIn gs x

-- it stays, where the F that comes is not larger
stays : (gs : List (Option Float)) (f : Option Float) (x : Float) → LargestIn gs x → ((y : Float) → f ≡ Some y → lt x y ≡ false) → LargestIn (followed gs f) x
stays gs f x h n = record { place = h.place; there = before gs f h.place l ∙ h.there; largest = largest; earliest = λ j y k g. h.earliest j y k (sym (before gs f j (omega (arith, l))) ∙ g) }
  where
    l : h.place < length gs
    l = inside gs h.place x h.there

    largest : (j : ℕ) (y : Float) → get_or (followed gs f) j None ≡ Some y → lt x y ≡ false
    largest j y g = go (either gs f j y g)
      where
        go : (get_or gs j None ≡ Some y) ⊎ (f ≡ Some y) → lt x y ≡ false
        go (inl e) = h.largest j y e
        go (inr e) = n y e

-- the F that comes takes its place, where none before is larger or equal
comes : (gs : List (Option Float)) (z : Float) → ((j : ℕ) (y : Float) → get_or gs j None ≡ Some y → (lt z y ≡ false) × (eq y z ≡ false)) → LargestIn (followed gs (Some z)) z
comes gs z n =
    record { place = length gs; there = at-end gs (Some z); largest = largest; earliest = λ j y k g. (n j y (sym (before gs (Some z) j k) ∙ g)).1 }
  where
    largest : (j : ℕ) (y : Float) → get_or (followed gs (Some z)) j None ≡ Some y → lt z y ≡ false
    largest j y g = go (either gs (Some z) j y g)
      where
        go : (get_or gs j None ≡ Some y) ⊎ (Some z ≡ Some y) → lt z y ≡ false
        go (inl e) = (n j y e).0
        go (inr e) = let q : z ≡ y = cc in subst (λ (v : Float). lt z v ≡ false) q (lt-self z)

-- so it is where it is larger than the worst x: a y before that is larger than z, or equal, would be larger than x too
above : (gs : List (Option Float)) (x z : Float) → LargestIn gs x → lt x z ≡ true → (j : ℕ) (y : Float) → get_or gs j None ≡ Some y → (lt z y ≡ false) × (eq y z ≡ false)
above gs x z h l j y g = (larger (lt z y) refl, equal (eq y z) refl)
  where
    larger : (b : Bool) → lt z y ≡ b → lt z y ≡ false
    larger false e = e
    larger true e = clash (lt_trans x z y l e) (h.largest j y g)

    equal : (b : Bool) → eq y z ≡ b → eq y z ≡ false
    equal false e = e
    equal true e = clash (lt-level x z y l e) (h.largest j y g)

-- one F more, and then all that follow
next : (gs : List (Option Float)) (w f : Option Float) → Worst gs w → Worst (followed gs f) (worse w f)
unfolding worse
next gs None None h = λ i. not-given (get_or (followed gs None) i None) (λ x g. go x i (either gs None i x g))
  where
    go : (x : Float) (i : ℕ) → (get_or gs i None ≡ Some x) ⊎ (None ≡ Some x) → ⊥
    go x i (inl e) = never (get_or gs i None) x (h i) e
    go x i (inr e) = never None x refl e
next gs None (Some z) h = comes gs z (λ j y g. never (get_or gs j None) y (h j) g)
next gs (Some x) None h = stays gs None x h (λ y e. never None y refl e)
next gs (Some x) (Some z) h = go (lt x z) refl
  where
    go : (b : Bool) → lt x z ≡ b → Worst (followed gs (Some z)) (cond b (Some z) (Some x))
    go true l = comes gs z (above gs x z h l)
    go false l = stays gs (Some z) x h (λ y e. let q : z ≡ y = cc in subst (λ (v : Float). lt x v ≡ false) q l)

after : (gs : List (Option Float)) (w : Option Float) (fs : List (Option Float)) → Worst gs w → Worst (gs ++ fs) (worst_after w fs)
unfolding worst_after
after gs w [] h = rw append-nil h
after gs w (f ∷ fs) h = rw append_assoc at (after (followed gs f) (worse w f) fs (next gs w f h))

pub worst-of : (fs : List (Option Float)) → WorstOf fs
worst-of fs =
    let h : Worst fs (worst_after None fs) = after [] None fs (λ i. refl) in
    record { given = λ x e. subst (Worst fs) e h; none = λ e. subst (Worst fs) e h }
