-- Twenty F's as the code has them: one more, and the worst of the first of them.
use Prim.Native.Nat.{ℕ, ◌+◌, ◌<◌}
use native.Mathlib.Omega.{arith}
use native.Mathlib.Numerals.{add-one}
use mathlib.Core.Path.{◌≡◌, refl, sym, ap, ◌∙◌}
use mathlib.Core.List.{List, [], ◌∷◌, ◌++◌}
use lib.ListN.{length, get_or, take, drop, set}
use lib.Seq.{take-suc, set-append_seam}
use lib.Ieee.{Float}
use Rattle.std.specs.Prelude.{Option, None}
use Rattle.records.specs.text.Season.{worse, worst_after, worst, latest_count}
use Rattle.records_season.specs.joints.SeasonCame.{with_latest}

-- ONE MORE: the oldest has turned to the end, and the new one takes its place
pub turned : {A : Type 0} (v : List A) (x : A) → length v ≡ latest_count → set (drop 1 v ++ take 1 v) 19 x ≡ with_latest x v
turned [] x h = absurd (omega arith)
turned (y ∷ v) x h =
    let n : 19 ≡ length v = omega arith in
    ap (λ (i : ℕ). set (v ++ (y ∷ [])) i x) n ∙ set-append_seam v y [] x

-- the worst of one more
worst-end : (w : Option Float) (fs : List (Option Float)) (f : Option Float) → worst_after w (fs ++ (f ∷ [])) ≡ worse (worst_after w fs) f
unfolding worst_after
worst-end w [] f = refl
worst-end w (g ∷ fs) f = worst-end (worse w g) fs f

pub worst-more : (fs : List (Option Float)) (i : ℕ) (d w next : Option Float) → i < length fs → w ≡ worst (take i fs) → next ≡ worse w (get_or fs i d) → next ≡ worst (take (i + 1) fs)
worst-more fs i d w next l a n =
    let s : take (i + 1) fs ≡ take i fs ++ (get_or fs i d ∷ []) = ap (λ (j : ℕ). take j fs) (add-one i) ∙ take-suc fs i d l in
    n ∙ ap (λ (v : Option Float). worse v (get_or fs i d)) a ∙ sym (ap worst s ∙ worst-end None (take i fs) (get_or fs i d))
