-- The twenty F's that are kept are those of the latest series: how they start, one more, and that their worst is the latest series'.
use Prim.Native.Nat.{ℕ, zero, suc, ◌+◌, ◌-◌, ◌≤◌}
use native.Mathlib.Omega.{arith}
use native.Mathlib.Decide.{dec_le}
use mathlib.Core.Path.{◌≡◌, refl, sym, ap, ◌∙◌}
use mathlib.Core.List.{List, [], ◌∷◌, ◌++◌, map, append_assoc}
use lib.ListN.{length, drop, replicate, length-append, length-replicate, replicate-append-replicate}
use lib.Seq.{drop-drop, drop_at, drop-append-le, drop-append-add}
use lib.Ieee.{Float}
use Rattle.std.specs.Prelude.{Option, None}
use Rattle.records.specs.text.Season.{worse, worst_after, worst, latest, latest_count}
use Rattle.records_season.specs.joints.SeasonCame.{last_twenty, with_latest}

-- no series has been
pub window-start : replicate latest_count None ≡ last_twenty []
unfolding last_twenty
window-start = refl

-- one more
pub window_more : (fs : List (Option Float)) (f : Option Float) → with_latest f (last_twenty fs) ≡ last_twenty (fs ++ (f ∷ []))
unfolding last_twenty
window_more fs f =
    let all = replicate latest_count None ++ fs in
    let l : length all ≡ latest_count + length fs = length-append (replicate latest_count None) fs in
    let e : length (fs ++ (f ∷ [])) ≡ length fs + 1 = length-append fs (f ∷ []) in
    rw (e, ← append_assoc (replicate latest_count None) fs (f ∷ []), drop-append-le (length fs + 1) all (f ∷ []) (omega arith), drop-drop 1 (length fs) all)

-- F's that are not given do not count
worst-none : (n : ℕ) (fs : List (Option Float)) → worst (replicate n None ++ fs) ≡ worst fs
unfolding worst_after worse
worst-none zero fs = refl
worst-none (suc n) fs = worst-none n fs

drop-same : (m n : ℕ) → ◌≡◌ {A = List (Option Float)} (drop m (replicate (m + n) None)) (replicate n None)
drop-same m n = ap (drop m) (sym (replicate-append-replicate m n None)) ∙ drop_at (replicate m None) (replicate n None) m (length-replicate m None)

-- THE WORST OF THEM
pub window-worst : (fs : List (Option Float)) → worst (last_twenty fs) ≡ worst (latest fs)
unfolding last_twenty
window-worst fs = go (dec_le latest_count (length fs))
  where
    go : Dec (latest_count ≤ length fs) → worst (drop (length fs) (replicate latest_count None ++ fs)) ≡ worst (latest fs)
    go (yes h) =
        let e : length fs ≡ latest_count + (length fs - latest_count) = omega arith in
        ap worst (ap (λ (k : ℕ). drop k (replicate latest_count None ++ fs)) e ∙ drop-append-add (replicate latest_count None) fs (length fs - latest_count))
    go (no h) =
        let e : latest_count ≡ length fs + (latest_count - length fs) = omega arith in
        let z : length fs - latest_count ≡ 0 = omega arith in
        let few : drop (length fs) (replicate latest_count None) ≡ replicate (latest_count - length fs) None = ap (λ (k : ℕ). drop (length fs) (replicate k None)) e ∙ drop-same (length fs) (latest_count - length fs) in
        ap worst (drop-append-le (length fs) (replicate latest_count None) fs (omega arith) ∙ ap (λ (l : List (Option Float)). l ++ fs) few) ∙ worst-none (latest_count - length fs) fs ∙ sym (ap (λ (k : ℕ). worst (drop k fs)) z)

-- ---- F's of series and of one more
pub map_more : {A : Type 0} (f : A → Option Float) (l : List A) (x : A) → map f (l ++ (x ∷ [])) ≡ map f l ++ (f x ∷ [])
map_more f [] x = refl
map_more f (y ∷ l) x = ap (λ (r : List (Option Float)). f y ∷ r) (map_more f l x)
