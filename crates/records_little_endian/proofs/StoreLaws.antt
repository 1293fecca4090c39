-- Runs of stores into a list: `sets l i xs` is l with xs from place i on.
use Prim.Native.Nat.{ℕ, suc, ◌+◌, ◌≤◌}
use native.Mathlib.Omega.{arith}
use native.Mathlib.Nat.{add-zero}
use mathlib.Core.Path.{◌≡◌, ap, sym, ◌∙◌}
use mathlib.Core.List.{List, [], ◌∷◌, ◌++◌, append-nil, append_assoc}
use lib.ListN.{length, set, take, drop, drop_of_length-le}
use borrow.Rule.Slice.PartMut.{put_mid}
use lib.Seq.{sets, sets-eq, drop-drop}

-- a run right after another is one run
pub sets-append : {A : Type 0} (l : List A) (i : ℕ) (xs ys : List A) → sets (sets l i xs) (i + length xs) ys ≡ sets l i (xs ++ ys)
sets-append l i [] ys = rw add-zero
sets-append l i (x ∷ xs) ys =
    let e : i + suc (length xs) ≡ suc i + length xs = omega arith in
    ap (λ (k : ℕ). sets (sets (set l i x) (suc i) xs) k ys) e ∙ sets-append (set l i x) (suc i) xs ys

-- a run as long as the list leaves nothing of it
pub sets-all : {A : Type 0} (l xs : List A) → length xs ≡ length l → sets l 0 xs ≡ xs
sets-all {A} l xs h =
    let k : length l ≤ 0 + length xs = omega arith in
    sets-eq xs l 0 (omega arith) ∙ ap (λ (r : List A). xs ++ r) (drop_of_length-le l k) ∙ append-nil xs

-- what is copied over k elements of a list, from place i on, is such a run
pub put_run : {A : Type 0} (l ys xs : List A) (i k : ℕ) → ys ≡ xs → k ≡ length xs → i + k ≤ length l → put_mid i k l ys ≡ sets l i xs
put_run {A} l ys xs i k e n h =
    let m : i + length xs ≤ length l = omega arith in
    let rest : drop (length xs) (drop i l) ≡ drop (i + length xs) l = drop-drop (length xs) i l in
    rw (e, n, rest) (sym (sets-eq xs l i m ∙ append_assoc (take i l) xs (drop (i + length xs) l)))
