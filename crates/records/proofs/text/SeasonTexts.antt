-- What a season prints grows with each series that is closed, and nothing is taken back; the twenty F's that are kept, and their worst.
use Prim.Native.Nat.{ℕ, zero, suc, ◌+◌, ◌-◌, ◌≤◌}
use native.Mathlib.Omega.{arith}
use mathlib.Core.Path.{◌≡◌, refl, sym, ap, ◌∙◌}
use mathlib.Core.Bool.{cond}
use mathlib.Core.List.{List, [], ◌∷◌, ◌++◌, map, append-nil, append_assoc}
use lib.ListN.{length, get_or, take, drop, length-append, length-map, get_or-append}
use lib.Seq.{take-append-le, take-append_seam, drop-append_seam, get_or-append_seam}
use Rattle.arithmetic_cutoffs.specs.declared.Cutoffs.{Cutoffs}
use lib.Ieee.{Float}
use Rattle.std.specs.Prelude.{Option}
use Rattle.records.specs.format.File.{count}
use Rattle.records.specs.text.Text.{codes, number_text}
use Rattle.records.specs.text.Season.{closes, series_before, series_to, series_in, worst, latest, contrast_f, fs_of, worst_line, closed_text, texts_to, closed_texts, printed, added, latest_count}
use Rattle.records.proofs.text.SeasonLaws.{series_to-before}

-- ---- a list that another begins with
pub record Extends {ℓ} {A : Type ℓ} (front whole : List A) : Type ℓ where
  pub rest : List A
  pub is : whole ≡ front ++ rest

pub extends-self {ℓ} : {A : Type ℓ} (a : List A) → Extends a a
extends-self a = record { rest = []; is = sym (append-nil a) }

pub extends-then {ℓ} : {A : Type ℓ} {a b c : List A} → Extends a b → Extends b c → Extends a c
extends-then {a = a} {b = b} {c = c} p q = record { rest = p.rest ++ q.rest; is = q.is ∙ ap (λ (l : List _). l ++ q.rest) p.is ∙ append_assoc a p.rest q.rest }

-- what is after the front
pub extends-drop {ℓ} : {A : Type ℓ} {a b : List A} → Extends a b → b ≡ a ++ drop (length a) b
extends-drop {a = a} {b = b} p = p.is ∙ ap (λ (l : List _). a ++ l) (sym (ap (drop (length a)) p.is ∙ drop-append_seam a p.rest))

-- ---- the texts of series
module _ (c : Cutoffs) where
  -- those of the first n do not turn on the series after them
  texts-before : (ts us : List (List ℕ)) (n : ℕ) → n ≤ length ts → texts_to c (ts ++ us) n ≡ texts_to c ts n
  unfolding texts_to
  texts-before ts us zero h = refl
  texts-before ts us (suc n) h = rw (texts-before ts us n (omega arith), take-append-le n ts us (omega arith), get_or-append ts us [] n (omega arith))

  -- one series more
  pub texts-more : (ts : List (List ℕ)) (t : List ℕ) → closed_texts c (ts ++ (t ∷ [])) ≡ closed_texts c ts ++ closed_text c ts t
  unfolding closed_texts texts_to
  texts-more ts t =
      let e : length (ts ++ (t ∷ [])) ≡ suc (length ts) = length-append ts (t ∷ []) ∙ omega arith in
      rw (e, texts-before ts (t ∷ []) (length ts) (omega arith), take-append_seam ts (t ∷ []), get_or-append_seam ts t [] [])

  -- further series add to the text
  texts-extend : (us ts : List (List ℕ)) → Extends (closed_texts c ts) (closed_texts c (ts ++ us))
  texts-extend [] ts = rw (append-nil ts) (extends-self (closed_texts c ts))
  texts-extend (u ∷ us) ts =
      let more : Extends (closed_texts c ts) (closed_texts c (ts ++ (u ∷ []))) = record { rest = closed_text c ts u; is = texts-more ts u } in
      let all : Extends (closed_texts c ts) (closed_texts c ((ts ++ (u ∷ [])) ++ us)) = extends-then more (texts-extend us (ts ++ (u ∷ []))) in
      rw (append_assoc ts (u ∷ []) us) at all

  -- the first of them are the front of all
  pub texts-front : (ts : List (List ℕ)) (d n : ℕ) → Extends (texts_to c ts n) (texts_to c ts (n + d))
  unfolding texts_to
  texts-front ts zero n = let e : n + 0 ≡ n = omega arith in rw e (extends-self (texts_to c ts n))
  texts-front ts (suc d) n =
      let e : n + suc d ≡ suc (n + d) = omega arith in
      rw e (extends-then (texts-front ts d n) (record { rest = closed_text c (take (n + d) ts) (get_or ts (n + d) []); is = refl }))

-- ---- the F's of series
map-drop : {A B : Type 0} (f : A → B) (n : ℕ) (l : List A) → map f (drop n l) ≡ drop n (map f l)
map-drop f zero l = refl
map-drop f (suc n) [] = refl
map-drop f (suc n) (x ∷ l) = map-drop f n l

module _ (c : Cutoffs) where
  pub fs-are : (ts : List (List ℕ)) → fs_of c ts ≡ map (contrast_f c) ts
  unfolding fs_of
  fs-are [] = refl
  fs-are (t ∷ ts) = ap (λ (l : List (Option Float)). contrast_f c t ∷ l) (fs-are ts)

  -- the latest twenty's are the latest twenty
  latest-fs : (ts : List (List ℕ)) → latest (fs_of c ts) ≡ map (contrast_f c) (latest ts)
  latest-fs ts = ap latest (fs-are ts) ∙ ap (λ (k : ℕ). drop (k - latest_count) (map (contrast_f c) ts)) (length-map ts (contrast_f c)) ∙ sym (map-drop (contrast_f c) (length ts - latest_count) ts)

  -- so the `worst` line turns on the latest twenty alone
  pub worst-latest : (ts : List (List ℕ)) → worst_line c ts ≡ codes "worst " ++ (number_text (worst (map (contrast_f c) (latest ts))) ++ codes "\n")
  unfolding worst_line
  worst-latest ts = ap (λ (l : List (Option Float)). codes "worst " ++ (number_text (worst l) ++ codes "\n")) (latest-fs ts)

-- ---- series that are closed stay
series-extend : (s : List ℕ) (d n : ℕ) → Extends (series_to s n) (series_to s (n + d))
unfolding series_to
series-extend s zero n = let e : n + 0 ≡ n = omega arith in rw e (extends-self (series_to s n))
series-extend s (suc d) n =
    let e : n + suc d ≡ suc (n + d) = omega arith in
    rw e (extends-then (series-extend s d n) (record { rest = cond (closes s (n + d)) (series_before s (n + d) ∷ []) []; is = refl }))

series-grow : (s t : List ℕ) → Extends (series_in s) (series_in (s ++ t))
unfolding series_in
series-grow s t =
    let l = length-append s t in
    let e : count (s ++ t) ≡ count s + (count (s ++ t) - count s) = omega arith in
    rw (series_to-before s t (count s) (omega arith), ← e) at (series-extend (s ++ t) (count (s ++ t) - count s) (count s))

-- WHAT IS PRINTED STAYS, and bytes that come later add to it
pub printed-grows : (c : Cutoffs) (s t : List ℕ) → printed c (s ++ t) ≡ printed c s ++ added c s t
unfolding added
printed-grows c s t =
    let g = series-grow s t in
    extends-drop (rw (← g.is) at (texts-extend c g.rest (series_in s)))

-- what is added, where it is known
pub added_is : (c : Cutoffs) (s t text : List ℕ) → printed c (s ++ t) ≡ printed c s ++ text → added c s t ≡ text
unfolding added
added_is c s t text e = rw e (drop-append_seam (printed c s) text)

-- by one piece after another
pub added-both : (c : Cutoffs) (s t u : List ℕ) → added c s (t ++ u) ≡ added c s t ++ added c (s ++ t) u
added-both c s t u =
    added_is c s (t ++ u) (added c s t ++ added c (s ++ t) u)
    (ap (printed c) (sym (append_assoc s t u)) ∙ printed-grows c (s ++ t) u ∙ ap (λ (l : List ℕ). l ++ added c (s ++ t) u) (printed-grows c s t) ∙ append_assoc (printed c s) (added c s t) (added c (s ++ t) u))

pub added-nothing : (c : Cutoffs) (s : List ℕ) → added c s [] ≡ []
added-nothing c s = added_is c s [] [] (ap (printed c) (append-nil s) ∙ sym (append-nil (printed c s)))
