-- Laws of the numbers below n that are not left out (specs/readers/Shortened.antt), whatever leaves them out: they rise, each knows its place among them, and what is asked of them alone is asked of all numbers
-- below n that are not left out.
use Prim.Native.Nat.{ℕ, zero, suc, ◌+◌, ◌<◌, ◌≤◌}
use native.Mathlib.Nat.{not-suc-le-zero, le_of_suc-le-suc, eq-or-lt_of_le}
use native.Mathlib.Numerals.{add-one}
use native.Mathlib.Omega.{arith}
use native.Mathlib.Decide.{dec_lt}
use mathlib.Core.Path.{◌≡◌, refl, ap, sym, ◌∙◌, subst}
use mathlib.Core.Bool.{Bool, true, false, cond, false≢true}
use mathlib.Core.Logic.{⊎_elim}
use mathlib.Core.List.{List, [], ◌∷◌, ◌++◌}
use lib.ListN.{length, get_or, length-append, get_or-append}
use lib.Seq.{get_or-append_seam}
use Rattle.records.specs.readers.Shortened.{kept_below}

-- what stands before the end, at the end, and how long it is then
module _ (out : ℕ → Bool) where
  abbrev ks : ℕ → List ℕ
  ks n = kept_below n out

  pub kept_more : (n : ℕ) → kept_below (n + 1) out ≡ kept_below n out ++ cond (out n) [] (n ∷ [])
  unfolding kept_below
  kept_more n = rw add-one

  -- a number that is left out adds nothing, one that is not is the last
  pub kept-skip : (n : ℕ) → out n ≡ true → kept_below (n + 1) out ≡ kept_below n out
  kept-skip n e = kept_more n ∙ rw e (none (ks n))
    where
      none : (l : List ℕ) → l ++ [] ≡ l
      none [] = refl
      none (x ∷ l) = ap (λ (m : List ℕ). x ∷ m) (none l)

  pub kept-take : (n : ℕ) → out n ≡ false → kept_below (n + 1) out ≡ kept_below n out ++ (n ∷ [])
  kept-take n e = kept_more n ∙ rw e refl

  -- how many they are, one number further
  length-skip : (n : ℕ) → out n ≡ true → length (ks (n + 1)) ≡ length (ks n)
  length-skip n e = ap length (kept-skip n e)

  length-take : (n : ℕ) → out n ≡ false → length (ks (n + 1)) ≡ length (ks n) + 1
  length-take n e = ap length (kept-take n e) ∙ length-append (ks n) (n ∷ [])

  -- they are no fewer further on, and no more than the numbers below n
  pub kept-grows : (m n : ℕ) → m ≤ n → length (kept_below m out) ≤ length (kept_below n out)
  kept-grows m zero l = let e : m ≡ 0 = omega arith in let q = ap (λ (j : ℕ). length (ks j)) e in omega arith
  kept-grows m (suc n) l = ⊎_elim (λ q. let e = ap (λ (j : ℕ). length (ks j)) q in omega arith) (λ k. go (out n) refl (kept-grows m n (le_of_suc-le-suc k))) (eq-or-lt_of_le l)
    where
      go : (b : Bool) → out n ≡ b → length (ks m) ≤ length (ks n) → length (ks m) ≤ length (ks (suc n))
      go true e h = let a = length-skip n e in let q = ap (λ (j : ℕ). length (ks j)) (add-one n) in omega arith
      go false e h = let a = length-take n e in let q = ap (λ (j : ℕ). length (ks j)) (add-one n) in omega arith

  pub kept-few : (n : ℕ) → length (kept_below n out) ≤ n
  unfolding kept_below
  kept-few zero = omega arith
  kept-few (suc n) = go (out n) refl (kept-few n)
    where
      go : (b : Bool) → out n ≡ b → length (ks n) ≤ n → length (ks (suc n)) ≤ suc n
      go true e h = let a = length-skip n e in let q = ap (λ (j : ℕ). length (ks j)) (add-one n) in omega arith
      go false e h = let a = length-take n e in let q = ap (λ (j : ℕ). length (ks j)) (add-one n) in omega arith

  -- ---- number i of them
  pub record KeptAt (n i : ℕ) : Type 0 where
    pub below : get_or (kept_below n out) i 0 < n
    pub stays : out (get_or (kept_below n out) i 0) ≡ false
    -- as many stand before it as are kept below it
    pub place : length (kept_below (get_or (kept_below n out) i 0) out) ≡ i

  pub kept_at : (n i : ℕ) → i < length (kept_below n out) → KeptAt n i
  unfolding kept_below
  kept_at zero i l = absurd (not-suc-le-zero l)
  kept_at (suc n) i l = go (out n) refl (kept_at n i) (dec_lt i (length (ks n)))
    where
      -- of the same numbers, and of one more
      same : (r : ℕ) → get_or (ks (suc n)) i 0 ≡ r → r < suc n → out r ≡ false → length (ks r) ≡ i → KeptAt (suc n) i
      same r e b o p = record { below = (let z = e in omega arith); stays = ap out e ∙ o; place = ap (λ (j : ℕ). length (ks j)) e ∙ p }

      earlier : get_or (ks (suc n)) i 0 ≡ get_or (ks n) i 0 → KeptAt n i → KeptAt (suc n) i
      earlier e k = same (get_or (ks n) i 0) e (let b = k.below in omega arith) k.stays k.place

      go : (b : Bool) → out n ≡ b → (i < length (ks n) → KeptAt n i) → Dec (i < length (ks n)) → KeptAt (suc n) i
      go true e f d =
          let q : ks (suc n) ≡ ks n = ap ks (sym (add-one n)) ∙ kept-skip n e in
          let m = ap length q in
          earlier (ap (λ (k : List ℕ). get_or k i 0) q) (f (omega arith))
      go false e f (yes h) =
          let q : ks (suc n) ≡ ks n ++ (n ∷ []) = ap ks (sym (add-one n)) ∙ kept-take n e in
          earlier (ap (λ (k : List ℕ). get_or k i 0) q ∙ get_or-append (ks n) (n ∷ []) 0 i h) (f h)
      go false e f (no h) =
          let q : ks (suc n) ≡ ks n ++ (n ∷ []) = ap ks (sym (add-one n)) ∙ kept-take n e in
          let m = ap length q ∙ length-append (ks n) (n ∷ []) in
          let j : i ≡ length (ks n) = omega arith in
          same n (ap (λ (k : List ℕ). get_or k i 0) q ∙ ap (λ (x : ℕ). get_or (ks n ++ (n ∷ [])) x 0) j ∙ get_or-append_seam (ks n) n [] 0) (omega arith) e (sym j)

  -- a number below n that is not left out is one of them, at its place
  pub record KeptAs (n r : ℕ) : Type 0 where
    pub within : length (kept_below r out) < length (kept_below n out)
    pub same : get_or (kept_below n out) (length (kept_below r out)) 0 ≡ r

  pub kept-as : (n r : ℕ) → r < n → out r ≡ false → KeptAs n r
  kept-as zero r l e = absurd (not-suc-le-zero l)
  kept-as (suc n) r l e = ⊎_elim (λ q. last q) (λ h. go (out n) refl (kept-as n r h e)) (eq-or-lt_of_le (le_of_suc-le-suc l))
    where
      last : r ≡ n → KeptAs (suc n) r
      last q =
          let p : out n ≡ false = ap out (sym q) ∙ e in
          let k : ks (suc n) ≡ ks n ++ (n ∷ []) = ap ks (sym (add-one n)) ∙ kept-take n p in
          let m = ap length k ∙ length-append (ks n) (n ∷ []) in
          let j = ap (λ (x : ℕ). length (ks x)) q in
          record { within = omega arith; same = ap (λ (x : ℕ). get_or (ks (suc n)) x 0) j ∙ ap (λ (x : List ℕ). get_or x (length (ks n)) 0) k ∙ get_or-append_seam (ks n) n [] 0 ∙ sym q }

      go : (b : Bool) → out n ≡ b → KeptAs n r → KeptAs (suc n) r
      go true p k =
          let q : ks (suc n) ≡ ks n = ap ks (sym (add-one n)) ∙ kept-skip n p in
          let m = ap length q in
          let w = k.within in
          record { within = omega arith; same = ap (λ (x : List ℕ). get_or x (length (ks r)) 0) q ∙ k.same }
      go false p k =
          let q : ks (suc n) ≡ ks n ++ (n ∷ []) = ap ks (sym (add-one n)) ∙ kept-take n p in
          let m = ap length q ∙ length-append (ks n) (n ∷ []) in
          let w = k.within in
          record { within = omega arith; same = ap (λ (x : List ℕ). get_or x (length (ks r)) 0) q ∙ get_or-append (ks n) (n ∷ []) 0 (length (ks r)) k.within ∙ k.same }

  -- ---- they rise, none is below its place, and two at different places are not the same
  pub kept-rises : (n i j : ℕ) → i < j → j < length (kept_below n out) → get_or (kept_below n out) i 0 < get_or (kept_below n out) j 0
  kept-rises n i j l h = go (dec_lt (get_or (ks n) i 0) (get_or (ks n) j 0))
    where
      go : Dec (get_or (ks n) i 0 < get_or (ks n) j 0) → get_or (ks n) i 0 < get_or (ks n) j 0
      go (yes k) = k
      go (no k) =
          let a = (kept_at n i (omega arith)).place in
          let b = (kept_at n j h).place in
          let g = kept-grows (get_or (ks n) j 0) (get_or (ks n) i 0) (omega arith) in
          absurd (omega arith)

  -- ---- where nothing is left out each stands at its own place, and where something is not there is one
  pub kept-all : (n : ℕ) → ((i : ℕ) → i < n → out i ≡ false) → length (kept_below n out) ≡ n
  unfolding kept_below
  kept-all zero h = refl
  kept-all (suc n) h =
      let a = length-take n (h n (omega arith)) in
      let b = kept-all n (λ i l. h i (omega arith)) in
      let q = ap (λ (j : ℕ). length (ks j)) (add-one n) in
      omega arith

  pub kept_self : (n : ℕ) → ((i : ℕ) → i < n → out i ≡ false) → (i : ℕ) → i < n → get_or (kept_below n out) i 0 ≡ i
  kept_self n h i l =
      let e = kept-all i (λ j k. h j (omega arith)) in
      ap (λ (j : ℕ). get_or (ks n) j 0) (sym e) ∙ (kept-as n i l (h i l)).same

  pub kept-some : (n r : ℕ) → r < n → out r ≡ false → 1 ≤ length (kept_below n out)
  kept-some n r l e = let w = (kept-as n r l e).within in omega arith

-- two ways of leaving out that agree below n
pub kept_same : (n : ℕ) (out out' : ℕ → Bool) → ((i : ℕ) → i < n → out i ≡ out' i) → kept_below n out ≡ kept_below n out'
unfolding kept_below
kept_same zero out out' h = refl
kept_same (suc n) out out' h = rw (kept_same n out out' (λ i l. h i (omega arith)), h n (omega arith))
