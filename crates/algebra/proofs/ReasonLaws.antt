-- Laws of specs/Reasons.antt: each number holds precisely under its condition. The first line of a list of (number, condition) whose condition holds gives the number.
use Prim.Native.Nat.{ℕ, zero, suc, ◌<◌, suc-le-suc}
use mathlib.Core.Path.{◌≡◌, refl, sym, ◌∙◌}
use mathlib.Core.Bool.{Bool, true, false, not, ◌&&◌, cond, false≢true, true≢false}
use mathlib.Core.List.{List, [], ◌∷◌, ◌++◌}
use native.Mathlib.Nat.{not-suc-le-zero, le_of_suc-le-suc}
use native.Mathlib.Omega.{arith}
use lib.Dec.{eqb}
use lib.ListN.{length, get_or}
use borrow.Author.Tests.{eqb-true, eqb-false}
use Rattle.algebra.specs.Reasons.{first}

abbrev pub Line : Type 0
Line = ℕ × Bool

abbrev pub line : List Line → ℕ → Line
line l i = get_or l i (0, false)

-- ---- the statement
-- some line has the number n, its condition holds, and no earlier line's does
pub record Gives (l : List Line) (n : ℕ) : Type 0 where
  pub index : ℕ
  pub inside : index < length l
  pub number : (line l index).0 ≡ n
  pub holds : (line l index).1 ≡ true
  pub earlier : (j : ℕ) → j < index → (line l j).1 ≡ false

-- no line's condition holds
abbrev pub NoneHolds : List Line → Type 0
NoneHolds l = (i : ℕ) → i < length l → (line l i).1 ≡ false

pub record Iff (A B : Type 0) : Type 0 where
  pub to : A → B
  pub from : B → A

-- the number r is given by the list: a number other than 0 precisely where a line gives it, and 0 precisely where no condition holds
pub record Precisely (r : ℕ) (l : List Line) : Type 0 where
  pub refused : (n : ℕ) → (n ≡ 0 → ⊥) → Iff (r ≡ n) (Gives l n)
  pub accepted : Iff (r ≡ 0) (NoneHolds l)

-- no line has the number n
abbrev pub lacks : ℕ → List Line → Bool
lacks n [] = true
lacks n (c ∷ cs) = not (eqb c.0 n) && lacks n cs

-- every line's number is a refusal's
abbrev pub named : List Line → Bool
named l = lacks 0 l

-- ---- its proof
later : (x : Line) (l : List Line) (n : ℕ) → x.1 ≡ false → Gives l n → Gives (x ∷ l) n
later x l n e g = record { index = suc g.index; inside = suc-le-suc g.inside; number = g.number; holds = g.holds; earlier = before }
  where
    before : (j : ℕ) → j < suc g.index → (line (x ∷ l) j).1 ≡ false
    before zero h = e
    before (suc j) h = g.earlier j (le_of_suc-le-suc h)

sooner : (x : Line) (l : List Line) (n : ℕ) → x.1 ≡ false → Gives (x ∷ l) n → Gives l n
sooner x l n e g = go g.index g.inside g.number g.holds g.earlier
  where
    go : (i : ℕ) → i < length (x ∷ l) → (line (x ∷ l) i).0 ≡ n → (line (x ∷ l) i).1 ≡ true → ((j : ℕ) → j < i → (line (x ∷ l) j).1 ≡ false) → Gives l n
    go zero a b c d = absurd (false≢true (sym e ∙ c))
    go (suc i) a b c d = record { index = i; inside = le_of_suc-le-suc a; number = b; holds = c; earlier = λ j h. d (suc j) (suc-le-suc h) }

first_gives : (l : List Line) (n : ℕ) → (n ≡ 0 → ⊥) → first l ≡ n → Gives l n
unfolding first
first_gives [] n h e = absurd (h (sym e))
first_gives (x ∷ l) n h e = go x.1 refl e (first_gives l n h)
  where
    go : (b : Bool) → x.1 ≡ b → cond b x.0 (first l) ≡ n → (first l ≡ n → Gives l n) → Gives (x ∷ l) n
    go true q f k = record { index = 0; inside = omega arith; number = f; holds = q; earlier = λ j i. absurd (not-suc-le-zero i) }
    go false q f k = later x l n q (k f)

gives-first : (l : List Line) (n : ℕ) → Gives l n → first l ≡ n
unfolding first
gives-first [] n g = absurd (not-suc-le-zero g.inside)
gives-first (x ∷ l) n g = go x.1 refl (gives-first l n) g.index g.number g.earlier
  where
    go : (b : Bool) → x.1 ≡ b → (Gives l n → first l ≡ n) → (i : ℕ) → (line (x ∷ l) i).0 ≡ n → ((j : ℕ) → j < i → (line (x ∷ l) j).1 ≡ false) → cond b x.0 (first l) ≡ n
    go true q k zero a d = a
    go true q k (suc i) a d = absurd (false≢true (sym (d 0 (omega arith)) ∙ q))
    go false q k i a d = k (sooner x l n q g)

-- a list lacks a number where its first line and the rest do
rest-lacks : (z b : Bool) → not z && b ≡ true → (z ≡ false) × (b ≡ true)
rest-lacks true b e = absurd (false≢true e)
rest-lacks false b e = (refl, e)

-- 0 is not the first line's number: neither its condition nor a later one holds
pub passed : (n : ℕ) (b : Bool) (l : List Line) → eqb n 0 ≡ false → first ((n, b) ∷ l) ≡ 0 → (b ≡ false) × (first l ≡ 0)
unfolding first
passed n true l h e = absurd (false≢true (sym h ∙ rw e))
passed n false l h e = (refl, e)

pub first-none : (l : List Line) → named l ≡ true → first l ≡ 0 → NoneHolds l
first-none [] h e i k = absurd (not-suc-le-zero k)
first-none (x ∷ l) h e i k =
    let m = rest-lacks (eqb x.0 0) (named l) h in
    let q = passed x.0 x.1 l m.0 e in go i q.0 (first-none l m.1 q.1) k
  where
    go : (i : ℕ) → x.1 ≡ false → NoneHolds l → i < length (x ∷ l) → (line (x ∷ l) i).1 ≡ false
    go zero q f k = q
    go (suc i) q f k = f i (le_of_suc-le-suc k)

pub none_first : (l : List Line) → NoneHolds l → first l ≡ 0
unfolding first
none_first [] h = refl
none_first (x ∷ l) h = rw (h 0 (omega arith)) (none_first l (λ i m. h (suc i) (suc-le-suc m)))

pub precisely : (l : List Line) → named l ≡ true → Precisely (first l) l
precisely l h = record { refused = λ n z. record { to = first_gives l n z; from = gives-first l n }; accepted = record { to = first-none l h; from = none_first l } }

-- ---- a list after a list
-- a reason of the first list that holds decides; where none does, the second list does
pub first-append : (a b : List Line) → named a ≡ true → first (a ++ b) ≡ cond (eqb (first a) 0) (first b) (first a)
unfolding first
first-append [] b h = refl
first-append (c ∷ cs) b h = go c.0 c.1 (eqb c.0 0) refl h (first-append cs b)
  where
    go : (n : ℕ) (x z : Bool) → eqb n 0 ≡ z → not z && named cs ≡ true → (named cs ≡ true → first (cs ++ b) ≡ cond (eqb (first cs) 0) (first b) (first cs))
        → cond x n (first (cs ++ b)) ≡ cond (eqb (cond x n (first cs)) 0) (first b) (cond x n (first cs))
    go n x true e h f = absurd (true≢false (sym h))
    go n true false e h f = rw e
    go n false false e h f = f h

-- where none of both holds none of the first does
pub first-front : (a b : List Line) → first (a ++ b) ≡ 0 → first a ≡ 0
unfolding first
first-front [] b h = refl
first-front (x ∷ a) b h = go x.1 (first-front a b) h
  where
    go : (c : Bool) → (first (a ++ b) ≡ 0 → first a ≡ 0) → cond c x.0 (first (a ++ b)) ≡ 0 → cond c x.0 (first a) ≡ 0
    go true f e = e
    go false f e = f e

-- ---- a number that one line alone has
-- a number that no line has is not given
first-lacks : (n : ℕ) (l : List Line) → (n ≡ 0 → ⊥) → lacks n l ≡ true → first l ≡ n → ⊥
unfolding first
first-lacks n [] z h e = z (sym e)
first-lacks n (x ∷ l) z h e = let m = rest-lacks (eqb x.0 n) (lacks n l) h in go x.1 m.0 (first-lacks n l z m.1) e
  where
    go : (c : Bool) → eqb x.0 n ≡ false → (first l ≡ n → ⊥) → cond c x.0 (first l) ≡ n → ⊥
    go true m f e = eqb-false x.0 n m e
    go false m f e = f e

-- it is given precisely where this line's condition holds and no earlier line's does
pub first_alone : (a b : List Line) (n : ℕ) (c : Bool) → (n ≡ 0 → ⊥) → named a ≡ true → lacks n a ≡ true → lacks n b ≡ true → Iff (first (a ++ ((n, c) ∷ b)) ≡ n) ((first a ≡ 0) × (c ≡ true))
unfolding first
first_alone a b n c z h k l = record { to = λ e. to (eqb (first a) 0) refl c (sym (first-append a ((n, c) ∷ b) h) ∙ e); from = λ p. first-append a ((n, c) ∷ b) h ∙ rw (p.0, p.1) }
  where
    to : (f : Bool) → eqb (first a) 0 ≡ f → (d : Bool) → cond f (cond d n (first b)) (first a) ≡ n → (first a ≡ 0) × (d ≡ true)
    to true q true e = (eqb-true (first a) 0 q, refl)
    to true q false e = absurd (first-lacks n b z l e)
    to false q d e = absurd (first-lacks n a z k e)

-- ---- a list of one number
-- every line has the number n
abbrev pub only : ℕ → List Line → Bool
only n [] = true
only n (c ∷ cs) = eqb c.0 n && only n cs

rest-only : (z b : Bool) → z && b ≡ true → (z ≡ true) × (b ≡ true)
rest-only true b e = (refl, e)
rest-only false b e = absurd (false≢true e)

-- what such a list refuses it refuses with n
pub first-only : (n : ℕ) (l : List Line) → only n l ≡ true → (first l ≡ 0 → ⊥) → first l ≡ n
unfolding first
first-only n [] h f = absurd (f refl)
first-only n (x ∷ l) h f = let m = rest-only (eqb x.0 n) (only n l) h in go x.1 m.0 (first-only n l m.1) f
  where
    go : (c : Bool) → eqb x.0 n ≡ true → ((first l ≡ 0 → ⊥) → first l ≡ n) → (cond c x.0 (first l) ≡ 0 → ⊥) → cond c x.0 (first l) ≡ n
    go true m k f = eqb-true x.0 n m
    go false m k f = k f
