-- Where Q_rs is packed. Document 01: "r ≤ s, packed at a·N − a(a+1)/2 + b, a the smaller index."
use Prim.Native.Nat.{ℕ, zero, suc, ◌+◌, ◌-◌, ◌*◌, ◌/◌, ◌≤◌, ◌<◌}
use native.Mathlib.Omega.{arith}
use native.Mathlib.Nat.{mul-le-mul}
use native.Mathlib.Numerals.{add-one}
use native.Mathlib.Decide.{dec_le, dec_lt}
use mathlib.Core.Path.{◌≡◌, refl, sym, ap, ◌∙◌}
use mathlib.Core.Bool.{cond}
use mathlib.Core.Logic.{◌⊎◌, inl, inr}
use borrow.Author.Tests.{le-leb, lt-leb}
use mir.Syntax.{w64}
use mir.Val.{Fits}
use lib.Dec.{leb}
use Rattle.adjustment.specs.Information.{packed}
use Rattle.adjustment.specs.PackedOnce.{OnePair, PackedOnce}

-- the place of (a, b), a the smaller index
abbrev pub place : ℕ → ℕ → ℕ → ℕ
place N a b = a * N - a * (a + 1) / 2 + b

-- a pair is packed at the place of its smaller and its larger index, in either order
pub packed-up : (N r s : ℕ) → r ≤ s → packed N r s ≡ place N r s
unfolding packed
packed-up N r s h = rw (le-leb r s h)

pub packed-down : (N r s : ℕ) → s < r → packed N r s ≡ place N s r
unfolding packed
packed-down N r s h = rw (lt-leb r s h)

pub packed-mirror : (N r s : ℕ) → packed N r s ≡ packed N s r
packed-mirror N r s = go (dec_lt r s) (dec_lt s r)
  where
    go : Dec (r < s) → Dec (s < r) → packed N r s ≡ packed N s r
    go (yes h) q = packed-up N r s (omega arith) ∙ sym (packed-down N s r h)
    go (no h) (yes l) = packed-down N r s l ∙ sym (packed-up N s r (omega arith))
    go (no h) (no l) = let e : r ≡ s = omega arith in rw e

-- ---- the smaller index by arithmetic
-- products of numbers below 4, and a sum of two, are below what a usize holds
small_product : (t x : ℕ) → t < 4 → x < 4 → t * x ≤ 16
small_product t x h l = mul-le-mul {n₂ = 4} {m₂ = 4} (omega arith) (omega arith)

pub product-fits : {t x : ℕ} → t < 4 → x < 4 → Fits w64 (t * x)
product-fits h l = omega (arith, small_product _ _ h l)

pub products-fit : {t x u y : ℕ} → t < 4 → x < 4 → u < 4 → y < 4 → Fits w64 (t * x + u * y)
products-fit h l m n = omega (arith, small_product _ _ h l, small_product _ _ m n)

-- with a t of 0 or 1 that is 0 where r is the smaller and 1 where s is, t·s + (1 − t)·r is the smaller of the two
pub smaller-picked : {r s t : ℕ} → t ≤ 1 → (r < s → t ≡ 0) → (s < r → t ≡ 1) → t * s + (1 - t) * r ≡ cond (leb r s) r s
smaller-picked {r} {s} {t} few none one = go (dec_lt r s) (dec_lt s r) (dec_lt 0 t)
  where
    go : Dec (r < s) → Dec (s < r) → Dec (0 < t) → t * s + (1 - t) * r ≡ cond (leb r s) r s
    go (yes u) v w = rw (none u, le-leb r s (omega arith)) (omega arith)
    go (no u) (yes v) w = rw (one v, lt-leb r s v) (omega arith)
    go (no u) (no v) (yes w) = let e : t ≡ 1 = omega arith in rw (e, le-leb r s (omega arith)) (omega arith)
    go (no u) (no v) (no w) = let e : t ≡ 0 = omega arith in rw (e, le-leb r s (omega arith)) (omega arith)

-- the other index is what is left of their sum
pub record Picked (N r s a : ℕ) : Type 0 where
  pub least : a ≤ r
  pub ordered : a ≤ r + s - a
  pub inside : r + s - a < N
  pub same_place : packed N a (r + s - a) ≡ packed N r s

pub picked : (N r s a : ℕ) → r < N → s < N → a ≡ cond (leb r s) r s → Picked N r s a
picked N r s a h l e = go (dec_le r s)
  where
    go : Dec (r ≤ s) → Picked N r s a
    go (yes u) =
        let d : a ≡ r = e ∙ rw (le-leb r s u) in
        let f : r + s - a ≡ s = omega arith in
        record { least = omega arith; ordered = omega arith; inside = omega arith; same_place = rw (f, d) }
    go (no u) =
        let d : a ≡ s = e ∙ rw (lt-leb r s (omega arith)) in
        let f : r + s - a ≡ r = omega arith in
        record { least = omega arith; ordered = omega arith; inside = omega arith; same_place = rw (f, d) (packed-mirror N s r) }

-- ---- every N: the places of the unordered pairs are the numbers below N (N + 1) / 2, each once
even : (a : ℕ) → a * (a + 1) ≡ 2 * (a * (a + 1) / 2)
even zero = refl
even (suc a) = omega (arith, even a)

-- each place is below N (N + 1) / 2; N is one more than a and d
place-below-at : (a d b : ℕ) → b ≤ a + d → place (a + 1 + d) a b < (a + 1 + d) * (a + 1 + d + 1) / 2
place-below-at a d b h = omega (arith, even a, even d)

place-below : (N a b : ℕ) → a ≤ b → b < N → place N a b < N * (N + 1) / 2
place-below N a b h l = let e : N ≡ a + 1 + (N - 1 - a) = omega arith in rw e (place-below-at a (N - 1 - a) b (omega arith))

-- what a place is made of: nothing falls below 0, and for N up to M no part is above what M rows of M have
pub record Placed (M N a b : ℕ) : Type 0 where
  pub rows : a * N ≤ M * M
  pub corner : a * (a + 1) ≤ M * M
  pub fits : a * (a + 1) / 2 ≤ a * N
  pub below : place N a b < N * (N + 1) / 2
  pub small : place N a b < M * (M + 1) / 2

pub placed : (M N a b : ℕ) → N ≤ M → a ≤ b → b < N → Placed M N a b
placed M N a b h l m =
    let rows : a * N ≤ M * M = mul-le-mul (omega arith) h in
    let corner : a * (a + 1) ≤ M * M = mul-le-mul (omega arith) (omega arith) in
    let inner : a * (a + 1) ≤ a * N = mul-le-mul (omega arith) (omega arith) in
    let whole : N * (N + 1) ≤ M * (M + 1) = mul-le-mul h (omega arith) in
    let below : place N a b < N * (N + 1) / 2 = place-below N a b l m in
    record { rows = rows; corner = corner; fits = omega (arith, inner); below = below; small = omega (arith, below, whole) }

-- after a row's last place comes the first of the next row, and after the last row's comes N (N + 1) / 2
next-row-at : (a d : ℕ) → place (a + 1 + d + 1) (a + 1) (a + 1) ≡ place (a + 1 + d + 1) a (a + d + 1) + 1
next-row-at a d = omega (arith, even a)

next_row : (N a b : ℕ) → b < N → N ≤ b + 1 → a + 1 < N → place N (a + 1) (a + 1) ≡ place N a b + 1
next_row N a b h l m =
    let e : N ≡ a + 1 + (N - 2 - a) + 1 = omega arith in
    let f : b ≡ a + (N - 2 - a) + 1 = omega arith in
    rw (e, f) (next-row-at a (N - 2 - a))

last-row-at : (a : ℕ) → place (a + 1) a a + 1 ≡ (a + 1) * (a + 1 + 1) / 2
last-row-at a = omega (arith, even a)

last_row : (N a b : ℕ) → a ≤ b → b < N → N ≤ a + 1 → place N a b + 1 ≡ N * (N + 1) / 2
last_row N a b h l m =
    let e : N ≡ a + 1 = omega arith in
    let f : b ≡ a = omega arith in
    rw (e, f) (last-row-at a)

-- the first places of two rows that follow each other are as far apart as the upper one is long
pub diagonal-none : (N : ℕ) → packed N 0 0 ≡ 0
diagonal-none N = let e : place N 0 0 ≡ 0 = omega arith in packed-up N 0 0 (omega arith) ∙ e

pub diagonal-next : (N a : ℕ) → a + 1 < N → packed N (a + 1) (a + 1) + a ≡ packed N a a + N
diagonal-next N a h =
    rw (packed-up N (a + 1) (a + 1) (omega arith), packed-up N a a (omega arith)) (omega (arith, next_row N a (N - 1) (omega arith) (omega arith) h))

pub diagonal-last : (N a : ℕ) → a < N → N ≤ a + 1 → packed N a a + 1 ≡ N * (N + 1) / 2
diagonal-last N a h l = rw (packed-up N a a (omega arith)) (last_row N a a (omega arith) h l)

in_row : (N a b y : ℕ) → b ≤ y → place N a b ≤ place N a y
in_row N a b y h = omega arith

within : {p s : ℕ} → p ≤ s → p < s + 1
within h = omega arith

beyond : {p q s : ℕ} → p < q → q ≤ s → p < s
beyond h l = omega arith

beyond-more : {p q s : ℕ} → p < q → q ≤ s → p < s + 1
beyond-more h l = omega arith

-- a row's places all come before those of a later row
later : (N a x b : ℕ) → b < N → a < x → x < N → place N a b < place N x x
later N a zero b h l m = absurd (omega arith)
later N a (suc x) b h l m = go (λ u. later N a x b h u (omega arith)) (dec_lt a x)
  where
    first : place N (suc x) (suc x) ≡ place N x (N - 1) + 1
    first = ap (λ (z : ℕ). place N z z) (sym (add-one x)) ∙ next_row N x (N - 1) (omega arith) (omega arith) (omega arith)

    go : (a < x → place N a b < place N x x) → Dec (a < x) → place N a b < place N (suc x) (suc x)
    go ih (yes u) = rw first (beyond-more (ih u) (in_row N x x (N - 1) (omega arith)))
    go ih (no u) = let e : a ≡ x = omega arith in rw (first, e) (within (in_row N x b (N - 1) (omega arith)))

rows_apart : (N a x b y : ℕ) → a < x → x ≤ y → b < N → y < N → place N a b < place N x y
rows_apart N a x b y h l m n = beyond (later N a x b m h (omega arith)) (in_row N x x y l)

-- one place, one pair
place-one : (N a b x y : ℕ) → a ≤ b → b < N → x ≤ y → y < N → place N a b ≡ place N x y → (a ≡ x) × (b ≡ y)
place-one N a b x y h l m n e = go (dec_lt a x) (dec_lt x a)
  where
    go : Dec (a < x) → Dec (x < a) → (a ≡ x) × (b ≡ y)
    go (yes u) v = absurd (omega (arith, rows_apart N a x b y u m l n))
    go (no u) (yes v) = absurd (omega (arith, rows_apart N x a y b v h n l))
    go (no u) (no v) = let d : a ≡ x = omega arith in (d, let f : place N x b ≡ place N x y = rw d at e in omega arith)

-- each number below N (N + 1) / 2 is the place of a pair
record Pair (N k : ℕ) : Type 0 where
  a : ℕ
  b : ℕ
  ordered : a ≤ b
  inside : b < N
  here : place N a b ≡ k

pair_of : (N k : ℕ) → k < N * (N + 1) / 2 → Pair N k
pair_of zero zero h = absurd (omega arith)
pair_of (suc N) zero h = record { a = 0; b = 0; ordered = omega arith; inside = omega arith; here = omega arith }
pair_of N (suc k) h = go (pair_of N k (omega arith))
  where
    go : Pair N k → Pair N (suc k)
    go p = along (dec_lt (p.b + 1) N) (dec_lt (p.a + 1) N)
      where
        along : Dec (p.b + 1 < N) → Dec (p.a + 1 < N) → Pair N (suc k)
        along (yes u) v = record { a = p.a; b = p.b + 1; ordered = omega arith; inside = u; here = omega arith }
        along (no u) (yes v) =
            record { a = p.a + 1; b = p.a + 1; ordered = omega arith; inside = v; here = next_row N p.a p.b p.inside (omega arith) v ∙ omega (arith, p.here) }
        along (no u) (no v) = absurd (omega (arith, last_row N p.a p.b p.ordered p.inside (omega arith)))

-- in either order of the indices
pub packed-below : (N r s : ℕ) → r < N → s < N → packed N r s < N * (N + 1) / 2
packed-below N r s h l = go (dec_le r s)
  where
    go : Dec (r ≤ s) → packed N r s < N * (N + 1) / 2
    go (yes u) = rw (packed-up N r s u) (place-below N r s u l)
    go (no u) = rw (packed-down N r s (omega arith)) (place-below N s r (omega arith) h)

one-pair : (N k : ℕ) → k < N * (N + 1) / 2 → OnePair N k
one-pair N k h = go (pair_of N k h)
  where
    go : Pair N k → OnePair N k
    go p =
        record {
          a = p.a;
          b = p.b;
          ordered = p.ordered;
          inside = p.inside;
          here = packed-up N p.a p.b p.ordered ∙ p.here;
          only = λ r s u v e. pick r s u v e (dec_le r s);
        }
      where
        pick : (r s : ℕ) → r < N → s < N → packed N r s ≡ k → Dec (r ≤ s) → ((r ≡ p.a) × (s ≡ p.b)) ⊎ ((r ≡ p.b) × (s ≡ p.a))
        pick r s u v e (yes m) = inl (place-one N r s p.a p.b m v p.ordered p.inside (sym (packed-up N r s m) ∙ e ∙ sym p.here))
        pick r s u v e (no m) =
            let q = place-one N s r p.a p.b (omega arith) u p.ordered p.inside (sym (packed-down N r s (omega arith)) ∙ e ∙ sym p.here) in
            inr (q.1, q.0)

-- what is promised of the packing, for every N
pub packed-once : (N : ℕ) → PackedOnce N
packed-once N =
    record {
      place = λ a b h l. (packed-up N a b h, packed-mirror N b a ∙ packed-up N a b h);
      exact = λ a h. let inner : a * (a + 1) ≤ a * N = mul-le-mul (omega arith) (omega arith) in (sym (even a), omega (arith, inner));
      below = packed-below N;
      once = one-pair N;
    }
