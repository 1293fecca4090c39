-- A value that fits is determined by its sign and its number; so a power of two goes through `round`, where the result is normal before and after.
use mathlib.Core.Path.{◌≡◌, refl, sym, ap, ◌∙◌, subst}
use Prim.Native.Nat.{ℕ, zero, suc, ◌+◌, ◌-◌, ◌*◌, ◌/◌, ◌%◌, ◌^◌, ◌≤◌, ◌<◌, compare}
use native.Mathlib.Nat.{le_trans, le_of_eq, le_of_lt, lt_of_lt_of_le, lt_of_le_of_lt, mul_assoc, mul_comm, mul_left_comm, mul-one, one-mul, mul-pos, mul-le-mul_right, mul-lt-mul_of_pos_right, eq_of_mul-eq-mul_right, le_of_mul-le-mul_right, lt_of_mul-lt-mul_right, zero-lt-suc, pow-succ', pow-suc, lt_irrefl, zero-mul, lt_of_not-le, not-le_of_lt, le_of_suc-le-suc, div-div-eq-div-mul}
use native.Mathlib.Omega.{arith}
use mathlib.Core.Bool.{Bool, true, false, ◌&&◌, cond}
use lib.IntN.{ℤ, pos, negsuc, +ℤ_invr}
use lib.Dec.{T, ltb, leb, eqb, ltb→lt, eqb→eq}
use lib.Pow.{pow-add, pow_pos, pow_mono, pow-lt}
use lib.Ieee.{Float, nan, inf, fin, Format, prec, emax, low, up, down, size, round, units, fits, nearest}
use lib.Ieee.Exact.{HasValue, units_val}
use lib.Ieee.Digits.{size_reaches}
use lib.Ieee.Fits.{up_pos, down_pos, and_l, round_is, round-fits, nearest-le, kept-lt}
use lib.Ieee.Order.{drop, kept}
use lib.Ieee.Scale.{grid, grid_scale, overflow, round_same, normal_of_fraction, normal_of_rounded}
use Rattle.arithmetic.specs.Scale.{scale}
use Rattle.arithmetic.proofs.ScaleLaws.{scale-val, scale-scale, scale-zero}

-- ---- the one way to write a value: m is odd, or 0 with the exponent 0
abbrev pub Written : Float → Type 0
Written nan = Unit
Written (inf s) = Unit
Written (fin s zero e) = e ≡ pos 0
Written (fin s (suc m) e) = suc m % 2 ≡ 1

two_up : (p : ℕ) → 0 < p → 2 * p ≡ 1 → ⊥
two_up p h e = omega arith

flat : (e : ℤ) → up e * down e ≡ 1 → e ≡ pos 0
flat (pos zero) h = refl
flat (pos (suc k)) h = absurd (two_up (2 ^ k) (pow_pos k) (sym (pow-succ' 2 k) ∙ sym (mul-one (2 ^ suc k)) ∙ h))
flat (negsuc k) h = absurd (two_up (2 ^ k) (pow_pos k) (sym (pow-succ' 2 k) ∙ sym (one-mul (2 ^ suc k)) ∙ h))

pub fits-written : (f : Format) (x : Float) → T (fits f x) → Written x
unfolding fits
fits-written f nan t = tt
fits-written f (inf s) t = tt
fits-written f (fin s zero e) t = flat e (eqb→eq (up e * down e) 1 t)
fits-written f (fin s (suc m) e) t =
    eqb→eq (suc m % 2) 1 (and_l (eqb (suc m % 2) 1) (ltb (suc m) (2 ^ prec f)) (and_l (eqb (suc m % 2) 1 && ltb (suc m) (2 ^ prec f)) (leb (down e) (2 ^ low f))
    (and_l (eqb (suc m % 2) 1 && ltb (suc m) (2 ^ prec f) && leb (down e) (2 ^ low f)) (ltb (suc m * up e) (2 ^ suc (emax f) * down e)) t)))

pub scale-written : (u : ℤ) (x : Float) → Written x → Written (scale u x)
scale-written u nan w = tt
scale-written u (inf s) w = tt
scale-written u (fin s zero e) w = w
scale-written u (fin s (suc m) e) w = w

even_odd : (m t : ℕ) → m % 2 ≡ 1 → m ≡ 2 * t → ⊥
even_odd m t o h = omega arith

odd_pow : (m n a b : ℕ) → m % 2 ≡ 1 → n % 2 ≡ 1 → m * 2 ^ a ≡ n * 2 ^ b → (m ≡ n) × (a ≡ b)
odd_pow m n zero zero o p h = (sym (mul-one m) ∙ h ∙ mul-one n, refl)
odd_pow m n zero (suc b) o p h = absurd (even_odd m (n * 2 ^ b) o (sym (mul-one m) ∙ h ∙ ap (λ (x : ℕ). n * x) (pow-succ' 2 b) ∙ mul_left_comm n 2 (2 ^ b)))
odd_pow m n (suc a) zero o p h = absurd (even_odd n (m * 2 ^ a) p (sym (mul-one n) ∙ sym h ∙ ap (λ (x : ℕ). m * x) (pow-succ' 2 a) ∙ mul_left_comm m 2 (2 ^ a)))
odd_pow m n (suc a) (suc b) o p h =
    let r = odd_pow m n a b o p (eq_of_mul-eq-mul_right 2 (zero-lt-suc 1) (m * 2 ^ a) (n * 2 ^ b)
    (mul_assoc m (2 ^ a) 2 ∙ ap (λ (x : ℕ). m * x) (sym (pow-suc 2 a)) ∙ h ∙ ap (λ (x : ℕ). n * x) (pow-suc 2 b) ∙ sym (mul_assoc n (2 ^ b) 2))) in
    (r.0, ap suc r.1)

not-zero : (k : ℕ) → suc k ≡ 0 → ⊥
not-zero k h = omega arith

-- two odd numbers times powers of two, equal: by the exponents' signs
odd-unique : (m : ℕ) (e : ℤ) (n : ℕ) (d : ℤ) → m % 2 ≡ 1 → n % 2 ≡ 1 → m * up e * down d ≡ n * up d * down e → (m ≡ n) × (e ≡ d)
odd-unique m (pos i) n (pos j) o p h =
    let r = odd_pow m n i j o p (omega (arith, h)) in (r.0, ap pos r.1)
odd-unique m (pos i) n (negsuc j) o p h =
    let r = odd_pow m n (i + suc j) 0 o p (omega (arith, h, ap (λ (z : ℕ). m * z) (pow-add 2 i (suc j)))) in
    absurd (not-zero (i + j) (omega (arith, r.1)))
odd-unique m (negsuc i) n (pos j) o p h =
    let r = odd_pow m n 0 (j + suc i) o p (omega (arith, h, ap (λ (z : ℕ). n * z) (pow-add 2 j (suc i)))) in
    absurd (not-zero (i + j) (omega (arith, r.1)))
odd-unique m (negsuc i) n (negsuc j) o p h =
    let r = odd_pow m n (suc j) (suc i) o p (omega (arith, h)) in (r.0, ap negsuc (omega (arith, r.1)))

above : (m a b : ℕ) → 0 < a → 0 < b → suc m * a * b ≡ 0 → ⊥
above m a b A B h = lt_irrefl 0 (subst (λ (z : ℕ). 0 < z) h (mul-pos (mul-pos (zero-lt-suc m) A) B))

-- a value that is written in the one way is known by its sign and its number
pub unique : (x y : Float) (s : Bool) (a c : ℕ) → 0 < c → Written x → Written y → HasValue x s a c → HasValue y s a c → x ≡ y
unique nan y s a c C p q v w = absurd v
unique (inf t) y s a c C p q v w = absurd v
unique (fin t m e) nan s a c C p q v w = absurd w
unique (fin t m e) (inf r) s a c C p q v w = absurd w
unique (fin t m e) (fin r n d) s a c C p q v w = go m n p q (cut m n (up e) (down e) (up d) (down d) v.1 w.1)
  where
    cut : (m n x y z r : ℕ) → m * x * c ≡ a * y → n * z * c ≡ a * r → m * x * r ≡ n * z * y
    cut m n x y z r h k = eq_of_mul-eq-mul_right c C _ _ (omega (arith, ap (λ (i : ℕ). i * r) h, ap (λ (i : ℕ). i * y) k))

    go : (m n : ℕ) → Written (fin t m e) → Written (fin r n d) → m * up e * down d ≡ n * up d * down e → fin t m e ≡ fin r n d
    go zero zero p q h = λ i. fin ((v.0 ∙ sym w.0) i) zero ((p ∙ sym q) i)
    go zero (suc n) p q h = absurd (above n (up d) (down e) (up_pos d) (down_pos e) (omega (arith, h)))
    go (suc m) zero p q h = absurd (above m (up e) (down d) (up_pos e) (down_pos d) (omega (arith, h)))
    go (suc m) (suc n) p q h = let k = odd-unique (suc m) e (suc n) d p q h in λ i. fin ((v.0 ∙ sym w.0) i) (k.0 i) (k.1 i)

-- ---- the size of a value, in units of the format's smallest: from 2 ^ L on, and below 2 ^ H
abbrev pub Within : Format → ℕ → ℕ → Float → Type 0
Within f L H nan = ⊥
Within f L H (inf s) = ⊥
Within f L H (fin s m e) = (2 ^ L * down e ≤ m * up e * 2 ^ low f) × (m * up e * 2 ^ low f < 2 ^ H * down e)

-- normal, and not the least normal power of two: at 2 ^ prec units or more, and below the overflow
abbrev pub Normal : Format → Float → Type 0
Normal f x = Within f (prec f) (low f + suc (emax f)) x

-- the size, by any fraction that the value equals
within-le : (f : Format) (L H : ℕ) (x : Float) (s : Bool) (a c : ℕ) → HasValue x s a c → Within f L H x → 2 ^ L * c ≤ a * 2 ^ low f
within-le f L H nan s a c v w = absurd v
within-le f L H (inf t) s a c v w = absurd v
within-le f L H (fin t m e) s a c v w = le_of_mul-le-mul_right (step m (up e) (down e) (2 ^ L) (2 ^ low f) v.1 (mul-le-mul_right c w.0)) (down_pos e)
  where
    step : (m p q l n : ℕ) → m * p * c ≡ a * q → l * q * c ≤ m * p * n * c → l * c * q ≤ a * n * q
    step m p q l n h k = omega (arith, ap (λ (z : ℕ). z * n) h, k)

within-lt : (f : Format) (L H : ℕ) (x : Float) (s : Bool) (a c : ℕ) → 0 < c → HasValue x s a c → Within f L H x → a * 2 ^ low f < 2 ^ H * c
within-lt f L H nan s a c C v w = absurd v
within-lt f L H (inf t) s a c C v w = absurd v
within-lt f L H (fin t m e) s a c C v w = lt_of_mul-lt-mul_right (down e) (step m (up e) (down e) (2 ^ H) (2 ^ low f) v.1 (mul-lt-mul_of_pos_right w.1 C))
  where
    step : (m p q l n : ℕ) → m * p * c ≡ a * q → m * p * n * c < l * q * c → a * n * q < l * c * q
    step m p q l n h k = omega (arith, ap (λ (z : ℕ). z * n) h, k)

-- ---- what `round` makes, in units
under : (f : Format) (s : Bool) (q k L H : ℕ) → Within f L H (units f s q k) → q * 2 ^ k < overflow f
unfolding units
under f s q k L H = go (ltb (q * 2 ^ k) (overflow f)) (ltb→lt (q * 2 ^ k) (overflow f))
  where
    go : (b : Bool) → (T b → q * 2 ^ k < overflow f) → Within f L H (cond b (lib.Ieee.odd (suc (prec f)) s q k (low f)) (inf s)) → q * 2 ^ k < overflow f
    go true h t = h tt
    go false h t = absurd t

pub round_under : (f : Format) (s : Bool) (a c L H : ℕ) → Within f L H (round f s a c) → grid f a c < overflow f
round_under f s a c L H w = under f s (kept (prec f) (a * 2 ^ low f) c) (drop (prec f) (a * 2 ^ low f) c) L H (subst (Within f L H) (round_is f s a c) w)

pub round_val : (f : Format) (s : Bool) (a c : ℕ) → grid f a c < overflow f → HasValue (round f s a c) s (grid f a c) (2 ^ low f)
round_val f s a c h = subst (λ (z : Float). HasValue z s (grid f a c) (2 ^ low f)) (sym (round_is f s a c)) (units_val f s (kept (prec f) (a * 2 ^ low f) c) (drop (prec f) (a * 2 ^ low f) c) h)

-- ---- upwards: 2 ^ t times a fraction that is normal
round_up : (f : Format) (s : Bool) (a c t : ℕ) → 0 < c → prec f ≤ size (a * 2 ^ low f / c) → grid f a c * 2 ^ t < overflow f
    → round f s (a * 2 ^ t) c ≡ scale (pos t) (round f s a c)
round_up f s a c t C N h =
    let l = 2 ^ low f in
    let g = grid f a c in
    let r = round f s a c in
    let r' = round f s (a * 2 ^ t) c in
    let G : grid f (a * 2 ^ t) c ≡ g * 2 ^ t = grid_scale f a c t C N in
    let small : g < overflow f = lt_of_le_of_lt (le_trans (le_of_eq (sym (mul-one g))) (subst (λ (z : ℕ). g * 1 ≤ z) (mul_comm (2 ^ t) g) (le_trans (le_of_eq (mul_comm g 1)) (mul-le-mul_right g (pow_pos t))))) h in
    let x : HasValue (scale (pos t) r) s (g * 2 ^ t) (l * 1) = scale-val (pos t) r s g l (round_val f s a c small) in
    let y : HasValue r' s (g * 2 ^ t) l = subst (λ (z : ℕ). HasValue r' s z l) G (round_val f s (a * 2 ^ t) c (subst (λ (z : ℕ). z < overflow f) (sym G) h)) in
    unique r' (scale (pos t) r) s (g * 2 ^ t) l (pow_pos (low f)) (fits-written f r' (round-fits f s (a * 2 ^ t) c)) (scale-written (pos t) r (fits-written f r (round-fits f s a c)))
    y (subst (λ (z : ℕ). HasValue (scale (pos t) r) s (g * 2 ^ t) z) (mul-one l) x)

-- ---- a rounded value of 2 ^ K units comes from a fraction of 2 ^ (K - 1) units at least
pub pow_le_back : (a l : ℕ) → 2 ^ a ≤ 2 ^ l → a ≤ l
pow_le_back a l h = le_of_suc-le-suc (lt_of_not-le (λ (g : suc l ≤ a). lt_irrefl (2 ^ l) (lt_of_lt_of_le (pow-lt g) h)))

whole : (z p : ℕ) → p ≤ z → p + (z - p) ≡ z
whole z p h = omega arith

grid-le : (f : Format) (a c : ℕ) → prec f ≤ size (a * 2 ^ low f / c) → grid f a c ≤ 2 ^ size (a * 2 ^ low f / c)
grid-le f a c N =
    let p = prec f in
    let n = a * 2 ^ low f in
    let k = drop p n c in
    let u = c * 2 ^ k in
    let q : kept p n c ≤ 2 ^ p = le_trans (nearest-le (n / u) (compare (n % u * 2) u)) (subst (λ (x : ℕ). x < 2 ^ p) (div-div-eq-div-mul n c (2 ^ k)) (kept-lt p (n / c))) in
    le_trans (mul-le-mul_right (2 ^ k) q) (le_of_eq (sym (pow-add 2 p k) ∙ ap (λ (x : ℕ). 2 ^ x) (whole (size (n / c)) p N)))

last : (K z : ℕ) → 0 < K → K ≤ z → K - 1 < z
last K z h k = omega arith

split1 : (p t : ℕ) → 0 < p → p + t - 1 ≡ p - 1 + t
split1 p t h = omega arith

prec-pos : (f : Format) → 0 < prec f
prec-pos f = lib.Ieee.Fits.two-le_pos (prec f) (lib.Ieee.Fits.two f)

normal-before : (f : Format) (a c : ℕ) → 2 ^ prec f ≤ grid f a c → prec f ≤ size (a * 2 ^ low f / c)
normal-before f a c h = normal_of_rounded f a c (lt_of_lt_of_le (pow-lt (pred (prec f) (prec-pos f))) h)
  where
    pred : (p : ℕ) → 0 < p → p - 1 < p
    pred p h = omega arith

-- where the rounded value over 2 ^ t is still normal, the fraction over 2 ^ t is
still-normal : (f : Format) (a c t : ℕ) → 0 < c → 2 ^ (prec f + t) ≤ grid f a c → prec f ≤ size (a * 2 ^ low f / (c * 2 ^ t))
still-normal f a c t C h =
    let p = prec f in
    let n = a * 2 ^ low f in
    let N : p ≤ size (n / c) = normal-before f a c (le_trans (pow_mono (grow p t)) h) in
    let K : p + t ≤ size (n / c) = pow_le_back (p + t) (size (n / c)) (le_trans h (grid-le f a c N)) in
    let r : 2 ^ (p + t - 1) ≤ n / c = size_reaches (n / c) (p + t - 1) (last (p + t) (size (n / c)) (lt_of_lt_of_le (prec-pos f) (grow p t)) K) in
    normal_of_fraction f a (c * 2 ^ t) (mul-pos C (pow_pos t))
    (le_trans (le_of_eq (fold (2 ^ (p - 1)) (2 ^ t) (2 ^ (p + t - 1)) (ap (λ (z : ℕ). 2 ^ z) (split1 p t (prec-pos f)) ∙ pow-add 2 (p - 1) t))) ((native.Mathlib.Nat.le-div_iff_mul-le C).0 r))
  where
    grow : (p t : ℕ) → p ≤ p + t
    grow p t = omega arith

    fold : (x y z : ℕ) → z ≡ x * y → x * (c * y) ≡ z * c
    fold x y z e = omega (arith, ap (λ (i : ℕ). i * c) e)

-- ---- downwards: a fraction over 2 ^ suc t
round-down : (f : Format) (s : Bool) (a c t : ℕ) → 0 < c → Normal f (round f s a c) → 2 ^ (prec f + suc t) ≤ grid f a c
    → round f s a (c * 2 ^ suc t) ≡ scale (negsuc t) (round f s a c)
round-down f s a c t C N h =
    let k = suc t in
    let b = c * 2 ^ k in
    let B : 0 < b = mul-pos C (pow_pos k) in
    let M : prec f ≤ size (a * 2 ^ low f / b) = still-normal f a c k C h in
    let same : round f s (a * 2 ^ k) b ≡ round f s a c = round_same f s (a * 2 ^ k) b a c B C (regroup (2 ^ k)) in
    let fine : grid f a b * 2 ^ k < overflow f = subst (λ (z : ℕ). z < overflow f) (grid_scale f a b k B M) (round_under f s (a * 2 ^ k) b (prec f) (low f + suc (emax f)) (subst (Normal f) (sym same) N)) in
    let x : round f s a c ≡ scale (pos k) (round f s a b) = sym same ∙ round_up f s a b k B M fine in
    sym (ap (scale (negsuc t)) x ∙ scale-scale (negsuc t) (pos k) (round f s a b) ∙ ap (λ (z : ℤ). scale z (round f s a b)) (+ℤ_invr (pos k)) ∙ scale-zero (round f s a b))
  where
    regroup : (p : ℕ) → a * p * c ≡ a * (c * p)
    regroup p = omega arith

-- ---- both ways
pub round-scale : (f : Format) (s : Bool) (a c : ℕ) (u : ℤ) → 0 < c → Normal f (round f s a c) → Normal f (scale u (round f s a c))
    → round f s (a * up u) (c * down u) ≡ scale u (round f s a c)
round-scale f s a c (pos t) C N M =
    let P = prec f in
    let H = low f + suc (emax f) in
    let l = 2 ^ low f in
    let L : 0 < l = pow_pos (low f) in
    let g = grid f a c in
    let r = round f s a c in
    let v : HasValue r s g l = round_val f s a c (round_under f s a c P H N) in
    ap (λ (z : ℕ). round f s (a * 2 ^ t) z) (mul-one c)
    ∙ round_up f s a c t C (normal-before f a c (le_of_mul-le-mul_right (within-le f P H r s g l v N) L))
    (lt_of_mul-lt-mul_right l (subst (λ (z : ℕ). g * 2 ^ t * l < 2 ^ H * z) (mul-one l) (within-lt f P H (scale (pos t) r) s (g * 2 ^ t) (l * 1) (mul-pos L (pow_pos 0)) (scale-val (pos t) r s g l v) M)))
round-scale f s a c (negsuc t) C N M =
    let P = prec f in
    let H = low f + suc (emax f) in
    let l = 2 ^ low f in
    let L : 0 < l = pow_pos (low f) in
    let g = grid f a c in
    let r = round f s a c in
    let v : HasValue r s g l = round_val f s a c (round_under f s a c P H N) in
    let big : 2 ^ P * (l * 2 ^ suc t) ≤ g * 1 * l = within-le f P H (scale (negsuc t) r) s (g * 1) (l * 2 ^ suc t) (scale-val (negsuc t) r s g l v) M in
    ap (λ (z : ℕ). round f s z (c * 2 ^ suc t)) (mul-one a)
    ∙ round-down f s a c t C N (le_trans (le_of_eq (pow-add 2 P (suc t))) (le_of_mul-le-mul_right (regroup (2 ^ P) l (2 ^ suc t) g big) L))
  where
    regroup : (x l y g : ℕ) → x * (l * y) ≤ g * 1 * l → x * y * l ≤ g * l
    regroup x l y g h = omega (arith, h)

-- of any fraction that is 2 ^ u times as large
pub round-scaled : (f : Format) (s : Bool) (a c a' c' : ℕ) (u : ℤ) → 0 < c → 0 < c' → a' * (c * down u) ≡ a * up u * c' → Normal f (round f s a c) → Normal f (scale u (round f s a c))
    → round f s a' c' ≡ scale u (round f s a c)
round-scaled f s a c a' c' u C C' h N M = round_same f s a' c' (a * up u) (c * down u) C' (mul-pos C (down_pos u)) h ∙ round-scale f s a c u C N M
