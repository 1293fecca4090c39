-- The loop that takes a root a binary digit at a time: what holds at each turn.
use mathlib.Core.Path.{◌≡◌, sym, ap, ◌∙◌, subst}
use Prim.Native.Nat.{ℕ, ◌+◌, ◌-◌, ◌*◌, ◌/◌, ◌%◌, ◌^◌, ◌≤◌, ◌<◌}
use native.Mathlib.Nat.{le_antisymm, pow-suc}
use native.Mathlib.Numerals.{add-one}
use native.Mathlib.Omega.{arith}
use lib.Pow.{pow_mono, shl_lt}
use Rattle.arithmetic.specs.SquareRoot.{whole_root}
use Rattle.arithmetic.proofs.RootWhole.{root-roots, roots-unique}

-- After i turns r is the root of the first 2 i digits of a (64 digits, and zeros after them), rem what is left of these, and `rest` the digits to come.
pub record Rooting (a i r rem rest : ℕ) : Type 0 where
  pub turns : i ≤ 54
  pub tail : rest < 2 ^ 64
  pub sum : (r * r + rem) * 2 ^ 64 + rest ≡ a * 4 ^ i
  pub close : rem ≤ 2 * r
  pub few : r < 2 ^ i
  pub small : r < 18014398509481984

pub start : (a : ℕ) → a < 2 ^ 64 → Rooting a 0 0 0 a
start a h = record { turns = omega arith; tail = h; sum = omega arith; close = omega arith; few = omega arith; small = omega arith }

-- the next two digits are brought down
abbrev pub brought : ℕ → ℕ → ℕ
brought rem rest = rem * 4 + rest / 2 ^ 62

module _ (a i r rem rest : ℕ) (h : Rooting a i r rem rest) (l : i < 54) where
  power : a * 4 ^ (i + 1) ≡ a * 4 ^ i * 4
  power = ap (λ (x : ℕ). a * 4 ^ x) (add-one i) ∙ ap (λ (x : ℕ). a * x) (pow-suc 4 i) ∙ omega arith

  double : 2 ^ (i + 1) ≡ 2 ^ i * 2
  double = ap (λ (x : ℕ). 2 ^ x) (add-one i) ∙ pow-suc 2 i

  turn : i + 1 ≤ 54
  turn = omega arith

  power_small : 2 ^ (i + 1) ≤ 2 ^ 54
  power_small = pow_mono turn

  pub taken : r * 4 + 1 ≤ brought rem rest → Rooting a (i + 1) (r * 2 + 1) (brought rem rest - (r * 4 + 1)) (rest * 2 ^ 2 % 2 ^ 64)
  taken g = record {
    turns = omega arith;
    tail = omega arith;
    sum = omega (arith, power, h.sum, g);
    close = omega (arith, h.close, g, h.tail);
    few = omega (arith, double, h.few);
    small = omega (arith, double, h.few, power_small);
  }

  pub passed : brought rem rest < r * 4 + 1 → Rooting a (i + 1) (r * 2) (brought rem rest) (rest * 2 ^ 2 % 2 ^ 64)
  passed g = record {
    turns = omega arith;
    tail = omega arith;
    sum = omega (arith, power, h.sum, g);
    close = omega (arith, g);
    few = omega (arith, double, h.few);
    small = omega (arith, double, h.few, power_small);
  }

pub ended : (a i r rem rest : ℕ) → a < 2 ^ 64 → Rooting a i r rem rest → 54 ≤ i → r ≡ whole_root 54 (a * 2 ^ 44)
ended a i r rem rest A h l =
    let e : i ≡ 54 = le_antisymm h.turns l in
    let s : (r * r + rem) * 2 ^ 64 + rest ≡ a * 4 ^ 54 = subst (λ (x : ℕ). (r * r + rem) * 2 ^ 64 + rest ≡ a * 4 ^ x) e h.sum in
    let t : r * r + rem ≡ a * 2 ^ 44 = cut (r * r + rem) rest a s h.tail in
    roots-unique (a * 2 ^ 44) r (whole_root 54 (a * 2 ^ 44)) (omega (arith, t), omega (arith, t, h.close)) (root-roots 54 (a * 2 ^ 44) (shl_lt 64 44 A))
  where
    cut : (x y a : ℕ) → x * 2 ^ 64 + y ≡ a * 4 ^ 54 → y < 2 ^ 64 → x ≡ a * 2 ^ 44
    cut x y a h k = omega arith

-- the same at equal numbers
pub same : {a i r rem rest r' rem' : ℕ} → Rooting a i r rem rest → r' ≡ r → rem' ≡ rem → Rooting a i r' rem' rest
same {a} {i} {r} {rem} {rest} {r'} {rem'} h p q = subst (λ (x : ℕ). Rooting a i x rem' rest) (sym p) (subst (λ (x : ℕ). Rooting a i r x rest) (sym q) h)
