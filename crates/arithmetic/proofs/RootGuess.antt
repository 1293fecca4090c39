-- A guess of a root that is checked: what its square leaves, from the squares of its halves, and when it is the root.
use mathlib.Core.Path.{◌≡◌, subst}
use Prim.Native.Nat.{ℕ, ◌+◌, ◌-◌, ◌*◌, ◌/◌, ◌%◌, ◌^◌, ◌≤◌, ◌<◌}
use native.Mathlib.Nat.{mul-le-mul, div-add-mod'}
use native.Mathlib.Omega.{arith}
use lib.Pow.{shl_lt}
use Rattle.arithmetic.specs.SquareRoot.{whole_root}
use Rattle.arithmetic.proofs.RootWhole.{root-roots, roots-unique}

-- the product of two halves has 54 digits
pub halves : (x y : ℕ) → x < 2 ^ 27 → y < 2 ^ 27 → x * y < 2 ^ 54
halves x y h k =
    let a : x ≤ 134217727 = omega arith in
    let b : y ≤ 134217727 = omega arith in
    let p : x * y ≤ 134217727 * 134217727 = mul-le-mul a b in
    omega arith

-- the square of the halves h and l taken off a * 2 ^ 44 from the top: first h's, then twice the product, then l's
pub remains : (a h l d e r : ℕ) → d + h * h * 1024 ≡ a → e + h * l ≡ d * 65536 → r + l * l ≡ e * 268435456 → (h * 2 ^ 27 + l) * (h * 2 ^ 27 + l) + r ≡ a * 2 ^ 44
remains a h l d e r p q s = omega arith

pub left_is : (a g : ℕ) → g / 2 ^ 27 * (g / 2 ^ 27) * 1024 ≤ a → g / 2 ^ 27 * (g % 2 ^ 27) ≤ (a - g / 2 ^ 27 * (g / 2 ^ 27) * 1024) * 65536 → g % 2 ^ 27 * (g % 2 ^ 27) ≤ ((a - g / 2 ^ 27 * (g / 2 ^ 27) * 1024) * 65536 - g / 2 ^ 27 * (g % 2 ^ 27)) * 268435456 → g * g + (((a - g / 2 ^ 27 * (g / 2 ^ 27) * 1024) * 65536 - g / 2 ^ 27 * (g % 2 ^ 27)) * 268435456 - g % 2 ^ 27 * (g % 2 ^ 27)) ≡ a * 2 ^ 44
left_is a g p q s =
    let h = g / 2 ^ 27 in
    let l = g % 2 ^ 27 in
    let d = a - h * h * 1024 in
    let e = d * 65536 - h * l in
    let r = e * 268435456 - l * l in
    subst (λ (x : ℕ). x * x + r ≡ a * 2 ^ 44) (div-add-mod' g (2 ^ 27)) (remains a h l d e r (omega (arith, p)) (omega (arith, q)) (omega (arith, s)))

-- k places on from g
pub kept : (a g k rem : ℕ) → a < 2 ^ 64 → g * g + rem ≡ a * 2 ^ 44 → k * (g * 2 + k) ≤ rem → rem ≤ k * (g * 2 + k) + g * 2 + k * 2 → g + k ≡ whole_root 54 (a * 2 ^ 44)
kept a g k rem A e h l = roots-unique (a * 2 ^ 44) (g + k) (whole_root 54 (a * 2 ^ 44)) (omega arith, omega arith) (root-roots 54 (a * 2 ^ 44) (shl_lt 64 44 A))

-- the tests' own numbers stay small
pub places : (w k : ℕ) → w < 2 ^ 55 → k ≤ 4 → k * (w + k) < 2 ^ 58
places w k h l =
    let q : w + k ≤ w + 4 = omega arith in
    let p : k * (w + k) ≤ 4 * (w + 4) = mul-le-mul l q in
    omega arith
