-- Laws of the places in the lent slices: squares and parts lie in them, and apart; and of stacks of matrices in one list.
use Prim.Native.Nat.{ℕ, zero, suc, ◌+◌, ◌-◌, ◌*◌, ◌<◌, ◌≤◌}
use native.Mathlib.Omega.{arith}
use native.Mathlib.Decide.{dec_lt}
use native.Mathlib.Nat.{mul-le-mul_right, suc-mul}
use mathlib.Core.Path.{◌≡◌, sym, ap, ◌∙◌}
use mathlib.Core.List.{List}
use mathlib.Core.Logic.{inl, inr}
use lib.ListN.{get_or, length, length-replicate, get_or-replicate}
use lib.Seq.{ext_get_or}
use lib.Ieee.{Float, nan}
use Rattle.arithmetic.specs.Numbers.{plus_zero}
use Rattle.algebra_large.specs.joints.Slab.{put_row, Holds, Apart}
use Rattle.algebra_large.proofs.SlabLaws.{put_row-at, length-put_row}
use Rattle.adjustment_work.specs.joints.Work.{square, part, zeros}

-- block k of six blocks of b elements ends in the list
pub block_in : (b k len : ℕ) → 6 * b ≤ len → k < 6 → k * b + b ≤ len
block_in b k len h l = omega (arith, suc-mul k b, mul-le-mul_right b l)

-- n rows of stride s fit a block that has s rows or more of them
pub rows_in : (n m s : ℕ) → n ≤ m → n * s ≤ m * s
rows_in n m s h = mul-le-mul_right s h

-- two blocks are apart
pub blocks-apart : (b j k u v : ℕ) → (j ≡ k → ⊥) → u ≤ b → v ≤ b → Apart (j * b) u (k * b) v
blocks-apart b j k u v o hu hv = go (dec_lt j k)
  where
    go : Dec (j < k) → Apart (j * b) u (k * b) v
    go (yes h) = record { apart = inl (omega (arith, suc-mul j b, mul-le-mul_right b h)) }
    go (no h) =
        let l : k < j = omega arith in
        record { apart = inr (omega (arith, suc-mul k b, mul-le-mul_right b l)) }

-- the squares of the work slice
module _ (s n len : ℕ) (hn : n ≤ s) (h : 6 * (s * s) ≤ len) where
  pub square-holds : (k : ℕ) → k < 6 → Holds s (square s k) n n len
  square-holds k l = record { wide = hn; fits = omega (arith, block_in (s * s) k len h l, rows_in n s s hn) }

  -- the n rows of twice the stride in squares 4 and 5
  pub wide-holds : Holds (s + s) (square s 4) n (n + n) len
  wide-holds = record { wide = omega arith; fits = omega (arith, rows_in n s s hn, h) }

-- a square where a call found it
pub square-held : (s n k a len : ℕ) → n ≤ s → 6 * (s * s) ≤ len → k < 6 → a ≡ square s k → Holds s a n n len
square-held s n k a len hn h l e = rw e (square-holds s n len hn h k l)

-- the same, of the square that the call was asked for
pub square-found : (s n k a len : ℕ) → n ≤ s → 6 * (s * s) ≤ len → a ≡ square s k → k < 6 → Holds s a n n len
square-found s n k a len hn h e l = square-held s n k a len hn h l e

pub squares-apart : (s n j k a b : ℕ) → n ≤ s → (j ≡ k → ⊥) → a ≡ square s j → b ≡ square s k → Apart a (n * s) b (n * s)
squares-apart s n j k a b hn o ea eb = rw (ea, eb) (blocks-apart (s * s) j k (n * s) (n * s) o (rows_in n s s hn) (rows_in n s s hn))

pub wide-held : (s n a len : ℕ) → n ≤ s → 6 * (s * s) ≤ len → a ≡ square s 4 → Holds (s + s) a n (n + n) len
wide-held s n a len hn h e = rw e (wide-holds s n len hn h)

pub wide-apart-at : (s n k a b : ℕ) → n ≤ s → k < 4 → a ≡ square s k → b ≡ square s 4 → Apart a (n * s) b (n * (s + s))
wide-apart-at s n k a b hn l ea eb = rw (ea, eb) (record { apart = inl (omega (arith, suc-mul k (s * s), mul-le-mul_right (s * s) l, rows_in n s s hn)) })

pub wide-apart-from : (s n k a b : ℕ) → n ≤ s → k < 4 → a ≡ square s k → b ≡ square s 4 → Apart b (n * (s + s)) a (n * s)
wide-apart-from s n k a b hn l ea eb = rw (ea, eb) (record { apart = inr (omega (arith, suc-mul k (s * s), mul-le-mul_right (s * s) l, rows_in n s s hn)) })

-- Zeros.

pub length-zeros : (len : ℕ) → length (zeros len) ≡ len
unfolding zeros
length-zeros len = length-replicate len plus_zero

pub zeros-at : (len x : ℕ) → x < len → get_or (zeros len) x nan ≡ plus_zero
unfolding zeros
zeros-at len x h = get_or-replicate len x plus_zero nan h

-- a list of which every element was cleared
pub all-cleared : (xs ys : List Float) → ys ≡ put_row 0 (length xs) (λ j. plus_zero) xs → ys ≡ zeros (length xs)
all-cleared xs ys e =
    let l : length ys ≡ length xs = ap length e ∙ length-put_row 0 (length xs) (λ j. plus_zero) xs in
    ext_get_or nan ys (zeros (length xs)) (l ∙ sym (length-zeros (length xs)))
    (λ x h.
    let z : 0 + x ≡ x = omega arith in
    ap (λ (zs : List Float). get_or zs x nan) e ∙ (rw z at (put_row-at 0 (length xs) (λ j. plus_zero) xs x (omega arith) (omega arith)))
    ∙ sym (zeros-at (length xs) x (omega arith)))

pub rest-cleared : (s a : ℕ) (xs ys : List Float) → a ≡ square s 2 → ys ≡ put_row a (length xs - a) (λ j. plus_zero) xs
    → ys ≡ put_row (square s 2) (length xs - square s 2) (λ j. plus_zero) xs
rest-cleared s a xs ys e ey = ey ∙ ap (λ (b : ℕ). put_row b (length xs - b) (λ j. plus_zero) xs) e

-- the stride is no more than a square
pub side-in : (s : ℕ) → s ≤ s * s
side-in zero = omega arith
side-in (suc s) = omega (arith, suc-mul s (suc s))

-- the parts of the narrow slice
pub part_held : (s n p k a len : ℕ) → n ≤ s → p ≤ 6 → 6 * (6 * s) ≤ len → k < 6 → a ≡ part s k → Holds 6 a n p len
part_held s n p k a len hn hp h l e = rw e (record { wide = hp; fits = omega (arith, block_in (6 * s) k len h l) })

-- p rows of n in part 5
pub turned-held : (s n p a len : ℕ) → n ≤ s → p ≤ 6 → 6 * (6 * s) ≤ len → a ≡ part s 5 → Holds n a p n len
turned-held s n p a len hn hp h e = rw e (record { wide = omega arith; fits = omega (arith, rows_in p 6 n hp) })

pub turned_apart : (s n p k a b : ℕ) → n ≤ s → p ≤ 6 → k < 5 → a ≡ part s 5 → b ≡ part s k → Apart a (p * n) b (n * 6)
turned_apart s n p k a b hn hp l ea eb = rw (ea, eb) (record { apart = inr (omega (arith, suc-mul k (6 * s), mul-le-mul_right (6 * s) l)) })
