-- Laws of the blocks: the columns and the thetas before a block grow with it, and a parameter's block is the one that holds it.
use Prim.Native.Nat.{ℕ, zero, suc, ◌+◌, ◌-◌, ◌*◌, ◌/◌, ◌≤◌, ◌<◌}
use native.Mathlib.Omega.{arith}
use native.Mathlib.Numerals.{add-one}
use native.Mathlib.Decide.{dec_le, dec_lt}
use native.Mathlib.Nat.{mul-le-mul}
use mathlib.Core.Path.{◌≡◌, refl, ap, ◌∙◌}
use mathlib.Core.Bool.{cond}
use mathlib.Core.List.{List}
use lib.Dec.{leb}
use borrow.Author.Tests.{le-leb, lt-leb}
use Rattle.algebra.specs.Fold.{fold}
use Rattle.algebra.proofs.FoldLaws.{fold_more, fold-steps}
use Rattle.adjustment.specs.declared.Block.{Block}
use Rattle.adjustment.specs.declared.Place.{Place}
use Rattle.adjustment.specs.Blocks.{block_at, places, columns_before, places_before, block_of, triangle_column, triangle_row, place_of}
use Rattle.adjustment.specs.Information.{packed}
use Rattle.adjustment.proofs.PackedLaws.{diagonal-none, diagonal-next, diagonal-last}
use Rattle.adjustment_covariance.specs.joints.Bounds.{Sound, Placed}

-- sums of f, block by block, grow
pub grows : (f : ℕ → ℕ) (b m : ℕ) → b ≤ m → fold 0 b (λ i s. s + f i) 0 ≤ fold 0 m (λ i s. s + f i) 0
grows f b zero h = let e : b ≡ 0 = omega arith in rw e (omega arith)
grows f b (suc m) h = go (grows f b m) (dec_le b m)
  where
    more : fold 0 (suc m) (λ i s. s + f i) 0 ≡ fold 0 m (λ i s. s + f i) 0 + f m
    more = rw (← add-one m) (fold_more 0 m (λ i s. s + f i) 0 (omega arith))

    go : (b ≤ m → fold 0 b (λ i s. s + f i) 0 ≤ fold 0 m (λ i s. s + f i) 0) → Dec (b ≤ m) → fold 0 b (λ i s. s + f i) 0 ≤ fold 0 (suc m) (λ i s. s + f i) 0
    go ih (yes l) = omega (arith, ih l, more)
    go ih (no l) = let e : b ≡ suc m = omega arith in rw e (omega arith)

module _ (blocks : List Block) where
  pub columns-more : (b : ℕ) → columns_before blocks (b + 1) ≡ columns_before blocks b + (block_at blocks b).groups * (block_at blocks b).effects
  unfolding columns_before
  columns-more b = fold_more 0 b (λ i s. s + (block_at blocks i).groups * (block_at blocks i).effects) 0 (omega arith)

  pub places-more : (b : ℕ) → places_before blocks (b + 1) ≡ places_before blocks b + places (block_at blocks b)
  unfolding places_before
  places-more b = fold_more 0 b (λ i s. s + places (block_at blocks i)) 0 (omega arith)

  pub places-none : places_before blocks 0 ≡ 0
  unfolding places_before fold
  places-none = refl

  pub columns-grow : (b m : ℕ) → b ≤ m → columns_before blocks b ≤ columns_before blocks m
  unfolding columns_before
  columns-grow b m h = grows (λ i. (block_at blocks i).groups * (block_at blocks i).effects) b m h

  pub places-grow : (b m : ℕ) → b ≤ m → places_before blocks b ≤ places_before blocks m
  unfolding places_before
  places-grow b m h = grows (λ i. places (block_at blocks i)) b m h

-- what holds of the blocks holds of the first of them
pub sound-less : {blocks : List Block} {count : ℕ} (b : ℕ) → Sound blocks count → b ≤ count → Sound blocks b
sound-less {blocks} {count} b s h =
    record {
      few = omega (arith, s.few);
      small = λ i l. s.small i (omega arith);
      counted = omega (arith, s.counted, columns-grow blocks b count h);
      thetas = omega (arith, s.thetas, places-grow blocks b count h);
    }

-- a block's own columns and thetas are within what all blocks have
pub columns-room : {blocks : List Block} {count : ℕ} (b : ℕ) → Sound blocks count → b < count
    → columns_before blocks b + (block_at blocks b).groups * (block_at blocks b).effects ≤ 18446744073709551615
columns-room {blocks} {count} b s h = omega (arith, s.counted, columns-more blocks b, columns-grow blocks (b + 1) count (omega arith))

pub places-room : {blocks : List Block} {count : ℕ} (b : ℕ) → Sound blocks count → b < count → places_before blocks b + places (block_at blocks b) ≤ 3
places-room {blocks} {count} b s h = omega (arith, s.thetas, places-more blocks b, places-grow blocks (b + 1) count (omega arith))

-- a block of at most m effects
pub square-small : (m k : ℕ) → k ≤ m → k * (k + 1) ≤ m * (m + 1)
square-small m k h = mul-le-mul h (omega arith)

-- The last of k whose start is not above r: a parameter's block, and a place's column. The first starts at 0.
pub record Found (start : ℕ → ℕ) (r k found : ℕ) : Type 0 where
  pub before : 1 ≤ k → found < k
  pub first : 1 ≤ k → start found ≤ r
  pub last : (b : ℕ) → found < b → b < k → r < start b

module _ (start : ℕ → ℕ) (none : start 0 ≡ 0) (r : ℕ) where
  found-more : (b found : ℕ) → Found start r b found → Dec (start b ≤ r) → Found start r (b + 1) (cond (leb (start b) r) b found)
  found-more b found p (yes h) = rw (le-leb (start b) r h) (record { before = λ x. omega arith; first = λ x. h; last = λ c x y. absurd (omega arith) })
  found-more b found p (no h) =
      rw (lt-leb (start b) r (omega arith))
      (record { before = λ x. omega (arith, p.before (some (dec_le 1 b))); first = λ x. p.first (some (dec_le 1 b)); last = λ c x y. latest c x y (dec_lt c b) })
    where
      some : Dec (1 ≤ b) → 1 ≤ b
      some (yes l) = l
      some (no l) = let e : b ≡ 0 = omega arith in absurd (omega (arith, ap start e, none))

      latest : (c : ℕ) → found < c → c < b + 1 → Dec (c < b) → r < start c
      latest c x y (yes l) = p.last c x l
      latest c x y (no l) = let e : c ≡ b = omega arith in rw e (omega arith)

  pub last_found : (k : ℕ) → Found start r k (fold 0 k (λ b found. cond (leb (start b) r) b found) 0)
  last_found k =
      fold-steps (Found start r) 0 k (λ b found. cond (leb (start b) r) b found) 0 (omega arith)
      (record { before = λ h. omega arith; first = λ h. absurd (omega arith); last = λ b h l. absurd (omega arith) })
      (λ b h l found p. found-more b found p (dec_le (start b) r))

pub block-found : (blocks : List Block) (count r : ℕ) → Found (places_before blocks) r count (block_of blocks count r)
unfolding block_of
block-found blocks count r = last_found (places_before blocks) (places-none blocks) r count

-- place q of a triangle of k effects stands in it: its column, whose diagonal is not above q, and its row
pub record InTriangle (k q : ℕ) : Type 0 where
  pub column : triangle_column k q < k
  pub diagonal : packed k (triangle_column k q) (triangle_column k q) ≤ q
  pub row : triangle_row k q < k

pub in-triangle : (k q : ℕ) → q < k * (k + 1) / 2 → InTriangle k q
in-triangle k q h = go (triangle_column k q) (last_found (λ c. packed k c c) (diagonal-none k) q k) (some (dec_le 1 k))
  where
    some : Dec (1 ≤ k) → 1 ≤ k
    some (yes l) = l
    some (no l) = let e : k ≡ 0 = omega arith in absurd (let x : q < 0 * (0 + 1) / 2 = rw e at h in omega arith)

    below : (c : ℕ) → Found (λ c. packed k c c) q k c → c < k → packed k c c ≤ q → Dec (c + 1 < k) → c + (q - packed k c c) < k
    below c f l d (yes m) = omega (arith, f.last (c + 1) (omega arith) m, diagonal-next k c m)
    below c f l d (no m) = omega (arith, diagonal-last k c l (omega arith))

    go : (c : ℕ) → Found (λ c. packed k c c) q k (triangle_column k q) → 1 ≤ k → InTriangle k q
    go c f l =
        let inside : triangle_column k q < k = f.before l in
        let over : packed k (triangle_column k q) (triangle_column k q) ≤ q = f.first l in
        record { column = inside; diagonal = over; row = below (triangle_column k q) f inside over (dec_lt (triangle_column k q + 1) k) }

-- the block of a parameter is one of the blocks, and the parameter is one of its own
pub record Holding (blocks : List Block) (count r b : ℕ) : Type 0 where
  pub before : b < count
  pub first : places_before blocks b ≤ r
  pub own : r < places_before blocks b + places (block_at blocks b)

pub block-holds : (blocks : List Block) (count r b : ℕ) → r < places_before blocks count → b ≡ block_of blocks count r → Holding blocks count r b
block-holds blocks count r b h e =
    let p : Found (places_before blocks) r count b = rw e (block-found blocks count r) in
    let some : 1 ≤ count = at_least (dec_le 1 count) in
    let l : b < count = p.before some in
    record { before = l; first = p.first some; own = rw (← places-more blocks b) (next p l (dec_lt (b + 1) count)) }
  where
    at_least : Dec (1 ≤ count) → 1 ≤ count
    at_least (yes l) = l
    at_least (no l) = let e : count ≡ 0 = omega arith in absurd (omega (arith, ap (places_before blocks) e, places-none blocks))

    next : Found (places_before blocks) r count b → b < count → Dec (b + 1 < count) → r < places_before blocks (b + 1)
    next p l (yes x) = p.last (b + 1) (omega arith) x
    next p l (no x) = let e : b + 1 ≡ count = omega arith in rw e h

-- the parameter's place in its block's triangle
pub own-place : (blocks : List Block) (count r b first : ℕ) → r < places_before blocks count → b ≡ block_of blocks count r → first ≡ places_before blocks b
    → r - first < (block_at blocks b).effects * ((block_at blocks b).effects + 1) / 2
own-place blocks count r b first h eb ef = let g = block-holds blocks count r b h eb in omega (arith, g.own, g.first, ef)

-- the place of a parameter of a block that holds it
pub placed : (blocks : List Block) (count r b : ℕ) → Sound blocks count → Holding blocks count r b → (t : Place) → t.start ≡ columns_before blocks b
    → t.effects ≡ (block_at blocks b).effects → t.groups ≡ (block_at blocks b).groups → t.first ≡ places_before blocks b
    → t.row ≡ triangle_row (block_at blocks b).effects (r - places_before blocks b) → t.column ≡ triangle_column (block_at blocks b).effects (r - places_before blocks b) → Placed t (columns_before blocks count)
placed blocks count r b s h t es ee eg ef er ec =
    let k : ℕ = (block_at blocks b).effects in
    let m : k ≤ 2 = s.small b h.before in
    let below : places_before blocks b + k * (k + 1) / 2 ≤ 3 = places-room b s h.before in
    let i : InTriangle k (r - places_before blocks b) = in-triangle k (r - places_before blocks b) (omega (arith, h.own, h.first)) in
    record {
      small = rw ee m;
      high = rw (ee, er) i.row;
      wide = rw (ee, ec) i.column;
      thetas = rw (ee, ef) below;
      ends = rw (es, eg, ee) (omega (arith, columns-more blocks b, columns-grow blocks (b + 1) count (omega (arith, h.before))));
    }

-- a place that is made of its parts
module _ (blocks : List Block) (count r b first start row column : ℕ) (eb : b ≡ block_of blocks count r) (ef : first ≡ places_before blocks b)
    (es : start ≡ columns_before blocks b) (er : row ≡ triangle_row (block_at blocks b).effects (r - first)) (ec : column ≡ triangle_column (block_at blocks b).effects (r - first)) where
  abbrev pub made : Place
  made = record { start = start; effects = (block_at blocks b).effects; groups = (block_at blocks b).groups; first = first; row = row; column = column }

  pub made-is : made ≡ place_of blocks count r
  unfolding place_of
  made-is = rw (er, ec, es, ef, eb)

  pub made-placed : Sound blocks count → r < places_before blocks count → Placed made (columns_before blocks count)
  made-placed s h =
      placed blocks count r b s (block-holds blocks count r b h eb) made es refl refl ef (er ∙ ap (λ (x : ℕ). triangle_row (block_at blocks b).effects (r - x)) ef)
      (ec ∙ ap (λ (x : ℕ). triangle_column (block_at blocks b).effects (r - x)) ef)
