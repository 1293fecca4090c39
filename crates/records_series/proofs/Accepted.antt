-- What holds of a file that is not refused.
use Prim.Native.Nat.{ℕ, ◌+◌, ◌*◌, ◌<◌, ◌≤◌}
use mathlib.Core.Path.{◌≡◌, refl, ap, ◌∙◌}
use mathlib.Core.Bool.{Bool, true, false, not, ◌||◌, false≢true}
use mathlib.Core.List.{List}
use native.Mathlib.Omega.{arith}
use lib.Dec.{eqb, ltb}
use borrow.Author.Tests.{eqb-true, eqb-false, ltb-false, not-false}
use Rattle.records.specs.format.Scan.{any, total}
use Rattle.records.specs.format.Kinds as table
use Rattle.records.specs.readers.Shortened.{shortened}
use Rattle.records.specs.readers.Series.{specimens, coefficients, z_columns, block_count, thetas, contrast_rows, block_of, as_sent, design, sizes, bad_size, misfit}
use Rattle.adjustment.specs.Blocks.{places, no_block, block_at, columns_before, places_before}
use Rattle.records.proofs.format.ScanLaws.{or-false, any_none, fold-total}
use Rattle.records.proofs.readers.Limits.{series-below}
use Rattle.records.proofs.readers.AcceptedSeries.{AcceptedSeries}
use mathlib.Core.Logic.{◌⊎◌, inl, inr, ⊎_elim}
use Rattle.algebra.specs.Table.{row}
use Rattle.algebra.proofs.FoldLaws.{fold-ext}
use Rattle.algebra.proofs.TableLaws.{row_at}
use Rattle.adjustment.specs.declared.Block.{Block}

-- ---- its sizes: document 01, "Limits". w is the limit of specimens and of random columns.
pub record Limits (w : ℕ) (s : List ℕ) : Type 0 where
  pub specimen : 1 ≤ specimens s
  pub specimens : specimens s ≤ w
  pub coefficient : 1 ≤ coefficients s
  pub coefficients : coefficients s ≤ 6
  pub columns : z_columns s ≤ w
  pub blocks : block_count s ≤ 3
  pub thetas : thetas s ≤ 3
  pub contrasts : contrast_rows s ≤ 6

pub limits : (w : ℕ) → 1 ≤ w → (s : List ℕ) → AcceptedSeries w s → Limits w s
unfolding sizes table.limits
limits w l s a =
    let h = series-below w l s a.formed.good in
    record {
      specimen = omega arith;
      specimens = h.specimens;
      coefficient = omega arith;
      coefficients = h.coefficients;
      columns = h.columns;
      blocks = h.blocks;
      thetas = h.thetas;
      contrasts = h.contrasts;
    }

-- ---- its blocks: "each m ≥ 1 groups of k = 1 or 2 effects; block parameters at most 3 over all blocks", and they fit Z and the thetas
pub record Blocked (s : List ℕ) : Type 0 where
  pub effects : (b : ℕ) → b < block_count s → ((block_of s b).effects ≡ 1) ⊎ ((block_of s b).effects ≡ 2)
  pub groups : (b : ℕ) → b < block_count s → 1 ≤ (block_of s b).groups
  pub parameters : total (block_count s) (λ b. places (block_of s b)) ≤ 3
  pub columns : total (block_count s) (λ b. (block_of s b).groups * (block_of s b).effects) ≡ z_columns s
  pub thetas : thetas s ≡ total (block_count s) (λ b. places (block_of s b))

one-or-two : (k m : ℕ) → not (eqb k 1 || eqb k 2) || eqb m 0 ≡ false → ((k ≡ 1) ⊎ (k ≡ 2)) × (1 ≤ m)
one-or-two k m e =
    let o = or-false (not (eqb k 1 || eqb k 2)) (eqb m 0) e in
    (go (eqb k 1) refl (eqb k 2) refl (not-false (eqb k 1 || eqb k 2) o.0), let q = eqb-false m 0 o.1 in omega arith)
  where
    go : (a : Bool) → eqb k 1 ≡ a → (b : Bool) → eqb k 2 ≡ b → a || b ≡ true → (k ≡ 1) ⊎ (k ≡ 2)
    go true p b q h = inl (eqb-true k 1 p)
    go false p true q h = inr (eqb-true k 2 q)
    go false p false q h = absurd (false≢true h)

wrong : List ℕ → ℕ → Bool
wrong s b = not (eqb (block_of s b).effects 1 || eqb (block_of s b).effects 2) || eqb (block_of s b).groups 0

sized-none : (s : List ℕ) → bad_size s ≡ false → (any (block_count s) (wrong s) ≡ false) × (ltb 3 (total (block_count s) (λ b. places (block_of s b))) ≡ false)
unfolding bad_size wrong
sized-none s e = or-false (any (block_count s) (wrong s)) (ltb 3 (total (block_count s) (λ b. places (block_of s b)))) e

fits-none : (s : List ℕ) → misfit s ≡ false
    → (total (block_count s) (λ b. (block_of s b).groups * (block_of s b).effects) ≡ z_columns s) × (thetas s ≡ total (block_count s) (λ b. places (block_of s b)))
unfolding misfit
fits-none s e =
    let o = or-false (not (eqb (total (block_count s) (λ b. (block_of s b).groups * (block_of s b).effects)) (z_columns s))) (not (eqb (thetas s) (total (block_count s) (λ b. places (block_of s b))))) e in
    (eqb-true _ _ (not-false _ o.0), eqb-true _ _ (not-false _ o.1))

pub blocked : (w : ℕ) (s : List ℕ) → AcceptedSeries w s → Blocked s
unfolding wrong
blocked w s a =
    let o = sized-none s a.sized in
    let f = fits-none s a.fits in
    record {
      effects = λ b l. (one-or-two (block_of s b).effects (block_of s b).groups (any_none (block_count s) (wrong s) b l o.0)).0;
      groups = λ b l. (one-or-two (block_of s b).effects (block_of s b).groups (any_none (block_count s) (wrong s) b l o.0)).1;
      parameters = ltb-false 3 (total (block_count s) (λ b. places (block_of s b))) o.1;
      columns = f.0;
      thetas = f.1;
    }

-- ---- and as the adjustment asks it of the design's blocks
pub record SoundBlocks (s : List ℕ) : Type 0 where
  pub few : block_count s ≤ 3
  pub small : (b : ℕ) → b < block_count s → (block_at (design s).blocks b).effects ≤ 2
  pub counted : columns_before (design s).blocks (block_count s) ≡ z_columns s
  pub thetas : places_before (design s).blocks (block_count s) ≤ 3

pub block_read : (s : List ℕ) → block_count s ≤ 3 → (b : ℕ) → b < block_count s → block_at (row no_block 3 (block_count s) (block_of s)) b ≡ block_of s b
block_read s l b h = row_at no_block 3 (block_count s) (block_of s) b no_block h l

pub sound-blocks : (w : ℕ) → 1 ≤ w → (s : List ℕ) → AcceptedSeries w s → SoundBlocks s
unfolding design as_sent shortened columns_before places_before
sound-blocks w g s a =
    let l = (limits w g s a).blocks in
    let k = blocked w s a in
    record {
      few = l;
      small = λ b h. let q = ap (λ (x : Block). x.effects) (block_read s l b h) in ⊎_elim (λ r. omega arith) (λ r. omega arith) (k.effects b h);
      counted =
          fold-ext 0 (block_count s) (λ i x. x + (block_at (row no_block 3 (block_count s) (block_of s)) i).groups * (block_at (row no_block 3 (block_count s) (block_of s)) i).effects) (λ i x. x + (block_of s i).groups * (block_of s i).effects) 0 (λ i _ h x. ap (λ (y : Block). x + y.groups * y.effects) (block_read s l i h))
          ∙ fold-total (block_count s) (λ b. (block_of s b).groups * (block_of s b).effects)
          ∙ k.columns;
      thetas =
          let q = fold-ext 0 (block_count s) (λ i x. x + places (block_at (row no_block 3 (block_count s) (block_of s)) i)) (λ i x. x + places (block_of s i)) 0 (λ i _ h x. ap (λ (y : Block). x + places y) (block_read s l i h)) in
          let r = fold-total (block_count s) (λ b. places (block_of s b)) in
          let p = k.parameters in
          omega arith;
    }
