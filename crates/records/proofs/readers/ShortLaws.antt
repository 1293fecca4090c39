-- The shortened series of a file in tables: its rows are those of the kept specimens, cell by cell; and where no specimen is torn it is the series as sent.
use Prim.Native.Nat.{ℕ, zero, suc, ◌<◌, ◌≤◌}
use native.Mathlib.Omega.{arith}
use mathlib.Core.Path.{◌≡◌, refl, ap, sym, ◌∙◌}
use mathlib.Core.Bool.{Bool, true, false, not, ◌&&◌, cond}
use borrow.Author.Tests.{not-false, not-true}
use mathlib.Core.List.{List, [], ◌∷◌, map}
use lib.ListN.{length, get_or, set, replicate, length-replicate, length-map}
use lib.Seq.{ext_get_or}
use lib.Ieee.{Float, nan}
use Rattle.arithmetic.specs.Numbers.{plus_zero, is_zero}
use Rattle.algebra.specs.Fold.{fold}
use Rattle.algebra.specs.Table.{row, table}
use Rattle.algebra.specs.Small.{Rows}
use Rattle.algebra.proofs.FoldLaws.{fold-ext, length-span}
use Rattle.algebra.proofs.TableLaws.{row_at, length-table, table-row, table-ext}
use Rattle.adjustment.specs.Covariance.{Design}
use Rattle.records.specs.format.Scan.{any}
use Rattle.records.specs.format.File.{present}
use Rattle.records.specs.readers.Shortened.{torn, all_torn, kept_below, kept_specimens, shortened}
use Rattle.records.specs.readers.Series.{specimens, coefficients, z_columns, weight_count, cell_value, as_sent, design}
use Rattle.records.proofs.format.ScanLaws.{any_none, any_found}
use Rattle.records.proofs.readers.KeptLaws.{kept_at, kept-all, kept_self, kept-some}

-- ---- rows of a table that are picked by their numbers, and numbers of a row
length-row : {A : Type 0} (z : A) (n : ℕ) (f : ℕ → A) → length (row z n n f) ≡ n
unfolding row
length-row z n f = length-span 0 n f (replicate n z) ∙ length-replicate n z

-- rows that agree
pub row-ext : {A : Type 0} (z : A) (C n : ℕ) (f g : ℕ → A) → ((i : ℕ) → i < n → f i ≡ g i) → row z C n f ≡ row z C n g
unfolding row
row-ext {A} z C n f g h = fold-ext 0 n (λ k ys. set ys k (f k)) (λ k ys. set ys k (g k)) (replicate C z) (λ k _ l b. ap (λ (x : A). set b k x) (h k l))

-- every number of a list is below n
abbrev pub AllBelow : ℕ → List ℕ → Type 0
AllBelow n ks = (i : ℕ) → i < length ks → get_or ks i 0 < n

-- what is picked at number i, whatever stands past the end
picked-at : {A : Type 0} (f : ℕ → A) (ks : List ℕ) (i : ℕ) (d : A) → i < length ks → get_or (map f ks) i d ≡ f (get_or ks i 0)
picked-at f [] i d l = absurd (omega arith)
picked-at f (k ∷ ks) zero d l = refl
picked-at f (k ∷ ks) (suc i) d l = picked-at f ks i d (omega arith)

pub picked-table : {A : Type 0} (z : A) (n c : ℕ) (f : ℕ → ℕ → A) (ks : List ℕ) → AllBelow n ks
    → map (λ i. get_or (table z n c n c f) i []) ks ≡ table z (length ks) c (length ks) c (λ i. f (get_or ks i 0))
picked-table z n c f ks h =
    let m : ℕ = length ks in
    let a = length-map ks (λ i. get_or (table z n c n c f) i []) in
    let b = length-table z m c m c (λ i. f (get_or ks i 0)) in
    ext_get_or [] (map (λ i. get_or (table z n c n c f) i []) ks) (table z m c m c (λ i. f (get_or ks i 0))) (a ∙ sym b)
    (λ i l. picked-at (λ i. get_or (table z n c n c f) i []) ks i [] (omega arith) ∙ table-row z n c n c f (get_or ks i 0) (h i (omega arith)) (omega arith) ∙ sym (table-row z m c m c (λ i. f (get_or ks i 0)) i (omega arith) (omega arith)))

pub picked-row : {A : Type 0} (z d : A) (n : ℕ) (f : ℕ → A) (ks : List ℕ) → AllBelow n ks → map (λ i. get_or (row z n n f) i d) ks ≡ row z (length ks) (length ks) (λ i. f (get_or ks i 0))
picked-row z d n f ks h =
    let m : ℕ = length ks in
    let a = length-map ks (λ i. get_or (row z n n f) i d) in
    let b = length-row z m (λ i. f (get_or ks i 0)) in
    ext_get_or d (map (λ i. get_or (row z n n f) i d) ks) (row z m m (λ i. f (get_or ks i 0))) (a ∙ sym b)
    (λ i l. picked-at (λ i. get_or (row z n n f) i d) ks i d (omega arith) ∙ row_at z n n f (get_or ks i 0) d (h i (omega arith)) (omega arith) ∙ sym (row_at z m m (λ i. f (get_or ks i 0)) i d (omega arith) (omega arith)))

-- ---- a file's series
module _ (s : List ℕ) where
  abbrev pub kept_of : List ℕ
  kept_of = kept_specimens (as_sent s)

  -- specimen i is torn by its record
  pub torn-is : (i : ℕ) → i < specimens s → torn (as_sent s) i ≡ present s 5 && is_zero (cell_value s 5 i 0)
  unfolding torn as_sent
  torn-is i l = go (present s 5)
    where
      go : (b : Bool) → b && is_zero (get_or (row plus_zero (cond b (specimens s) 0) (cond b (specimens s) 0) (λ i. cell_value s 5 i 0)) i nan) ≡ b && is_zero (cell_value s 5 i 0)
      go true = ap is_zero (row_at plus_zero (specimens s) (specimens s) (λ i. cell_value s 5 i 0) i nan l (omega arith))
      go false = refl

  pub kept-below : AllBelow (specimens s) (kept_specimens (as_sent s))
  unfolding as_sent
  kept-below i l = (kept_at (torn (as_sent s)) (specimens s) i l).below

  -- the shortened series: X, Z and the weights of the kept specimens
  pub short_n : (design s).n ≡ length (kept_specimens (as_sent s))
  unfolding design shortened
  short_n = refl

  pub short-x : (design s).x ≡ table plus_zero (length (kept_specimens (as_sent s))) (coefficients s) (length (kept_specimens (as_sent s))) (coefficients s) (λ i. cell_value s 1 (get_or (kept_specimens (as_sent s)) i 0))
  unfolding design shortened as_sent
  short-x = picked-table plus_zero (specimens s) (coefficients s) (cell_value s 1) kept_of kept-below

  pub short-z : (design s).z ≡ table plus_zero (length (kept_specimens (as_sent s))) (z_columns s) (length (kept_specimens (as_sent s))) (z_columns s) (λ i. cell_value s 2 (get_or (kept_specimens (as_sent s)) i 0))
  unfolding design shortened as_sent
  short-z = picked-table plus_zero (specimens s) (z_columns s) (cell_value s 2) kept_of kept-below

  -- a weight for each of them, or none
  pub short-weights : (design s).weights ≡ row plus_zero (cond (present s 5) (length (kept_specimens (as_sent s))) 0) (cond (present s 5) (length (kept_specimens (as_sent s))) 0) (λ i. cell_value s 5 (get_or (kept_specimens (as_sent s)) i 0) 0)
  unfolding design shortened as_sent row fold
  short-weights = go (present s 5)
    where
      go : (b : Bool) → cond b (map (λ i. get_or (row plus_zero (cond b (specimens s) 0) (cond b (specimens s) 0) (λ i. cell_value s 5 i 0)) i nan) kept_of) []
          ≡ row plus_zero (cond b (length kept_of) 0) (cond b (length kept_of) 0) (λ i. cell_value s 5 (get_or kept_of i 0) 0)
      go true = picked-row plus_zero nan (specimens s) (λ i. cell_value s 5 i 0) kept_of kept-below
      go false = refl

  -- a series that is not all torn has a specimen that is kept
  pub short-some : all_torn (as_sent s) ≡ false → 1 ≤ length (kept_specimens (as_sent s))
  unfolding all_torn as_sent
  short-some e =
      let f = any_found (specimens s) (λ i. not (torn (as_sent s) i)) (not-false (any (specimens s) (λ i. not (torn (as_sent s) i))) e) in
      kept-some (torn (as_sent s)) (specimens s) f.index f.below (not-true (torn (as_sent s) f.index) f.passes)

  -- ---- no specimen is torn
  module _ (none : any (specimens s) (torn (as_sent s)) ≡ false) where
    stays : (i : ℕ) → i < specimens s → torn (as_sent s) i ≡ false
    stays i l = any_none (specimens s) (torn (as_sent s)) i l none

    all-kept : length (kept_specimens (as_sent s)) ≡ specimens s
    unfolding as_sent
    all-kept = kept-all (torn (as_sent s)) (specimens s) stays

    self : (i : ℕ) → i < specimens s → get_or (kept_specimens (as_sent s)) i 0 ≡ i
    unfolding as_sent
    self = kept_self (torn (as_sent s)) (specimens s) stays

    -- a table of the kept specimens' rows is that of all rows, and so are their weights
    whole-table : (c : ℕ) (f : ℕ → ℕ → Float) → table plus_zero (length kept_of) c (length kept_of) c (λ i. f (get_or kept_of i 0)) ≡ table plus_zero (specimens s) c (specimens s) c f
    whole-table c f =
        ap (λ (m : ℕ). table plus_zero m c m c (λ i. f (get_or kept_of i 0))) all-kept
        ∙ table-ext plus_zero (specimens s) c (specimens s) c (λ i. f (get_or kept_of i 0)) f (λ i j h l. ap (λ (k : ℕ). f k j) (self i h))

    whole_row : (b : Bool) (f : ℕ → Float) → row plus_zero (cond b (length kept_of) 0) (cond b (length kept_of) 0) (λ i. f (get_or kept_of i 0)) ≡ row plus_zero (cond b (specimens s) 0) (cond b (specimens s) 0) f
    unfolding row fold
    whole_row true f = ap (λ (m : ℕ). row plus_zero m m (λ i. f (get_or kept_of i 0))) all-kept ∙ row-ext plus_zero (specimens s) (specimens s) (λ i. f (get_or kept_of i 0)) f (λ i l. ap f (self i l))
    whole_row false f = refl

    -- the series as sent, but for what a torn specimen would change
    abbrev made : ℕ → Rows → Rows → List Float → Design
    made n x z weights = record { n = n; p = (as_sent s).p; x = x; z = z; weighted = (as_sent s).weighted; weights = weights; blocks = (as_sent s).blocks; count = (as_sent s).count; theta = (as_sent s).theta }

    short-made : design s ≡ made (length (kept_specimens (as_sent s))) (design s).x (design s).z (design s).weights
    unfolding design shortened
    short-made = refl

    sent-made : made (specimens s) (as_sent s).x (as_sent s).z (as_sent s).weights ≡ as_sent s
    unfolding as_sent
    sent-made = refl

    same-x : (design s).x ≡ (as_sent s).x
    unfolding as_sent
    same-x = short-x ∙ whole-table (coefficients s) (cell_value s 1)

    same-z : (design s).z ≡ (as_sent s).z
    unfolding as_sent
    same-z = short-z ∙ whole-table (z_columns s) (cell_value s 2)

    same-weights : (design s).weights ≡ (as_sent s).weights
    unfolding as_sent
    same-weights = short-weights ∙ whole_row (present s 5) (λ i. cell_value s 5 i 0)

    -- A SERIES WITHOUT A ZERO WEIGHT HAS THE DESIGN THAT IT HAD
    pub none-torn : design s ≡ as_sent s
    none-torn =
        short-made
        ∙ ap (λ (n : ℕ). made n (design s).x (design s).z (design s).weights) all-kept
        ∙ ap (λ (x : Rows). made (specimens s) x (design s).z (design s).weights) same-x
        ∙ ap (λ (z : Rows). made (specimens s) (as_sent s).x z (design s).weights) same-z
        ∙ ap (λ (w : List Float). made (specimens s) (as_sent s).x (as_sent s).z w) same-weights
        ∙ sent-made
