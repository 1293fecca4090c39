-- Each cell has a slot of its own, for any table of kinds.
use Prim.Native.Nat.{ℕ, zero, suc, ◌+◌, ◌*◌, ◌<◌, ◌≤◌}
use mathlib.Core.Path.{◌≡◌, ap, sym, ◌∙◌}
use mathlib.Core.Bool.{Bool, true, false, not, ◌||◌, ◌&&◌}
use mathlib.Core.List.{List}
use native.Mathlib.Nat.{mul-le-mul}
use native.Mathlib.Omega.{arith}
use native.Mathlib.Decide.{dec_lt}
use lib.Dec.{eqb}
use borrow.Author.Tests.{eq-eqb, eqb-true, ltb-true, not-false}
use Rattle.records.specs.declared.Field.{Field}
use Rattle.records.specs.declared.Field.TheVariants.{Index, Number, Unused}
use Rattle.records.specs.declared.Kind.{Kind}
use Rattle.records.specs.format.Scan.{any}
use Rattle.records.specs.format.Kinds.{holds, width, index_of, Table, kind_at}
use Rattle.records.specs.format.Cells.{slots, first_slot, offset, slot}
use Rattle.records.specs.format.File.{kind_of, row_of, column_of, count_of, out_of, bad_record, beyond, cell_row, cell_column, cell_count, is_cell}
use Rattle.records.proofs.format.ScanLaws.{and-true, or-false, same_truth, any-split, total-more, total-le}

-- ---- a field
-- what it holds names a cell that it tells apart
pub holds-index : (f : Field) (x : ℕ) → holds f x ≡ true → index_of f x < width f
unfolding holds width index_of
holds-index (Index limit) x e = ltb-true x limit e
holds-index Number x e = omega arith
holds-index Unused x e = omega arith

-- a record within what a kind has: each field holds what it may
pub record Within (z : Kind) (s : List ℕ) (i : ℕ) : Type 0 where
  pub row : holds z.row (row_of s i) ≡ true
  pub column : holds z.column (column_of s i) ≡ true
  pub number : holds z.count (count_of s i) ≡ true

pub within : (z : Kind) (s : List ℕ) (i : ℕ) → out_of z s i ≡ false → Within z s i
unfolding out_of
within z s i e =
    let a = or-false (not (holds z.row (row_of s i)) || not (holds z.column (column_of s i))) (not (holds z.count (count_of s i))) e in
    let b = or-false (not (holds z.row (row_of s i))) (not (holds z.column (column_of s i))) a.0 in
    record { row = not-false _ b.0; column = not-false _ b.1; number = not-false _ a.1 }

-- a cell that the kind has
pub record Inside (z : Kind) (n r c : ℕ) : Type 0 where
  pub number : n < width z.count
  pub row : r < width z.row
  pub column : c < width z.column

-- a record that is not bad lies within the limits, and one that is not beyond within the sizes
pub good-within : (t : Table) (s : List ℕ) (i : ℕ) → bad_record t s i ≡ false → out_of (kind_at t (kind_of s i)) s i ≡ false
unfolding bad_record
good-within t s i e = (or-false _ _ (or-false _ _ e).0).0

-- and so it names a cell of its kind
pub sized_inside : (t : Table) (s : List ℕ) (i : ℕ) → beyond t s i ≡ false → Inside (kind_at t (kind_of s i)) (cell_count t s i) (cell_row t s i) (cell_column t s i)
unfolding beyond
sized_inside t s i e =
    let z = kind_at t (kind_of s i) in
    let w = within z s i e in
    record { number = holds-index z.count (count_of s i) w.number; row = holds-index z.row (row_of s i) w.row; column = holds-index z.column (column_of s i) w.column }

-- ---- two digits make a number below the product of their bases, and are read off it again
pub packed : (a A b B : ℕ) → a < A → b < B → a * B + b < A * B
packed a A b B l m = let z : (a + 1) * B ≤ A * B = mul-le-mul (omega arith) (omega arith) in omega arith

unpacked : (a b a' b' B : ℕ) → b < B → b' < B → a * B + b ≡ a' * B + b' → (a ≡ a') × (b ≡ b')
unpacked a b a' b' B l m e = go (dec_lt a a') (dec_lt a' a)
  where
    go : Dec (a < a') → Dec (a' < a) → (a ≡ a') × (b ≡ b')
    go (yes h) _ = let z : (a + 1) * B ≤ a' * B = mul-le-mul (omega arith) (omega arith) in absurd (omega arith)
    go (no h) (yes k) = let z : (a' + 1) * B ≤ a * B = mul-le-mul (omega arith) (omega arith) in absurd (omega arith)
    go (no h) (no k) = let q : a ≡ a' = omega arith in let z = ap (λ (x : ℕ). x * B) q in (q, omega arith)

pub offset-below : (z : Kind) (n r c : ℕ) → Inside z n r c → offset z n r c < slots z
unfolding offset slots
offset-below z n r c w =
    packed (n * width z.row + r) (width z.count * width z.row) c (width z.column) (packed n (width z.count) r (width z.row) w.number w.row) w.column

-- the same cell
pub record Same (n r c n' r' c' : ℕ) : Type 0 where
  pub number : n ≡ n'
  pub row : r ≡ r'
  pub column : c ≡ c'

offset-same : (z : Kind) (n r c n' r' c' : ℕ) → Inside z n r c → Inside z n' r' c' → offset z n r c ≡ offset z n' r' c' → Same n r c n' r' c'
unfolding offset
offset-same z n r c n' r' c' w w' e =
    let x = unpacked (n * width z.row + r) c (n' * width z.row + r') c' (width z.column) w.column w'.column e in
    let y = unpacked n r n' r' (width z.row) w.row w'.row x.0 in
    record { number = y.0; row = y.1; column = x.1 }

-- ---- a cell's slot
pub slot-below : (t : Table) (k n r c m : ℕ) → Inside (kind_at t k) n r c → k < m → slot t k n r c < first_slot t m
unfolding slot first_slot
slot-below t k n r c m w l =
    let a = offset-below (kind_at t k) n r c w in
    let b = total-more k (λ j. slots (kind_at t j)) in
    let d = total-le (k + 1) m (λ j. slots (kind_at t j)) (omega arith) in
    omega arith

slot-from : (t : Table) (k n r c : ℕ) → first_slot t k ≤ slot t k n r c
unfolding slot
slot-from t k n r c = omega arith

slot-cells : (t : Table) (k n r c n' r' c' : ℕ) → Inside (kind_at t k) n r c → Inside (kind_at t k) n' r' c' → slot t k n r c ≡ slot t k n' r' c' → Same n r c n' r' c'
unfolding slot
slot-cells t k n r c n' r' c' w w' e = offset-same (kind_at t k) n r c n' r' c' w w' (omega arith)

-- two cells of one slot are the same cell
pub slot_same : (t : Table) (k n r c k' n' r' c' : ℕ) → Inside (kind_at t k) n r c → Inside (kind_at t k') n' r' c' → slot t k n r c ≡ slot t k' n' r' c' → (k ≡ k') × Same n r c n' r' c'
slot_same t k n r c k' n' r' c' w w' e = go (dec_lt k k') (dec_lt k' k)
  where
    go : Dec (k < k') → Dec (k' < k) → (k ≡ k') × Same n r c n' r' c'
    go (yes h) _ = let a = slot-below t k n r c k' w h in let b = slot-from t k' n' r' c' in absurd (omega arith)
    go (no h) (yes g) = let a = slot-below t k' n' r' c' k w' g in let b = slot-from t k n r c in absurd (omega arith)
    go (no h) (no g) =
        let q : k ≡ k' = omega arith in
        let v : Inside (kind_at t k') n r c = rw q at w in
        let f : slot t k' n r c ≡ slot t k' n' r' c' = sym (ap (λ (j : ℕ). slot t j n r c) q) ∙ e in
        (q, slot-cells t k' n r c n' r' c' v w' f)

-- ---- record i names the cell
pub record Names (t : Table) (s : List ℕ) (k n r c i : ℕ) : Type 0 where
  pub kind : kind_of s i ≡ k
  pub row : cell_row t s i ≡ r
  pub number : cell_count t s i ≡ n
  pub column : cell_column t s i ≡ c

pub cell-names : (t : Table) (s : List ℕ) (k n r c i : ℕ) → is_cell t s k n r c i ≡ true → Names t s k n r c i
unfolding is_cell
cell-names t s k n r c i e =
    let f = and-true (eqb (kind_of s i) k && eqb (cell_row t s i) r && eqb (cell_count t s i) n) (eqb (cell_column t s i) c) e in
    let g = and-true (eqb (kind_of s i) k && eqb (cell_row t s i) r) (eqb (cell_count t s i) n) f.0 in
    let h = and-true (eqb (kind_of s i) k) (eqb (cell_row t s i) r) g.0 in
    record { kind = eqb-true _ _ h.0; row = eqb-true _ _ h.1; number = eqb-true _ _ g.1; column = eqb-true _ _ f.1 }

pub names-cell : (t : Table) (s : List ℕ) (k n r c i : ℕ) → Names t s k n r c i → is_cell t s k n r c i ≡ true
unfolding is_cell
names-cell t s k n r c i w = rw (eq-eqb (kind_of s i) k w.kind, eq-eqb (cell_row t s i) r w.row, eq-eqb (cell_count t s i) n w.number, eq-eqb (cell_column t s i) c w.column)

-- a record within the sizes stands in a cell's slot exactly where it names the cell
pub slot-cell : (t : Table) (s : List ℕ) (k n r c i : ℕ) → beyond t s i ≡ false → Inside (kind_at t k) n r c → eqb (slot t (kind_of s i) (cell_count t s i) (cell_row t s i) (cell_column t s i)) (slot t k n r c) ≡ is_cell t s k n r c i
slot-cell t s k n r c i g w =
    same_truth (eqb (slot t (kind_of s i) (cell_count t s i) (cell_row t s i) (cell_column t s i)) (slot t k n r c)) (is_cell t s k n r c i)
    (λ e.
    let x = slot_same t (kind_of s i) (cell_count t s i) (cell_row t s i) (cell_column t s i) k n r c (sized_inside t s i g) w (eqb-true _ _ e) in
    names-cell t s k n r c i (record { kind = x.0; row = x.1.row; number = x.1.number; column = x.1.column }))
    (λ e. eq-eqb (slot t (kind_of s i) (cell_count t s i) (cell_row t s i) (cell_column t s i)) (slot t k n r c) (named-slot (cell-names t s k n r c i e)))
  where
    named-slot : Names t s k n r c i → slot t (kind_of s i) (cell_count t s i) (cell_row t s i) (cell_column t s i) ≡ slot t k n r c
    named-slot x =
        let ek = x.kind in
        let er = x.row in
        let en = x.number in
        let ec = x.column in
        cc

-- ---- some cell of a kind passes where some of its slots does
pub any-flat : (a b : ℕ) (p : ℕ → Bool) → any (a * b) p ≡ any a (λ i. any b (λ j. p (i * b + j)))
unfolding any
any-flat zero b p = ap (λ (n : ℕ). any n p) (none b)
  where
    none : (b : ℕ) → 0 * b ≡ 0
    none b = omega arith
any-flat (suc a) b p = ap (λ (n : ℕ). any n p) (more a b) ∙ any-split (a * b) b p ∙ ap (λ (x : Bool). x || any b (λ j. p (a * b + j))) (any-flat a b p)
  where
    more : (a b : ℕ) → suc a * b ≡ a * b + b
    more a b = omega arith

pub any_cells : (z : Kind) (p : ℕ → Bool) → any (slots z) p ≡ any (width z.count) (λ n. any (width z.row) (λ r. any (width z.column) (λ c. p (offset z n r c))))
unfolding slots offset
any_cells z p = any-flat (width z.count * width z.row) (width z.column) p ∙ any-flat (width z.count) (width z.row) (λ m. any (width z.column) (λ c. p (m * width z.column + c)))
