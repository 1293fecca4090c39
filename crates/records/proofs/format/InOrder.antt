-- The order of the records (specs/format/Order.antt) is that of their cells (specs/format/Cells.antt), for a table in which each field tells its cells apart; and so a written file rises.
use Prim.Native.Nat.{ℕ, ◌+◌, ◌-◌, ◌*◌, ◌<◌}
use mathlib.Core.Path.{◌≡◌, refl, ap, ap₂, sym, ◌∙◌}
use mathlib.Core.Bool.{Bool, true, false, not, ◌&&◌, cond, false≢true}
use mathlib.Core.List.{List, [], ◌∷◌}
use native.Mathlib.Nat.{mul-le-mul_right}
use native.Mathlib.Omega.{arith}
use native.Mathlib.Decide.{dec_lt}
use lib.Dec.{eqb, ltb}
use borrow.Author.Tests.{eqb-true, eq-eqb, ne_eqb, lt-ltb, le-ltb, not-true}
use Rattle.records.specs.declared.Field.{Field}
use Rattle.records.specs.declared.Field.TheVariants.{Index, Number, Unused}
use Rattle.records.specs.declared.Kind.{Kind}
use Rattle.records.specs.format.Kinds.{holds, width, index_of, Table, kind_at}
use Rattle.records.specs.format.Cells.{first_slot, slot_count, offset, slot}
use Rattle.records.specs.format.File.{count, kind_of, row_of, column_of, count_of, cell_row, cell_column, cell_count, beyond}
use Rattle.records.specs.format.Order.{numbers_matrix, matrix_of, then_by, stands_before, falls}
use Rattle.records.specs.format.Written.{Content, file_of}
use Rattle.records.proofs.format.ScanLaws.{and-true, none_any}
use Rattle.records.proofs.format.Slots.{within, Inside, sized_inside, packed, slot-below}
use Rattle.records.proofs.format.WrittenLaws.{count-file}
use Rattle.records.proofs.format.ReadBack.{Fitting, file-beyond, file-slot}

-- ---- a table in which each field tells its cells apart
-- a field that is an index or unused, and no number
abbrev pub tells : Field → Bool
tells (Index limit) = true
tells Number = false
tells Unused = true

-- a count that is unused, or an index of a kind whose count the order reads
abbrev pub tells_count : Field → Bool → Bool
tells_count (Index limit) numbers = numbers
tells_count Number numbers = false
tells_count Unused numbers = true

-- a kind, by its number; no cell of it may be absent
abbrev pub orderly_kind : ℕ → Kind → Bool
orderly_kind k z = tells_count z.count (numbers_matrix k) && tells z.row && tells z.column && not z.sparse

abbrev pub orderly : Table → Bool
orderly [] = true
orderly (e ∷ t) = orderly_kind e.0 e.1 && orderly t

-- so each kind of it, a kind that is not listed too
pub record Orderly (k : ℕ) (z : Kind) : Type 0 where
  pub number : tells_count z.count (numbers_matrix k) ≡ true
  pub row : tells z.row ≡ true
  pub column : tells z.column ≡ true
  pub full : z.sparse ≡ false

orderly-kind : (k : ℕ) (z : Kind) → orderly_kind k z ≡ true → Orderly k z
orderly-kind k z e =
    let a = and-true (tells_count z.count (numbers_matrix k) && tells z.row && tells z.column) (not z.sparse) e in
    let b = and-true (tells_count z.count (numbers_matrix k) && tells z.row) (tells z.column) a.0 in
    let c = and-true (tells_count z.count (numbers_matrix k)) (tells z.row) b.0 in
    record { number = c.0; row = c.1; column = b.1; full = not-true z.sparse a.1 }

pub orderly-at : (t : Table) (k : ℕ) → orderly t ≡ true → Orderly k (kind_at t k)
unfolding kind_at
orderly-at [] k h = record { number = refl; row = refl; column = refl; full = refl }
orderly-at (e ∷ t) k h =
    let p = and-true (orderly_kind e.0 e.1) (orderly t) h in
    go p.0 (orderly-at t k p.1) (eqb k e.0) refl
  where
    go : orderly_kind e.0 e.1 ≡ true → Orderly k (kind_at t k) → (b : Bool) → eqb k e.0 ≡ b → Orderly k (cond b e.1 (kind_at t k))
    go x y true q = orderly-kind k e.1 (ap (λ (j : ℕ). orderly_kind j e.1) (eqb-true k e.0 q) ∙ x)
    go x y false q = y

-- ---- what a field holds is the index by which it names its cell
pub told : (g : Field) (x : ℕ) → tells g ≡ true → holds g x ≡ true → x ≡ index_of g x
unfolding holds index_of
told (Index limit) x e h = refl
told Number x e h = absurd (false≢true e)
told Unused x e h = eqb-true x 0 h

-- of a count the order reads nothing else
told-matrix : (g : Field) (b : Bool) (x : ℕ) → tells_count g b ≡ true → holds g x ≡ true → cond b x 0 ≡ index_of g x
unfolding holds index_of
told-matrix (Index limit) true x e h = refl
told-matrix (Index limit) false x e h = absurd (false≢true e)
told-matrix Number b x e h = absurd (false≢true e)
told-matrix Unused true x e h = eqb-true x 0 h
told-matrix Unused false x e h = refl

-- and it is told too
pub told-count : (g : Field) (b : Bool) → tells_count g b ≡ true → tells g ≡ true
told-count (Index limit) b e = refl
told-count Number b e = e
told-count Unused b e = refl

-- ---- digits
-- of two numbers a w + x and b w + y, with x and y below w, the first digits decide, and the second where they are the same
pub by_digits : (w a b x y : ℕ) → x < w → y < w → then_by a b (ltb x y) ≡ ltb (a * w + x) (b * w + y)
by_digits w a b x y hx hy = go (dec_lt a b) (dec_lt b a)
  where
    go : Dec (a < b) → Dec (b < a) → then_by a b (ltb x y) ≡ ltb (a * w + x) (b * w + y)
    go (yes h) d = rw (lt-ltb a b h) (sym (lt-ltb (a * w + x) (b * w + y) (omega (arith, mul-le-mul_right w h))))
    go (no h) (yes k) =
        rw (le-ltb a b (omega arith), ne_eqb a b (λ e. omega arith)) (sym (le-ltb (a * w + x) (b * w + y) (omega (arith, mul-le-mul_right w k))))
    go (no h) (no k) =
        let e : a ≡ b = omega arith in
        rw (e, le-ltb b b (omega arith), eq-eqb b b refl) (same (dec_lt x y))
      where
        same : Dec (x < y) → ltb x y ≡ ltb (b * w + x) (b * w + y)
        same (yes l) = lt-ltb x y l ∙ sym (lt-ltb (b * w + x) (b * w + y) (omega arith))
        same (no l) = le-ltb x y (omega arith) ∙ sym (le-ltb (b * w + x) (b * w + y) (omega arith))

-- ---- two cells, by their kinds, counts, rows and columns
-- of one kind they stand as their places in it
by-offset : (z : Kind) (n r c n' r' c' : ℕ) → Inside z n r c → Inside z n' r' c' → then_by n n' (then_by r r' (ltb c c')) ≡ ltb (offset z n r c) (offset z n' r' c')
unfolding offset
by-offset z n r c n' r' c' w w' =
    let R = width z.row in
    let C = width z.column in
    ap (then_by n n') (by_digits C r r' c c' w.column w'.column)
    ∙ by_digits (R * C) n n' (r * C + c) (r' * C + c') (packed r R c C w.row w.column) (packed r' R c' C w'.row w'.column)
    ∙ ap₂ ltb (place n r c R C) (place n' r' c' R C)
  where
    place : (n r c R C : ℕ) → n * (R * C) + (r * C + c) ≡ (n * R + r) * C + c
    place n r c R C = omega arith

-- and of any kinds as their slots
by-slot : (t : Table) (k n r c k' n' r' c' : ℕ) → Inside (kind_at t k) n r c → Inside (kind_at t k') n' r' c'
    → then_by k k' (then_by n n' (then_by r r' (ltb c c'))) ≡ ltb (slot t k n r c) (slot t k' n' r' c')
unfolding slot
by-slot t k n r c k' n' r' c' w w' = go (dec_lt k k') (dec_lt k' k)
  where
    go : Dec (k < k') → Dec (k' < k) → then_by k k' (then_by n n' (then_by r r' (ltb c c'))) ≡ ltb (slot t k n r c) (slot t k' n' r' c')
    go (yes h) d = let a = slot-below t k n r c k' w h in rw (lt-ltb k k' h) (sym (lt-ltb (slot t k n r c) (slot t k' n' r' c') (omega arith)))
    go (no h) (yes g) =
        let a = slot-below t k' n' r' c' k w' g in
        rw (le-ltb k k' (omega arith), ne_eqb k k' (λ e. omega arith)) (sym (le-ltb (slot t k n r c) (slot t k' n' r' c') (omega arith)))
    go (no h) (no g) =
        let q : k ≡ k' = omega arith in
        let v : Inside (kind_at t k') n r c = rw q at w in
        rw (q, le-ltb k' k' (omega arith), eq-eqb k' k' refl) (by-offset (kind_at t k') n r c n' r' c' v w' ∙ after (first_slot t k') (offset (kind_at t k') n r c) (offset (kind_at t k') n' r' c'))
      where
        after : (a x y : ℕ) → ltb x y ≡ ltb (a + x) (a + y)
        after a x y = below (dec_lt x y)
          where
            below : Dec (x < y) → ltb x y ≡ ltb (a + x) (a + y)
            below (yes l) = lt-ltb x y l ∙ sym (lt-ltb (a + x) (a + y) (omega arith))
            below (no l) = le-ltb x y (omega arith) ∙ sym (le-ltb (a + x) (a + y) (omega arith))

-- ---- two records
-- what the order reads of a record within the table is its cell
record ReadsCell (t : Table) (s : List ℕ) (i : ℕ) : Type 0 where
  number : matrix_of s i ≡ cell_count t s i
  row : row_of s i ≡ cell_row t s i
  column : column_of s i ≡ cell_column t s i

reads-cell : (t : Table) (s : List ℕ) (i : ℕ) → orderly t ≡ true → beyond t s i ≡ false → ReadsCell t s i
unfolding beyond matrix_of
reads-cell t s i h b =
    let z = kind_at t (kind_of s i) in
    let o = orderly-at t (kind_of s i) h in
    let w = within z s i b in
    record {
      number = told-matrix z.count (numbers_matrix (kind_of s i)) (count_of s i) o.number w.number;
      row = told z.row (row_of s i) o.row w.row;
      column = told z.column (column_of s i) o.column w.column;
    }

-- THE ORDER OF TWO RECORDS IS THAT OF THEIR CELLS' NUMBERS
pub before-slot : (t : Table) (s : List ℕ) (i j : ℕ) → orderly t ≡ true → beyond t s i ≡ false → beyond t s j ≡ false
    → stands_before s i j ≡ ltb (slot t (kind_of s i) (cell_count t s i) (cell_row t s i) (cell_column t s i)) (slot t (kind_of s j) (cell_count t s j) (cell_row t s j) (cell_column t s j))
unfolding stands_before
before-slot t s i j h a b =
    let x = reads-cell t s i h a in
    let y = reads-cell t s j h b in
    ap (then_by (kind_of s i) (kind_of s j)) (ap₂ (λ (u v : ℕ). then_by u v (then_by (row_of s i) (row_of s j) (ltb (column_of s i) (column_of s j)))) x.number y.number
    ∙ ap (then_by (cell_count t s i) (cell_count t s j)) (ap₂ (λ (u v : ℕ). then_by u v (ltb (column_of s i) (column_of s j))) x.row y.row
    ∙ ap (then_by (cell_row t s i) (cell_row t s j)) (ap₂ ltb x.column y.column)))
    ∙ by-slot t (kind_of s i) (cell_count t s i) (cell_row t s i) (cell_column t s i) (kind_of s j) (cell_count t s j) (cell_row t s j) (cell_column t s j) (sized_inside t s i a) (sized_inside t s j b)

-- A WRITTEN FILE RISES: record i of it names cell number i
pub written-rises : (t : Table) (f : ℕ → ℕ → ℕ → ℕ → Content) → Fitting t f → orderly t ≡ true → falls (file_of t f) ≡ false
unfolding falls
written-rises t f fit h = none_any (count s - 1) (λ i. not (stands_before s i (i + 1))) (λ i l. ap not (rises i (let e = count-file t f in omega arith)))
  where
    s : List ℕ
    s = file_of t f

    rises : (i : ℕ) → i + 1 < slot_count t → stands_before s i (i + 1) ≡ true
    rises i l =
        let m : i < slot_count t = omega arith in
        before-slot t s i (i + 1) h (file-beyond t f fit i m) (file-beyond t f fit (i + 1) l)
        ∙ ap₂ ltb (file-slot t f fit i m) (file-slot t f fit (i + 1) l)
        ∙ lt-ltb i (i + 1) (omega arith)
