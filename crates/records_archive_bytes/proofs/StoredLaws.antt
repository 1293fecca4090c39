-- Stores that put an archive's records: one record is two stores of eight bytes, and what is put piece by piece is their sequence.
use Prim.Native.Nat.{ℕ, suc, ◌+◌, ◌*◌, ◌/◌, ◌%◌, ◌<◌, ◌≤◌}
use native.Mathlib.Nat.{mul-le-mul}
use native.Mathlib.Omega.{arith}
use mathlib.Core.Path.{◌≡◌, refl, ap, sym, ◌∙◌}
use mathlib.Core.List.{List, [], ◌∷◌, ◌++◌}
use lib.ListN.{length}
use lib.Seq.{sets}
use lib.Ieee.{Float, binary64, to_bits}
use Rattle.records.specs.declared.Field.{Field}
use Rattle.records.specs.declared.Field.TheVariants.{Index, Number, Unused}
use Rattle.records.specs.declared.Kind.{Kind}
use Rattle.records.specs.format.Bytes.{bytes_of}
use Rattle.records.specs.format.Kinds.{width, index_of}
use Rattle.records.specs.format.Cells.{slots}
use Rattle.records.specs.format.Written.{record_of, field_of, cell_record, sequence}
use Rattle.records.specs.readers.Archive.{Archive, archived, archive_content}
use Rattle.records_archive_bytes.specs.joints.Parts.{cell_bytes, line_bytes, sheet_bytes}
use Rattle.records.proofs.format.WrittenLaws.{sequence-length-of}
use Rattle.records_little_endian.proofs.StoreLaws.{sets-append}

-- ---- one record
-- the four bytes of a count below 256
small_count : (n : ℕ) → n < 256 → bytes_of 4 n ≡ n ∷ 0 ∷ 0 ∷ 0 ∷ []
unfolding bytes_of
small_count n h =
    let a : n % 256 ≡ n = omega arith in
    let b : n / 256 ≡ 0 = omega arith in
    rw (a, b)

-- the head, then the value
pub record-stored : (out mid end : List ℕ) (at k r c n b r' c' n' : ℕ) → n < 256 → r' ≡ r → c' ≡ c → n' ≡ n
    → mid ≡ sets out at (k ∷ r' ∷ c' ∷ 0 ∷ n' ∷ 0 ∷ 0 ∷ 0 ∷ []) → end ≡ sets mid (at + 8) (bytes_of 8 b) → end ≡ sets out at (record_of k r c n b)
record-stored out mid end at k r c n b r' c' n' h er ec en em ee =
    let head : List ℕ = k ∷ r ∷ c ∷ 0 ∷ n ∷ 0 ∷ 0 ∷ 0 ∷ [] in
    let m : mid ≡ sets out at (k ∷ r ∷ c ∷ 0 ∷ n ∷ 0 ∷ 0 ∷ 0 ∷ []) = rw (← er, ← ec, ← en) em in
    let x : sets (sets out at head) (at + 8) (bytes_of 8 b) ≡ sets out at (head ++ bytes_of 8 b) = sets-append out at head (bytes_of 8 b) in
    let y : record_of k r c n b ≡ head ++ bytes_of 8 b = rw (small_count n h) in
    ee ∙ ap (λ (l : List ℕ). sets l (at + 8) (bytes_of 8 b)) m ∙ x ∙ ap (sets out at) (sym y)

-- ---- pieces of one length, one after another
-- none is put at first; one more is put after the others
pub pieces_none : (out : List ℕ) (at : ℕ) (f : ℕ → List ℕ) → out ≡ sets out at (sequence 0 f)
unfolding sequence
pieces_none out at f = refl

pub pieces_more : (w : ℕ) (out mid end : List ℕ) (at j place : ℕ) (f : ℕ → List ℕ) → ((i : ℕ) → i < j → length (f i) ≡ w) → mid ≡ sets out at (sequence j f) → place ≡ at + j * w → end ≡ sets mid place (f j)
    → end ≡ sets out at (sequence (j + 1) f)
unfolding sequence
pieces_more w out mid end at j place f h em ep ee =
    let l : length (sequence j f) ≡ j * w = sequence-length-of w j f h in
    let p : place ≡ at + length (sequence j f) = omega arith in
    let e : j + 1 ≡ suc j = omega arith in
    let x : sets mid place (f j) ≡ sets out at (sequence j f ++ f j) = rw (em, p) (sets-append out at (sequence j f) (f j)) in
    ee ∙ x ∙ ap (λ (n : ℕ). sets out at (sequence n f)) (sym e)

-- of n pieces of length w from a place on, piece j ends where all do, or before
piece-ends : (at j n w l : ℕ) → j < n → at + n * w ≤ l → at + j * w + w ≤ l
piece-ends at j n w l h k = let z : (j + 1) * w ≤ n * w = mul-le-mul (omega arith) (omega arith) in omega arith

-- the same, of the number and the length of the pieces as the code has them
pub piece-ends-as : (at j n w l m v : ℕ) → m ≡ n → v ≡ w → j < m → at + n * w ≤ l → at + j * v + v ≤ l
piece-ends-as at j n w l m v em ev h k = let q : at + m * v ≤ l = rw (em, ev) k in piece-ends at j m v l h q

-- and, of pieces of any length, one more after all before it
pub pieces-next : (out mid end : List ℕ) (at j place : ℕ) (f : ℕ → List ℕ) → mid ≡ sets out at (sequence j f) → place ≡ at + length (sequence j f) → end ≡ sets mid place (f j) → end ≡ sets out at (sequence (suc j) f)
unfolding sequence
pieces-next out mid end at j place f em ep ee =
    let x : sets mid place (f j) ≡ sets out at (sequence j f ++ f j) = rw (em, ep) (sets-append out at (sequence j f) (f j)) in
    ee ∙ x

-- ---- the record of a cell
-- an index is as small as the number that it is read from; a field that is written for it holds it
pub index-small : (g : Field) (x b : ℕ) → x < b → index_of g x < b
unfolding index_of
index-small (Index limit) x b l = l
index-small Number x b l = omega arith
index-small Unused x b l = omega arith

field-index-of : (g : Field) (x : ℕ) → field_of g x 0 ≡ index_of g x
unfolding index_of field_of
field-index-of (Index limit) x = refl
field-index-of Number x = refl
field-index-of Unused x = refl

pub cell-stored : (out end : List ℕ) (a : Archive) (z : Kind) (at k n r c r' c' n' b : ℕ) (x : Float) → r' ≡ index_of z.row r → c' ≡ index_of z.column c → n' ≡ index_of z.count n → x ≡ archived a k n r c → b ≡ to_bits binary64 x
    → end ≡ sets out at (record_of k r' c' n' b) → end ≡ sets out at (cell_bytes a z k n r c)
unfolding cell_bytes cell_record archive_content
cell-stored out end a z at k n r c r' c' n' b x er ec en ex eb ee =
    rw (field-index-of z.row r, field-index-of z.column c, field-index-of z.count n, ← er, ← ec, ← en, ← ex, ← eb) ee

-- ---- their lengths
pub length-cell : (a : Archive) (z : Kind) (k n r c : ℕ) → length (cell_bytes a z k n r c) ≡ 16
unfolding cell_bytes cell_record bytes_of
length-cell a z k n r c = refl

pub length-line : (a : Archive) (z : Kind) (k n r : ℕ) → length (line_bytes a z k n r) ≡ 16 * width z.column
unfolding line_bytes
length-line a z k n r = let e = sequence-length-of 16 (width z.column) (cell_bytes a z k n r) (λ c _. length-cell a z k n r c) in omega arith

pub length-sheet : (a : Archive) (z : Kind) (k n : ℕ) → length (sheet_bytes a z k n) ≡ width z.row * (16 * width z.column)
unfolding sheet_bytes
length-sheet a z k n = sequence-length-of (16 * width z.column) (width z.row) (line_bytes a z k n) (λ r _. length-line a z k n r)

-- a kind's records: as many as it has cells
pub kind-place : (z : Kind) (counts sheet : ℕ) → counts ≡ width z.count → sheet ≡ width z.row * (16 * width z.column) → counts * sheet ≡ 16 * slots z
unfolding slots
kind-place z counts sheet ec es = rw (ec, es) (flat (width z.count) (width z.row) (width z.column))
  where
    flat : (a b c : ℕ) → a * (b * (16 * c)) ≡ 16 * (a * b * c)
    flat a b c = omega arith

-- matrix n of them ends where all do, or before
pub kind-ends : (z : Kind) (at n counts sheet l : ℕ) → counts ≡ width z.count → sheet ≡ width z.row * (16 * width z.column) → n < counts → at + 16 * slots z ≤ l → at + n * sheet + sheet ≤ l
kind-ends z at n counts sheet l ec es h k =
    let q : counts * sheet ≡ 16 * slots z = kind-place z counts sheet ec es in
    piece-ends at n counts sheet l h (rw q k)

-- six rows of six at most
pub few-cells : (a b : ℕ) → a ≤ 6 → b ≤ 6 → a * (16 * b) ≤ 576
few-cells a b h k = within a (16 * b) 6 96 h (omega arith)
  where
    within : (a b c d : ℕ) → a ≤ c → b ≤ d → a * b ≤ c * d
    within a b c d h k = mul-le-mul h k
