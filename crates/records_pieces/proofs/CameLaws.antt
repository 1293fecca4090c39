-- What a file leaves that arrives byte by byte, and so by pieces of any lengths: `Came`.
use Prim.Native.Nat.{ℕ, zero, suc, ◌+◌, ◌-◌, ◌*◌, ◌/◌, ◌%◌, ◌≤◌, ◌<◌}
use native.Mathlib.Nat.{zero-add}
use native.Mathlib.Omega.{arith}
use native.Mathlib.Decide.{dec_le, dec_lt, ℕ_discrete}
use mathlib.Core.Path.{◌≡◌, refl, sym, ap, ap₂, ◌∙◌}
use mathlib.Core.Bool.{Bool, ◌||◌}
use mathlib.Core.List.{List, [], ◌∷◌, ◌++◌, append_assoc, append-nil}
use mathlib.Core.Logic.{inl}
use lib.Dec.{ltb}
use lib.ListN.{length, set, take, drop, length-set, length-append, take-append-drop, get_or-append}
use lib.Seq.{get_or-set_same, get_or-set_other, get_or-append-add, get_or-take, length-take-le}
use borrow.Author.Tests.{le-leb, lt-leb, lt-ltb, le-ltb, eq-eqb, ne_eqb}
use Rattle.algebra.proofs.FoldLaws.{length-span, span-at, span-other}
use Rattle.records.specs.format.Bytes.{byte}
use Rattle.records.specs.format.Scan.{any}
use Rattle.records.specs.format.File.{count, kind_of, row_of, column_of, count_of}
use Rattle.records.specs.format.Order.{matrix_of}
use Rattle.records.proofs.format.ScanLaws.{any-more, any_same}
use Rattle.records.proofs.format.WrittenLaws.{word_same}
use Rattle.records_order.specs.joints.Keys.{key_of, least_key, falls_at}
use Rattle.records_order.proofs.KeyLaws.{next-least}
use Rattle.records_pieces.specs.declared.Arrival.{Arrival}
use Rattle.records_pieces.specs.joints.Arrived.{Arrived, arrived_as, nothing_yet, one_more, whole_ones, kept_one, passed_one, with_record, take_record, take_byte, fed, Came, Arrives}

-- ---- a record's key is its bytes'
pub key-same : (s t : List ℕ) (i j : ℕ) → ((o : ℕ) → o < 16 → byte s (16 * i + o) ≡ byte t (16 * j + o)) → key_of s i ≡ key_of t j
unfolding key_of matrix_of
key-same s t i j h =
    let k : kind_of s i ≡ kind_of t j = ap (byte s) (plain i) ∙ h 0 (omega arith) ∙ ap (byte t) (sym (plain j)) in
    let r : row_of s i ≡ row_of t j = h 1 (omega arith) in
    let c : column_of s i ≡ column_of t j = h 2 (omega arith) in
    let n : count_of s i ≡ count_of t j = word_same t s (16 * i + 4) (16 * j + 4) (λ o l. ap (byte s) (on i o) ∙ h (4 + o) (omega arith) ∙ ap (byte t) (sym (on j o))) in
    rw (k, n, r, c)
  where
    plain : (i : ℕ) → 16 * i ≡ 16 * i + 0
    plain i = omega arith

    on : (i o : ℕ) → 16 * i + 4 + o ≡ 16 * i + (4 + o)
    on i o = omega arith

-- ---- bytes that come later change no record that has come
module _ (s t : List ℕ) where
  before-end : (i : ℕ) → i < length s → byte (s ++ t) i ≡ byte s i
  before-end i l = get_or-append s t 0 i l

  key-before : (i : ℕ) → i < count s → key_of (s ++ t) i ≡ key_of s i
  key-before i l = key-same (s ++ t) s i i (λ o h. before-end (16 * i + o) (omega arith))

  least-before : (i : ℕ) → i ≤ count s → least_key (s ++ t) i ≡ least_key s i
  unfolding least_key
  least-before zero l = refl
  least-before (suc i) l = ap (λ (k : ℕ). k + 1) (key-before i l)

  falls-before : any (count s) (falls_at (s ++ t)) ≡ any (count s) (falls_at s)
  unfolding falls_at
  falls-before = any_same (count s) (falls_at (s ++ t)) (falls_at s) (λ i l. rw (key-before i l, least-before i (omega arith)))

-- ---- one more byte
module _ (s : List ℕ) (b : ℕ) (st : Arrived) (c : Came s st) where
  abbrev a : Arrival
  a = st.arrival

  abbrev s' : List ℕ
  s' = s ++ (b ∷ [])

  longer-by-one : length s' ≡ length s + 1
  longer-by-one = length-append s (b ∷ [])

  at-end : byte s' (length s) ≡ b
  at-end = let e : length s ≡ length s + 0 = omega arith in rw e (get_or-append-add s (b ∷ []) 0 0)

  abbrev current' : List ℕ
  current' = set st.current a.part b

  -- the bytes of the current record, with the new one
  current-now : (o : ℕ) → o < a.part + 1 → byte current' o ≡ byte s' (16 * count s + o)
  current-now o h = go (ℕ_discrete o a.part)
    where
      part : a.part ≡ length s % 16
      part = c.part

      go : Dec (o ≡ a.part) → byte current' o ≡ byte s' (16 * count s + o)
      go (yes e) =
          let f : 16 * count s + o ≡ length s = omega arith in
          rw (f, e) (get_or-set_same st.current a.part b 0 (omega (arith, c.ready.part, c.ready.sixteen)) ∙ sym at-end)
      go (no e) =
          get_or-set_other st.current a.part o b 0 e ∙ c.current o (omega arith) ∙ sym (before-end s (b ∷ []) (16 * count s + o) (omega arith))

  kept-now : (o : ℕ) → o < 16 * a.records → byte st.kept o ≡ byte s' o
  kept-now o h = c.kept o h ∙ sym (before-end s (b ∷ []) o (omega (arith, c.records)))

  -- the record is not whole yet
  part-came : (a.part ≡ 15 → ⊥) → Came s' (arrived_as (one_more a) st.kept current')
  part-came e =
      let part = c.part in
      let whole = c.ready.part in
      let long = longer-by-one in
      let same : count s' ≡ count s = omega arith in
      record {
        ready = record { part = omega arith; sixteen = length-set st.current a.part b ∙ c.ready.sixteen; room = c.ready.room };
        part = omega arith;
        records = rw same c.records;
        longer = rw same c.longer;
        least = rw (same, least-before s (b ∷ []) (count s) (omega arith)) c.least;
        fell = rw (same, falls-before s (b ∷ [])) c.fell;
        current = λ o h. rw same (current-now o (omega arith));
        kept = kept-now;
      }

  -- the record is whole
  module _ (e : a.part ≡ 15) where
    abbrev n : ℕ
    n = count s

    abbrev room : ℕ
    room = length st.kept / 16

    one-record : count s' ≡ n + 1
    one-record =
        let part = c.part in
        let long = longer-by-one in
        omega arith

    nothing-over : length s' % 16 ≡ 0
    nothing-over =
        let part = c.part in
        let long = longer-by-one in
        omega arith

    abbrev key : ℕ
    key = key_of current' 0

    key-now : key ≡ key_of s' n
    key-now = key-same current' s' 0 n (λ o h. ap (byte current') (zero-add o) ∙ current-now o (omega arith))

    least-now : key + 1 ≡ least_key s' (count s')
    least-now = rw one-record (next-least s' n key key-now)

    fell-now : a.fell || ltb key a.least ≡ any (count s') (falls_at s')
    unfolding falls_at
    fell-now =
        rw (one-record, any-more n (falls_at s'), falls-before s (b ∷ []), c.fell)
        (ap (λ (x : Bool). any n (falls_at s) || x) (ap₂ ltb key-now (c.least ∙ sym (least-before s (b ∷ []) n (omega arith)))))

    sixteen-now : length current' ≡ 16
    sixteen-now = length-set st.current a.part b ∙ c.ready.sixteen

    none_over : (o : ℕ) → o < length s' % 16 → byte current' o ≡ byte s' (16 * count s' + o)
    none_over o h = let z = nothing-over in absurd (omega arith)

    -- it is kept
    module _ (h : 16 ≤ length st.kept - 16 * a.records) where
      all-kept : a.records ≡ n
      all-kept = let r = c.records in omega arith

      abbrev kept' : List ℕ
      kept' = with_record a.records current' st.kept

      same-room : length kept' ≡ length st.kept
      same-room = length-span (16 * a.records) (16 * a.records + 16) _ st.kept

      kept-after : (o : ℕ) → o < 16 * (a.records + 1) → byte kept' o ≡ byte s' o
      kept-after o l = go (dec_lt o (16 * a.records))
        where
          go : Dec (o < 16 * a.records) → byte kept' o ≡ byte s' o
          go (yes x) = span-other (16 * a.records) (16 * a.records + 16) _ st.kept o 0 (inl x) ∙ kept-now o x
          go (no x) =
              let r = all-kept in
              let f : 16 * n + (o - 16 * a.records) ≡ o = omega arith in
              span-at (16 * a.records) (16 * a.records + 16) (λ k. byte current' (k - 16 * a.records)) st.kept o 0 (omega arith) (omega arith) (omega arith)
              ∙ current-now (o - 16 * a.records) (omega arith) ∙ ap (byte s') f

      kept-came : Came s' (arrived_as (kept_one a key) kept' current')
      kept-came =
          let r = all-kept in
          let q = one-record in
          let f = same-room in
          record {
            ready = record { part = omega arith; sixteen = sixteen-now; room = omega arith };
            part = sym nothing-over;
            records = rw (f, q) (omega arith);
            longer = rw (f, q) (c.longer ∙ le-ltb room n (omega arith) ∙ sym (le-ltb room (n + 1) (omega arith)));
            least = least-now;
            fell = fell-now;
            current = none_over;
            kept = kept-after;
          }

    -- there is no room for it
    passed-came : length st.kept - 16 * a.records < 16
        → Came s' (arrived_as (passed_one a key) st.kept current')
    passed-came h =
        let r = c.records in
        let l = c.ready.room in
        let q = one-record in
        record {
          ready = record { part = omega arith; sixteen = sixteen-now; room = l };
          part = sym nothing-over;
          records = rw q (omega arith);
          longer = rw q (sym (lt-ltb room (n + 1) (omega arith)));
          least = least-now;
          fell = fell-now;
          current = none_over;
          kept = kept-now;
        }

    whole-came : Came s' (take_record (arrived_as (one_more a) st.kept current'))
    unfolding take_record
    whole-came = go (dec_le 16 (length st.kept - 16 * a.records))
      where
        go : Dec (16 ≤ length st.kept - 16 * a.records) → Came s' (take_record (arrived_as (one_more a) st.kept current'))
        go (yes h) = rw (le-leb 16 (length st.kept - 16 * a.records) h) (kept-came h)
        go (no h) = rw (lt-leb 16 (length st.kept - 16 * a.records) (omega arith)) (passed-came (omega arith))

  pub byte-came : Came s' (take_byte b st)
  unfolding take_byte
  byte-came = go (ℕ_discrete a.part 15)
    where
      go : Dec (a.part ≡ 15) → Came s' (take_byte b st)
      go (yes e) = rw (eq-eqb a.part 15 e) (whole-came e)
      go (no e) = rw (ne_eqb a.part 15 e) (part-came e)

-- ---- the file without the bytes of a record that is not whole
pub wholes-came : (s : List ℕ) (st : Arrived) → Came s st → Came (take (16 * count s) s) (arrived_as (whole_ones st.arrival) st.kept st.current)
wholes-came s st c =
    let t = take (16 * count s) s in
    let r = drop (16 * count s) s in
    let whole : t ++ r ≡ s = take-append-drop (16 * count s) s in
    let long : length t ≡ 16 * count s = length-take-le (16 * count s) s (omega arith) in
    let same : count t ≡ count s = omega arith in
    let sixteen : length t % 16 ≡ 0 = omega arith in
    record {
      ready = record { part = omega arith; sixteen = c.ready.sixteen; room = c.ready.room };
      part = sym sixteen;
      records = rw same c.records;
      longer = rw same c.longer;
      least = c.least ∙ sym (ap₂ least_key whole same) ∙ least-before t r (count t) (omega arith);
      fell = c.fell ∙ sym (ap₂ (λ (n : ℕ) (f : List ℕ). any n (falls_at f)) same whole) ∙ falls-before t r;
      current = λ o h. absurd (omega arith);
      kept = λ o h. c.kept o h ∙ sym (get_or-take (16 * count s) s o 0 (omega (arith, c.records)));
    }

-- ---- WHAT A FILE LEAVES
more-came : (rest s : List ℕ) (st : Arrived) → Came s st → Came (s ++ rest) (fed rest st)
unfolding fed
more-came [] s st c = rw (append-nil s) c
more-came (b ∷ rest) s st c = rw (append_assoc s (b ∷ []) rest) at (more-came rest (s ++ (b ∷ [])) (take_byte b st) (byte-came s b st c))

pub nothing-came : (kept current : List ℕ) → length current ≡ 16 → Came [] (arrived_as nothing_yet kept current)
unfolding any least_key
nothing-came kept current h = record {
  ready = record { part = omega arith; sixteen = h; room = omega arith };
  part = refl;
  records = omega arith;
  longer = sym (le-ltb (length kept / 16) 0 (omega arith));
  least = refl;
  fell = refl;
  current = λ o l. absurd (omega arith);
  kept = λ o l. absurd (omega arith);
}

pub file-came : (s kept current : List ℕ) → length current ≡ 16 → Came s (fed s (arrived_as nothing_yet kept current))
file-came s kept current h = more-came s [] (arrived_as nothing_yet kept current) (nothing-came kept current h)

-- ---- a program that reads by pieces always has what some file of bytes leaves
pub joined_bytes : (a b : List ℕ) → ((i : ℕ) → byte a i < 256) → ((i : ℕ) → byte b i < 256) → (i : ℕ) → byte (a ++ b) i < 256
joined_bytes [] b ha hb i = hb i
joined_bytes (x ∷ a) b ha hb zero = ha 0
joined_bytes (x ∷ a) b ha hb (suc i) = joined_bytes a b (λ j. ha (suc j)) hb i

pub start-arrives : (kept current : List ℕ) → length current ≡ 16 → Arrives (arrived_as nothing_yet kept current)
start-arrives kept current h = record { file = []; bytes = λ i. omega arith; came = nothing-came kept current h }

pub fed-arrives : (piece : List ℕ) (st : Arrived) → ((i : ℕ) → byte piece i < 256) → Arrives st → Arrives (fed piece st)
fed-arrives piece st h r = record { file = r.file ++ piece; bytes = joined_bytes r.file piece r.bytes h; came = more-came piece r.file st r.came }
