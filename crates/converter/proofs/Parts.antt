-- Parts of a converted file: the records of some kinds, taken out of the converted file, are what the change makes of those taken out of the file. And the bytes of a converted file are
-- bytes where the file's are.
use Prim.Native.Nat.{ℕ, zero, suc, ◌+◌, ◌-◌, ◌*◌, ◌/◌, ◌%◌, ◌≤◌, ◌<◌}
use native.Mathlib.Omega.{arith}
use native.Mathlib.Nat.{zero-add}
use native.Mathlib.Decide.{dec_lt}
use mathlib.Core.Path.{◌≡◌, refl, sym, ap, ap₂, ◌∙◌}
use mathlib.Core.Bool.{Bool, true, false, cond, ◌&&◌}
use mathlib.Core.List.{List, [], ◌∷◌, ◌++◌}
use lib.Dec.{leb, ltb, lit<}
use lib.ListN.{length, drop, length-append, length-drop, get_or-append, get_or-eq_default}
use lib.Seq.{ext_get_or, get_or-take, get_or-drop, get_or-append-add, length-take-le}
use Rattle.records.specs.format.Bytes.{byte, bytes_of}
use Rattle.records.specs.format.File.{count, kind_of}
use Rattle.records.specs.format.Written.{record_of, sequence, record_at, records_of}
use Rattle.converter.specs.Converted.{Change, new_bits, new_byte, converted}
use Rattle.converter.proofs.Bytes.{length-converted, byte-converted}
use Rattle.converter.proofs.Fields.{converted-alike}
use Rattle.converter.proofs.Season.{new_byte-equal}

-- ---- record i of a file, by itself
module _ (s : List ℕ) (i : ℕ) where
  length-record : i < count s → length (record_at s i) ≡ 16
  length-record l = let n = length-drop (16 * i) s in length-take-le 16 (drop (16 * i) s) (omega arith)

  byte-record : (o : ℕ) → o < 16 → byte (record_at s i) o ≡ byte s (16 * i + o)
  byte-record o h = get_or-take 16 (drop (16 * i) s) o 0 h ∙ get_or-drop (16 * i) s o 0

module _ (g : Change) where
  -- a record with the same sixteen bytes becomes the same, wherever it stands
  same-record : (s t : List ℕ) (i j : ℕ) → ((o : ℕ) → o < 16 → byte s (16 * i + o) ≡ byte t (16 * j + o)) → i < count s → j < count t → (o : ℕ) → o < 16
      → byte (converted g s) (16 * i + o) ≡ byte (converted g t) (16 * j + o)
  same-record s t i j same l k o h =
      byte-converted g s (16 * i + o) (omega arith) ∙ new_byte-equal g s t i j same l k o h ∙ sym (byte-converted g t (16 * j + o) (omega arith))

  nothing-converted : converted g [] ≡ []
  nothing-converted = let n = length-converted g [] in ext_get_or 0 (converted g []) [] n (λ q l. absurd (omega arith))

  record-converted : (s : List ℕ) (i : ℕ) → i < count s → record_at (converted g s) i ≡ converted g (record_at s i)
  record-converted s i l =
      let n = length-record s i l in
      let m : length (record_at (converted g s) i) ≡ 16 = length-record (converted g s) i (let e = length-converted g s in omega arith) in
      ext_get_or 0 (record_at (converted g s) i) (converted g (record_at s i)) (m ∙ sym (length-converted g (record_at s i) ∙ n)) (λ q k.
      byte-record (converted g s) i q (omega arith)
      ∙ same-record s (record_at s i) i 0 (λ o h. sym (ap (byte (record_at s i)) (zero-add o) ∙ byte-record s i o h)) l (omega arith) q (omega arith)
      ∙ ap (byte (converted g (record_at s i))) (zero-add q))

  -- two files one after the other, the first of whole records, and the second too
  module _ (x y : List ℕ) (hx : length x % 16 ≡ 0) (hy : length y % 16 ≡ 0) where
    in-first : (q : ℕ) → q < length x → byte (converted g (x ++ y)) q ≡ byte (converted g x ++ converted g y) q
    in-first q h =
        let a = length-append x y in
        let b = length-converted g x in
        let e : q ≡ 16 * (q / 16) + q % 16 = omega arith in
        ap (byte (converted g (x ++ y))) e
        ∙ same-record (x ++ y) x (q / 16) (q / 16) (λ o k. get_or-append x y 0 (16 * (q / 16) + o) (omega arith)) (omega arith) (omega arith) (q % 16) (omega arith)
        ∙ ap (byte (converted g x)) (sym e)
        ∙ sym (get_or-append (converted g x) (converted g y) 0 q (omega arith))

    in-second : (q j o : ℕ) → o < 16 → 16 * j + o < length y → q ≡ length x + (16 * j + o) → byte (converted g (x ++ y)) q ≡ byte (converted g x ++ converted g y) q
    in-second q j o h k e =
        let a = length-append x y in
        let b = length-converted g x in
        let f : q ≡ 16 * (length x / 16 + j) + o = omega arith in
        let d : q ≡ length (converted g x) + (16 * j + o) = omega arith in
        ap (byte (converted g (x ++ y))) f
        ∙ same-record (x ++ y) y (length x / 16 + j) j (λ o k. ap (byte (x ++ y)) (over (length x) j o hx) ∙ get_or-append-add x y (16 * j + o) 0) (omega arith) (omega arith) o h
        ∙ sym (ap (byte (converted g x ++ converted g y)) d ∙ get_or-append-add (converted g x) (converted g y) (16 * j + o) 0)
      where
        over : (n j o : ℕ) → n % 16 ≡ 0 → 16 * (n / 16 + j) + o ≡ n + (16 * j + o)
        over n j o h = omega arith

    append-converted : converted g (x ++ y) ≡ converted g x ++ converted g y
    append-converted =
        let a = length-append x y in
        let n = length-converted g (x ++ y) in
        ext_get_or 0 (converted g (x ++ y)) (converted g x ++ converted g y)
        (n ∙ a ∙ sym (length-append (converted g x) (converted g y) ∙ ap₂ (λ (i j : ℕ). i + j) (length-converted g x) (length-converted g y)))
        (λ q l. go q (omega arith) (dec_lt q (length x)))
      where
        go : (q : ℕ) → q < length x + length y → Dec (q < length x) → byte (converted g (x ++ y)) q ≡ byte (converted g x ++ converted g y) q
        go q l (yes h) = in-first q h
        go q l (no h) = in-second q ((q - length x) / 16) ((q - length x) % 16) (omega arith) (omega arith) (omega arith)

  -- ---- the records of the kinds that pass
  module _ (passes : ℕ → Bool) (s : List ℕ) where
    abbrev part : List ℕ → ℕ → List ℕ
    part t i = cond (passes (kind_of t i)) (record_at t i) []

    whole_part : (i : ℕ) → i < count s → length (part s i) % 16 ≡ 0
    whole_part i l = go (passes (kind_of s i))
      where
        go : (b : Bool) → length (cond b (record_at s i) []) % 16 ≡ 0
        go true = ap (λ (n : ℕ). n % 16) (length-record s i l)
        go false = refl

    part-converted : (i : ℕ) → i < count s → part (converted g s) i ≡ converted g (part s i)
    part-converted i l = rw ((converted-alike g s).kind i) (go (passes (kind_of s i)))
      where
        go : (b : Bool) → cond b (record_at (converted g s) i) [] ≡ converted g (cond b (record_at s i) [])
        go true = record-converted s i l
        go false = sym nothing-converted

    whole_parts : (n : ℕ) → n ≤ count s → length (sequence n (part s)) % 16 ≡ 0
    unfolding sequence
    whole_parts zero l = refl
    whole_parts (suc n) l =
        let a = length-append (sequence n (part s)) (part s n) in
        let b = whole_parts n (omega arith) in
        let d = whole_part n l in
        omega arith

    parts-converted : (n : ℕ) → n ≤ count s → sequence n (part (converted g s)) ≡ converted g (sequence n (part s))
    unfolding sequence
    parts-converted zero l = sym nothing-converted
    parts-converted (suc n) l =
        ap₂ ◌++◌ (parts-converted n (omega arith)) (part-converted n l) ∙ sym (append-converted (sequence n (part s)) (part s n) (whole_parts n (omega arith)) (whole_part n l))

    pub records-converted : records_of passes (converted g s) ≡ converted g (records_of passes s)
    unfolding records_of
    records-converted = ap (λ (n : ℕ). sequence n (part (converted g s))) (ap (λ (n : ℕ). n / 16) (length-converted g s)) ∙ parts-converted (count s) (omega arith)

-- ---- bytes
bytes_of-below : (n w i : ℕ) → byte (bytes_of n w) i < 256
unfolding bytes_of
bytes_of-below zero w i = lit< tt
bytes_of-below (suc n) w zero = omega arith
bytes_of-below (suc n) w (suc i) = bytes_of-below n (w / 256) i

append-below : (x y : List ℕ) → ((i : ℕ) → byte x i < 256) → ((i : ℕ) → byte y i < 256) → (i : ℕ) → byte (x ++ y) i < 256
append-below [] y f h i = h i
append-below (a ∷ x) y f h zero = f 0
append-below (a ∷ x) y f h (suc i) = append-below x y (λ j. f (suc j)) h i

pub record-below : (k r c n b : ℕ) → k < 256 → r < 256 → c < 256 → (o : ℕ) → byte (record_of k r c n b) o < 256
record-below k r c n b hk hr hc zero = hk
record-below k r c n b hk hr hc (suc zero) = hr
record-below k r c n b hk hr hc (suc (suc zero)) = hc
record-below k r c n b hk hr hc (suc (suc (suc zero))) = lit< tt
record-below k r c n b hk hr hc (suc (suc (suc (suc o)))) = append-below (bytes_of 4 n) (bytes_of 8 b) (bytes_of-below 4 n) (bytes_of-below 8 b) o

pub below-converted : (g : Change) (s : List ℕ) → ((i : ℕ) → byte s i < 256) → (i : ℕ) → byte (converted g s) i < 256
unfolding new_byte
below-converted g s h p = go (dec_lt p (length s))
  where
    either : (b : Bool) → cond b (byte (bytes_of 8 (new_bits g s (p / 16))) (p % 16 - 8)) (byte s p) < 256
    either true = bytes_of-below 8 (new_bits g s (p / 16)) (p % 16 - 8)
    either false = h p

    go : Dec (p < length s) → byte (converted g s) p < 256
    go (yes l) = rw (byte-converted g s p l) (either (leb 8 (p % 16) && (ltb (p / 16) (count s) && g.rewrites (kind_of s (p / 16)))))
    go (no l) =
        let n = length-converted g s in
        let past : length (converted g s) ≤ p = omega arith in
        rw (get_or-eq_default (converted g s) 0 past) (lit< tt)
