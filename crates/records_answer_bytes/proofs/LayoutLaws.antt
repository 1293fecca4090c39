-- The answer bytes' lengths, what a run of entries is, and the entries read back from the bytes.
use Prim.Native.Nat.{ℕ, suc, ◌+◌, ◌*◌, ◌<◌, ◌≤◌, ◌^◌}
use native.Mathlib.Omega.{arith}
use native.Mathlib.Numerals.{add-one}
use native.Mathlib.Nat.{add-zero}
use mathlib.Core.Path.{◌≡◌, refl, sym, ap, ◌∙◌}
use mathlib.Core.Bool.{Bool, true, false, cond}
use mathlib.Core.List.{List, [], ◌∷◌, ◌++◌, append_assoc, append-nil}
use lib.Dec.{T, eqb}
use lib.ListN.{length, get_or, take, drop, replicate, length-append}
use lib.Seq.{sets, split_at, take-suc, length-take-le}
use lib.Ieee.{Float, binary64, fits, is_nan, to_bits, of_bits}
use lib.Ieee.Bits.{of_bits-to_bits, to_bits-lt}
use Rattle.std.specs.Prelude.{Option, Some, None, is_some}
use Rattle.tests.specs.declared.Entry.{Entry}
use Rattle.tests.specs.Answer.{number_of, no_entry}
use Rattle.records.specs.format.Bytes.{byte, word, long, bytes_of}
use Rattle.records_little_endian.proofs.StoreLaws.{sets-append}
use Rattle.records_little_endian.proofs.ReadLaws.{length-bytes, long-back, byte-after, long_after}
use Rattle.records.specs.format.Layout.{bits_of, flag, tail, entry_bytes, answer_bytes, number_from, entry_from}

pub length-entry : (e : Entry) → length (entry_bytes e) ≡ 24
unfolding entry_bytes bytes_of
length-entry e = refl

-- 168 bytes of seven entries
pub length-answer : (es : List Entry) → length (answer_bytes es) ≡ 24 * length es
unfolding answer_bytes
length-answer [] = refl
length-answer (e ∷ es) = let x = length-entry e in let y = length-answer es in rw length-append (omega arith)

-- document 01: "Unused entries are zero"
pub unused-zero : entry_bytes no_entry ≡ replicate 24 0
unfolding entry_bytes bytes_of bits_of
unused-zero = refl

-- three runs of stores one after another, two of them of eight
sets-three : (l : List ℕ) (i : ℕ) (xs ys zs : List ℕ) → length xs ≡ 8 → length ys ≡ 8 → sets (sets (sets l i xs) (i + 8) ys) (i + 16) zs ≡ sets l i (xs ++ (ys ++ zs))
sets-three l i xs ys zs h k =
    let e : i + 16 ≡ i + length xs + length ys = omega arith in
    rw (e, ← h, sets-append (sets l i xs) (i + length xs) ys zs, sets-append)

-- the three stores of an entry
sets-entry : (l : List ℕ) (i : ℕ) (e : Entry) → sets (sets (sets l i (bytes_of 8 (bits_of e.f))) (i + 8) (bytes_of 8 (bits_of e.df))) (i + 16) (tail e) ≡ sets l i (entry_bytes e)
unfolding entry_bytes
sets-entry l i e = sets-three l i (bytes_of 8 (bits_of e.f)) (bytes_of 8 (bits_of e.df)) (tail e) (length-bytes (bits_of e.f)) (length-bytes (bits_of e.df))

-- an entry stored: its two numbers' bits, then its tail, each made on the way
pub entry-stored : (l a b r : List ℕ) (i : ℕ) (e : Entry) (f df givenF givenDf inside : ℕ)
    → f ≡ bits_of e.f → a ≡ sets l i (bytes_of 8 f) → df ≡ bits_of e.df → b ≡ sets a (i + 8) (bytes_of 8 df)
    → givenF ≡ flag (is_some e.f) → givenDf ≡ flag (is_some e.df) → inside ≡ flag e.inside
    → r ≡ sets b (i + 16) (e.rank ∷ givenF ∷ givenDf ∷ inside ∷ 0 ∷ 0 ∷ 0 ∷ 0 ∷ []) → r ≡ sets l i (entry_bytes e)
entry-stored l a b r i e f df givenF givenDf inside e1 e2 e3 e4 e5 e6 e7 e8 = rw (← sets-entry l i e, ← e1, ← e2, ← e3, ← e4, ← e5, ← e6, ← e7) e8

pub answer-append : (xs ys : List Entry) → answer_bytes (xs ++ ys) ≡ answer_bytes xs ++ answer_bytes ys
unfolding answer_bytes
answer-append [] ys = refl
answer-append (e ∷ xs) ys = ap (λ (r : List ℕ). entry_bytes e ++ r) (answer-append xs ys) ∙ sym (append_assoc (entry_bytes e) (answer_bytes xs) (answer_bytes ys))

-- the first i entries take 24 i bytes
pub length-first : (es : List Entry) (i : ℕ) → i ≤ length es → length (answer_bytes (take i es)) ≡ 24 * i
length-first es i h = length-answer (take i es) ∙ ap (λ (n : ℕ). 24 * n) (length-take-le i es h)

-- entry i stored after those before it
pub store : (a : List ℕ) (es : List Entry) (i : ℕ) (d : Entry) → i < length es → sets (sets a 0 (answer_bytes (take i es))) (24 * i) (entry_bytes (get_or es i d)) ≡ sets a 0 (answer_bytes (take (i + 1) es))
unfolding answer_bytes
store a es i d h =
    let e = get_or es i d in
    let k : 24 * i ≡ 0 + length (answer_bytes (take i es)) = let x = length-first es i (omega arith) in omega arith in
    let one : answer_bytes (e ∷ []) ≡ entry_bytes e = append-nil (entry_bytes e) in
    let more : answer_bytes (take (i + 1) es) ≡ answer_bytes (take i es) ++ entry_bytes e = ap (λ (n : ℕ). answer_bytes (take n es)) (add-one i) ∙ ap answer_bytes (take-suc es i d h) ∙ answer-append (take i es) (e ∷ []) ∙ ap (λ (r : List ℕ). answer_bytes (take i es) ++ r) one in
    rw (k, more) (sets-append a 0 (answer_bytes (take i es)) (entry_bytes e))

-- the number is one that an f64 holds
abbrev pub Held : Option Float → Type 0
Held (Some x) = T (fits binary64 x)
Held None = Unit {0}

pub number-held : (x : Float) → T (fits binary64 x) → Held (number_of x)
unfolding number_of
number-held x h = go (is_nan x)
  where
    go : (b : Bool) → Held (cond b None (Some x))
    go true = tt
    go false = h

bits-lt : (n : Option Float) → Held n → bits_of n < 2 ^ 64
unfolding bits_of
bits-lt (Some x) h = to_bits-lt binary64 x h
bits-lt None h = omega arith

-- a number from its flag and its bits
number-back : (n : Option Float) → Held n → cond (eqb (flag (is_some n)) 1) (Some (of_bits binary64 (bits_of n))) None ≡ n
unfolding bits_of
number-back (Some x) h = ap Some (of_bits-to_bits binary64 x h)
number-back None h = refl

number-from : (n : Option Float) (s : List ℕ) (at told : ℕ) → Held n → byte s told ≡ flag (is_some n) → long s at ≡ bits_of n → number_from s at told ≡ n
number-from n s at told h p q = ap (λ (k : ℕ). cond (eqb k 1) (Some (of_bits binary64 (long s at))) None) p ∙ ap (λ (k : ℕ). cond (eqb (flag (is_some n)) 1) (Some (of_bits binary64 k)) None) q ∙ number-back n h

flag-back : (b : Bool) → eqb (flag b) 1 ≡ b
flag-back true = refl
flag-back false = refl

-- the bytes of entry i, between those before it and those after it
around : (es : List Entry) (i : ℕ) (d : Entry) → i < length es → answer_bytes es ≡ answer_bytes (take i es) ++ (entry_bytes (get_or es i d) ++ answer_bytes (drop (suc i) es))
unfolding answer_bytes
around es i d h = ap answer_bytes (split_at es i d h) ∙ answer-append (take i es) (get_or es i d ∷ drop (suc i) es)

module _ (es : List Entry) (i : ℕ) (d : Entry) (h : i < length es) where
  abbrev it : Entry
  it = get_or es i d

  abbrev rest : List ℕ
  rest = entry_bytes it ++ answer_bytes (drop (suc i) es)

  length_before : length (answer_bytes (take i es)) ≡ 24 * i
  length_before = length-first es i (omega arith)

  byte_at : (k : ℕ) → byte (answer_bytes es) (24 * i + k) ≡ byte rest k
  byte_at k = ap (λ (s : List ℕ). byte s (24 * i + k)) (around es i d h) ∙ byte-after (24 * i) (answer_bytes (take i es)) rest k length_before

  long-at : (k : ℕ) → long (answer_bytes es) (24 * i + k) ≡ long rest k
  long-at k = ap (λ (s : List ℕ). long s (24 * i + k)) (around es i d h) ∙ long_after (24 * i) (answer_bytes (take i es)) rest k length_before

  f-bits : Held it.f → long (answer_bytes es) (24 * i) ≡ bits_of it.f
  unfolding entry_bytes bytes_of long word
  f-bits hf = ap (long (answer_bytes es)) (sym (add-zero (24 * i))) ∙ long-at 0 ∙ long-back (bits_of it.f) (bytes_of 8 (bits_of it.df) ++ (tail it ++ answer_bytes (drop (suc i) es))) (bits-lt it.f hf)

  df-bits : Held it.df → long (answer_bytes es) (24 * i + 8) ≡ bits_of it.df
  unfolding entry_bytes bytes_of long word
  df-bits hdf = long-at 8 ∙ long-back (bits_of it.df) (tail it ++ answer_bytes (drop (suc i) es)) (bits-lt it.df hdf)

  -- Each entry is read back from the answer bytes whole: F, df, the rank and the mark.
  pub read_back : Held it.f → Held it.df → entry_from (answer_bytes es) i ≡ it
  unfolding entry_bytes bytes_of
  read_back hf hdf =
      let f : number_from (answer_bytes es) (24 * i) (24 * i + 17) ≡ it.f = number-from it.f (answer_bytes es) (24 * i) (24 * i + 17) hf (byte_at 17) (f-bits hf) in
      let df : number_from (answer_bytes es) (24 * i + 8) (24 * i + 18) ≡ it.df = number-from it.df (answer_bytes es) (24 * i + 8) (24 * i + 18) hdf (byte_at 18) (df-bits hdf) in
      let rank : byte (answer_bytes es) (24 * i + 16) ≡ it.rank = byte_at 16 in
      let inside : eqb (byte (answer_bytes es) (24 * i + 19)) 1 ≡ it.inside = ap (λ (k : ℕ). eqb k 1) (byte_at 19) ∙ flag-back it.inside in
      λ t. record { f = f t; df = df t; rank = rank t; inside = inside t }

-- So equal bytes are equal entries: the bytes determine every verdict and every mark.
pub determined : (es ds : List Entry) (i : ℕ) (d : Entry) → i < length es → i < length ds → Held (get_or es i d).f → Held (get_or es i d).df → Held (get_or ds i d).f → Held (get_or ds i d).df → answer_bytes es ≡ answer_bytes ds → get_or es i d ≡ get_or ds i d
determined es ds i d h k hf hdf kf kdf same = sym (read_back es i d h hf hdf) ∙ ap (λ (s : List ℕ). entry_from s i) same ∙ read_back ds i d k kf kdf

-- bench example (h): F 9, df 1, rank 1, inside
pub bench-entry : entry_bytes (record { f = Some (of_bits binary64 0x4022000000000000); df = Some (of_bits binary64 0x3ff0000000000000); rank = 1; inside = true }) ≡ 0 ∷ 0 ∷ 0 ∷ 0 ∷ 0 ∷ 0 ∷ 0x22 ∷ 0x40 ∷ 0 ∷ 0 ∷ 0 ∷ 0 ∷ 0 ∷ 0 ∷ 0xf0 ∷ 0x3f ∷ 1 ∷ 1 ∷ 1 ∷ 1 ∷ 0 ∷ 0 ∷ 0 ∷ 0 ∷ []
unfolding entry_bytes bytes_of bits_of to_bits of_bits
bench-entry = refl
