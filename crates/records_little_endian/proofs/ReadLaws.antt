-- A number's bytes read back, at the front of a list and after other bytes.
use Prim.Native.Nat.{ℕ, ◌+◌, ◌<◌, ◌^◌}
use native.Mathlib.Omega.{arith}
use native.Mathlib.Nat.{add_assoc}
use mathlib.Core.Path.{◌≡◌, refl, sym, ap, ◌∙◌}
use mathlib.Core.List.{List, ◌++◌}
use lib.ListN.{length}
use lib.Seq.{get_or-append-add}
use Rattle.records.specs.format.Bytes.{byte, word, long, bytes_of}

pub length-bytes : (w : ℕ) → length (bytes_of 8 w) ≡ 8
unfolding bytes_of
length-bytes w = refl

pub long-back : (w : ℕ) (l : List ℕ) → w < 2 ^ 64 → long (bytes_of 8 w ++ l) 0 ≡ w
unfolding long word bytes_of
long-back w l h = omega arith

-- what stands after n bytes
pub byte-after : (n : ℕ) (xs ys : List ℕ) (k : ℕ) → length xs ≡ n → byte (xs ++ ys) (n + k) ≡ byte ys k
byte-after n xs ys k e = ap (λ (m : ℕ). byte (xs ++ ys) (m + k)) (sym e) ∙ get_or-append-add xs ys k 0

pub word_after : (n : ℕ) (xs ys : List ℕ) (k : ℕ) → length xs ≡ n → word (xs ++ ys) (n + k) ≡ word ys k
unfolding word
word_after n xs ys k e =
    let b : (j : ℕ) → byte (xs ++ ys) (n + k + j) ≡ byte ys (k + j) = λ j. ap (byte (xs ++ ys)) (add_assoc n k j) ∙ byte-after n xs ys (k + j) e in
    cc (byte-after n xs ys k e, b 1, b 2, b 3)

pub long_after : (n : ℕ) (xs ys : List ℕ) (k : ℕ) → length xs ≡ n → long (xs ++ ys) (n + k) ≡ long ys k
unfolding long
long_after n xs ys k e =
    let high : word (xs ++ ys) (n + k + 4) ≡ word ys (k + 4) = ap (word (xs ++ ys)) (add_assoc n k 4) ∙ word_after n xs ys (k + 4) e in
    cc (word_after n xs ys k e, high)
