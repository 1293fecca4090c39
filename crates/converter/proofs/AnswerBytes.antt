-- Entries with the same verdicts have the same answer bytes but for the marks: the bytes of two such entries differ at most in byte 19, and each entry has 24 bytes.
use Prim.Native.Nat.{ℕ, ◌+◌, ◌-◌, ◌%◌, ◌<◌, ◌≤◌}
use native.Mathlib.Nat.{add-mod_left}
use native.Mathlib.Omega.{arith}
use mathlib.Core.Path.{◌≡◌, refl, sym, ap, ◌∙◌, subst}
use mathlib.Core.Logic.{◌≢◌}
use mathlib.Core.Bool.{Bool, true, false, not, cond}
use mathlib.Core.List.{List, [], ◌∷◌, ◌++◌, map}
use lib.Dec.{T, eqb, ltb, ltb→lt, nltb→le}
use lib.ListN.{length, set, length-append, get_or-append}
use lib.Seq.{get_or-set_other, get_or-append-add}
use Rattle.tests.specs.declared.Entry.{Entry}
use Rattle.tests.specs.Verdict.{Verdict, verdict}
use Rattle.records.specs.format.Bytes.{byte, bytes_of}
use Rattle.records.specs.format.Layout.{flag, entry_bytes, answer_bytes}
use Rattle.converter.specs.AnswerBytes.{SameButMarks, SameAnswer}

-- the entry of a verdict and a mark
abbrev pub entry_with : Verdict → Bool → Entry
entry_with v inside = record { f = v.f; df = v.df; rank = v.rank; inside = inside }

long-entry : (e : Entry) → length (entry_bytes e) ≡ 24
unfolding entry_bytes bytes_of
long-entry e = refl

-- another mark is another byte 19
mark-byte : (v : Verdict) (a b : Bool) → entry_bytes (entry_with v b) ≡ set (entry_bytes (entry_with v a)) 19 (flag b)
unfolding entry_bytes bytes_of
mark-byte v a b = refl

entry-byte : (x y : Entry) → verdict y ≡ verdict x → (i : ℕ) → i ≢ 19 → byte (entry_bytes y) i ≡ byte (entry_bytes x) i
entry-byte x y e i h =
    ap (λ (v : Verdict). byte (entry_bytes (entry_with v y.inside)) i) e
    ∙ ap (λ (s : List ℕ). byte s i) (mark-byte (verdict x) x.inside y.inside)
    ∙ get_or-set_other (entry_bytes x) 19 i (flag y.inside) 0 h

-- the Satterthwaite call's one entry
pub entry-same : (x y : Entry) → verdict y ≡ verdict x → SameButMarks (entry_bytes x) (entry_bytes y)
entry-same x y e = record { long = long-entry y ∙ sym (long-entry x); bytes = λ i h. entry-byte x y e i (λ n. h (ap (λ (j : ℕ). j % 24) n)) }

-- a first entry, and the others after it
after : (x y xs ys : List ℕ) → length x ≡ 24 → SameButMarks x y → SameButMarks xs ys → SameButMarks (x ++ xs) (y ++ ys)
after x y xs ys n a b = record { long = rw (length-append y ys, length-append x xs, a.long, b.long); bytes = λ i h. go i h (ltb i 24) (ltb→lt i 24) (nltb→le i 24) }
  where
    in_later : (i j : ℕ) → i % 24 ≢ 19 → i ≡ 24 + j → byte (y ++ ys) i ≡ byte (x ++ xs) i
    in_later i j h e =
        let ey : i ≡ length y + j = omega (arith, a.long) in
        let ex : i ≡ length x + j = omega arith in
        ap (byte (y ++ ys)) ey ∙ get_or-append-add y ys j 0 ∙ b.bytes j (λ k. h (ap (λ (n : ℕ). n % 24) e ∙ add-mod_left 24 j ∙ k))
        ∙ sym (get_or-append-add x xs j 0) ∙ ap (byte (x ++ xs)) (sym ex)

    go : (i : ℕ) → i % 24 ≢ 19 → (c : Bool) → (T c → i < 24) → (T (not c) → 24 ≤ i) → byte (y ++ ys) i ≡ byte (x ++ xs) i
    go i h true l g =
        let m : i < 24 = l tt in
        let my : i < length y = omega (arith, a.long) in
        let mx : i < length x = omega arith in
        get_or-append y ys 0 i my ∙ a.bytes i h ∙ sym (get_or-append x xs 0 i mx)
    go i h false l g = let m : 24 ≤ i = g tt in in_later i (i - 24) h (omega arith)

-- the Kenward–Roger call's seven, or any number of entries
pub answer-same : (xs ys : List Entry) → map verdict ys ≡ map verdict xs → SameButMarks (answer_bytes xs) (answer_bytes ys)
unfolding answer_bytes
answer-same [] [] e = record { long = refl; bytes = λ i h. refl }
answer-same [] (y ∷ ys) e = let z : ◌≡◌ {A = ℕ} 0 1 = cc in absurd (omega arith)
answer-same (x ∷ xs) [] e = let z : ◌≡◌ {A = ℕ} 0 1 = cc in absurd (omega arith)
answer-same (x ∷ xs) (y ∷ ys) e =
    after (entry_bytes x) (entry_bytes y) (answer_bytes xs) (answer_bytes ys) (long-entry x) (entry-same x y (cc)) (answer-same xs ys (cc))

-- either call on two files that it accepts, so that it returns 0 for any bytes of the stated length, with the same bytes but for the marks
module _ (stated : ℕ) (returned returned' : List ℕ → ℕ) (bytes bytes' : List ℕ) (zero : (answer : List ℕ) → length answer ≡ stated → returned answer ≡ 0)
    (zero' : (answer : List ℕ) → length answer ≡ stated → returned' answer ≡ 0) (same : SameButMarks bytes bytes') where
  bytes-written : (r : ℕ) → r ≡ 0 → (b answer : List ℕ) → b ≡ cond (eqb r 0) b answer
  bytes-written r e b answer = rw e

  pub same_answer : SameAnswer stated (λ answer. cond (eqb (returned answer) 0) bytes answer) returned' (λ answer. cond (eqb (returned' answer) 0) bytes' answer)
  same_answer = record {
    returns = zero';
    writes = λ answer h. subst (λ (t : List ℕ). SameButMarks t (cond (eqb (returned' answer) 0) bytes' answer)) (bytes-written (returned answer) (zero answer h) bytes answer)
        (subst (λ (t : List ℕ). SameButMarks bytes t) (bytes-written (returned' answer) (zero' answer h) bytes' answer) same);
  }
