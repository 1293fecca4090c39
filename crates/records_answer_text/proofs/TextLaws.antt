-- The digits of a number and the lines of the entries, put at a cursor one after another.
use Prim.Native.Nat.{ℕ, zero, suc, ◌+◌, ◌-◌, ◌*◌, ◌/◌, ◌%◌, ◌<◌, ◌≤◌}
use native.Mathlib.Omega.{arith}
use native.Mathlib.Numerals.{add-one}
use native.Mathlib.Nat.{mod-eq_of_lt, not-suc-le-zero, le_of_suc-le-suc}
use mathlib.Core.Path.{◌≡◌, refl, sym, ap, ◌∙◌}
use mathlib.Core.List.{List, [], ◌∷◌, ◌++◌}
use lib.ListN.{length, get_or}
use borrow.Author.Tests.{lt-ltb, le-ltb, eq-eqb, ne_eqb}
use Rattle.tests.specs.declared.Entry.{Entry}
use Rattle.tests.specs.Answer.{no_entry}
use Rattle.records.specs.text.Text.{codes, digit, hexadecimal, decimal, fields_text, coefficient_line, coefficient_lines, test_line, refusal_text, lines_text, text_of}
use Rattle.records_answer_text.specs.joints.Cursor.{Put}
use Rattle.records_answer_text.proofs.CursorLaws.{then, stay, named}

less_one : (n : ℕ) → (n ≡ 0 → ⊥) → suc (n - 1) ≡ n
less_one n h = omega arith

-- no digits
pub hexadecimal-none : (a : List ℕ) (at n w : ℕ) → n ≡ 0 → Put n a at (hexadecimal n w) a at
unfolding hexadecimal
hexadecimal-none a at n w e = named (stay n a at) (sym (ap (λ (k : ℕ). hexadecimal k w) e)) (omega arith)

pub decimal-none : (a : List ℕ) (at n w : ℕ) → n ≡ 0 → Put n a at (decimal n w) a at
unfolding decimal
decimal-none a at n w e = named (stay n a at) (sym (ap (λ (k : ℕ). decimal k w) e)) (omega arith)

-- the last digit after the others
pub hexadecimal-more : {a b c : List ℕ} {at r q : ℕ} (n w : ℕ) → (n ≡ 0 → ⊥) → Put (n - 1) a at (hexadecimal (n - 1) (w / 16)) b r → Put 1 b r (digit (w % 16) ∷ []) c q → Put n a at (hexadecimal n w) c q
unfolding hexadecimal
hexadecimal-more n w h p s = named (then p s) (ap (λ (k : ℕ). hexadecimal k w) (less_one n h)) (omega arith)

pub decimal-one : {a b : List ℕ} {at r : ℕ} (n w : ℕ) → (n ≡ 0 → ⊥) → w < 10 → Put 1 a at (digit w ∷ []) b r → Put n a at (decimal n w) b r
unfolding decimal
decimal-one n w h l p =
    let one : digit w ∷ [] ≡ decimal (suc (n - 1)) w = sym (rw (lt-ltb w 10 l, mod-eq_of_lt l)) in
    named p (one ∙ ap (λ (k : ℕ). decimal k w) (less_one n h)) (omega arith)

pub decimal-more : {a b c : List ℕ} {at r q : ℕ} (n w : ℕ) → (n ≡ 0 → ⊥) → 10 ≤ w → Put (n - 1) a at (decimal (n - 1) (w / 10)) b r → Put 1 b r (digit (w % 10) ∷ []) c q → Put n a at (decimal n w) c q
unfolding decimal
decimal-more n w h l p s =
    let more : decimal (n - 1) (w / 10) ++ (digit (w % 10) ∷ []) ≡ decimal (suc (n - 1)) w = sym (rw (le-ltb w 10 l)) in
    named (then p s) (more ∙ ap (λ (k : ℕ). decimal k w) (less_one n h)) (omega arith)

pub get_d_any : {A : Type 0} (l : List A) (i : ℕ) (d e : A) → i < length l → get_or l i d ≡ get_or l i e
get_d_any [] i d e h = absurd (not-suc-le-zero h)
get_d_any (x ∷ l) zero d e h = refl
get_d_any (x ∷ l) (suc i) d e h = get_d_any l i d e (le_of_suc-le-suc h)

-- the line of one coefficient more
pub coefficients-more : {a b c : List ℕ} {at r q : ℕ} (i : ℕ) (es : List Entry) → Put (63 * i) a at (coefficient_lines i es) b r → Put 63 b r (coefficient_line i (get_or es i no_entry)) c q → Put (63 * (i + 1)) a at (coefficient_lines (i + 1) es) c q
unfolding coefficient_lines
coefficients-more i es p s =
    let more : coefficient_lines i es ++ coefficient_line i (get_or es i no_entry) ≡ coefficient_lines (i + 1) es = sym (ap (λ (k : ℕ). coefficient_lines k es) (add-one i)) in
    named (then p s) more (omega arith)

-- a line that is not there, and one that is
pub coefficient-unused : (a : List ℕ) (at i : ℕ) (e : Entry) → e.rank ≡ 0 → Put 63 a at (coefficient_line i e) a at
unfolding coefficient_line
coefficient-unused a at i e h = named (stay 63 a at) (sym (rw (eq-eqb e.rank 0 h))) (omega arith)

pub coefficient-used : {a b : List ℕ} {at r : ℕ} (i : ℕ) (e : Entry) → (e.rank ≡ 0 → ⊥) → Put 63 a at (codes "coef " ++ (digit i ∷ []) ++ codes " " ++ fields_text e) b r → Put 63 a at (coefficient_line i e) b r
unfolding coefficient_line
coefficient-used i e h p = named p (sym (rw (ne_eqb e.rank 0 h))) (omega arith)

pub test-unused : (a : List ℕ) (at : ℕ) (e : Entry) → e.rank ≡ 0 → Put 61 a at (test_line e) a at
unfolding test_line
test-unused a at e h = named (stay 61 a at) (sym (rw (eq-eqb e.rank 0 h))) (omega arith)

pub test-used : {a b : List ℕ} {at r : ℕ} (e : Entry) → (e.rank ≡ 0 → ⊥) → Put 61 a at (codes "test " ++ fields_text e) b r → Put 61 a at (test_line e) b r
unfolding test_line
test-used e h p = named p (sym (rw (ne_eqb e.rank 0 h))) (omega arith)

-- which of the two texts it is
pub text-refused : (number : ℕ) (es : List Entry) → (number ≡ 0 → ⊥) → refusal_text number ≡ text_of number es
unfolding text_of
text-refused number es h = sym (rw (ne_eqb number 0 h))

pub text-accepted : (number : ℕ) (es : List Entry) → number ≡ 0 → lines_text es ≡ text_of number es
unfolding text_of
text-accepted number es h = sym (rw (eq-eqb number 0 h))
