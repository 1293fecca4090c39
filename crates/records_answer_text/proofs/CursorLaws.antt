-- A text put after another is one text put.
use Prim.Native.Nat.{ℕ, ◌+◌, ◌≤◌}
use native.Mathlib.Omega.{arith}
use native.Mathlib.Nat.{add-zero}
use mathlib.Core.Path.{◌≡◌, refl, sym, ap, ◌∙◌}
use mathlib.Core.List.{List, [], ◌∷◌, ◌++◌, append_assoc}
use borrow.Rule.Slice.PartMut.{put_mid}
use Rattle.std.proofs.lemmas.Slice.{put_mid-paste}
use Rattle.std.proofs.lemmas.List.Edits.{paste_all}
use lib.ListN.{length, take, drop, set, length-append}
use lib.Seq.{sets, sets-eq}
use Rattle.records_little_endian.proofs.StoreLaws.{sets-append}
use Rattle.records_answer_text.specs.joints.Cursor.{Put}

pub then : {m n : ℕ} {a b c : List ℕ} {at r q : ℕ} {xs ys : List ℕ} → Put m a at xs b r → Put n b r ys c q → Put (m + n) a at (xs ++ ys) c q
then {m} {n} {a} {b} {c} {at} {r} {q} {xs} {ys} p s =
    let e : length (xs ++ ys) ≡ length xs + length ys = length-append xs ys in
    let stored : c ≡ sets (sets a at xs) (at + length xs) ys = s.stored ∙ ap (λ (l : List ℕ). sets l r ys) p.stored ∙ ap (λ (k : ℕ). sets (sets a at xs) k ys) p.moved in
    let u = p.moved in
    let v = s.moved in
    let x = p.short in
    let y = s.short in
    record { stored = stored ∙ sets-append a at xs ys; moved = omega arith; short = omega arith }

-- nothing put
pub stay : (m : ℕ) (a : List ℕ) (at : ℕ) → Put m a at [] a at
stay m a at = record { stored = refl; moved = sym (add-zero at); short = omega arith }

-- one byte
pub single : (a : List ℕ) (at x y : ℕ) → x ≡ y → Put 1 a at (y ∷ []) (set a at x) (at + 1)
single a at x y e = record { stored = ap (set a at) e; moved = refl; short = omega arith }

-- the same under another name for the text, or a wider bound
pub named : {m n : ℕ} {a b : List ℕ} {at r : ℕ} {xs ys : List ℕ} → Put m a at xs b r → xs ≡ ys → m ≤ n → Put n a at ys b r
named {m} {n} {a} {b} {at} {r} {xs} {ys} p e h =
    let k : length xs ≡ length ys = ap length e in
    let u = p.moved in
    let x = p.short in
    record { stored = p.stored ∙ ap (sets a at) e; moved = omega arith; short = omega arith }

-- a text copied whole over the bytes from a place on
pub pasted : (a : List ℕ) (at k : ℕ) (text ys : List ℕ) → at + length text ≤ length a → k ≡ length text → ys ≡ text → put_mid at k a ys ≡ sets a at text
pasted a at k text ys l e g = put_mid-paste at k a ys text (length text) g (sym e) refl ∙ paste_all a at text (length text) refl ∙ sym (append_assoc (take at a) text (drop (at + length text) a)) ∙ sym (sets-eq text a at l)
