-- What `any` answers over the numbers below n, as code asks it of a range or of a slice, is the question of specs/format/Scan.antt.
use Prim.Native.Nat.{ℕ, zero, suc, ◌+◌, ◌<◌}
use mathlib.Core.Path.{◌≡◌, refl, ap, sym, ◌∙◌}
use mathlib.Core.Bool.{Bool, ◌||◌}
use mathlib.Core.List.{List, [], ◌∷◌}
use native.Mathlib.Omega.{arith}
use lib.ListN.{length, get_or}
use denote.Ref.{Bor}
use denote.Param.Members.{Mut}
use Rattle.std.specs.Fn.{Called}
use Rattle.std.specs.Iterator.{ChecksAny}
use Rattle.std.specs.List.{list_any, range_with_len}
use Rattle.std.specs.Slice.Iter.{iter_rest}
use Rattle.std.specs.declared.ops.Range.{Range}
use Rattle.std.specs.declared.slice.Iter.{Iter}
use Rattle.std.proofs.iter.Yields.{nat_range_steps, fronts}
use Rattle.std.proofs.lemmas.Iterator.{YieldsList-from_range, YieldsList-from_slice}
use Rattle.std.proofs.lemmas.Iterator.Search.{any_from_yields_List}
use Rattle.records.specs.format.Scan.{any}
use Rattle.records.proofs.format.ScanLaws.{any_same, any-split}

-- the numbers from a on, as a list
any-listed : (n a : ℕ) (p : ℕ → Bool) → list_any p (range_with_len a n) ≡ any n (λ i. p (a + i))
unfolding any
any-listed zero a p = refl
any-listed (suc n) a p =
    let one : any 1 (λ i. p (a + i)) ≡ p a = ap p (omega arith) in
    let rest : any n (λ i. p (a + 1 + i)) ≡ any n (λ i. p (a + (1 + i))) = any_same n (λ i. p (a + 1 + i)) (λ i. p (a + (1 + i))) (λ i l. ap p (omega arith)) in
    let whole : any (1 + n) (λ i. p (a + i)) ≡ any 1 (λ i. p (a + i)) || any n (λ i. p (a + (1 + i))) = any-split 1 n (λ i. p (a + i)) in
    let count : 1 + n ≡ suc n = omega arith in
    ap (λ (b : Bool). p a || b) (any-listed n (a + 1) p ∙ rest) ∙ ap (λ (b : Bool). b || any n (λ i. p (a + (1 + i)))) (sym one) ∙ sym whole ∙ ap (λ (k : ℕ). any k (λ i. p (a + i))) count

-- s is the range 0..n, the clause is that of `any`, and each call answers p of its number
pub any_in_range : {F : Type 0} {g : Mut F (ℕ × Unit {0}) Bool} {s u : Range ℕ} {f : F} {r : Bool} (n : ℕ) (p : ℕ → Bool)
    → ChecksAny nat_range_steps g s f r u → s ≡ record { start = 0; end = n } → ((x : ℕ) (b : Bool) (q : F) → Called g f (x, tt) b q → (q ≡ f) × (b ≡ p x)) → r ≡ any n p
any_in_range {u = u} {f = f} {r = r} n p ran e each =
    any_from_yields_List p u f r ran (YieldsList-from_range 0 n n e (omega arith)) each ∙ any-listed n 0 p ∙ any_same n (λ i. p (0 + i)) p (λ i l. ap p (omega arith))

-- ---- and over the elements of a slice
listed : {A : Type 0} (xs : List A) (d : A) (p : A → Bool) → list_any p xs ≡ any (length xs) (λ i. p (get_or xs i d))
unfolding any
listed [] d p = refl
listed (x ∷ xs) d p =
    let n = length xs in
    let whole : any (1 + n) (λ i. p (get_or (x ∷ xs) i d)) ≡ p x || any n (λ i. p (get_or (x ∷ xs) (1 + i) d)) = any-split 1 n (λ i. p (get_or (x ∷ xs) i d)) in
    let rest : any n (λ i. p (get_or xs i d)) ≡ any n (λ i. p (get_or (x ∷ xs) (1 + i) d)) = any_same n (λ i. p (get_or xs i d)) (λ i. p (get_or (x ∷ xs) (1 + i) d)) (λ i l. let e : suc i ≡ 1 + i = omega arith in ap (λ (k : ℕ). p (get_or (x ∷ xs) k d)) e) in
    let count : 1 + n ≡ suc n = omega arith in
    ap (λ (b : Bool). p x || b) (listed xs d p ∙ rest) ∙ sym whole ∙ ap (λ (k : ℕ). any k (λ i. p (get_or (x ∷ xs) i d))) count

-- s goes over xs, the clause is that of `any`, and each call answers p of its element, which is q of its place
pub any_in_items : {A F : Type 0} {g : Mut F (Bor A × Unit {0}) Bool} {s u : Iter A} {f : F} {r : Bool} (n : ℕ) (q : ℕ → Bool) (xs : List A) (d : A) (p : A → Bool)
    → ChecksAny fronts g s f r u → iter_rest s ≡ xs → length xs ≡ n → ((i : ℕ) → i < n → p (get_or xs i d) ≡ q i) → ((x : Bor A) (b : Bool) (h : F) → Called g f (x, tt) b h → (h ≡ f) × (b ≡ p x.now)) → r ≡ any n q
any_in_items {u = u} {f = f} {r = r} n q xs d p ran e m places each =
    any_from_yields_List p u f r ran (YieldsList-from_slice xs e) each ∙ listed xs d p ∙ ap (λ (k : ℕ). any k (λ i. p (get_or xs i d))) m ∙ any_same n (λ i. p (get_or xs i d)) q places
