-- The start and the end of an elimination, for any kind of number.
use Prim.Native.Nat.{ℕ, ◌+◌, ◌-◌, ◌≤◌, ◌<◌}
use native.Mathlib.Omega.{arith}
use mathlib.Core.Path.{◌≡◌, sym, ap, ◌∙◌}
use mathlib.Core.Bool.{Bool}
use mathlib.Core.List.{List, []}
use lib.ListN.{length, get_or, set, replicate}
use borrow.Author.Tests.{lt-ltb, le-ltb}
use Rattle.algebra.specs.Fold.{fold}
use Rattle.algebra.specs.Table.{row}
use Rattle.algebra.specs.Kind.{Arith, zero_of}
use Rattle.algebra.specs.Elimination.{eliminate_to, back_to, joined, solution, refused}
use Rattle.algebra.proofs.FoldLaws.{fold-steps, fold_next, fold_end}
use Rattle.algebra.proofs.TableLaws.{length-table}
use Rattle.algebra.proofs.EliminationLaws.{refused-diagonal}
use Rattle.algebra_elimination.specs.joints.Parts.{singular, joined_cell}

module _ {A : Type 0} (N : Arith A) where
  -- a row of A and a row of B side by side: one more cell of A
  pub joined-next : (W n j : ℕ) (a b o : List A) → j < n → o ≡ row (zero_of N) W j (joined_cell N n a b)
      → set o j (get_or a j N.void) ≡ row (zero_of N) W (j + 1) (joined_cell N n a b)
  unfolding row
  joined-next W n j a b o h e =
      fold_next 0 j (λ j v. set v j (joined_cell N n a b j)) (replicate W (zero_of N)) o _ (omega arith) e (ap (λ (v : A). set o j v) (rw (lt-ltb j n h)))

  joined-right : (n k : ℕ) (a b : List A) → get_or b k N.void ≡ joined_cell N n a b (n + k)
  joined-right n k a b =
      let e : n + k - n ≡ k = omega arith in
      rw (le-ltb (n + k) n (omega arith), e)

  -- the cells of A, and after them the cells of B
  pub joined-row-is : (W n cols j k : ℕ) (a b o r : List A) → j ≤ n → n ≤ j → o ≡ row (zero_of N) W j (joined_cell N n a b) → k ≤ cols → cols ≤ k
      → r ≡ fold 0 k (λ k y. set y (n + k) (get_or b k N.void)) o → r ≡ row (zero_of N) W (n + cols) (joined_cell N n a b)
  unfolding row
  joined-row-is W n cols j k a b o r hj lj e hk lk d =
      fold_end 0 k cols (λ k y. set y (n + k) (get_or b k N.void)) o r hk lk d
      ∙ fold-steps (λ k y. y ≡ row (zero_of N) W (n + k) (joined_cell N n a b)) 0 cols (λ k y. set y (n + k) (get_or b k N.void)) o (omega arith)
      (let z : n + 0 ≡ j = omega arith in rw z e)
      (λ k l m y p. let q : n + (k + 1) ≡ n + k + 1 = omega arith in
      rw q (fold_next 0 (n + k) (λ j v. set v j (joined_cell N n a b j)) (replicate W (zero_of N)) y _ (omega arith) p (ap (λ (v : A). set y (n + k) v) (joined-right n k a b))))

  -- A and B side by side have as many rows as are stored
  length-joined : (R W n cols : ℕ) (a b : List (List A)) → length (joined N R W n cols a b) ≡ R
  unfolding joined
  length-joined R W n cols a b = length-table (zero_of N) R W n (n + cols) (λ i. joined_cell N n (get_or a i []) (get_or b i []))

  -- the zero test after the run that goes on tells what the stopping run refuses
  pub refused-is : (R W n cols : ℕ) (a b m e : List (List A)) (z : Bool) → n ≤ R → m ≡ joined N R W n cols a b → e ≡ eliminate_to N n n (n + cols) m
      → z ≡ singular N n e → z ≡ refused N R W n cols a b
  unfolding refused singular
  refused-is R W n cols a b m e z h p q s =
      rw (s, q, p) (sym (refused-diagonal N n (n + cols) (joined N R W n cols a b) (rw length-joined h)))

  pub solution-is : (R W C n cols : ℕ) (a b m e x : List (List A)) → m ≡ joined N R W n cols a b → e ≡ eliminate_to N n n (n + cols) m
      → x ≡ back_to N n R C n cols e → x ≡ solution N R W C n cols a b
  unfolding solution
  solution-is R W C n cols a b m e x p q s = rw (s, q, p)
