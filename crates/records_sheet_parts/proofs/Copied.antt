-- Numbers of a sheet that are copied to the front of an array of zeros.
use Prim.Native.Nat.{ℕ, zero, suc, ◌+◌, ◌≤◌}
use native.Mathlib.Numerals.{add-one}
use native.Mathlib.Nat.{zero-add}
use native.Mathlib.Omega.{arith}
use mathlib.Core.Path.{◌≡◌, sym, ap, ap₂, ◌∙◌}
use mathlib.Core.List.{List, ◌++◌}
use lib.ListN.{length, get_or, set, take, drop, replicate, length-replicate}
use lib.Seq.{paste}
use lib.Ieee.{Float, nan}
use Rattle.std.proofs.Common.{length-drop}
use Rattle.std.proofs.lemmas.List.{get_or-drop}
use Rattle.std.proofs.lemmas.List.Edits.{paste_none, paste_more}
use Rattle.arithmetic.specs.Numbers.{plus_zero}
use Rattle.algebra.specs.Table.{row}
use Rattle.algebra.proofs.FoldLaws.{fold_start, fold_more}
use Rattle.records_sheet_parts.specs.joints.Parts.{numbers_at}

module _ (sheet : List Float) (C at : ℕ) where
  abbrev zeros : List Float
  zeros = replicate C plus_zero

  pasted : (n : ℕ) → at + n ≤ length sheet → n ≤ C → paste zeros 0 (drop at sheet) n ≡ numbers_at sheet C at n
  unfolding numbers_at row
  pasted zero h k = sym (paste_none zeros 0 (drop at sheet)) ∙ fold_start 0 (λ j ys. set ys j (get_or sheet (at + j) nan)) zeros
  pasted (suc n) h k =
      rw (← add-one)
      (sym (paste_more zeros 0 (drop at sheet) n nan (omega (arith, length-replicate C plus_zero)) (omega (arith, length-drop at sheet)))
      ∙ ap (λ (j : ℕ). set (paste zeros 0 (drop at sheet) n) j (get_or (drop at sheet) n nan)) (zero-add n)
      ∙ ap₂ (λ (ys : List Float) (x : Float). set ys n x) (pasted n (omega arith) (omega arith)) (get_or-drop at sheet n nan)
      ∙ sym (fold_more 0 n (λ j ys. set ys j (get_or sheet (at + j) nan)) zeros (omega arith)))

  pub copied : (n m : ℕ) → m ≡ n → at + n ≤ length sheet → n ≤ C → take m (drop at sheet) ++ drop n zeros ≡ numbers_at sheet C at n
  copied n m e h k = rw e (ap (λ (j : ℕ). take n (drop at sheet) ++ drop j zeros) (sym (zero-add n)) ∙ pasted n h k)
