-- What an answer tells of its run: where there is none a zero pivot refused it; where there is one none did, and the entries are the run's.
use Prim.Native.Nat.{ℕ}
use native.Mathlib.Omega.{arith}
use mathlib.Core.Path.{◌≡◌, refl, ◌∙◌, ap}
use mathlib.Core.Bool.{Bool, true, false, cond}
use mathlib.Core.List.{List}
use lib.ListN.{replicate}
use Rattle.tests.specs.declared.Entry.{Entry}
use Rattle.tests.specs.Answer.{no_entry}
use Rattle.tests.specs.Entries.{run_refusal, run_entries}

module _ (b : Bool) where
  -- the number is 10 where it is refused, and 0 where it is not
  pub pivot-told : 10 ≡ run_refusal b → b ≡ true
  unfolding run_refusal
  pivot-told = go b
    where
      go : (a : Bool) → ◌≡◌ {A = ℕ} 10 (cond a 10 0) → a ≡ true
      go true e = refl
      go false e = absurd (omega arith)

  pub none-told : 0 ≡ run_refusal b → b ≡ false
  unfolding run_refusal
  none-told = go b
    where
      go : (a : Bool) → ◌≡◌ {A = ℕ} 0 (cond a 10 0) → a ≡ false
      go true e = absurd (omega arith)
      go false e = refl

  -- and then the entries of the answer are the run's
  pub own-entries : (es fs : List Entry) → 0 ≡ run_refusal b → fs ≡ run_entries b es → fs ≡ es
  unfolding run_entries
  own-entries es fs e v = v ∙ ap (λ (a : Bool). cond a (replicate 7 no_entry) es) (none-told e)
