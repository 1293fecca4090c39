-- What the number of a file says, of every reader: its length, order and form decide before what is its own; and what holds of a file that none of them refuses.
use Prim.Native.Nat.{ℕ, ◌%◌}
use mathlib.Core.Path.{◌≡◌, refl, sym, ap, ◌∙◌}
use mathlib.Core.Bool.{false, cond}
use mathlib.Core.List.{List, ◌++◌}
use lib.Dec.{eqb, lit≤}
use lib.ListN.{length}
use borrow.Author.Tests.{eqb-true, not-false, ne_eqb}
use Rattle.algebra.specs.Reasons.{first}
use Rattle.algebra.proofs.ReasonLaws.{NoneHolds, first-none, first-append, first-front}
use Rattle.records.specs.format.Scan.{any}
use Rattle.records.specs.format.Kinds.{kind_numbers}
use Rattle.records.specs.format.File.{count, bad_record, again, beyond, missing, length_reasons, form_reasons}
use Rattle.records.specs.format.Order.{falls, order_reasons}
use Rattle.records.specs.readers.Reader.{Reader, limit_kinds, file_kinds, formed_reasons, formed_number, reader_reasons}

-- a file of good form
pub record WellFormed (r : Reader) (s : List ℕ) : Type 0 where
  pub whole : length s % 16 ≡ 0
  pub rises : falls s ≡ false
  pub good : any (count s) (bad_record (limit_kinds r) s) ≡ false
  pub once : any (count s) (again (file_kinds r s) s) ≡ false
  pub complete : any kind_numbers (missing (file_kinds r s) s) ≡ false
  pub within : any (count s) (beyond (file_kinds r s) s) ≡ false

module _ (r : Reader) (s : List ℕ) where
  -- its number: by length, order and form, and then by what is the reader's own
  pub reader-is : first (reader_reasons r s) ≡ cond (eqb (formed_number r s) 0) (first (r.own s)) (formed_number r s)
  unfolding length_reasons order_reasons form_reasons
  reader-is = first-append (formed_reasons r s) (r.own s) refl

  pub form-refuses : (n : ℕ) → n ≡ formed_number r s → (n ≡ 0 → ⊥) → n ≡ first (reader_reasons r s)
  form-refuses n e h = sym (reader-is ∙ rw (← e, ne_eqb n 0 h))

  pub own-decides : formed_number r s ≡ 0 → first (reader_reasons r s) ≡ first (r.own s)
  own-decides e = reader-is ∙ rw e

  pub accepted-formed : first (reader_reasons r s) ≡ 0 → formed_number r s ≡ 0
  unfolding length_reasons order_reasons form_reasons
  accepted-formed e = first-front (formed_reasons r s) (r.own s) e

  pub accepted-own : first (reader_reasons r s) ≡ 0 → first (r.own s) ≡ 0
  accepted-own e = sym (own-decides (accepted-formed e)) ∙ e

  pub well-formed : formed_number r s ≡ 0 → WellFormed r s
  unfolding length_reasons order_reasons form_reasons
  well-formed e =
      let n : NoneHolds (formed_reasons r s) = first-none (formed_reasons r s) refl e in
      record {
        whole = eqb-true (length s % 16) 0 (not-false (eqb (length s % 16) 0) (n 0 (lit≤ tt)));
        rises = n 1 (lit≤ tt);
        good = n 2 (lit≤ tt);
        once = n 3 (lit≤ tt);
        complete = n 4 (lit≤ tt);
        within = n 5 (lit≤ tt);
      }
