-- Documents 01 and 02, "Refusals": the reader of any record file. Its kinds, by sizes and by the limit of specimens; the sizes that a file says; and what refuses a file of good form. What is said here holds of every reader.
use Rattle.std.specs.Prelude.{ℕ, Bool, List, ◌++◌, Float}
use Rattle.algebra.specs.Reasons.{first}
use Rattle.records.specs.declared.Sizes.{Sizes}
use Rattle.records.specs.format.Kinds.{Table, limits}
use Rattle.records.specs.format.File.{cell, length_reasons, form_reasons}
use Rattle.records.specs.format.Order.{order_reasons}

pub record Reader : Type 0 where
  pub kinds : Sizes → Table
  pub limit : ℕ
  pub sizes : List ℕ → Sizes
  pub own : List ℕ → List (ℕ × Bool)

module _ (r : Reader) where
  -- what its records may name at all: the table at the limits
  abbrev pub limit_kinds : Table
  limit_kinds = r.kinds (limits r.limit)

  module _ (s : List ℕ) where
    -- what the file's sizes leave each kind
    abbrev pub file_kinds : Table
    file_kinds = r.kinds (r.sizes s)

    -- its length and order, document 02's "Req 01": "checked directly after the multiple-of-16 test of 2 and before 2's other reasons"; its form
    abbrev pub formed_reasons : List (ℕ × Bool)
    formed_reasons = length_reasons s ++ (order_reasons s ++ form_reasons limit_kinds file_kinds s)

    -- its number by these alone
    abbrev pub formed_number : ℕ
    formed_number = first formed_reasons

    -- all but the length and the order: what the records say
    abbrev pub content_reasons : List (ℕ × Bool)
    content_reasons = form_reasons limit_kinds file_kinds s ++ r.own s

    -- what refuses a file before anything is computed
    abbrev pub reader_reasons : List (ℕ × Bool)
    reader_reasons = length_reasons s ++ (order_reasons s ++ content_reasons)
