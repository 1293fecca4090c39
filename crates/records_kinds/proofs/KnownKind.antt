-- What the table says of the last record's kind is kept from record to record, and asked again where the kind changes: either way it is what the table says of this record's kind.
use Prim.Native.Nat.{ℕ}
use mathlib.Core.Path.{◌≡◌, sym, ap, ◌∙◌}
use Rattle.records.specs.declared.Kind.{Kind}
use Rattle.records.specs.format.Kinds.{Table, kind_at}

-- the kind of the record and what the table says of it
pub record Known (t : Table) (kind l : ℕ) (k : Kind) : Type 0 where
  pub last : l ≡ kind
  pub known : k ≡ kind_at t kind

-- asked again, and kept
pub asked : (t : Table) (kind found l : ℕ) (k r : Kind) → found ≡ kind → r ≡ kind_at t found → l ≡ found → k ≡ r → Known t kind l k
asked t kind found l k r e h g q = record { last = g ∙ e; known = q ∙ h ∙ ap (kind_at t) e }

pub same_kind : (t : Table) (kind found l₀ l : ℕ) (k₀ k : Kind) → found ≡ kind → found ≡ l₀ → k₀ ≡ kind_at t l₀ → l ≡ l₀ → k ≡ k₀ → Known t kind l k
same_kind t kind found l₀ l k₀ k e s h g q = record { last = g ∙ sym s ∙ e; known = q ∙ h ∙ ap (kind_at t) (sym s ∙ e) }

-- and so it is what the table says of the last record's kind when the next is read
pub kept-kind : (t : Table) (kind l : ℕ) (k : Kind) → Known t kind l k → k ≡ kind_at t l
kept-kind t kind l k w = w.known ∙ ap (kind_at t) (sym w.last)
