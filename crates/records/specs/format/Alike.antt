-- Two files that may differ in the value bytes of their records alone.
use Rattle.std.specs.Prelude.{ℕ, ◌≡◌, List, length}
use Rattle.records.specs.format.File.{kind_of, row_of, column_of, padding_of, count_of, value_of}

-- of one length, whose records have the same fields: they may differ in the value bits alone
pub record Alike (s s' : List ℕ) : Type 0 where
  pub size : length s' ≡ length s
  pub kind : (i : ℕ) → kind_of s' i ≡ kind_of s i
  pub place : (i : ℕ) → row_of s' i ≡ row_of s i
  pub column : (i : ℕ) → column_of s' i ≡ column_of s i
  pub padding : (i : ℕ) → padding_of s' i ≡ padding_of s i
  pub number : (i : ℕ) → count_of s' i ≡ count_of s i

-- the values of kind k stay
abbrev pub Stays : List ℕ → List ℕ → ℕ → Type 0
Stays s s' k = (i : ℕ) → kind_of s i ≡ k → value_of s' i ≡ value_of s i
