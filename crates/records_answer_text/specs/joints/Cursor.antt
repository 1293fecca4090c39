-- Not needed to check document 01: names that join the code to its definitions.
-- Text put into a list of bytes at a cursor, which moves on to the text's end.
use Rattle.std.specs.Prelude.{ℕ, ◌+◌, ◌≤◌, ◌≡◌, List, length}
use Rattle.std.proofs.lemmas.List.Edits.{sets}

-- the most bytes that the lines of six coefficients and of a contrast have: six of 63 and one of 61; a refusal has fewer
abbrev pub lines_room : ℕ
lines_room = 439

-- what `pulltest` lends for them
abbrev pub text_room : ℕ
text_room = 512

-- a text of at most so many bytes stands from the cursor on, and nothing else has changed
pub record Put (most : ℕ) (before : List ℕ) (at : ℕ) (text : List ℕ) (after : List ℕ) (next : ℕ) : Type 0 where
  pub stored : after ≡ sets before at text
  pub moved : next ≡ at + length text
  pub short : length text ≤ most
