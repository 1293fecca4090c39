-- Document 01: "168 answer bytes: seven entries (coefficients 0–5, contrast) of F bits, df bits (none: 0), then bytes rank, F given, df given, inside, four zeros. Unused entries are
-- zero. The Satterthwaite call fills one such entry, 24 bytes."
use Rattle.std.specs.Prelude.{ℕ, ◌+◌, ◌*◌, Bool, cond, List, [], ◌∷◌, ◌++◌, eqb, is_some, Option, Some, None, Float}
use Rattle.std.specs.Float.Ieee.{to_bits, of_bits}
use Rattle.std.specs.Float.{binary64}
use Rattle.tests.specs.declared.Entry.{Entry}
use Rattle.records.specs.format.Bytes.{byte, long, bytes_of}

-- "F bits, df bits (none: 0)"
unfoldable pub bits_of : Option Float → ℕ
bits_of (Some x) = to_bits binary64 x
bits_of None = 0

-- a byte that says yes or no: 1 or 0
abbrev pub flag : Bool → ℕ
flag b = cond b 1 0

-- "rank, F given, df given, inside, four zeros"
abbrev pub tail : Entry → List ℕ
tail e = e.rank ∷ flag (is_some e.f) ∷ flag (is_some e.df) ∷ flag e.inside ∷ 0 ∷ 0 ∷ 0 ∷ 0 ∷ []

-- "seven entries", "one such entry, 24 bytes"
abbrev pub entry_length : ℕ
entry_length = 24

-- "168 answer bytes"
abbrev pub answer_length : ℕ
answer_length = 168

-- the bytes of an entry
unfoldable pub entry_bytes : Entry → List ℕ
entry_bytes e = bytes_of 8 (bits_of e.f) ++ (bytes_of 8 (bits_of e.df) ++ tail e)

-- the entries one after another: seven are an answer
unfoldable pub answer_bytes : List Entry → List ℕ
answer_bytes [] = []
answer_bytes (e ∷ es) = entry_bytes e ++ answer_bytes es

-- The reader's side: the number whose bits start at a byte, where another byte says that it is given, and entry i of the answer.
abbrev pub number_from : List ℕ → ℕ → ℕ → Option Float
number_from s at told = cond (eqb (byte s told) 1) (Some (of_bits binary64 (long s at))) None

abbrev pub entry_from : List ℕ → ℕ → Entry
entry_from s i = record {
  f = number_from s (entry_length * i) (entry_length * i + 17);
  df = number_from s (entry_length * i + 8) (entry_length * i + 18);
  rank = byte s (entry_length * i + 16);
  inside = eqb (byte s (entry_length * i + 19)) 1;
}
