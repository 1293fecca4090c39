-- Not needed to check document 01: names that join the code to its definitions.
-- A season's file that arrives in pieces of any lengths: what is kept of it while it comes. Of its open series that is what records_pieces keeps of a file; of those that are closed, the F's of the latest twenty.
use Rattle.std.specs.Prelude.{ℕ, ◌<◌, ◌≡◌, cond, List, [], ◌∷◌, ◌++◌, map, eqb, length, get_or, drop, replicate, Option, None, Float}
use Rattle.arithmetic_cutoffs.specs.Cutoffs.{document_cutoffs}
use Rattle.tests.specs.Answer.{no_entry}
use Rattle.records.specs.format.Bytes.{byte}
use Rattle.records.specs.text.Text.{codes, number_text, text_of}
use Rattle.records.specs.text.Season.{series_in, left_over, contrast_f, worst, added, latest_count}
use Rattle.records_answer_text.specs.joints.Cursor.{Put}
use Rattle.records_pieces.specs.declared.Arrival.{Arrival}
use Rattle.records_season.specs.declared.Season.{Season}
use Rattle.records_pieces.specs.joints.Arrived.{Arrived, arrived_as, Came}
use Rattle.records_arrived.specs.joints.ArrivedCall.{arrived_number, arrived_entries, kept_length}

-- the most bytes that are printed of a series: its lines, and the 23 of `worst`
abbrev pub closed_room : ℕ
closed_room = 462

-- and of a piece of 4,096 bytes, which closes 256 series at most
abbrev pub piece_room : ℕ
piece_room = 118272

-- how far the open series has come, and twenty F's, the oldest first
pub record SeasonState : Type 0 where
  pub arrived : Arrived
  pub window : List (Option Float)

abbrev pub season_of : Arrival → List ℕ → List ℕ → List (Option Float) → SeasonState
season_of a kept current window = record { arrived = arrived_as a kept current; window = window }

abbrev pub season_as : Season → SeasonState
season_as s = season_of s.arrival s.kept s.current s.window

-- the last twenty of the F's of all series, and none in front of them for series that have not been
unfoldable pub last_twenty : List (Option Float) → List (Option Float)
last_twenty fs = drop (length fs) (replicate latest_count None ++ fs)

-- one more: the oldest goes
abbrev pub with_latest : {A : Type 0} → A → List A → List A
with_latest x l = drop 1 l ++ (x ∷ [])

-- the `worst` line of a number
abbrev pub worst_text : Option Float → List ℕ
worst_text w = codes "worst " ++ (number_text w ++ codes "\n")

-- the F of a series that arrived, and what is printed of it when it is closed, from what is kept
abbrev pub arrived_f : Arrival → List ℕ → Option Float
arrived_f a kept = (get_or (arrived_entries document_cutoffs a kept) 6 no_entry).f

unfoldable pub arrived_text : Arrival → List ℕ → List (Option Float) → List ℕ
arrived_text a kept window =
    text_of (arrived_number document_cutoffs a kept) (arrived_entries document_cutoffs a kept)
    ++ cond (eqb (arrived_number document_cutoffs a kept) 0) (worst_text (worst (with_latest (arrived_f a kept) window))) []

-- ---- WHAT THE BYTES s OF A SEASON LEAVE, whole or in pieces
pub record SeasonCame (s : List ℕ) (st : SeasonState) : Type 0 where
  pub bytes : (i : ℕ) → byte s i < 256
  pub room : length st.arrived.kept ≡ kept_length
  pub unclosed : Came (left_over s) st.arrived
  pub window : st.window ≡ last_twenty (map (contrast_f document_cutoffs) (series_in s))

-- what some bytes leave: no contract can say which bytes a program reads
pub record SeasonArrives (st : SeasonState) : Type 0 where
  pub file : List ℕ
  pub came : SeasonCame file st

-- ---- FED THE BYTES t, whatever bytes s came before: the state is then what s and t leave, and what t adds to the text, `most` bytes at most, stands at the cursor, which has moved to its end; no other byte changed
pub record Fed (t : List ℕ) (most : ℕ) (before : SeasonState) (out : List ℕ) (at : ℕ) (after : SeasonState) (out' : List ℕ) (at' : ℕ) : Type 0 where
  pub state : (s : List ℕ) → SeasonCame s before → SeasonCame (s ++ t) after
  pub wrote : (s : List ℕ) → SeasonCame s before → Put most out at (added document_cutoffs s t) out' at'

-- ---- pieces one after another: what each adds to the text, after those before it
unfoldable pub added_by : List ℕ → List (List ℕ) → List ℕ
added_by s [] = []
added_by s (piece ∷ pieces) = added document_cutoffs s piece ++ added_by (s ++ piece) pieces
