-- One byte more of a season, as the code takes it: within a record, with a record that does not close, and with one that does; and bytes after bytes.
use Prim.Native.Nat.{ℕ, zero, suc, ◌+◌, ◌*◌, ◌/◌, ◌%◌, ◌≤◌, ◌<◌}
use native.Mathlib.Omega.{arith}
use native.Mathlib.Decide.{ℕ_discrete}
use mathlib.Core.Path.{◌≡◌, refl, sym, ap, ◌∙◌, subst}
use mathlib.Core.Bool.{Bool, true, false, not, ◌||◌, true≢false}
use mathlib.Core.List.{List, [], ◌∷◌, ◌++◌, map, append-nil, append_assoc}
use lib.Dec.{eqb}
use lib.Ieee.{Float}
use lib.ListN.{length, get_or, take, set, replicate, length-append, length-set, get_or-append}
use borrow.Author.Tests.{eqb-true, eq-eqb, ne_eqb, not-false}
use lib.Seq.{set-set, get_or-set_same, get_or-set_other, get_or-append-add, take-suc, take-length}
use native.Mathlib.Numerals.{add-one}
use Rattle.arithmetic_cutoffs.specs.Cutoffs.{document_cutoffs}
use Rattle.std.specs.Prelude.{Option, None}
use Rattle.tests.specs.declared.Entry.{Entry}
use Rattle.tests.specs.Answer.{no_entry}
use Rattle.records.specs.format.Bytes.{byte}
use Rattle.records.specs.format.Scan.{last}
use Rattle.records.specs.format.File.{count}
use Rattle.records.specs.calls.KenwardRogerCall.{number, entries}
use Rattle.records.specs.text.Text.{refusal_text, text_of}
use Rattle.records.specs.text.Season.{closes, begins, series_before, series_to, series_in, left_over, worst, latest, series_lines, contrast_f, fs_of, worst_line, closed_text, texts_to, closed_texts, left_text, season_text, printed, added, latest_count}
use Rattle.records.proofs.format.ScanLaws.{or-false}
use Rattle.records.proofs.text.SeasonLaws.{closes-same, part-series, part_left, whole-series, whole-left, closed-series, closed-left, left-whole, left-length, left-byte, series-byte}
use Rattle.records.proofs.text.SeasonTexts.{fs-are, texts-more, printed-grows, added_is, added-both, added-nothing}
use Rattle.records_answer_text.specs.joints.Cursor.{Put}
use Rattle.records_answer_text.proofs.CursorLaws.{then, stay, named}
use Rattle.records_answer_text.proofs.TextLaws.{get_d_any}
use Rattle.records_pieces.specs.declared.Arrival.{Arrival}
use Rattle.records_pieces.specs.joints.Arrived.{Arrived, arrived_as, nothing_yet, whole_ones, take_byte, joined_pieces, Came}
use Rattle.records_pieces.proofs.PieceLaws.{byte-length}
use Rattle.records_pieces.proofs.CameLaws.{byte-came, wholes-came, nothing-came, joined_bytes}
use Rattle.records_arrived.specs.joints.ArrivedCall.{arrived_number, arrived_entries, kept_length}
use Rattle.records_arrived.proofs.ArrivedLaws.{arrived-number, arrived-entries}
use Rattle.records_season.specs.joints.SeasonCame.{SeasonState, season_of, last_twenty, with_latest, worst_text, arrived_f, arrived_text, SeasonCame, SeasonArrives, Fed, added_by, closed_room}
use Rattle.records_season.proofs.WindowLaws.{window-start, window_more, window-worst, map_more}

byte-alone : (b : ℕ) → b < 256 → (i : ℕ) → byte (b ∷ []) i < 256
byte-alone b h zero = h
byte-alone b h (suc i) = omega arith

-- ---- what the bytes s leave
module _ (s : List ℕ) (st : SeasonState) (k : SeasonCame s st) where
  abbrev a : Arrival
  a = st.arrived.arrival

  -- how far the current record is
  pub season-part : a.part ≡ length s % 16
  season-part = let p = k.unclosed.part in let l = left-length s in omega arith

  -- the records of the open series before the current one
  whole-left-count : 16 * begins s (count s) + 16 * count (left_over s) ≡ 16 * count s
  whole-left-count = let l = left-length s in omega arith

  module _ (b : ℕ) (small : b < 256) where
    abbrev s' : List ℕ
    s' = s ++ (b ∷ [])

    bytes-now : (i : ℕ) → byte s' i < 256
    bytes-now = joined_bytes s (b ∷ []) k.bytes (byte-alone b small)

    -- the byte is one of the open series
    module _ (same_series : series_in s' ≡ series_in s) (moreLeft : left_over s' ≡ left_over s ++ (b ∷ [])) where
      pub open-state : SeasonCame s' (record { arrived = take_byte b st.arrived; window = st.window })
      open-state = record {
        bytes = bytes-now;
        room = byte-length b st.arrived ∙ k.room;
        unclosed = rw moreLeft (byte-came (left_over s) b st.arrived k.unclosed);
        window = rw same_series k.window;
      }

      pub open-added : added document_cutoffs s (b ∷ []) ≡ []
      open-added = added_is document_cutoffs s (b ∷ []) [] (ap (closed_texts document_cutoffs) same_series ∙ sym (append-nil (printed document_cutoffs s)))

    -- with it the current record is whole
    module _ (e : a.part ≡ 15) where
      whole-now : length s % 16 ≡ 15
      whole-now = sym season-part ∙ e

      pub closes-now : closes (set st.arrived.current 15 b) 0 ≡ closes s' (count s)
      closes-now = closes-same (set st.arrived.current 15 b) s' 0 (count s) (λ o h. same o h (ℕ_discrete o 15))
        where
          same : (o : ℕ) → o < 16 → Dec (o ≡ 15) → byte (set st.arrived.current 15 b) (16 * 0 + o) ≡ byte s' (16 * count s + o)
          same o h (yes q) =
              let w = whole-now in
              let six = k.unclosed.ready.sixteen in
              let x : 16 * 0 + o ≡ 15 = omega arith in
              let y : 16 * count s + o ≡ length s + 0 = omega arith in
              ap (byte (set st.arrived.current 15 b)) x ∙ get_or-set_same st.arrived.current 15 b 0 (omega arith) ∙ sym (ap (byte s') y ∙ get_or-append-add s (b ∷ []) 0 0)
          same o h (no q) =
              let w = whole-now in
              let x : 16 * 0 + o ≡ o = omega arith in
              let c = whole-left-count in
              let l = left-length s in
              let y : 16 * begins s (count s) + (16 * count (left_over s) + o) ≡ 16 * count s + o = omega arith in
              ap (byte (set st.arrived.current 15 b)) x ∙ get_or-set_other st.arrived.current 15 o b 0 q ∙ k.unclosed.current o (omega arith)
              ∙ left-byte s (16 * count (left_over s) + o) ∙ ap (byte s) y ∙ sym (get_or-append s (b ∷ []) 0 (16 * count s + o) (omega arith))

      -- and closes the open series, t
      module _ (y : closes s' (count s) ≡ true) where
        abbrev t : List ℕ
        t = series_before s (count s)

        abbrev ts : List (List ℕ)
        ts = series_in s

        abbrev held : List ℕ
        held = st.arrived.kept

        t-came : Came t (arrived_as (whole_ones a) held st.arrived.current)
        t-came = subst (λ (x : List ℕ). Came x (arrived_as (whole_ones a) held st.arrived.current)) (left-whole s) (wholes-came (left_over s) st.arrived k.unclosed)

        t-bytes : (i : ℕ) → byte t i < 256
        t-bytes = series-byte (λ (x : ℕ). x < 256) s (count s) (omega arith) k.bytes

        t-number : arrived_number document_cutoffs (whole_ones a) held ≡ number 24 document_cutoffs t
        t-number = arrived-number document_cutoffs t t-bytes (arrived_as (whole_ones a) held st.arrived.current) k.room t-came

        t-entries : arrived_entries document_cutoffs (whole_ones a) held ≡ entries 24 document_cutoffs t
        t-entries = arrived-entries document_cutoffs t t-bytes (arrived_as (whole_ones a) held st.arrived.current) k.room t-came

        t-f : arrived_f (whole_ones a) held ≡ contrast_f document_cutoffs t
        unfolding contrast_f
        t-f = ap (λ (es : List Entry). (get_or es 6 no_entry).f) t-entries

        window-now : with_latest (arrived_f (whole_ones a) held) st.window ≡ last_twenty (map (contrast_f document_cutoffs) (ts ++ (t ∷ [])))
        window-now = rw (t-f, k.window, map_more (contrast_f document_cutoffs) ts t) (window_more (map (contrast_f document_cutoffs) ts) (contrast_f document_cutoffs t))

        worst-now : worst (with_latest (arrived_f (whole_ones a) held) st.window) ≡ worst (latest (fs_of document_cutoffs (ts ++ (t ∷ []))))
        worst-now = ap worst window-now ∙ window-worst (map (contrast_f document_cutoffs) (ts ++ (t ∷ []))) ∙ ap (λ (fs : List (Option Float)). worst (latest fs)) (sym (fs-are document_cutoffs (ts ++ (t ∷ []))))

        text-now : arrived_text (whole_ones a) held st.window ≡ closed_text document_cutoffs ts t
        unfolding arrived_text closed_text series_lines worst_line
        text-now = rw (t-number, t-entries, worst-now)

        pub closed-state : (current : List ℕ) (window : List (Option Float)) → length current ≡ 16 → window ≡ with_latest (arrived_f (whole_ones a) held) st.window → SeasonCame s' (season_of nothing_yet held current window)
        closed-state current window l w = record {
          bytes = bytes-now;
          room = k.room;
          unclosed = rw (closed-left s b whole-now y) (nothing-came held current l);
          window = rw (closed-series s b whole-now y) (w ∙ window-now);
        }

        pub closed-added : added document_cutoffs s (b ∷ []) ≡ arrived_text (whole_ones a) held st.window
        closed-added =
            added_is document_cutoffs s (b ∷ []) (arrived_text (whole_ones a) held st.window)
            (ap (closed_texts document_cutoffs) (closed-series s b whole-now y) ∙ texts-more document_cutoffs ts t ∙ ap (λ (x : List ℕ). printed document_cutoffs s ++ x) (sym text-now))

-- ---- one byte, as the code takes it
module _ (a : Arrival) (kept current : List ℕ) (window : List (Option Float)) (b : ℕ) (small : b < 256) where
  abbrev before : SeasonState
  before = season_of a kept current window

  -- the sixteenth of a record that closes
  pub closing-fed : a.part ≡ 15 → closes (set current 15 b) 0 ≡ true → (window' : List (Option Float)) → window' ≡ with_latest (arrived_f (whole_ones a) kept) window
      → (out : List ℕ) (at : ℕ) (out' : List ℕ) (at' : ℕ) → Put closed_room out at (arrived_text (whole_ones a) kept window) out' at' → (after : Arrival) → after ≡ nothing_yet
      → Fed (b ∷ []) closed_room before out at (season_of after kept (set current 15 b) window') out' at'
  closing-fed e y window' w out at out' at' p after z = rw z (record {
    state = λ s k. closed-state s before k b small e (sym (closes-now s before k b small e) ∙ y) (set current 15 b) window' (length-set current 15 b ∙ k.unclosed.ready.sixteen) w;
    wrote = λ s k. named p (sym (closed-added s before k b small e (sym (closes-now s before k b small e) ∙ y))) (omega arith);
  })

  -- any other
  pub open-fed : (most : ℕ) (after : Arrived) → after ≡ take_byte b (arrived_as a kept current) → (a.part ≡ 15 → closes (set current 15 b) 0 ≡ false)
      → (out : List ℕ) (at : ℕ) → Fed (b ∷ []) most before out at (record { arrived = after; window = window }) out at
  open-fed most after q n out at = record {
    state = λ s k. go-state s k (ℕ_discrete (length s % 16) 15);
    wrote = λ s k. named (stay most out at) (sym (go-added s k (ℕ_discrete (length s % 16) 15))) (omega arith);
  }
    where
      open-now : (s : List ℕ) (k : SeasonCame s before) → length s % 16 ≡ 15 → closes (s ++ (b ∷ [])) (count s) ≡ false
      open-now s k h = let e : a.part ≡ 15 = season-part s before k ∙ h in sym (closes-now s before k b small e) ∙ n e

      go-state : (s : List ℕ) (k : SeasonCame s before) → Dec (length s % 16 ≡ 15) → SeasonCame (s ++ (b ∷ [])) (record { arrived = after; window = window })
      go-state s k (yes h) = rw q (open-state s before k b small (whole-series s b h (open-now s k h)) (whole-left s b h (open-now s k h)))
      go-state s k (no h) = rw q (open-state s before k b small (part-series s b h) (part_left s b h))

      go-added : (s : List ℕ) (k : SeasonCame s before) → Dec (length s % 16 ≡ 15) → added document_cutoffs s (b ∷ []) ≡ []
      go-added s k (yes h) = open-added s before k b small (whole-series s b h (open-now s k h)) (whole-left s b h (open-now s k h))
      go-added s k (no h) = open-added s before k b small (part-series s b h) (part_left s b h)

  -- the byte that stands there already
  pub set-again : a.part ≡ 15 → take_byte b (arrived_as a kept (set current 15 b)) ≡ take_byte b (arrived_as a kept current)
  unfolding take_byte
  set-again e = rw (e, set-set current 15 b b)

-- ---- bytes after bytes
pub fed-none : (st : SeasonState) (out : List ℕ) (at : ℕ) → Fed [] 0 st out at st out at
fed-none st out at = record {
  state = λ s k. rw (append-nil s) k;
  wrote = λ s k. named (stay 0 out at) (sym (added-nothing document_cutoffs s)) (omega arith);
}

pub fed_then : {t u : List ℕ} {m n : ℕ} {A B C : SeasonState} {o o' o'' : List ℕ} {at at' at'' : ℕ} → Fed t m A o at B o' at' → Fed u n B o' at' C o'' at'' → Fed (t ++ u) (m + n) A o at C o'' at''
fed_then {t} {u} p q = record {
  state = λ s k. rw (append_assoc s t u) at (q.state (s ++ t) (p.state s k));
  wrote = λ s k. named (then (p.wrote s k) (q.wrote (s ++ t) (p.state s k))) (sym (added-both document_cutoffs s t u)) (omega arith);
}

-- under a wider bound
pub fed-wider : {t : List ℕ} {m n : ℕ} {A B : SeasonState} {o o' : List ℕ} {at at' : ℕ} → Fed t m A o at B o' at' → m ≤ n → Fed t n A o at B o' at'
fed-wider p h = record { state = p.state; wrote = λ s k. named (p.wrote s k) refl h }

-- one byte more of a piece
pub fed-more : (piece : List ℕ) (i : ℕ) {m n p : ℕ} {A B C : SeasonState} {o o' o'' : List ℕ} {at at' at'' : ℕ} → i < length piece → m + n ≡ p
    → Fed (take i piece) m A o at B o' at' → Fed (byte piece i ∷ []) n B o' at' C o'' at'' → Fed (take (i + 1) piece) p A o at C o'' at''
fed-more piece i h e p q = rw (add-one, take-suc piece i 0 h, ← e) (fed_then p q)

-- and all of it
pub fed-all : (piece : List ℕ) (i p : ℕ) {A B : SeasonState} {o o' : List ℕ} {at at' : ℕ} → i ≡ length piece → Fed (take i piece) (closed_room * ((p + i) / 16)) A o at B o' at' → Fed piece (closed_room * ((p + length piece) / 16)) A o at B o' at'
fed-all piece i p e f = rw (e, take-length piece) at f

-- ---- some bytes came
pub start-came : (a : Arrival) (kept current : List ℕ) → a ≡ nothing_yet → length kept ≡ kept_length → length current ≡ 16 → SeasonCame [] (season_of a kept current (replicate latest_count None))
unfolding series_in left_over series_to begins last
start-came a kept current z h l = rw z (record { bytes = λ i. omega arith; room = h; unclosed = nothing-came kept current l; window = window-start })

pub fed-arrives : {t : List ℕ} {m : ℕ} {A B : SeasonState} {o o' : List ℕ} {at at' : ℕ} → Fed t m A o at B o' at' → SeasonArrives A → SeasonArrives B
fed-arrives {t} p r = record { file = r.file ++ t; came = p.state r.file r.came }

-- how far the current record is after one byte more
pub fed-part : {b m : ℕ} {A B : SeasonState} {o o' : List ℕ} {at at' : ℕ} → Fed (b ∷ []) m A o at B o' at' → SeasonArrives A → B.arrived.arrival.part ≡ (A.arrived.arrival.part + 1) % 16
fed-part {b} {A = A} {B = B} p r =
    let x = season-part r.file A r.came in
    let y = season-part (r.file ++ (b ∷ [])) B (p.state r.file r.came) in
    let l = length-append r.file (b ∷ []) in
    omega arith

-- ---- HOWEVER A FILE IS CUT, what its pieces add one after another, and then the refusal of the bytes left, is the season's text
pieces-grow : (pieces : List (List ℕ)) (s : List ℕ) → printed document_cutoffs (s ++ joined_pieces pieces) ≡ printed document_cutoffs s ++ added_by s pieces
unfolding joined_pieces added_by
pieces-grow [] s = ap (printed document_cutoffs) (append-nil s) ∙ sym (append-nil (printed document_cutoffs s))
pieces-grow (piece ∷ pieces) s =
    ap (printed document_cutoffs) (sym (append_assoc s piece (joined_pieces pieces)))
    ∙ pieces-grow pieces (s ++ piece)
    ∙ ap (λ (l : List ℕ). l ++ added_by (s ++ piece) pieces) (printed-grows document_cutoffs s piece)
    ∙ append_assoc (printed document_cutoffs s) (added document_cutoffs s piece) (added_by (s ++ piece) pieces)

nothing-printed : printed document_cutoffs [] ≡ []
unfolding closed_texts texts_to series_in series_to
nothing-printed = refl

pub pieces-text : (pieces : List (List ℕ)) → added_by [] pieces ++ left_text (left_over (joined_pieces pieces)) ≡ season_text document_cutoffs (joined_pieces pieces)
unfolding season_text
pieces-text pieces =
    let all : printed document_cutoffs (joined_pieces pieces) ≡ added_by [] pieces = pieces-grow pieces [] ∙ ap (λ (l : List ℕ). l ++ added_by [] pieces) nothing-printed in
    ap (λ (l : List ℕ). l ++ left_text (left_over (joined_pieces pieces))) (sym all)

-- ---- what a series that is closed adds, from its number and its entries as they were judged
module _ (a : Arrival) (kept : List ℕ) (window : List (Option Float)) (es : List Entry) (e : es ≡ arrived_entries document_cutoffs a kept) (n : ℕ) (q : n ≡ arrived_number document_cutoffs a kept) where
  pub f-is : (d : Entry) → length es ≡ 7 → (get_or es 6 d).f ≡ arrived_f a kept
  f-is d h = ap (λ (x : Entry). x.f) (get_d_any es 6 d no_entry (omega arith)) ∙ ap (λ (l : List Entry). (get_or l 6 no_entry).f) e

  pub refused-text : (n ≡ 0 → ⊥) → text_of n es ≡ arrived_text a kept window
  unfolding arrived_text
  refused-text h = rw (← e, ← q, ne_eqb n 0 h) (sym (append-nil (text_of n es)))

  pub accepted-text : n ≡ 0 → (w : Option Float) → w ≡ worst (with_latest (arrived_f a kept) window) → text_of n es ++ worst_text w ≡ arrived_text a kept window
  unfolding arrived_text
  accepted-text z w f = rw (f, e, q, eq-eqb (arrived_number document_cutoffs a kept) 0 (sym q ∙ z))

-- ---- the end
-- what the code asks: whether a byte or a record of an open series came
abbrev any_came : Arrival → Bool
any_came a = not (eqb a.part 0) || not (eqb a.records 0)

came-none : (s : List ℕ) (st : SeasonState) → SeasonCame s st → length (left_over s) ≡ 0 → any_came st.arrived.arrival ≡ false
came-none s st k z =
    let q = k.unclosed.part in
    let n = k.unclosed.records in
    let p : st.arrived.arrival.part ≡ 0 = omega arith in
    let r : st.arrived.arrival.records ≡ 0 = omega arith in
    rw (p, r)

pub left-refused : (s : List ℕ) (st : SeasonState) → SeasonCame s st → any_came st.arrived.arrival ≡ true → refusal_text 2 ≡ left_text (left_over s)
unfolding left_text
left-refused s st k h = rw (ne_eqb (length (left_over s)) 0 (λ z. true≢false (sym h ∙ came-none s st k z)))

pub left-none : (s : List ℕ) (st : SeasonState) → SeasonCame s st → any_came st.arrived.arrival ≡ false → [] ≡ left_text (left_over s)
unfolding left_text
left-none s st k h =
    let n = or-false (not (eqb st.arrived.arrival.part 0)) (not (eqb st.arrived.arrival.records 0)) h in
    let p = eqb-true st.arrived.arrival.part 0 (not-false (eqb st.arrived.arrival.part 0) n.0) in
    let r = eqb-true st.arrived.arrival.records 0 (not-false (eqb st.arrived.arrival.records 0) n.1) in
    let x = k.unclosed.part in
    let y = k.unclosed.records in
    let room = k.room in
    let z : length (left_over s) ≡ 0 = omega arith in
    rw z
