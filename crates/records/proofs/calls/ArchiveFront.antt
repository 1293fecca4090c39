-- The lent bytes of the archive's writer: the archive stands at their front, and the rest is what it was.
use Prim.Native.Nat.{ℕ, ◌+◌, ◌-◌, ◌<◌, ◌≤◌}
use mathlib.Core.Path.{◌≡◌, refl, ap, sym, ◌∙◌}
use mathlib.Core.Bool.{not}
use mathlib.Core.List.{List, [], ◌∷◌, ◌++◌}
use native.Mathlib.Nat.{zero-add}
use native.Mathlib.Omega.{arith}
use lib.Dec.{eqb}
use lib.ListN.{length, take, drop, get_or-append}
use lib.Seq.{sets, sets-eq, get_or-append-add, get_or-drop}
use borrow.Author.Tests.{eqb-true}
use Rattle.records.specs.format.Bytes.{byte}
use Rattle.records.specs.readers.Archive.{archive_bytes}
use Rattle.records.specs.readers.CutoffTable.{cutoffs_in}
use Rattle.records.specs.calls.ArchiveCall.{series_archive, series_refusal, archiving_call, told, archiving_refusal, archiving_returned, archiving_written, left_archive}
use Rattle.records.proofs.calls.CallLaws.{call-accepted, accepted-fills}
use Rattle.records.proofs.calls.ArchiveLengths.{archiving-length}

-- as many of two lists as the first has are the first
front-taken : (xs ys : List ℕ) → take (length xs) (xs ++ ys) ≡ xs
front-taken [] ys = refl
front-taken (x ∷ xs) ys = ap (λ (l : List ℕ). x ∷ l) (front-taken xs ys)

-- ---- a list with another put at its front, which it has room for
module _ (l xs : List ℕ) (room : length xs ≤ length l) where
  front-is : sets l 0 xs ≡ xs ++ drop (length xs) l
  front-is = sets-eq xs l 0 (omega arith) ∙ ap (λ (k : ℕ). xs ++ drop k l) (zero-add (length xs))

  put_front : (i : ℕ) → i < length xs → byte (sets l 0 xs) i ≡ byte xs i
  put_front i h = ap (λ (k : List ℕ). byte k i) front-is ∙ get_or-append xs (drop (length xs) l) 0 i h

  put_rest : (i : ℕ) → length xs ≤ i → byte (sets l 0 xs) i ≡ byte l i
  put_rest i h =
      let e : length xs + (i - length xs) ≡ i = omega arith in
      ap (λ (k : List ℕ). byte k i) front-is
      ∙ ap (byte (xs ++ drop (length xs) l)) (sym e)
      ∙ get_or-append-add xs (drop (length xs) l) (i - length xs) 0
      ∙ get_or-drop (length xs) l (i - length xs) 0
      ∙ ap (byte l) e

module _ (w : ℕ) (lab s lent : List ℕ) (e : archiving_refusal w lab s lent ≡ 0) where
  abbrev file : List ℕ
  file = archive_bytes (series_archive (cutoffs_in lab) s)

  returned-length : archiving_returned w lab s lent ≡ length file
  unfolding told
  returned-length = rw e

  written_is : archiving_written w lab s lent ≡ sets lent 0 file
  written_is = accepted-fills (archiving_call w s) lab lent e

  -- the lent bytes are as many as are asked for, and so have room for the archive
  lent_length : length lent ≡ 7184
  lent_length = eqb-true (length lent) 7184 (call-accepted (archiving_call w s) lab lent e).0

  lent-room : length file ≤ length lent
  lent-room =
      let a = (archiving-length w lab s lent e).2 in
      let b = returned-length in
      let d = lent_length in
      omega arith

  pub archiving-front : (i : ℕ) → i < archiving_returned w lab s lent → byte (archiving_written w lab s lent) i ≡ byte (archive_bytes (series_archive (cutoffs_in lab) s)) i
  archiving-front i h = let b = returned-length in rw written_is (put_front lent file lent-room i (omega arith))

  pub archiving-rest : (i : ℕ) → archiving_returned w lab s lent ≤ i → byte (archiving_written w lab s lent) i ≡ byte lent i
  archiving-rest i h = let b = returned-length in rw written_is (put_rest lent file lent-room i (omega arith))

  -- as many of them as are returned are the archive
  pub archive-left : left_archive w lab s lent ≡ file
  archive-left = rw (returned-length, written_is, front-is lent file lent-room) (front-taken file (drop (length file) lent))

  pub archived-series : series_refusal w (cutoffs_in lab) s ≡ 0
  unfolding series_refusal
  archived-series = (call-accepted (archiving_call w s) lab lent e).2
