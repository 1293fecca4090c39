-- `records_little_endian::long_at` meets its contract.
use Rattle.std.proofs.Common.{ℕ, ◌+◌, ◌-◌, ◌<◌, ◌≡◌, List, get_or, slice_index, drop, arith, ◌∙◌, ap}
use Rattle.records.specs.format.Bytes.{byte, long, word}
use lib.Seq.{get_or-take, get_or-drop}
use Rattle.records_little_endian.proofs.long_at.Goals as goal

pub returns : goal.returns
unfolding long word
returns c =
    let s = c.args.s.now in
    let at = c.args.at in
    -- each of the bytes that are copied is the file's, j places on
    let copied : (i j : ℕ) → i < 8 → at + i ≡ j → slice_index c.copy_from_slice.new.self i ≡ byte s j =
    λ i j l e. ap (λ (xs : List ℕ). get_or xs i 0) c.copy_from_slice.ensures.after ∙ get_or-take (at + 8 - at) (drop at s) i 0 (omega arith) ∙ get_or-drop at s i 0 ∙ ap (λ (k : ℕ). get_or s k 0) e in
    omega (
      arith,
      c.from_le_bytes.ensures,
      copied 0 at (omega arith) (omega arith),
      copied 1 (at + 1) (omega arith) (omega arith),
      copied 2 (at + 2) (omega arith) (omega arith),
      copied 3 (at + 3) (omega arith) (omega arith),
      copied 4 (at + 4) (omega arith) (omega arith),
      copied 5 (at + 4 + 1) (omega arith) (omega arith),
      copied 6 (at + 4 + 2) (omega arith) (omega arith),
      copied 7 (at + 4 + 3) (omega arith) (omega arith),
    )
