-- `records_little_endian::put_long` meets its contract.
use Rattle.std.proofs.Common.{ℕ, ◌/◌, ◌≡◌, ◌∙◌, arith}
use Rattle.std.specs.Int.{to_le_bytes, w64}
use Rattle.records.specs.format.Bytes.{bytes_of}
use Rattle.records_little_endian.proofs.StoreLaws.{put_run}
use Rattle.records_little_endian.proofs.ReadLaws.{length-bytes}
use Rattle.records_little_endian.proofs.put_long.Goals as goal

-- the library's eight bytes are these: it divides by a power of 256 where they divide by 256 again and again
same_bytes : (w : ℕ) → to_le_bytes w64 w ≡ bytes_of 8 w
unfolding bytes_of
same_bytes w =
    let second : w / 256 / 256 ≡ w / 65536 = omega arith in
    let third : w / 65536 / 256 ≡ w / 16777216 = omega arith in
    let fourth : w / 16777216 / 256 ≡ w / 4294967296 = omega arith in
    let fifth : w / 4294967296 / 256 ≡ w / 1099511627776 = omega arith in
    let sixth : w / 1099511627776 / 256 ≡ w / 281474976710656 = omega arith in
    let seventh : w / 281474976710656 / 256 ≡ w / 72057594037927936 = omega arith in
    rw (second, third, fourth, fifth, sixth, seventh)

pub returns : goal.returns
returns c = put_run _ _ _ _ _ (c.copy_from_slice.ensures.after ∙ c.to_le_bytes.ensures ∙ same_bytes c.args.w) (omega (arith, length-bytes c.args.w)) (omega (arith, c.requires))
