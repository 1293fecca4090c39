-- Document 01: "4–7 count (little-endian); 8–15 f64 bits, little-endian". Little-endian numbers in a list of bytes.
use Rattle.std.specs.Prelude.{ℕ, zero, suc, ◌+◌, ◌*◌, ◌/◌, ◌%◌, List, [], ◌∷◌, get_or}

abbrev pub byte : List ℕ → ℕ → ℕ
byte s i = get_or s i 0

-- the four bytes from a place on, and the eight
unfoldable pub word : List ℕ → ℕ → ℕ
word s at = byte s at + 256 * byte s (at + 1) + 65536 * byte s (at + 2) + 16777216 * byte s (at + 3)

unfoldable pub long : List ℕ → ℕ → ℕ
unfolding word
long s at = word s at + 4294967296 * word s (at + 4)

-- the n low bytes of w, lowest first
unfoldable pub bytes_of : ℕ → ℕ → List ℕ
bytes_of zero w = []
bytes_of (suc n) w = w % 256 ∷ bytes_of n (w / 256)
