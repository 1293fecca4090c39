-- Document 01: "Every F and df is a number, or none where the Rust has NaN. The result record holds both, the rank and the mark".
use Rattle.std.specs.Prelude.{false, cond, Option, Some, None, unwrap_or, Float}
use Rattle.std.specs.Float.{nan}
use Rattle.std.specs.Float.Ieee.{is_nan}
use Rattle.tests.specs.declared.Entry.{Entry}

-- what the Rust's f64 stands for: a NaN for none, anything else, an infinity too, for itself
unfoldable pub number_of : Float → Option Float
number_of x = cond (is_nan x) None (Some x)

-- and back: the f64 that stands for a number or none, the Rust's NaN for none
abbrev pub float_of : Option Float → Float
float_of n = unwrap_or n nan

-- "Unused entries are zero": no F, no df, rank 0, not inside. A test has a rank of at least 1.
abbrev pub no_entry : Entry
no_entry = record { f = None; df = None; rank = 0; inside = false }
