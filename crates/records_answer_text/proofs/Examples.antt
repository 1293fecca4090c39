-- Document 01's two lines and its refusals, with `none` and `outside`: computed from the definitions.
use Prim.Native.String.{◌++◌}
use mathlib.Core.Path.{◌≡◌, refl}
use mathlib.Core.Bool.{true, false}
use mathlib.Core.List.{[], ◌∷◌}
use lib.Ieee.{of_bits, to_bits, binary64}
use Rattle.std.specs.Prelude.{Some, None}
use Rattle.tests.specs.declared.Entry.{Entry}
use Rattle.tests.specs.Answer.{no_entry}
use Rattle.records.specs.text.Text.{codes, digit, hexadecimal, decimal, number_text, mark_text, fields_text, coefficient_line, test_line, coefficient_lines, refusal_text, lines_text, text_of}

-- F 9 and df 1 of rank 1
abbrev nine : Entry
nine = record { f = Some (of_bits binary64 0x4022000000000000); df = Some (of_bits binary64 0x3ff0000000000000); rank = 1; inside = true }

-- neither F nor df, of rank 2, outside
abbrev neither : Entry
neither = record { f = None; df = None; rank = 2; inside = false }

pub record Printed : Type 0 where
  pub bench : text_of 0 (nine ∷ no_entry ∷ no_entry ∷ no_entry ∷ no_entry ∷ no_entry ∷ nine ∷ []) ≡ codes ("coef 0 rank 1 F 4022000000000000 df 3ff0000000000000 inside\n" ++ "test rank 1 F 4022000000000000 df 3ff0000000000000 inside\n")
  pub no_contrast : text_of 0 (nine ∷ nine ∷ no_entry ∷ no_entry ∷ no_entry ∷ no_entry ∷ no_entry ∷ []) ≡ codes ("coef 0 rank 1 F 4022000000000000 df 3ff0000000000000 inside\n" ++ "coef 1 rank 1 F 4022000000000000 df 3ff0000000000000 inside\n")
  pub no_number : test_line neither ≡ codes "test rank 2 F none df none outside\n"
  pub second : text_of 2 [] ≡ codes "refused 2\n"
  pub tenth : text_of 10 [] ≡ codes "refused 10\n"
  pub largest : text_of 4294967295 [] ≡ codes "refused 4294967295\n"

pub printed : Printed
unfolding codes digit hexadecimal decimal number_text mark_text fields_text coefficient_line test_line coefficient_lines refusal_text lines_text text_of of_bits to_bits
printed = record {
  bench = refl;
  no_contrast = refl;
  no_number = refl;
  second = refl;
  tenth = refl;
  largest = refl;
}
