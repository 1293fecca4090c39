-- Not needed to check document 01: names that join the code to its definitions.
-- What the test takes, off the sheet of crates/records_sheet/specs/joints/Sheet.antt, by the sizes.
use Rattle.std.specs.Prelude.{cond, List, Float}
use Rattle.records.specs.declared.Sizes.{Sizes}
use Rattle.records.specs.format.Kinds.{Table, satterthwaite_kinds}
use Rattle.records.specs.format.KindNumbers.{kind_beta, kind_contrast, kind_beta_h, kind_v, kind_jacobian, kind_a}
use Rattle.records.specs.format.Cells.{first_slot}
use Rattle.records_sheet_parts.specs.joints.Parts.{numbers_at, cells_at, stack_at}
use Rattle.tests.specs.Satterthwaite.{Inputs}

-- β is kind 8, the contrast 9, β_H 10, v 30, the Jacobians 31 and A 32
unfoldable pub inputs_from : List Float → Sizes → Inputs
inputs_from sheet z =
    let t : Table = satterthwaite_kinds z in
    record {
      p = z.coefficients;
      q = z.contrasts;
      n = z.parameters;
      l = cells_at sheet (first_slot t kind_contrast) z.contrasts z.coefficients;
      beta = numbers_at sheet 6 (first_slot t kind_beta) z.coefficients;
      beta_h = numbers_at sheet 6 (first_slot t kind_beta_h) (cond z.hypothesis z.coefficients 0);
      v = cells_at sheet (first_slot t kind_v) z.coefficients z.coefficients;
      js = stack_at sheet (first_slot t kind_jacobian) z.parameters z.coefficients;
      a = cells_at sheet (first_slot t kind_a) z.parameters z.parameters;
    }
