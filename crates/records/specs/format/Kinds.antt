-- Document 01: "Kinds: 1 X; 2 Z (absent is 0); 3 block (row its number, column k, count m, bits 0); 4 theta; 5 weight; 6 Φ; 7 sigma2; 8 β; 9 contrast; 10 β_H. Kinds 1, 2, 6, 9 use
-- row and column; 4, 5, 8, 10 the row; indices start at 0 and unused fields are 0." "The Satterthwaite call reads kinds 8, 9, 10, 30 v, 31 Jacobian (count its number, from 0) and 32 A, the
-- last three by row and column". "Kinds of the other call are bad." And document 02, "Req 02": the kinds of an archive, and of the second file that is lent with it; "Req 04": a block's value bytes.
use Rattle.std.specs.Prelude.{ℕ, Bool, true, false, cond, List, [], ◌∷◌, eqb, ltb}
use Rattle.records.specs.declared.Field.{Field}
use Rattle.records.specs.declared.Field.TheVariants.{Index, Number, Unused}
use Rattle.records.specs.declared.Value.{Value}
use Rattle.records.specs.declared.Value.TheVariants.{Float, FirstByte}
use Rattle.records.specs.declared.Kind.{Kind}
use Rattle.records.specs.declared.Shape.{Shape}
use Rattle.records.specs.declared.Shape.TheVariants.{Series, Test, Archived, Second}
use Rattle.records.specs.declared.Sizes.{Sizes}
use Rattle.records.specs.format.KindNumbers.{kind_x, kind_z, kind_block, kind_theta, kind_weight, kind_phi, kind_sigma2, kind_beta, kind_contrast, kind_beta_h, kind_scaled_phi, kind_scaled_phi_a, kind_scaled_p, kind_w, kind_archived_phi, kind_archived_phi_a, kind_archived_p, kind_archived_sigma2, kind_v, kind_jacobian, kind_a}

-- ---- one field
-- what it may hold: an index is below its limit, a number is any, and "unused fields are 0"
unfoldable pub holds : Field → ℕ → Bool
holds (Index limit) x = ltb x limit
holds Number x = true
holds Unused x = eqb x 0

-- how many cells it tells apart, and the index by which it names one: a number and an unused field tell none apart
unfoldable pub width : Field → ℕ
width (Index limit) = limit
width Number = 1
width Unused = 1

unfoldable pub index_of : Field → ℕ → ℕ
index_of (Index limit) x = x
index_of Number x = 0
index_of Unused x = 0

-- What the value bits may be: an f64's are any. "Req 04": "The first of the eight value bytes now holds that number .., and the other seven are zero": the first is the lowest, so that the bits are below 256.
unfoldable pub value_holds : Value → ℕ → Bool
value_holds Float bits = true
value_holds FirstByte bits = ltb bits 256

-- ---- one kind
-- named by row and column, by the row alone, by count, row and column, or one cell alone
abbrev pub by_row_and_column : ℕ → ℕ → Kind
by_row_and_column rows columns = record { count = Unused; row = Index rows; column = Index columns; value = Float; sparse = false }

abbrev pub by_row : ℕ → Kind
by_row rows = record { count = Unused; row = Index rows; column = Unused; value = Float; sparse = false }

abbrev pub by_count : ℕ → ℕ → ℕ → Kind
by_count counts rows columns = record { count = Index counts; row = Index rows; column = Index columns; value = Float; sparse = false }

abbrev pub alone : Kind
alone = record { count = Unused; row = Unused; column = Unused; value = Float; sparse = false }

-- "2 Z (absent is 0)"
abbrev pub absent_is_zero : ℕ → ℕ → Kind
absent_is_zero rows columns = record { count = Unused; row = Index rows; column = Index columns; value = Float; sparse = true }

-- "3 block (row its number, column k, count m, ..)": k and m are numbers and no indices. "Req 04": the value is a number in the first byte
abbrev pub by_block : ℕ → Kind
by_block rows = record { count = Number; row = Index rows; column = Number; value = FirstByte; sparse = false }

-- a kind that the call does not read: no row is below its limit
abbrev pub unread : Kind
unread = record { count = Unused; row = Index 0; column = Unused; value = Float; sparse = false }

-- ---- the table of a call: its kinds by their numbers
abbrev pub Table : Type 0
Table = List (ℕ × Kind)

unfoldable pub kind_at : Table → ℕ → Kind
kind_at [] k = unread
kind_at (e ∷ t) k = cond (eqb k e.0) e.1 (kind_at t k)

-- every call's kinds have numbers below this
abbrev pub kind_numbers : ℕ
kind_numbers = 33

-- What sizes leave each kind: X, Z, block, theta, weight, Φ, sigma2, β, contrast, β_H. "Kinds 2 to 5, 9, 10 may be absent wholly": where there are no weights or no β_H, no row of them is left.
unfoldable pub kenward_roger_kinds : Sizes → Table
kenward_roger_kinds z =
    (kind_x, by_row_and_column z.specimens z.coefficients)
    ∷ (kind_z, absent_is_zero z.specimens z.columns)
    ∷ (kind_block, by_block z.blocks)
    ∷ (kind_theta, by_row z.thetas)
    ∷ (kind_weight, by_row (cond z.weighted z.specimens 0))
    ∷ (kind_phi, by_row_and_column z.coefficients z.coefficients)
    ∷ (kind_sigma2, alone)
    ∷ (kind_beta, by_row z.coefficients)
    ∷ (kind_contrast, by_row_and_column z.contrasts z.coefficients)
    ∷ (kind_beta_h, by_row (cond z.hypothesis z.coefficients 0))
    ∷ []

-- β, contrast, β_H; v, Jacobian, A
unfoldable pub satterthwaite_kinds : Sizes → Table
satterthwaite_kinds z =
    (kind_beta, by_row z.coefficients)
    ∷ (kind_contrast, by_row_and_column z.contrasts z.coefficients)
    ∷ (kind_beta_h, by_row (cond z.hypothesis z.coefficients 0))
    ∷ (kind_v, by_row_and_column z.coefficients z.coefficients)
    ∷ (kind_jacobian, by_count z.parameters z.coefficients z.coefficients)
    ∷ (kind_a, by_row_and_column z.parameters z.parameters)
    ∷ []

-- Document 02, "Req 02": "kind 11 Φ, 12 Φ_A, 13 P (the count field is its index), 14 W", in response units; "Φ, Φ_A and P in residual units and sigma2 follow as kinds 15 to 18". There is a P for each variance parameter.
unfoldable pub archive_kinds : Sizes → Table
archive_kinds z =
    (kind_scaled_phi, by_row_and_column z.coefficients z.coefficients)
    ∷ (kind_scaled_phi_a, by_row_and_column z.coefficients z.coefficients)
    ∷ (kind_scaled_p, by_count z.parameters z.coefficients z.coefficients)
    ∷ (kind_w, by_row_and_column z.parameters z.parameters)
    ∷ (kind_archived_phi, by_row_and_column z.coefficients z.coefficients)
    ∷ (kind_archived_phi_a, by_row_and_column z.coefficients z.coefficients)
    ∷ (kind_archived_p, by_count z.parameters z.coefficients z.coefficients)
    ∷ (kind_archived_sigma2, alone)
    ∷ []

-- "the series' kinds 8 to 10 lent as a second file": β, contrast, β_H
unfoldable pub test_kinds : Sizes → Table
test_kinds z =
    (kind_beta, by_row z.coefficients)
    ∷ (kind_contrast, by_row_and_column z.contrasts z.coefficients)
    ∷ (kind_beta_h, by_row (cond z.hypothesis z.coefficients 0))
    ∷ []

-- the table of each file
abbrev pub kinds_of : Shape → Sizes → Table
kinds_of Series z = kenward_roger_kinds z
kinds_of Test z = satterthwaite_kinds z
kinds_of Archived z = archive_kinds z
kinds_of Second z = test_kinds z

-- Document 01, "Limits": "specimens n 1–24; coefficients p 1–6; random columns 0–24; blocks 0–3 .. block parameters at most 3 over all blocks; contrast rows 1–6; Satterthwaite parameters
-- 1–4". The limit of specimens and of random columns is w, 24 at the panel. Limits are sizes: the largest that a file may have.
unfoldable pub limits : ℕ → Sizes
limits w = record { specimens = w; coefficients = 6; columns = w; blocks = 3; thetas = 3; contrasts = 6; parameters = 4; weighted = true; hypothesis = true }

-- the panel's: "n 1–24"
abbrev pub panel_limit : ℕ
panel_limit = 24

-- so that what a call's records may name at all is the table at the limits
abbrev pub kenward_roger : ℕ → Table
kenward_roger w = kenward_roger_kinds (limits w)

-- no kind of these names specimens, so that their limit is of no account
abbrev pub satterthwaite : Table
satterthwaite = satterthwaite_kinds (limits 1)

abbrev pub archive_table : Table
archive_table = archive_kinds (limits 1)

abbrev pub test_table : Table
test_table = test_kinds (limits 1)
