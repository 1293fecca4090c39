-- Document 01, "Bench examples, one statement over the lot": (a) to (k), and what `pulltest` prints of its example. Definitions alone: the numbers that the examples are run on, and the
-- statement.
use Rattle.std.specs.Prelude.{ℕ, ◌≡◌, true, false, List, [], ◌∷◌, ◌++◌, pos, negsuc, replicate, Some, None, Float}
use Rattle.std.specs.Float.{fin}
use Rattle.arithmetic.specs.declared.Marked.{Marked}
use Rattle.arithmetic.specs.Numbers.{plus_zero, one}
use Rattle.arithmetic.specs.Marks.{given}
use Rattle.arithmetic_cutoffs.specs.Cutoffs.{decimal, document_cutoffs}
use Rattle.algebra.specs.Kind.{floats, marks}
use Rattle.algebra.specs.Product.{at}
use Rattle.adjustment.specs.Information.{packed}
use Rattle.adjustment.specs.Covariance.{Design}
use Rattle.adjustment.specs.Adjusted.{adjustment, adjustment_refusal}
use Rattle.tests.specs.Basis.{contrast_basis}
use Rattle.tests.specs.declared.Tested.{Tested}
use Rattle.tests.specs.KenwardRoger.{Scaled, tested}
use Rattle.tests.specs.VarianceDf.{variance_df}
use Rattle.tests.specs.PooledDf.{tolerance, get_fstat_ddf}
use Rattle.tests.specs.Satterthwaite.{Inputs, satterthwaite}
use Rattle.records.specs.format.Written.{record_of}
use Rattle.records.specs.calls.KenwardRogerCall.{number, entries}
use Rattle.records.specs.text.Text.{codes, text_of}

-- ---- what the examples are run on; m times 2 ^ e is written fin false m e
abbrev two : Float
two = fin false 1 (pos 1)

abbrev four : Float
four = fin false 1 (pos 2)

abbrev half : Float
half = fin false 1 (negsuc 0)

-- "ν 6,6,4"; "β 6"
abbrev six : Float
six = fin false 3 (pos 1)

-- a marked matrix of one cell
abbrev cell_alone : Float → List (List Marked)
cell_alone x = (given x ∷ replicate 5 (given plus_zero)) ∷ replicate 5 (replicate 6 (given plus_zero))

-- (h): "Φ 1, Φ_A 4, P -1, W 2"
abbrev pub scaled_h : Scaled Marked
scaled_h = record { p = 1; matrices = 1; phi = cell_alone one; phi_a = cell_alone four; ps = cell_alone (fin true 1 (pos 0)) ∷ []; w = (two ∷ []) ∷ [] }

-- (h): "F 9, df 1", with its rank, accepted and inside
abbrev pub tested_h : Tested
tested_h = record { refused = false; entry = record { f = Some (fin false 9 (pos 0)); df = Some one; rank = 1; inside = true } }

-- (k): "n 2, X 1,1, Z 1,1, one group, theta 0"; "Φ 0.5"
abbrev column : List (List Float)
column = (one ∷ []) ∷ (one ∷ []) ∷ []

abbrev pub design_k : Design
design_k = record { n = 2; p = 1; x = column; z = column; weighted = false; weights = []; blocks = record { effects = 1; groups = 1 } ∷ []; count = 1; theta = plus_zero ∷ [] }

abbrev pub phi_k : List (List Float)
phi_k = (half ∷ []) ∷ []

-- (i) and (j): "L identity, v = diag(4,1), one Jacobian equal to v .. β (4,1)", with q rows of L and A of one cell
abbrev unit : List (List Float)
unit = (one ∷ plus_zero ∷ []) ∷ (plus_zero ∷ one ∷ []) ∷ []

abbrev four_one : List (List Float)
four_one = (four ∷ plus_zero ∷ []) ∷ (plus_zero ∷ one ∷ []) ∷ []

abbrev pub inputs_i : ℕ → Float → Inputs
inputs_i q a = record { p = 2; q = q; n = 1; l = unit; beta = four ∷ one ∷ []; beta_h = plus_zero ∷ plus_zero ∷ []; v = four_one; js = four_one ∷ []; a = (a ∷ []) ∷ [] }

-- F, df and the rank, accepted and inside
abbrev pub outcome_i : Float → Float → ℕ → Tested
outcome_i f df rank = record { refused = false; entry = record { f = Some f; df = Some df; rank = rank; inside = true } }

-- `pulltest`'s example as a file, with the bits of sigma2, β and the contrast: "X 1,1, Φ 0.5 .."
abbrev pub pull_bytes : ℕ → ℕ → ℕ → List ℕ
pull_bytes v b l =
    record_of 1 0 0 0 0x3ff0000000000000
    ++ (record_of 1 1 0 0 0x3ff0000000000000 ++ (record_of 6 0 0 0 0x3fe0000000000000 ++ (record_of 7 0 0 0 v ++ (record_of 8 0 0 0 b ++ record_of 9 0 0 0 l))))

-- ".. sigma2 8, β 6, contrast 1"
abbrev pub pull_file : List ℕ
pull_file = pull_bytes 0x4020000000000000 0x4018000000000000 0x3ff0000000000000

-- ---- the one statement over the lot
pub record BenchExamples : Type 0 where
  -- "(a) N = 3: (1,2) and (2,1) pack at 4"
  pub a : (packed 3 1 2 ≡ 4) × (packed 3 2 1 ≡ 4)
  -- "(b) (2,2) at 5."
  pub b : packed 3 2 2 ≡ 5
  -- "(c) ν 6,6,4 give 5."
  pub c : get_fstat_ddf 3 (six ∷ six ∷ four ∷ []) tolerance ≡ fin false 5 (pos 0)
  -- "(d) 1,1 give 1."
  pub d : get_fstat_ddf 2 (one ∷ one ∷ []) tolerance ≡ one
  -- "(e) 2,5 give 2."
  pub e : get_fstat_ddf 2 (two ∷ fin false 5 (pos 0) ∷ []) tolerance ≡ two
  -- "(f) V 2, J 2, A 4 give 0.5."
  pub f : variance_df marks 1 ((four ∷ []) ∷ []) (given two) (given two ∷ []) ≡ Some half
  -- "(g) V 0 gives none."
  pub g : variance_df marks 1 ((four ∷ []) ∷ []) (given plus_zero) (given two ∷ []) ≡ None
  -- "(h) Φ 1, Φ_A 4, P -1, W 2, L -8, β 6: F 9, df 1."
  pub h : tested marks document_cutoffs scaled_h (six ∷ []) (plus_zero ∷ []) (contrast_basis marks 1 1 ((fin true 1 (pos 3) ∷ []) ∷ [])) ≡ tested_h
  -- "(i) Satterthwaite L identity, v = diag(4,1), one Jacobian equal to v, A 0.5, β (4,1): F 2.5, df 4."
  pub i : satterthwaite marks document_cutoffs (inputs_i 2 half) ≡ outcome_i (fin false 5 (negsuc 0)) four 2
  -- "(j) as (i), A 2^-12: df 3000; one row: 8192."
  pub j : (satterthwaite marks document_cutoffs (inputs_i 2 (fin false 1 (negsuc 11))) ≡ outcome_i (fin false 5 (negsuc 0)) (fin false 375 (pos 3)) 2)
      × (satterthwaite marks document_cutoffs (inputs_i 1 (fin false 1 (negsuc 11))) ≡ outcome_i four (fin false 1 (pos 13)) 1)
  -- "(k) n 2, X 1,1, Z 1,1, one group, theta 0, Φ 0.5: Φ_A 0.5, W_00 200000000."; nothing refuses it
  pub k : (adjustment_refusal document_cutoffs design_k phi_k one ≡ 0) × (at floats (adjustment document_cutoffs design_k phi_k).phi_a 0 0 ≡ half)
      × (at floats (adjustment document_cutoffs design_k phi_k).w 0 0 ≡ decimal 200000000 0)
  -- "For X 1,1, Φ 0.5, sigma2 8, β 6, contrast 1 it prints, whole:"
  pub pulltest : text_of (number 24 document_cutoffs pull_file) (entries 24 document_cutoffs pull_file) ≡ codes "coef 0 rank 1 F 4022000000000000 df 3ff0000000000000 inside\ntest rank 1 F 4022000000000000 df 3ff0000000000000 inside\n"
