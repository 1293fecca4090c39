-- `arithmetic_cutoffs::document_cutoffs` meets its contract.
use mathlib.Core.Path.{refl}
use lib.Ieee.{of_bits, round}
use Rattle.arithmetic_cutoffs.specs.Cutoffs.{decimal, document_cutoffs}
use Rattle.arithmetic_cutoffs.proofs.document_cutoffs.Goals as goal

pub returns : goal.returns
unfolding document_cutoffs decimal round of_bits
returns c = refl
