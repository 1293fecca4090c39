-- `records_cutoffs::cutoffs_in` meets its contract.
use Rattle.records.specs.readers.CutoffTable.{cutoffs_in}
use Rattle.records_cutoffs.proofs.cutoffs_in.Goals as goal

pub returns : goal.returns
unfolding cutoffs_in
returns c =
    λ k. record {
      moment = c.value_at.ensures k;
      leading = c.value_at-2.ensures k;
      divisor = c.value_at-3.ensures k;
      excess = c.value_at-4.ensures k;
      near = c.value_at-5.ensures k;
      eigenvalue = c.value_at-6.ensures k;
      ridge = c.value_at-7.ensures k;
      rotation = c.value_at-8.ensures k;
      cap = c.value_at-9.ensures k;
    }
