-- `records_cutoffs::bad_cutoff` meets its contract.
use mathlib.Core.Bool.{not}
use mathlib.Core.Path.{ap, sym, ◌∙◌}
use Rattle.arithmetic.specs.Numbers.{is_finite}
use Rattle.records_cutoffs.proofs.CutoffChecks.{wrong-kind, wrong_row, wrong-column, wrong-padding, wrong-count, not_finite, value-decides}
use Rattle.records_cutoffs.proofs.bad_cutoff.Goals as goal

pub returns-then-kind_of-ne20 : goal.returns-then-kind_of-ne20
returns-then-kind_of-ne20 c = let a = c.args in wrong-kind a.table.now a.i _ c.kind_of.ensures c.if-kind_of-ne20.true

pub returns-then-row_at-i : goal.returns-then-row_at-i
returns-then-row_at-i c = let a = c.args in wrong_row a.table.now a.i _ c.row_at.ensures.0 c.if-row_at-i.true

pub returns-then-column_at-ne0 : goal.returns-then-column_at-ne0
returns-then-column_at-ne0 c = let a = c.args in wrong-column a.table.now a.i _ c.column_at.ensures.0 c.if-column_at-ne0.true

pub returns-then-padding_at-ne0 : goal.returns-then-padding_at-ne0
returns-then-padding_at-ne0 c = let a = c.args in wrong-padding a.table.now a.i _ c.padding_at.ensures.0 c.if-padding_at-ne0.true

pub returns-then-count_at-ne0 : goal.returns-then-count_at-ne0
returns-then-count_at-ne0 c = let a = c.args in wrong-count a.table.now a.i _ c.count_at.ensures.0 c.if-count_at-ne0.true

pub returns-then-not-is_finite : goal.returns-then-not-is_finite
returns-then-not-is_finite c = let a = c.args in not_finite a.table.now a.i _ (c.is_finite.ensures ∙ ap is_finite c.value_at-value.ensures) (ap not c.if-not-is_finite.true)

pub returns : goal.returns
returns c =
    let a = c.args in
    value-decides a.table.now a.i _ _
    (record {
      kind = sym c.kind_of.ensures ∙ c.if-kind_of-ne20.false;
      row = sym c.row_at.ensures.0 ∙ c.if-row_at-i.false;
      column = sym c.column_at.ensures.0 ∙ c.if-column_at-ne0.false;
      padding = sym c.padding_at.ensures.0 ∙ c.if-padding_at-ne0.false;
      number = sym c.count_at.ensures.0 ∙ c.if-count_at-ne0.false;
      finite = sym (c.is_finite.ensures ∙ ap is_finite c.value_at-value.ensures) ∙ c.if-not-is_finite.false;
    })
    c.floor_of.ensures c.value_at-value.ensures
