-- `records_sheet_parts::cells_at` meets its contract.
use mathlib.Core.Path.{refl}
use lib.Ieee.{of_bits}
use native.Mathlib.Omega.{arith}
use Rattle.algebra.specs.Table.{blank, table}
use Rattle.algebra.proofs.FoldLaws.{fold_start}
use Rattle.algebra.proofs.TableLaws.{filling-none, filling-more, filling-row}
use Rattle.algebra_products.proofs.LoopLaws.{table-end}
use Rattle.records_sheet_parts.specs.joints.Parts.{cells_at}
use Rattle.records_sheet_parts.proofs.Strides.{row_inside}
use Rattle.records_sheet_parts.proofs.cells_at.Goals as goal

pub loop-i-init : goal.loop-i-init
unfolding table blank of_bits
loop-i-init c = (omega arith, c.requires.0, c.requires.1, c.requires.2, fold_start _ _ _)

pub loop-j-init : goal.loop-j-init
loop-j-init c = (c.loop-i-test.true, omega arith, c.loop-i.invariant.1, c.loop-i.invariant.2, c.loop-i.invariant.3, row_inside _ _ _ _ _ c.loop-i.invariant.3 c.loop-i-test.true, filling-none (omega arith) c.loop-i.invariant.4)

pub loop-j-preserved : goal.loop-j-preserved
loop-j-preserved c = (omega arith, omega arith, omega arith, omega arith, omega arith, omega arith, filling-more (omega arith) c.loop-j.invariant.6 refl)

pub loop-i-preserved : goal.loop-i-preserved
loop-i-preserved c = (omega arith, omega arith, omega arith, omega arith, filling-row c.loop-j.invariant.6 c.loop-j.invariant.1 c.loop-j-test.false)

pub returns : goal.returns
unfolding cells_at
returns c = table-end _ _ _ _ _ _ _ _ c.loop-i.invariant.0 c.loop-i-test.false c.loop-i.invariant.4
