use Rattle.adjustment_stacks.proofs.InformationLaws.{q-more}
use Rattle.adjustment_work.proofs.WorkLaws.{part_held, turned-held}
use Rattle.adjustment_work.specs.joints.Steps.{o_at, q_row_to}
use Rattle.adjustment_work.specs.joints.Work.{part}
use Rattle.algebra_large.specs.joints.Slab.{rows_at}
use Rattle.algebra.proofs.FoldLaws.{fold_start, fold_end}
use Rattle.algebra.specs.Product.{product}
use Rattle.algebra.specs.Kind.{floats}
use native.Mathlib.Omega.{arith}
use mathlib.Core.Path.{◌≡◌, refl, ◌∙◌}
use Prim.Native.Nat.{◌+◌, ◌≤◌, ◌-◌, ◌*◌}
use Rattle.adjustment_stacks.proofs.q_products.Given as goal

abbrev pub invariant-loop-t : goal.invariant-loop-t
invariant-loop-t l = (l.r ≤ l.t) × (l.t ≤ l.k) × (l.out ≡ q_row_to l.k l.r l.t (λ t. product floats 6 6 l.p l.n l.p (rows_at l.n (part l.s 5) l.p l.n l.narrow) (o_at l.s l.n l.p l.narrow t)) l.initial.out)

abbrev pub decreases-loop-t : goal.decreases-loop-t
decreases-loop-t l = l.k - l.t
