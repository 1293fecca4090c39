use Prim.Native.Nat.{◌≤◌, ◌-◌}
use mathlib.Core.Path.{◌≡◌}
use mathlib.Core.List.{[]}
use lib.ListN.{length}
use Rattle.algebra_large.specs.joints.Slab.{rows_at, put_rows}
use Rattle.adjustment.specs.Covariance.{g_rows}
use Rattle.adjustment.specs.Information.{h_rows}
use Rattle.adjustment_covariance.specs.joints.Lent.{lent_design}
use Rattle.adjustment_sigma.proofs.fill_h.Given as goal

abbrev pub invariant-loop-i : goal.invariant-loop-i
invariant-loop-i l = (l.i ≤ l.n) × (length l.work ≡ length l.initial.work) × (l.work ≡ put_rows l.s l.d l.i l.n (h_rows l.n (g_rows (lent_design l.design []) l.r) (rows_at l.s l.q l.n l.n l.initial.work)) l.initial.work)

abbrev pub decreases-loop-i : goal.decreases-loop-i
decreases-loop-i l = l.n - l.i
