use Rattle.adjustment_work.specs.joints.Steps.{s_at}
use Rattle.adjustment_work.specs.joints.Work.{put_stack}
use Rattle.adjustment_covariance.specs.joints.Lent.{lent_design}
use Rattle.adjustment.specs.Information.{h_rows}
use Rattle.adjustment.specs.Covariance.{g_rows}
use lib.ListN.{length}
use mathlib.Core.List.{[]}
use mathlib.Core.Path.{◌≡◌}
use Prim.Native.Nat.{◌≤◌, ◌-◌, ◌*◌}
use Rattle.adjustment_work.proofs.stacks.fill_hs.Given as goal

abbrev pub invariant-loop-r : goal.invariant-loop-r
invariant-loop-r l = (l.r ≤ l.k) × (length l.work ≡ length l.initial.work) × (l.work ≡ put_stack l.s (l.s * l.s) 2 l.design.specimens l.design.specimens l.r (λ r. h_rows l.design.specimens (g_rows (lent_design l.design []) r) (s_at l.s l.design.specimens l.initial.work)) l.initial.work)

abbrev pub decreases-loop-r : goal.decreases-loop-r
decreases-loop-r l = l.k - l.r
