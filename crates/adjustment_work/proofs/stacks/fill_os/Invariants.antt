use Rattle.adjustment_work.specs.joints.Steps.{h_at}
use Rattle.adjustment_work.specs.joints.Work.{put_stack}
use Rattle.adjustment.specs.Information.{o_rows}
use Rattle.adjustment_covariance.specs.joints.Lent.{x_rows}
use lib.ListN.{length}
use mathlib.Core.Path.{◌≡◌}
use Prim.Native.Nat.{◌≤◌, ◌-◌, ◌*◌}
use Rattle.adjustment_work.proofs.stacks.fill_os.Given as goal

abbrev pub invariant-loop-r : goal.invariant-loop-r
invariant-loop-r l = (l.r ≤ l.k) × (length l.narrow ≡ length l.initial.narrow) × (l.narrow ≡ put_stack 6 (6 * l.s) 1 l.design.covariance.specimens l.design.coefficients l.r (λ r. o_rows l.design.covariance.specimens l.design.coefficients (h_at l.s l.design.covariance.specimens l.work r) (x_rows l.design)) l.initial.narrow)

abbrev pub decreases-loop-r : goal.decreases-loop-r
decreases-loop-r l = l.k - l.r
