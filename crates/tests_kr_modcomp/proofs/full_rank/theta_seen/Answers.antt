-- `tests_kr_modcomp::full_rank::theta_seen` meets its contract.
use Rattle.tests_kr_modcomp.specs.joints.Parts.{theta_seen_of}
use borrow.Author.Rules.{rules}
use Rattle.tests_kr_modcomp.proofs.full_rank.theta_seen.Goals as goal

pub returns : goal.returns
unfolding theta_seen_of
returns c =
    let s1 = c.all_marks-s1.ensures in
    let s2 = c.all_marks-s2.ensures in
    let s3 = c.all_marks-s3.ensures in
    rw (← s1, ← s2, ← s3) c.all_marks.ensures
