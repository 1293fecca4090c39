-- Not needed to check document 01: names that join the code to its definitions.
-- What the functions that make up a Kenward–Roger test answer, from the matrices at hand. Their joints are those of `tested`.
use Rattle.std.specs.Prelude.{ℕ, not, cond, ◌&&◌, List, eqb, Option, None, Float}
use Rattle.arithmetic.specs.declared.Marked.{Marked}
use Rattle.arithmetic.specs.Numbers.{plus_zero}
use Rattle.arithmetic.specs.Marks.{given, also}
use Rattle.algebra.specs.Kind.{marks}
use Rattle.algebra.specs.Product.{at, product}
use Rattle.algebra.specs.Elimination.{solution, refused}
use Rattle.algebra.specs.Small.{MarkedRows, Rows, sandwich, all_marks}
use Rattle.arithmetic_cutoffs.specs.declared.Cutoffs.{Cutoffs}
use Rattle.tests.specs.declared.Entry.{Entry}
use Rattle.tests.specs.Answer.{number_of}
use Rattle.tests.specs.Both.{is_positive, square_one, stack_seen}
use Rattle.tests.specs.Moments.{a1_of, a2_of, df_of, scaling_of, f_of}
use Rattle.tests.specs.declared.Covariances.{Covariances}
use Rattle.tests.specs.declared.Tested.{Tested}
use Rattle.tests_kr_modcomp.specs.declared.full_rank.WaldParts.{WaldParts}
use Rattle.tests.specs.KenwardRoger.{Scaled, theta_of, u_stack, u_values, wald_many}

-- what a test starts from, from the covariances and the Ps
abbrev pub scaled_of : Covariances Marked → List MarkedRows → Scaled Marked
scaled_of s ps = record { p = s.p; matrices = s.matrices; phi = s.phi; phi_a = s.phi_a; ps = ps; w = s.w }

-- Wald with its mark, from LD, v = LΦ_ALᵀ and Y; +0 where it is none
unfoldable pub wald_of : ℕ → WaldParts → Marked
wald_of q w = cond (eqb q 1) (cond (is_positive (at marks w.v 0 0).value) (square_one marks (at marks w.ld 0 0) (at marks w.v 0 0)) (given plus_zero)) (wald_many marks q w.ld w.y)

-- Wald as a number or none, from v and its marked number
unfoldable pub wald_number_of : ℕ → MarkedRows → Marked → Option Float
wald_number_of q v wald = cond (eqb q 1 && not (is_positive (at marks v 0 0).value)) None (number_of wald.value)

-- the marks of D, A, A⁻¹L and ΘΦ, after what was seen before
unfoldable pub theta_seen_of : ℕ → ℕ → MarkedRows → MarkedRows → MarkedRows → MarkedRows → Marked → Marked
theta_seen_of p q d a x tp seen = all_marks marks p p tp (all_marks marks q p x (all_marks marks q q a (all_marks marks p 1 d seen)))

-- then those of LD, v, Y where it is used, and Wald
unfoldable pub wald_seen_of : ℕ → WaldParts → Marked → Marked → Marked
wald_seen_of q w wald seen = let s4 : Marked = all_marks marks q q w.v (all_marks marks q 1 w.ld seen) in also (cond (eqb q 1) s4 (all_marks marks q 1 w.y s4)) wald

-- the entry, from the values of the u_i, Wald and what was seen
unfoldable pub entry_of : Cutoffs → Covariances Marked → ℕ → List Rows → Option Float → Marked → Entry
entry_of c s q vs wald seen =
    let a1 : Float = a1_of s.matrices s.p s.w vs in
    let a2 : Float = a2_of s.matrices s.p s.w vs in
    record { f = f_of q (scaling_of c q a1 a2) wald; df = df_of c q a1 a2; rank = q; inside = seen.inside }

-- the entry, from the values of the u_i, LD, v, Y and what was seen before these
unfoldable pub wald_entry_of : Cutoffs → Covariances Marked → ℕ → List Rows → WaldParts → Marked → Entry
wald_entry_of c s q vs w seen =
    let wald : Marked = wald_of q w in
    entry_of c s q vs (wald_number_of q w.v wald) (wald_seen_of q w wald seen)

-- the test, but for Wald's elimination: from L, D, LD, v, Y and what was seen of the basis and the scaling
unfoldable pub theta_tested_of : Cutoffs → Covariances Marked → List MarkedRows → ℕ → MarkedRows → MarkedRows → WaldParts → Marked → Tested
theta_tested_of c s ps q l d w seen =
    let a : MarkedRows = sandwich marks 6 6 q s.p l s.phi in
    let x : MarkedRows = solution marks 6 12 6 q s.p a l in
    let tp : MarkedRows = product marks 6 6 s.p s.p s.p (theta_of marks s.p q l x) s.phi in
    let us : List MarkedRows = u_stack marks s.matrices s.p tp ps s.phi in
    record {
      refused = refused marks 6 12 q s.p a l;
      entry = wald_entry_of c s q (u_values marks s.matrices s.p us) w (stack_seen marks s.matrices s.p us (theta_seen_of s.p q d a x tp seen));
    }
