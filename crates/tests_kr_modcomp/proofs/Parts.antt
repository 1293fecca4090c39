-- How the parts of a test make it up: a variable and an equation for each result on the way.
use Prim.Native.Nat.{ℕ, ◌≤◌, ◌<◌}
use native.Mathlib.Omega.{arith}
use mathlib.Core.Path.{◌≡◌, refl}
use mathlib.Core.Bool.{Bool, true, false, not, cond, ◌&&◌, ◌||◌}
use mathlib.Core.List.{List, []}
use lib.Dec.{eqb}
use lib.ListN.{get_or, set, replicate, length-replicate}
use lib.Ieee.{Float}
use Rattle.arithmetic.specs.declared.Marked.{Marked}
use Rattle.arithmetic.specs.Numbers.{plus_zero}
use Rattle.arithmetic.specs.Marks.{given}
use Rattle.algebra.specs.Table.{blank}
use Rattle.algebra.specs.Kind.{marks}
use Rattle.algebra.specs.Product.{product}
use Rattle.algebra.specs.Elimination.{solution}
use Rattle.algebra.specs.Elimination as elimination
use Rattle.algebra.specs.Small.{MarkedRows, Rows, sandwich, given_cells, values, all_marks}
use Rattle.algebra.proofs.FoldLaws.{span-at}
use Rattle.arithmetic_cutoffs.specs.declared.Cutoffs.{Cutoffs}
use Rattle.std.specs.Prelude.{Option}
use Rattle.tests.specs.declared.Entry.{Entry}
use Rattle.tests.specs.declared.Basis.{Basis}
use Rattle.tests.specs.declared.Covariances.{Covariances}
use Rattle.tests.specs.declared.Tested.{Tested}
use Rattle.tests_kr_modcomp.specs.declared.full_rank.WaldParts.{WaldParts}
use Rattle.tests.specs.Moments.{a1_of, a2_of, df_of, scaling_of, f_of}
use Rattle.tests.specs.KenwardRoger.{scaling_seen, difference, theta_of, u_of, u_stack, u_values, a_rows, x_rows, theta_phi, us, ld_rows, v_rows, y_rows, wald_marked, wald_number, test_seen, a1, a2, tested}
use Rattle.tests_kr_modcomp.specs.joints.Parts.{scaled_of, wald_of, wald_number_of, theta_seen_of, wald_seen_of, entry_of, wald_entry_of, theta_tested_of}
use Rattle.tests.specs.Both.{stack_seen}

-- a choice between false and z is a conjunction
pub also-not-is : (b z : Bool) → (not b && z) ≡ cond b false z
also-not-is false z = refl
also-not-is true z = refl

-- one u_i, as it is made: its values among those of all, and its marks with those before it
module _ (N p : ℕ) (tp : MarkedRows) (ps : List MarkedRows) (phi : MarkedRows) (i : ℕ) (H : i < N) (L : N ≤ 4) (u : MarkedRows) (e : u ≡ u_of marks p tp (get_or ps i []) phi) where
  u-at : u ≡ get_or (u_stack marks N p tp ps phi) i []
  unfolding u_stack
  u-at = rw (span-at 0 N (λ i. u_of marks p tp (get_or ps i []) phi) (replicate 4 (blank (given plus_zero) 6 6)) i [] (omega arith) H (omega (arith, length-replicate 4 (blank (given plus_zero) 6 6)))) e

  pub u-values-step : (out : List Rows) (r : Rows) → r ≡ values marks 6 6 p p u → set out i r ≡ set out i (values marks 6 6 p p (get_or (u_stack marks N p tp ps phi) i []))
  u-values-step out r d = rw (d, u-at)

  pub u-seen-step : (all r : Marked) → r ≡ all_marks marks p p u all → r ≡ all_marks marks p p (get_or (u_stack marks N p tp ps phi) i []) all
  u-seen-step all r d = rw u-at at d

-- the entry, from the moments
pub entry-is : (c : Cutoffs) (s : Covariances Marked) (q : ℕ) (plain : List Rows) (wald : Option Float) (seen : Marked) (x y : Float) (scaling f df : Option Float)
    → x ≡ a1_of s.matrices s.p s.w plain → y ≡ a2_of s.matrices s.p s.w plain → scaling ≡ scaling_of c q x y → f ≡ f_of q scaling wald → df ≡ df_of c q x y
    → ◌≡◌ {A = Entry} (record { f = f; df = df; rank = q; inside = seen.inside }) (entry_of c s q plain wald seen)
unfolding entry_of
entry-is c s q plain wald seen x y scaling f df e1 e2 e3 e4 e5 = rw (← e1, ← e2, ← e3, ← e4, ← e5)

-- the test but for Wald's elimination, from A, A⁻¹L, ΘΦ, the marks of these, and the values and the marks of the u_i
pub theta-tested-is : (c : Cutoffs) (s : Covariances Marked) (ps : List MarkedRows) (q : ℕ) (l d : MarkedRows) (w : WaldParts) (seen : Marked) (a x tp : MarkedRows) (z : Bool) (before all : Marked)
    (plain : List Rows) (r : Entry)
    → a ≡ sandwich marks 6 6 q s.p l s.phi → x ≡ solution marks 6 12 6 q s.p a l → z ≡ elimination.refused marks 6 12 q s.p a l → tp ≡ product marks 6 6 s.p s.p s.p (theta_of marks s.p q l x) s.phi
    → before ≡ theta_seen_of s.p q d a x tp seen → all ≡ stack_seen marks s.matrices s.p (u_stack marks s.matrices s.p tp ps s.phi) before
    → plain ≡ u_values marks s.matrices s.p (u_stack marks s.matrices s.p tp ps s.phi) → r ≡ wald_entry_of c s q plain w all
    → ◌≡◌ {A = Tested} (record { refused = z; entry = r }) (theta_tested_of c s ps q l d w seen)
unfolding theta_tested_of
theta-tested-is c s ps q l d w seen a x tp z before all plain r e1 e2 e3 e4 e5 e6 e7 e8 = rw (e8, e3, ← e1, ← e2, ← e4, ← e5, ← e6, ← e7)

-- the test, from L, D, LD, v and Y; whether it is refused, from the pivots of A and of v
pub tested-is : (c : Cutoffs) (s : Covariances Marked) (ps : List MarkedRows) (beta beta_h : List Float) (b : Basis Marked) (l d ld v y : MarkedRows) (zv : Bool) (all : Marked) (t : Tested)
    → l ≡ given_cells marks 6 6 b.rank s.p b.rows → d ≡ difference marks s.p beta beta_h → ld ≡ product marks 6 6 b.rank s.p 1 l d → v ≡ sandwich marks 6 6 b.rank s.p l s.phi_a
    → y ≡ solution marks 6 12 6 b.rank 1 v ld → zv ≡ elimination.refused marks 6 12 b.rank 1 v ld → all ≡ scaling_seen marks (scaled_of s ps) b.seen
    → t ≡ theta_tested_of c s ps b.rank l d (record { ld = ld; v = v; y = y }) all
    → ◌≡◌ {A = Tested} (record { refused = t.refused || (not (eqb b.rank 1) && zv); entry = t.entry }) (tested marks c (scaled_of s ps) beta beta_h b)
unfolding tested a_rows x_rows theta_phi us ld_rows v_rows y_rows wald_marked wald_number test_seen a1 a2 theta_tested_of wald_entry_of entry_of wald_of wald_number_of theta_seen_of wald_seen_of
tested-is c s ps beta beta_h b l d ld v y zv all t e1 e2 e3 e4 e5 e6 e7 e8 = rw (e8, e6, also-not-is, ← e1, ← e2, ← e3, ← e4, ← e5, ← e7)
