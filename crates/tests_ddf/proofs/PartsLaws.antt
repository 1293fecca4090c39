-- How the parts of a Satterthwaite test make it up: a variable and an equation for each result on the way.
use Prim.Native.Nat.{ℕ}
use mathlib.Core.Path.{◌≡◌, refl}
use mathlib.Core.Bool.{Bool, true, false, cond}
use mathlib.Core.List.{List}
use lib.Dec.{eqb}
use lib.Ieee.{Float}
use Rattle.arithmetic.specs.declared.Marked.{Marked}
use Rattle.arithmetic.specs.Marks.{also}
use Rattle.algebra.specs.Kind.{marks}
use Rattle.algebra.specs.Product.{at}
use Rattle.algebra.specs.Jacobi.{State, jacobi}
use Rattle.algebra.specs.Small.{MarkedRows, Rows, given_cells}
use Rattle.arithmetic_cutoffs.specs.declared.Cutoffs.{Cutoffs}
use Rattle.std.specs.Prelude.{Option}
use Rattle.tests.specs.declared.Entry.{Entry}
use Rattle.tests.specs.declared.TestInputs.{TestInputs}
use Rattle.tests.specs.declared.Tested.{Tested}
use Rattle.tests.specs.Answer.{number_of}
use Rattle.tests.specs.Satterthwaite.{contrast_of, transformed, transformed_all, gradient_one, eigenvalues, not_positive, variances_of, directions_of, projected, squares_over, jx_all, component_dfs, several_df, components_seen, ld_rows, v_rows, j_stack, rotated_v, variances, directions, jx_stack, f_one, f_several, df_one, df_several, start_seen, seen_one, seen_several, one_row, several_rows, satterthwaite}
use Rattle.tests_ddf.specs.joints.Parts.{inputs_of, start_seen_of, rotations_seen_of, one_entry_of, components_entry_of, several_entry_of, several_tested_of}

-- several rows, from x·LβD, F, the components' degrees of freedom and their marks
pub components-entry-is : (c : Cutoffs) (n q : ℕ) (a : Rows) (ld : MarkedRows) (es : List Marked) (x : MarkedRows) (jx : List MarkedRows) (seen : Marked)
    (y : MarkedRows) (f : Marked) (nu : List Float) (df number : Option Float) (both all : Marked)
    → y ≡ projected marks q x ld → f ≡ squares_over marks q y es → nu ≡ component_dfs marks c n q a es x jx → df ≡ several_df q nu → both ≡ also seen f
    → all ≡ components_seen marks n q es x jx both → number ≡ number_of f.value
    → ◌≡◌ {A = Entry} (record { f = number; df = df; rank = q; inside = all.inside }) (components_entry_of c n q a ld es x jx seen)
unfolding components_entry_of
components-entry-is c n q a ld es x jx seen y f nu df number both all e1 e2 e3 e4 e5 e6 e7 = rw (← e1, ← e2, ← e3, ← e4, ← e5, ← e6, ← e7)

-- several rows, from the eigenvalues' order, the components and Jx
pub several-entry-from : (c : Cutoffs) (n q : ℕ) (a : Rows) (ld : MarkedRows) (js : List MarkedRows) (d v : MarkedRows) (seen : Marked)
    (order : List Float) (es : List Marked) (x : MarkedRows) (jx : List MarkedRows) (r : Entry)
    → order ≡ eigenvalues marks q d → es ≡ variances_of marks q order d → x ≡ directions_of marks q order v → jx ≡ jx_all marks n q js x → r ≡ components_entry_of c n q a ld es x jx seen
    → r ≡ several_entry_of c n q a ld js d v seen
unfolding several_entry_of
several-entry-from c n q a ld js d v seen order es x jx r e1 e2 e3 e4 e5 = rw (← e1, ← e2, ← e3, ← e4) e5

-- several rows, from where Jacobi's sweeps end
module _ (c : Cutoffs) (n q : ℕ) (a : Rows) (ld v : MarkedRows) (js : List MarkedRows) (t : State Marked) (e : t ≡ jacobi marks c.rotation 6 6 q v) where
  pub several-tested-is : (start seen : Marked) (es : List Float) (z : Bool) (r : Entry) → start ≡ start_seen_of n q ld v js → es ≡ eigenvalues marks q t.a → z ≡ not_positive q es
      → seen ≡ rotations_seen_of q t.a t.v t.seen start → r ≡ several_entry_of c n q a ld js t.a t.v seen
      → ◌≡◌ {A = Tested} (record { refused = z; entry = r }) (several_tested_of c n q a ld v js)
  unfolding several_tested_of
  several-tested-is start seen es z r e1 e2 e3 e4 e5 = rw (e5, e3, ← e, ← e1, ← e2, ← e4)

-- the whole test, from L, LβD, V and the Js
module _ (c : Cutoffs) (s : TestInputs) (js : List Rows) (lm ld vm : MarkedRows) (jm : List MarkedRows)
    (e1 : lm ≡ given_cells marks 6 6 s.q s.p s.l) (e2 : ld ≡ contrast_of marks s.p s.q lm s.beta s.beta_h) (e3 : vm ≡ transformed marks s.p s.q lm s.v)
    (e4 : jm ≡ transformed_all marks s.n s.p s.q lm js) where
  pub one-row-is : eqb s.q 1 ≡ true → (start : Marked) (gradient : List Marked) (r : Entry) → start ≡ start_seen_of s.n s.q ld vm jm → gradient ≡ gradient_one marks s.n jm
      → r ≡ one_entry_of s.n s.q s.a (at marks ld 0 0) (at marks vm 0 0) gradient start → ◌≡◌ {A = Tested} (record { refused = false; entry = r }) (satterthwaite marks c (inputs_of s js))
  unfolding satterthwaite one_row seen_one start_seen df_one f_one j_stack v_rows ld_rows one_entry_of start_seen_of
  one-row-is test start gradient r e5 e6 e7 = rw (test, e7, ← e1, ← e2, ← e3, ← e4, ← e5, ← e6)

  pub several-rows-is : eqb s.q 1 ≡ false → (t : Tested) → t ≡ several_tested_of c s.n s.q s.a ld vm jm → t ≡ satterthwaite marks c (inputs_of s js)
  unfolding satterthwaite several_rows seen_several start_seen df_several f_several jx_stack directions variances rotated_v j_stack v_rows ld_rows several_tested_of several_entry_of components_entry_of rotations_seen_of start_seen_of
  several-rows-is test t e5 = rw (test, ← e1, ← e2, ← e3, ← e4) e5
