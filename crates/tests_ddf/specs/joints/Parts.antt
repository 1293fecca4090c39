-- Not needed to check document 01: names that join the code to its definitions.
-- What the functions that make up a Satterthwaite test answer, from the matrices at hand. Their joints are those of `satterthwaite`.
use Rattle.std.specs.Prelude.{ℕ, List, Option, Float}
use Rattle.arithmetic.specs.declared.Marked.{Marked}
use Rattle.arithmetic.specs.Numbers.{plus_zero}
use Rattle.arithmetic.specs.Marks.{given, also}
use Rattle.algebra.specs.Kind.{marks}
use Rattle.algebra.specs.Product.{at}
use Rattle.algebra.specs.Jacobi.{State, jacobi}
use Rattle.algebra.specs.Small.{MarkedRows, Rows, all_marks}
use Rattle.arithmetic_cutoffs.specs.declared.Cutoffs.{Cutoffs}
use Rattle.tests.specs.declared.Entry.{Entry}
use Rattle.tests.specs.Answer.{number_of}
use Rattle.tests.specs.VarianceDf.{variance_df, gradient_seen}
use Rattle.tests.specs.declared.TestInputs.{TestInputs}
use Rattle.tests.specs.declared.Tested.{Tested}
use Rattle.tests.specs.Satterthwaite.{Inputs, gradient_one, eigenvalues, not_positive, variances_of, directions_of, projected, squares_over, jx_all, component_dfs, several_df, components_seen}
use Rattle.tests.specs.Both.{square_one, stack_seen}

-- what is sent, from the inputs and the Jacobians
abbrev pub inputs_of : TestInputs → List Rows → Inputs
inputs_of s js = record { p = s.p; q = s.q; n = s.n; l = s.l; beta = s.beta; beta_h = s.beta_h; v = s.v; js = js; a = s.a }

-- the marks of LβD, V and every J
unfoldable pub start_seen_of : ℕ → ℕ → MarkedRows → MarkedRows → List MarkedRows → Marked
start_seen_of n q ld v js = stack_seen marks n q js (all_marks marks q q v (all_marks marks q 1 ld (given plus_zero)))

-- then those of Jacobi: its matrix d, its vectors x and the products of its tests
unfoldable pub rotations_seen_of : ℕ → MarkedRows → MarkedRows → Marked → Marked → Marked
rotations_seen_of q d x tests start = also (all_marks marks q q x (all_marks marks q q d start)) tests

-- one row, from its LβD, V and the gradient of V
unfoldable pub one_entry_of : ℕ → ℕ → Rows → Marked → Marked → List Marked → Marked → Entry
one_entry_of n q a ld v gradient start =
    let f : Marked = square_one marks ld v in
    record { f = number_of f.value; df = variance_df marks n a v gradient; rank = q; inside = (gradient_seen marks n v gradient (also start f)).inside }

-- several rows, from the components: eigenvalues, eigenvectors, Jx, and what was seen before these
unfoldable pub components_entry_of : Cutoffs → ℕ → ℕ → Rows → MarkedRows → List Marked → MarkedRows → List MarkedRows → Marked → Entry
components_entry_of c n q a ld es x jx seen =
    let f : Marked = squares_over marks q (projected marks q x ld) es in
    record { f = number_of f.value; df = several_df q (component_dfs marks c n q a es x jx); rank = q; inside = (components_seen marks n q es x jx (also seen f)).inside }

-- several rows, from Jacobi's matrix d and its vectors v
unfoldable pub several_entry_of : Cutoffs → ℕ → ℕ → Rows → MarkedRows → List MarkedRows → MarkedRows → MarkedRows → Marked → Entry
several_entry_of c n q a ld js d v seen =
    let x : MarkedRows = directions_of marks q (eigenvalues marks q d) v in
    components_entry_of c n q a ld (variances_of marks q (eigenvalues marks q d) d) x (jx_all marks n q js x) seen

-- several rows, from LβD, V and every J
unfoldable pub several_tested_of : Cutoffs → ℕ → ℕ → Rows → MarkedRows → MarkedRows → List MarkedRows → Tested
several_tested_of c n q a ld v js =
    let t : State Marked = jacobi marks c.rotation 6 6 q v in
    record {
      refused = not_positive q (eigenvalues marks q t.a);
      entry = several_entry_of c n q a ld js t.a t.v (rotations_seen_of q t.a t.v t.seen (start_seen_of n q ld v js));
    }
