-- Not needed to check document 01: names that join the code to its definitions.
-- How the code holds a state of Jacobi's sweeps.
use Rattle.std.specs.Prelude.{List}
use Rattle.algebra.specs.Kind.{Arith, zero_of}
use Rattle.algebra.specs.Jacobi.{State}
use Rattle.algebra_jacobi.specs.declared.JacobiState.{JacobiState}

-- the code's state, field by field
abbrev pub state_of : {A : Type 0} → JacobiState A → State A
state_of x = record { a = x.matrix; v = x.vectors; count = x.count; seen = x.seen }

-- the state before the first sweep, from a matrix and vectors
abbrev pub start_of : {A : Type 0} → Arith A → List (List A) → List (List A) → State A
start_of N a v = record { a = a; v = v; count = 0; seen = zero_of N }
