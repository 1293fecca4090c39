-- How the calls of the adjustment make up its definitions: a variable and an equation for each result on the way.
use Prim.Native.Nat.{ℕ}
use mathlib.Core.Path.{◌≡◌, refl, sym, ap, ◌∙◌}
use mathlib.Core.Bool.{Bool, true, false, cond}
use lib.Ieee.{Float}
use Rattle.algebra.specs.Kind.{floats}
use Rattle.algebra.specs.Jacobi.{State, jacobi}
use Rattle.arithmetic_cutoffs.specs.declared.Cutoffs.{Cutoffs}
use Rattle.algebra.specs.Small.{Rows}
use Rattle.adjustment.specs.Information.{inverted, w_rows, w_refused}
use Rattle.adjustment.specs.Adjusted.{Stack, Adjustment, u_rows, phi_a_rows, output_not_finite}
use Rattle.adjustment_adjusted.specs.joints.FromInformation.{inverted_of, from_information, information_refusal}

-- the matrix that is inverted, and the rotations
module _ (c : Cutoffs) (N : ℕ) (ie : Rows) (x : State Float) (e : x ≡ jacobi floats c.rotation 6 6 N ie) where
  pub inverted-of-is : (m : Rows) → m ≡ inverted c N ie x.a → m ≡ inverted_of c N ie
  unfolding inverted_of
  inverted-of-is m em = em ∙ ap (λ (t : State Float). inverted c N ie t.a) e

  pub made-is : x.count ≡ (jacobi floats c.rotation 6 6 N ie).count
  made-is = ap (λ (t : State Float). t.count) e

-- from IE on, by its results: the matrix that is inverted, the rotations, whether a pivot was zero, and W
module _ (c : Cutoffs) (p N : ℕ) (phi : Rows) (sigma2 : Float) (ps qs : Stack) (ie m : Rows) (made : ℕ) (zero : Bool) (w : Rows) (em : m ≡ inverted_of c N ie)
    (emade : made ≡ (jacobi floats c.rotation 6 6 N ie).count) (ez : zero ≡ w_refused N m) (ew : w ≡ w_rows N m) where
  pub number-pivot : zero ≡ true → 10 ≡ information_refusal c p N phi sigma2 ps qs ie
  unfolding information_refusal
  number-pivot t = let z : w_refused N (inverted_of c N ie) ≡ true = ap (w_refused N) (sym em) ∙ sym ez ∙ t in rw z

  -- Φ_A is a
  module _ (a : Rows) (ea : a ≡ phi_a_rows p phi (u_rows p N phi ps qs w)) where
    pub from-information-is : record { phi_a = a; ps = ps; w = w; rotations = made } ≡ from_information c p N phi ps qs ie
    unfolding from_information
    from-information-is = rw (← em, ← ew, ← ea, ← emade)

    pub number-finite : (bad : Bool) → zero ≡ false → bad ≡ output_not_finite p N phi sigma2 (record { phi_a = a; ps = ps; w = w; rotations = made })
        → cond bad 4 0 ≡ information_refusal c p N phi sigma2 ps qs ie
    unfolding information_refusal
    number-finite bad t eb =
        let z : w_refused N (inverted_of c N ie) ≡ false = ap (w_refused N) (sym em) ∙ sym ez ∙ t in
        rw (z, ← from-information-is, ← eb)
