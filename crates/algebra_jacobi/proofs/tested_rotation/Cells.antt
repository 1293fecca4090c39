-- The cells of a rotated matrix by where they stand, for any kind of number.
use Prim.Native.Nat.{ℕ}
use mathlib.Core.Path.{◌≡◌}
use borrow.Author.Tests.{eq-eqb, ne_eqb}
use Rattle.algebra.specs.Kind.{Arith, zero_of}
use Rattle.algebra_jacobi.specs.joints.Rotated.{chosen_cell}

module _ {A : Type 0} (N : Arith A) (p q : ℕ) (first second : A) (i j : ℕ) (byP byQ here : A) where
  -- row p: the diagonal, the cell that becomes +0, and the others
  pub first-diagonal : i ≡ p → j ≡ p → first ≡ chosen_cell N p q first second i j byP byQ here
  unfolding chosen_cell
  first-diagonal hi hj = simp (eq-eqb i p hi, eq-eqb j p hj)

  pub first-cleared : (x : A) → x ≡ zero_of N → i ≡ p → (j ≡ p → ⊥) → j ≡ q → x ≡ chosen_cell N p q first second i j byP byQ here
  unfolding chosen_cell
  first-cleared x ex hi hp hq = simp (ex, eq-eqb i p hi, ne_eqb j p hp, eq-eqb j q hq)

  pub first-mirror : i ≡ p → (j ≡ p → ⊥) → (j ≡ q → ⊥) → byP ≡ chosen_cell N p q first second i j byP byQ here
  unfolding chosen_cell
  first-mirror hi hp hq = simp (eq-eqb i p hi, ne_eqb j p hp, ne_eqb j q hq)

  -- row q
  pub second-diagonal : (i ≡ p → ⊥) → i ≡ q → j ≡ q → second ≡ chosen_cell N p q first second i j byP byQ here
  unfolding chosen_cell
  second-diagonal hn hi hj = simp (ne_eqb i p hn, eq-eqb i q hi, eq-eqb j q hj)

  pub second-cleared : (x : A) → x ≡ zero_of N → (i ≡ p → ⊥) → i ≡ q → (j ≡ q → ⊥) → j ≡ p → x ≡ chosen_cell N p q first second i j byP byQ here
  unfolding chosen_cell
  second-cleared x ex hn hi hq hp = simp (ex, ne_eqb i p hn, eq-eqb i q hi, ne_eqb j q hq, eq-eqb j p hp)

  pub second-mirror : (i ≡ p → ⊥) → i ≡ q → (j ≡ q → ⊥) → (j ≡ p → ⊥) → byQ ≡ chosen_cell N p q first second i j byP byQ here
  unfolding chosen_cell
  second-mirror hn hi hq hp = simp (ne_eqb i p hn, eq-eqb i q hi, ne_eqb j q hq, ne_eqb j p hp)

  -- the other rows
  pub elsewhere : (i ≡ p → ⊥) → (i ≡ q → ⊥) → here ≡ chosen_cell N p q first second i j byP byQ here
  unfolding chosen_cell
  elsewhere hp hq = simp (ne_eqb i p hp, ne_eqb i q hq)
