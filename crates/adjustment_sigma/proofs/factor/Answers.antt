-- `adjustment_sigma::factor` meets its contract.
use mathlib.Core.Path.{sym, ◌∙◌}
use mathlib.Core.Bool.{true}
use mathlib.Core.List.{[]}
use lib.Ieee.{of_bits}
use borrow.Author.Tests.{eq-eqb}
use Rattle.adjustment.specs.Covariance.{factor}
use Rattle.adjustment_covariance.proofs.DesignLaws.{factor-own}
use Rattle.adjustment_sigma.proofs.factor.Goals as goal

pub returns-then-r-last : goal.returns-then-r-last
unfolding factor of_bits
returns-then-r-last c = rw (eq-eqb _ _ (c.if-r-last.true ∙ c.places_before-last.ensures))

pub returns : goal.returns
returns c = factor-own 0 [] true [] _ _ _ _ _ _ (λ e. c.if-r-last.false (e ∙ sym c.places_before-last.ensures)) c.place_of-t.ensures.0 c.factor_of.ensures
