-- `tests_run::compute_kenward_roger` meets its contract.
use mathlib.Core.Path.{ap, ◌∙◌}
use Rattle.algebra.specs.Kind.{marks}
use Rattle.arithmetic.specs.declared.Marked.{Marked}
use Rattle.tests.specs.KenwardRoger.{Scaled, run_of}
use Rattle.tests_run.proofs.RunLaws.{scaled-is}
use borrow.Author.Rules.{rules}
use Rattle.tests_run.proofs.compute_kenward_roger.Goals as goal

pub returns : goal.returns
returns c =
    let h = c.args.h.now in
    c.run_scaled.ensures ∙ ap (λ (s : Scaled Marked). run_of marks c.args.c s h.beta h.beta_h h.rows h.l) (scaled-is _ _ _ _ _ _ c.scaled_up.ensures c.scaled_up-2.ensures c.scaled_ps.ensures)
