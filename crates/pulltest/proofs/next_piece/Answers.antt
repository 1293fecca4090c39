-- `pulltest::next_piece` meets its contract.
use mathlib.Core.Path.{sym, subst}
use Rattle.records_pieces.specs.joints.Arrived.{Arrived, Arrives}
use Rattle.records_pieces.proofs.CameLaws.{fed-arrives}
use borrow.Author.Rules.{rules}
use Rattle.pulltest.proofs.next_piece.Goals as goal

pub returns : goal.returns
returns c = subst (λ (st : Arrived). Arrives st) (sym c.feed.ensures.current_after) (fed-arrives _ _ c.feed.ensures.by_index c.requires)
