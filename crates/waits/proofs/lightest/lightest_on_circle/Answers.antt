-- `waits::lightest::lightest_on_circle` meets its contract: none before the first that is found lies on a circle.
-- Assumes nothing.
use mathlib.Core.Path.{refl}
use borrow.Author.Rules.{rules}
use Rattle.waits.proofs.Yielders.{none_found, one_found}
use Rattle.waits.proofs.lightest.lightest_on_circle.Goals as goal

pub returns-in_err-from : goal.returns-in_err-from
returns-in_err-from c =
    none_found _ _ _ c.requires.whole c.requires.rows _ _ refl c.queued.ensures.0 c.find.ensures.ran (λ x h k. search rules)
    _ c.in_err-from.was c.from_residual.ensures

pub lightest_from-requires-clause-nobody_to : goal.lightest_from-requires-clause-nobody_to
lightest_from-requires-clause-nobody_to c =
    one_found _ _ _ c.requires.whole c.requires.rows _ _ refl c.queued.ensures.0 c.find.ensures.ran (λ x h k. search rules)
    _ c.in_ok-from.was
