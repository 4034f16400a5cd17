-- `ends::end` meets its contract: what the index and the desk become is the rule book's end.
-- Assumes nothing.
use borrow.Author.Rules.{rules}
use Rattle.states.proofs.TablesSay.{whole_few}
use Rattle.ends.proofs.Ended.{end_says}
use Rattle.ends.proofs.end.Goals as goal

pub drop_request-requires : goal.drop_request-requires
drop_request-requires c = search (rules, whole_few)

pub returns : goal.returns
returns c = search (rules, end_says)
