-- `requests::is_filled` meets its contract: only an insert has a second filler.
-- Assumes nothing.
use borrow.Author.Rules.{rules}
use Rattle.numbers.specs.Numbers.{width_of}
use Rattle.requests.specs.RequestRecord.{forms}
use Rattle.requests.proofs.RequestRead.{room, filled_insert, filled_other}
use Rattle.requests.proofs.is_filled.Goals as goal

pub read_u32-requires : goal.read_u32-requires
unfolding width_of forms
read_u32-requires c = search (rules, room 5)

pub returns-then-kind-eq-INSERT : goal.returns-then-kind-eq-INSERT
returns-then-kind-eq-INSERT c = search (rules, filled_insert)

pub returns : goal.returns
returns c = search (rules, filled_other)
