-- `answering::say_waiting` meets its contract: at rest who waits is who has somebody in the way.
-- Assumes nothing.
use borrow.Author.Rules.{rules}
use Rattle.answering.proofs.RequestAnswered.{last_none, last_room, last_said}
use Rattle.answering.proofs.say_waiting.Goals as goal

pub returns-in_default : goal.returns-in_default
returns-in_default c = search (rules, last_none)

pub put_answer-requires : goal.put_answer-requires
put_answer-requires c = search (rules, last_room)

pub returns : goal.returns
returns c = search (rules, last_said)
