-- `turns::work` meets its contract. Assumes nothing.
use borrow.Author.Rules.{rules}
use Rattle.turns.proofs.Works.{left_room, left_less, left_turn, left_done, left_space}
use Rattle.turns.proofs.work.Goals as goal

pub returns-clause-wrote : goal.returns-clause-wrote
returns-clause-wrote c = search (rules, left_done)

pub returns-clause-room : goal.returns-clause-room
returns-clause-room c = search (rules, left_space)

pub put_answer-requires : goal.put_answer-requires
put_answer-requires c = search (rules, left_room)

pub loop-answer-smaller : goal.loop-answer-smaller
loop-answer-smaller c = search (rules, left_less)

pub loop-answer-preserved : goal.loop-answer-preserved
loop-answer-preserved c = search (rules, left_turn)
