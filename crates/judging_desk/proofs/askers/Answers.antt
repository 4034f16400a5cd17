-- `judging_desk::askers` meets its contract. Assumes nothing.
use borrow.Author.Rules.{rules}
use Rattle.judging_desk.proofs.DeskTurns.{askers_start, askers_twice, askers_next, askers_end}
use Rattle.judging_desk.proofs.askers.Goals as goal

pub loop-i-init : goal.loop-i-init
loop-i-init c = search (rules, askers_start)

pub returns-in_err-m : goal.returns-in_err-m
returns-in_err-m c = search (rules, askers_twice)

pub loop-i-preserved : goal.loop-i-preserved
loop-i-preserved c = search (rules, askers_next)

pub returns : goal.returns
returns c = search (rules, askers_end)
