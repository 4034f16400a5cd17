-- `locks::take_at` meets its contract: the lock strengthened, a new one in the free slot, or nothing.
-- Assumes nothing.
use borrow.Author.Rules.{rules}
use Rattle.locks.proofs.Takes.{given_held, taken_held, given_new, taken_new, given_none, taken_none}
use Rattle.locks.proofs.slots.take_at.Goals as goal

pub returns-then-own-lt-LOCKS-clause-taken : goal.returns-then-own-lt-LOCKS-clause-taken
returns-then-own-lt-LOCKS-clause-taken c = search (rules, taken_held)

pub returns-then-own-lt-LOCKS-clause-given : goal.returns-then-own-lt-LOCKS-clause-given
returns-then-own-lt-LOCKS-clause-given c = search (rules, given_held)

pub returns-then-free-lt-LOCKS-clause-taken : goal.returns-then-free-lt-LOCKS-clause-taken
returns-then-free-lt-LOCKS-clause-taken c = search (rules, taken_new)

pub returns-then-free-lt-LOCKS-clause-given : goal.returns-then-free-lt-LOCKS-clause-given
returns-then-free-lt-LOCKS-clause-given c = search (rules, given_new)

pub returns-clause-taken : goal.returns-clause-taken
returns-clause-taken c = search (rules, taken_none)

pub returns-clause-given : goal.returns-clause-given
returns-clause-given c = search (rules, given_none)
