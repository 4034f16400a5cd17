-- `requests::is_misshapen` meets its contract: the table of lengths is that of the forms' widths.
-- Assumes nothing.
use borrow.Author.Rules.{rules}
use Rattle.requests.proofs.RequestRead.{misshapen_short, misshapen_kind, known_below, misshapen_length}
use Rattle.requests.proofs.is_misshapen.Goals as goal

pub returns-then-s-lt-REQUEST_HEAD_SIZE : goal.returns-then-s-lt-REQUEST_HEAD_SIZE
returns-then-s-lt-REQUEST_HEAD_SIZE c = search (rules, misshapen_short)

pub returns-then-not-kind : goal.returns-then-not-kind
returns-then-not-kind c = search (rules, misshapen_kind)

pub bounds-kind : goal.bounds-kind
bounds-kind c = search (rules, known_below)

pub returns : goal.returns
returns c = search (rules, misshapen_length)
