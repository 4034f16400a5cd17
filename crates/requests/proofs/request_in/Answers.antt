-- `requests::request_in` meets its contract: where the kind is known, the fields are those of its form.
-- Assumes nothing.
use borrow.Author.Rules.{rules}
use Rattle.numbers.specs.Numbers.{width_of, fields_at}
use Rattle.requests.specs.RequestRecord.{forms, requests}
use Rattle.requests.proofs.RequestRead.{room, room_delete, asked, asked_read, asked_insert, asked_delete}
use Rattle.requests.proofs.request_in.Goals as goal

pub read_in-requires : goal.read_in-requires
unfolding width_of forms
read_in-requires c = search (rules, room 4)

pub insert_in-requires : goal.insert_in-requires
unfolding width_of forms
insert_in-requires c = search (rules, room 5)

pub delete_in-requires : goal.delete_in-requires
delete_in-requires c = search (rules, room_delete)

pub returns-in-1 : goal.returns-in-1
unfolding fields_at forms requests
returns-in-1 c = search (rules, asked 1)

pub returns-in-2 : goal.returns-in-2
unfolding fields_at forms requests
returns-in-2 c = search (rules, asked 2)

pub returns-in-3 : goal.returns-in-3
unfolding fields_at forms requests
returns-in-3 c = search (rules, asked 3)

pub returns-in-4 : goal.returns-in-4
returns-in-4 c = search (rules, asked_read)

pub returns-in-5 : goal.returns-in-5
returns-in-5 c = search (rules, asked_insert)

pub returns-in_default : goal.returns-in_default
returns-in_default c = search (rules, asked_delete)
