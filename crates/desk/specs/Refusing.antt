-- What a call returns, by its result. Not for readers of the promises. Assumes nothing.
use Rattle.std.specs.Prelude.{ℕ, Result, Ok, Err}
use Rattle.calls.specs.Promise.{returned}
use Rattle.desk.specs.declared.Refused.{Refused}
use Rattle.desk.specs.declared.Refused.TheVariants.{WrongSizes, NotWhole, BadRequest}

-- the number of a refusal
abbrev pub number_of : Refused → ℕ
number_of WrongSizes = 10
number_of NotWhole = 11
number_of BadRequest = 12

-- what is returned where a picture is made fresh
abbrev pub freshened_by : Result (Unit {0}) Refused → ℕ
freshened_by (Ok _) = 0
freshened_by (Err e) = returned (number_of e) 0

-- what is returned where a request is answered: the bytes of the answers
abbrev pub served_by : Result ℕ Refused → ℕ
served_by (Ok n) = n
served_by (Err e) = returned (number_of e) 0
