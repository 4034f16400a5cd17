-- Document 01, "Records and pages": the request record, and when it is bad (number 12). Assumes nothing.
use Rattle.std.specs.Prelude.{ℕ, ◌+◌, ◌≤◌, ◌≡◌, Bool, true, cond, not, ◌||◌, ◌&&◌, List, [], ◌∷◌, eqb, leb, ltb, length, get_or}
use Rattle.std.proofs.Math.Option.{Option, none, some}
use Rattle.limits.specs.Limits.{key_size, request_head_size}
use Rattle.numbers.specs.Numbers.{number_at, width_of, fields_at}
use Rattle.rules.specs.Kinds.{read, insert, delete, Request, begin, commit, rollback, ask, Call}
use Rattle.rules.specs.Desk.{legal_call}
use Rattle.rules.specs.Document.{document, endless}

-- "Request: length, kind, transaction, two zero bytes; then by kind 1 begin, 2 commit, 3 rollback (length 8); 4 read: lo, hi (24);
-- 5 insert: key, record, four zero bytes (24); 6 delete: key (16)." A kind that is not among these has no form.
unfoldable pub forms : List (List ℕ)
forms =
    []
    ∷ (2 ∷ 2 ∷ 2 ∷ 2 ∷ [])
    ∷ (2 ∷ 2 ∷ 2 ∷ 2 ∷ [])
    ∷ (2 ∷ 2 ∷ 2 ∷ 2 ∷ [])
    ∷ (2 ∷ 2 ∷ 2 ∷ 2 ∷ key_size ∷ key_size ∷ [])
    ∷ (2 ∷ 2 ∷ 2 ∷ 2 ∷ key_size ∷ 4 ∷ 4 ∷ [])
    ∷ (2 ∷ 2 ∷ 2 ∷ 2 ∷ key_size ∷ [])
    ∷ []

-- where the fields behind the head stand: the key, or lo; then hi, or the record; then the filler of an insert
abbrev pub first_place : ℕ
first_place = request_head_size

abbrev pub second_place : ℕ
second_place = first_place + key_size

abbrev pub filler_place : ℕ
filler_place = second_place + 4

abbrev pub form_of : ℕ → List ℕ
form_of kind = get_or forms kind []

abbrev pub kind_in : List ℕ → ℕ
kind_in s = number_at 2 s 2

abbrev pub fields_in : List ℕ → List ℕ
fields_in s = fields_at (form_of (kind_in s)) s 0

unfoldable pub requests : ℕ → ℕ → List (Request ℕ ℕ)
requests x y = begin ∷ begin ∷ commit ∷ rollback ∷ ask (read x y) ∷ ask (insert x y) ∷ ask (delete x) ∷ []

-- what a record asks
unfoldable pub call_in : List ℕ → Call ℕ ℕ
call_in s =
    record {
      asker = number_at 2 s 4;
      request = get_or (requests (get_or (fields_in s) 4 0) (get_or (fields_in s) 5 0)) (kind_in s) begin;
    }

-- "Number 12 is given for a slice under 8 bytes, a length unlike slice or kind, an unknown kind, nonzero filler, a transaction outside
-- 1..16, the end as key, lo or hi, or lo above hi."
abbrev pub short : List ℕ → Bool
short s = ltb (length s) request_head_size

abbrev pub unlike_slice : List ℕ → Bool
unlike_slice s = not (eqb (number_at 2 s 0) (length s))

abbrev pub unlike_kind : List ℕ → Bool
unlike_kind s = not (eqb (number_at 2 s 0) (width_of (form_of (kind_in s))))

abbrev pub unknown_kind : List ℕ → Bool
unknown_kind s = not (leb 1 (kind_in s) && leb (kind_in s) 6)

abbrev pub filled : List ℕ → Bool
filled s = not (eqb (get_or (fields_in s) 3 0) 0) || not (eqb (get_or (fields_in s) 6 0) 0)

abbrev pub illegal : List ℕ → Bool
illegal s = not (legal_call (document endless) (call_in s))

-- no record of a kind that there is, whatever its fields hold
abbrev pub misshapen : List ℕ → Bool
misshapen s = ((short s || unlike_slice s) || unlike_kind s) || unknown_kind s

-- one that is not misshapen: it has a head, its length is that of the slice and of its kind, and its kind is one of the six
pub record Shaped (s : List ℕ) : Type 0 where
  pub head : request_head_size ≤ length s
  pub slice : number_at 2 s 0 ≡ length s
  pub kind : number_at 2 s 0 ≡ width_of (form_of (kind_in s))
  pub known : (leb 1 (kind_in s) && leb (kind_in s) 6) ≡ true

unfoldable pub is_bad : List ℕ → Bool
is_bad s = (misshapen s || filled s) || illegal s

-- the call that a slice is, or none: number 12
unfoldable pub heard : List ℕ → Option (Call ℕ ℕ)
heard s = cond (is_bad s) none (some (call_in s))
