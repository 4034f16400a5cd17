-- Number 12: it is given where a record is bad and at no other time, each cause gives it, and what is heard is legal and fits its fields.
-- `heard` goes by `is_bad`, and that is the disjunction of the causes.
use Prim.Native.Nat.{ℕ, ◌≤◌, ◌<◌}
use mathlib.Core.Path.{◌≡◌, refl, sym, ap, subst, ◌∙◌}
use mathlib.Core.Logic.{◌⊎◌, inl, inr, ⊎_elim}
use mathlib.Core.Bool.{Bool, true, false, not, ◌&&◌, ◌||◌, and-false}
use mathlib.Core.List.{List}
use mathlib.Core.Option.{none, some, none-ne-some, some-injective}
use lib.Dec.{leb, ltb}
use borrow.Author.Tests.{ltb-true, leb-true, lt-leb, not-false}
use Rattle.limits.specs.Limits.{transactions_most, key_size}
use Rattle.lists.proofs.Tests.{and_left, and_right, either, or_left, or_right, neither}
use Rattle.numbers.specs.Numbers.{number_at, fields_at, Bytes}
use Rattle.numbers.proofs.Numbers.{number_below}
use Rattle.rules.specs.Kinds.{Paging, Ask, read, insert, delete, Request, begin, commit, rollback, ask, Call}
use Rattle.rules.specs.Desk.{is_transaction, legal_ask, legal_request, legal_call}
use Rattle.rules.specs.Document.{document, endless, end_mark}
use Rattle.rules.proofs.Waits.{transaction_low, transaction_high}
use Rattle.requests.specs.RequestRecord.{forms, requests, kind_in, call_in, short, unlike_slice, unlike_kind, unknown_kind, misshapen, filled, illegal, is_bad, heard, first_place, second_place}
use Rattle.requests.proofs.Legal.{legal_any}
use Rattle.requests.proofs.RequestRead.{shaped, each_kind, request_by, asked}

module _ (s : List ℕ) where
  -- ---- 12 where the record is bad, and at no other time
  pub bad_unheard : is_bad s ≡ true → heard s ≡ none
  unfolding heard
  bad_unheard e = rw e

  pub good_heard : is_bad s ≡ false → heard s ≡ some (call_in s)
  unfolding heard
  good_heard e = rw e

  pub unheard_bad : heard s ≡ none → is_bad s ≡ true
  unheard_bad e = go (is_bad s) refl
    where
      go : (b : Bool) → is_bad s ≡ b → is_bad s ≡ true
      go true p = p
      go false p = absurd (none-ne-some (call_in s) (sym e ∙ good_heard p))

  pub heard_is : (c : Call ℕ ℕ) → heard s ≡ some c → (is_bad s ≡ false) × (call_in s ≡ c)
  heard_is c e = go (is_bad s) refl
    where
      go : (b : Bool) → is_bad s ≡ b → (is_bad s ≡ false) × (call_in s ≡ c)
      go true p = absurd (none-ne-some c (sym (bad_unheard p) ∙ e))
      go false p = (p, some-injective (call_in s) c (sym (good_heard p) ∙ e))

  -- ---- each cause gives 12, and 12 has one of them
  misshapen_bad : misshapen s ≡ true → is_bad s ≡ true
  unfolding is_bad
  misshapen_bad e = or_left (misshapen s || filled s) (illegal s) (or_left (misshapen s) (filled s) e)

  pub short_bad : short s ≡ true → is_bad s ≡ true
  short_bad e =
      misshapen_bad (or_left ((short s || unlike_slice s) || unlike_kind s) (unknown_kind s)
      (or_left (short s || unlike_slice s) (unlike_kind s) (or_left (short s) (unlike_slice s) e)))

  pub unlike_slice_bad : unlike_slice s ≡ true → is_bad s ≡ true
  unlike_slice_bad e =
      misshapen_bad (or_left ((short s || unlike_slice s) || unlike_kind s) (unknown_kind s)
      (or_left (short s || unlike_slice s) (unlike_kind s) (or_right (short s) (unlike_slice s) e)))

  pub unlike_kind_bad : unlike_kind s ≡ true → is_bad s ≡ true
  unlike_kind_bad e =
      misshapen_bad (or_left ((short s || unlike_slice s) || unlike_kind s) (unknown_kind s) (or_right (short s || unlike_slice s) (unlike_kind s) e))

  pub unknown_kind_bad : unknown_kind s ≡ true → is_bad s ≡ true
  unknown_kind_bad e = misshapen_bad (or_right ((short s || unlike_slice s) || unlike_kind s) (unknown_kind s) e)

  pub filled_bad : filled s ≡ true → is_bad s ≡ true
  unfolding is_bad
  filled_bad e = or_left (misshapen s || filled s) (illegal s) (or_right (misshapen s) (filled s) e)

  pub illegal_bad : illegal s ≡ true → is_bad s ≡ true
  unfolding is_bad
  illegal_bad e = or_right (misshapen s || filled s) (illegal s) e

  -- what makes a request illegal: "a transaction outside 1..16, the end as key, lo or hi, or lo above hi"
  pub outside_illegal : is_transaction (document endless) (number_at 2 s 4) ≡ false → illegal s ≡ true
  unfolding call_in
  outside_illegal e = rw e

  by_kind : (n : ℕ) → kind_in s ≡ n → legal_request (document endless) (request_by n s) ≡ false → illegal s ≡ true
  by_kind n k e =
      let t = is_transaction (document endless) (call_in s).asker in
      ap (λ b. not (t && b)) (ap (legal_request (document endless)) (sym (asked n s (kind_in s) refl k)) ∙ e) ∙ ap not (and-false t)

  pub end_lo_illegal : kind_in s ≡ 4 → number_at key_size s first_place ≡ end_mark → illegal s ≡ true
  unfolding legal_request legal_ask requests forms fields_at
  end_lo_illegal k e = by_kind 4 k (rw e)

  pub end_hi_illegal : kind_in s ≡ 4 → number_at key_size s second_place ≡ end_mark → illegal s ≡ true
  unfolding legal_request legal_ask requests forms fields_at
  end_hi_illegal k e = by_kind 4 k (rw (e, and-false))

  pub lo_above_hi_illegal : kind_in s ≡ 4 → number_at key_size s second_place < number_at key_size s first_place → illegal s ≡ true
  unfolding legal_request legal_ask requests forms fields_at
  lo_above_hi_illegal k h = by_kind 4 k (rw (lt-leb (number_at key_size s first_place) (number_at key_size s second_place) h, and-false))

  pub end_insert_illegal : kind_in s ≡ 5 → number_at key_size s first_place ≡ end_mark → illegal s ≡ true
  unfolding legal_request legal_ask requests forms fields_at
  end_insert_illegal k e = by_kind 5 k (rw e)

  pub end_delete_illegal : kind_in s ≡ 6 → number_at key_size s first_place ≡ end_mark → illegal s ≡ true
  unfolding legal_request legal_ask requests forms fields_at
  end_delete_illegal k e = by_kind 6 k (rw e)

  pub bad_cause : is_bad s ≡ true
      → (((((short s ≡ true) ⊎ (unlike_slice s ≡ true)) ⊎ (unlike_kind s ≡ true)) ⊎ (unknown_kind s ≡ true)) ⊎ (filled s ≡ true)) ⊎ (illegal s ≡ true)
  unfolding is_bad
  bad_cause e =
      first (misshapen s || filled s) (illegal s)
      (first (misshapen s) (filled s)
      (first ((short s || unlike_slice s) || unlike_kind s) (unknown_kind s) (first (short s || unlike_slice s) (unlike_kind s) (either (short s) (unlike_slice s))))) e
    where
      first : {A : Type 0} (a b : Bool) → (a ≡ true → A) → (a || b) ≡ true → A ⊎ (b ≡ true)
      first a b f h = ⊎_elim (λ p. inl (f p)) (λ p. inr p) (either a b h)

-- ---- what is heard is legal, whatever the pages say
good_legal : (s : List ℕ) → is_bad s ≡ false → legal_call (document endless) (call_in s) ≡ true
unfolding is_bad
good_legal s e = not-false (legal_call (document endless) (call_in s)) (neither (misshapen s || filled s) (illegal s) e).1

pub heard_legal : (P : Paging ℕ) (s : List ℕ) (c : Call ℕ ℕ) → heard s ≡ some c → legal_call (document P) c ≡ true
heard_legal P s c e =
    let h = heard_is s c e in
    legal_any P c.asker c.request ∙ subst (λ x. legal_call (document endless) x ≡ true) h.1 (good_legal s h.0)

-- ---- what is heard of bytes fits the fields that will hold it
abbrev pub AskFits : Ask ℕ ℕ → Type 0
AskFits (read lo hi) = (lo < end_mark) × ((hi < end_mark) × (lo ≤ hi))
AskFits (insert k r) = (k < end_mark) × (r < 4294967296)
AskFits (delete k) = k < end_mark

abbrev pub RequestFits : Request ℕ ℕ → Type 0
RequestFits begin = Unit {0}
RequestFits commit = Unit {0}
RequestFits rollback = Unit {0}
RequestFits (ask a) = AskFits a

pub record CallFits (c : Call ℕ ℕ) : Type 0 where
  pub low : 1 ≤ c.asker
  pub high : c.asker ≤ transactions_most
  pub request : RequestFits c.request

request_fits : (s : List ℕ) → Bytes s → (k : ℕ) → (leb 1 k && leb k 6) ≡ true → legal_request (document endless) (request_by k s) ≡ true → RequestFits (request_by k s)
unfolding legal_request legal_ask requests forms fields_at
request_fits s f =
    each_kind (λ k. legal_request (document endless) (request_by k s) ≡ true → RequestFits (request_by k s)) (λ h. tt) (λ h. tt) (λ h. tt)
    (λ h. let keys = and_left (ltb lo end_mark && ltb hi end_mark) (leb lo hi) h in
    let order = and_right (ltb lo end_mark && ltb hi end_mark) (leb lo hi) h in
    (ltb-true lo end_mark (and_left (ltb lo end_mark) (ltb hi end_mark) keys), (ltb-true hi end_mark (and_right (ltb lo end_mark) (ltb hi end_mark) keys), leb-true lo hi order)))
    (λ h. (ltb-true lo end_mark h, number_below 4 s second_place f)) (λ h. ltb-true lo end_mark h)
  where
    lo : ℕ
    lo = number_at key_size s first_place

    hi : ℕ
    hi = number_at key_size s second_place

good_fits : (s : List ℕ) → Bytes s → is_bad s ≡ false → CallFits (call_in s)
unfolding is_bad
good_fits s f e =
    let t = (call_in s).asker in
    let r = (call_in s).request in
    let known = and_left (is_transaction (document endless) t) (legal_request (document endless) r) (good_legal s e) in
    let legal = and_right (is_transaction (document endless) t) (legal_request (document endless) r) (good_legal s e) in
    let h = shaped s (misshapen s) refl (neither (misshapen s) (filled s) (neither (misshapen s || filled s) (illegal s) e).0).0 in
    let q = asked (kind_in s) s (kind_in s) refl refl in
    record {
      low = transaction_low (document endless) t known;
      high = transaction_high (document endless) t known;
      request = subst RequestFits q (request_fits s f (kind_in s) h.known (ap (legal_request (document endless)) q ∙ legal));
    }

pub heard_fits : (s : List ℕ) (c : Call ℕ ℕ) → Bytes s → heard s ≡ some c → CallFits c
heard_fits s c f e = let h = heard_is s c e in subst CallFits h.1 (good_fits s f h.0)
