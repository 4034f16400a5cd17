-- The idle desks are shut out: each breaks the promise at some call on a picture that was fresh; and a desk that can judge any bytes keeps it
-- (crate `outcomes` has such a judge). What one that keeps it gives back there is the rule book's, by the laws of runs, and that is computed.
-- Assumes nothing.
use Prim.Native.Nat.{ℕ, zero, suc, ◌<◌}
use mathlib.Core.Path.{◌≡◌, refl, sym, ap, subst, ◌∙◌}
use mathlib.Core.Logic.{◌⊎◌, inl, inr}
use mathlib.Core.Bool.{Bool, true, false, true≢false}
use mathlib.Core.List.{List, [], ◌∷◌, map}
use mathlib.Core.Option.{some}
use native.Mathlib.Decide.{dec_lt}
use native.Mathlib.Omega.{arith}
use borrow.Author.Tests.{ltb-true, lt-ltb}
use lib.Dec.{ltb}
use lib.ListN.{length, get_or, get_or-eq_default}
use Rattle.limits.specs.Limits.{answer_size, space_least}
use Rattle.lists.specs.Lists as L
use Rattle.lists.proofs.Tests.{all_at, all_each}
use Rattle.numbers.specs.Numbers.{Bytes, number_at}
use Rattle.numbers.proofs.BytesKept.{bytes_zeros}
use Rattle.rules.specs.Kinds.{read, insert, Request, begin, commit, rollback, ask, Call}
use Rattle.rules.specs.Locks as K
use Rattle.rules.specs.Queue as Q
use Rattle.rules.specs.Desk as D
use Rattle.requests.specs.RequestRecord as W
use Rattle.answers.specs.AnswerRecord as An
use Rattle.states.specs.States.{book, state_of}
use Rattle.states.specs.Whole.{Whole}
use Rattle.states.specs.Fresh.{fresh_pages, fresh_desk}
use Rattle.states.proofs.FreshPicture.{fresh_picture}
use Rattle.calls.specs.Promise.{Lent, BytesIn, Served, lent, returned, short_space}
use Rattle.calls.specs.Calls as C
use Rattle.cases.specs.Overs as O
use Rattle.cases.specs.Idle as I
use Rattle.cases.proofs.CaseComputing.{the_book, the_pages, the_records}
use Rattle.cases.proofs.Sending.{space, sent, sent_bytes}
use Rattle.calls.proofs.Determined.{served_good}
use Rattle.calls.proofs.SomeOutcome.{whole_bytes, Judgement, judged_outcome}
use Rattle.calls.proofs.CallRuns.{whole_sizes, serve_back, call_legal, after_with}

-- ---- calls to send
abbrev asks : ℕ → Request ℕ ℕ → Call ℕ ℕ
asks t r = record { asker = t; request = r }

-- 1 begins; then it reads what nobody has inserted, or inserts
abbrev opening : List (Call ℕ ℕ)
opening = asks 1 begin ∷ []

abbrev reads : Call ℕ ℕ
reads = asks 1 (ask (read 5 9))

abbrev inserts : Call ℕ ℕ
inserts = asks 1 (ask (insert 7 7))

-- 1 inserts 100, and 2 and 3 would read 50..150 and wait; then 1 ends
abbrev crowd : List (Call ℕ ℕ)
crowd =
    asks 1 begin
    ∷ asks 1 (ask (insert 100 7))
    ∷ asks 2 begin
    ∷ asks 3 begin
    ∷ asks 2 (ask (read 50 150))
    ∷ asks 3 (ask (read 50 150))
    ∷ []

-- ---- what the rule book gives back there
abbrev led : List (Call ℕ ℕ) → Q.St book
led cs = D.after book (D.fresh book) (C.calls_in (map sent cs))

abbrev unlocked : K.Slots book → Bool
unlocked ls = L.is_nil (K.in_use ls)

-- the number in the first answer
abbrev number_in : C.Back → ℕ
number_in b = number_at 2 b.space 6

-- by computation
record Known : Type 0 where
  read_one : (C.back_of (led opening) (sent reads)).result ≡ returned 0 answer_size
  read_number : number_in (C.back_of (led opening) (sent reads)) ≡ 2
  insert_one : (C.back_of (led opening) (sent inserts)).result ≡ returned 0 answer_size
  insert_number : number_in (C.back_of (led opening) (sent inserts)) ≡ 0
  unlocked_before : unlocked (led opening).slots ≡ true
  locked_then : unlocked (C.onward (led opening) (C.call_in (sent reads))).slots ≡ false
  commit_three : (C.back_of (led crowd) (sent (asks 1 commit))).result ≡ returned 0 60
  rollback_three : (C.back_of (led crowd) (sent (asks 1 rollback))).result ≡ returned 0 60
  heard_read : W.heard (O.request_record reads) ≡ some reads
  heard_insert : W.heard (O.request_record inserts) ≡ some inserts
  heard_commit : W.heard (O.request_record (asks 1 commit)) ≡ some (asks 1 commit)
  heard_rollback : W.heard (O.request_record (asks 1 rollback)) ≡ some (asks 1 rollback)
  roomy : short_space space ≡ false

known : Known
unfolding the_book the_pages the_records An.answer_fields An.put_answer An.written C.call_in C.calls_in C.back_of
known =
    record {
      read_one = refl;
      read_number = refl;
      insert_one = refl;
      insert_number = refl;
      unlocked_before = refl;
      locked_then = refl;
      commit_three = refl;
      rollback_three = refl;
      heard_read = refl;
      heard_insert = refl;
      heard_commit = refl;
      heard_rollback = refl;
      roomy = refl;
    }

-- where there is one answer, its number is the only one told
tells_one : (y : I.Left) (t n : ℕ) → y.result ≡ returned 0 answer_size → I.Tells y t n → n ≡ number_at 2 y.lent.answers 6
tells_one y t n e (I.Tells.returns m r) = absurd (omega arith)
tells_one y t n e (I.Tells.answers zero l s a b) = sym b
tells_one y t n e (I.Tells.answers (suc i) l s a b) = absurd (omega arith)

-- ---- a desk that keeps the promise, sent calls from any whole picture
module _ (f : I.Way) (k : I.Keeps f) where
  abbrev after : List ℕ → List ℕ → Call ℕ ℕ → I.Left
  after p d c = f (O.request_record c) (lent p d space)

  abbrev back : I.Left → C.Back
  back l = record { result = l.result; space = l.lent.answers }

  lent_bytes : (p d : List ℕ) → Whole p d → BytesIn (lent p d space)
  lent_bytes p d w = record { pages = (whole_bytes p d w).0; desk = (whole_bytes p d w).1; answers = bytes_zeros space_least }

  -- on bytes a call is served
  kept : (q : List ℕ) (x : Lent) → Bytes q → BytesIn x → Served q x (f q x).lent (f q x).result
  kept q x h b = search k.each

  one : (p d : List ℕ) (c : Call ℕ ℕ) → Whole p d → (back (after p d c) ≡ C.back_of (state_of p d) (sent c))
      × Whole (after p d c).lent.pages (after p d c).lent.desk
      × (state_of (after p d c).lent.pages (after p d c).lent.desk ≡ C.onward (state_of p d) (C.call_in (sent c)))
  one p d c w =
      let h = kept (O.request_record c) (lent p d space) (sent_bytes c) (lent_bytes p d w) in
      serve_back p d (after p d c).lent.pages (after p d c).lent.desk (sent c) (back (after p d c)) w h

  -- where calls lead
  record Led (cs : List (Call ℕ ℕ)) (s : Q.St book) : Type 0 where
    pages : List ℕ
    desk : List ℕ
    whole : Whole pages desk
    state : state_of pages desk ≡ D.after book s (C.calls_in (map sent cs))

  leads : (cs : List (Call ℕ ℕ)) (p d : List ℕ) → Whole p d → Led cs (state_of p d)
  unfolding C.calls_in D.after
  leads [] p d w = record { pages = p; desk = d; whole = w; state = refl }
  leads (c ∷ cs) p d w =
      let l = after p d c in
      let o = one p d c w in
      let m = leads cs l.lent.pages l.lent.desk o.1 in
      let rest = C.calls_in (map sent cs) in
      record {
        pages = m.pages;
        desk = m.desk;
        whole = m.whole;
        state =
            m.state
            ∙ ap (λ s. D.after book s rest) o.2
            ∙ sym (after_with (state_of p d) (C.call_in (sent c)) rest (call_legal (sent c)));
      }

  fresh_leads : (cs : List (Call ℕ ℕ)) → Led cs (D.fresh book)
  fresh_leads cs = subst (Led cs) fresh_picture.1 (leads cs fresh_pages fresh_desk fresh_picture.0)

  -- one call more
  abbrev before : List (Call ℕ ℕ) → Lent
  before cs = lent (fresh_leads cs).pages (fresh_leads cs).desk space

  abbrev last : List (Call ℕ ℕ) → Call ℕ ℕ → I.Left
  last cs c = f (O.request_record c) (before cs)

  last_back : (cs : List (Call ℕ ℕ)) (c : Call ℕ ℕ) → back (last cs c) ≡ C.back_of (led cs) (sent c)
  last_back cs c =
      let l = fresh_leads cs in (one l.pages l.desk c l.whole).0 ∙ ap (λ s. C.back_of s (sent c)) l.state

  last_state : (cs : List (Call ℕ ℕ)) (c : Call ℕ ℕ)
      → state_of (last cs c).lent.pages (last cs c).lent.desk ≡ C.onward (led cs) (C.call_in (sent c))
  last_state cs c =
      let l = fresh_leads cs in (one l.pages l.desk c l.whole).2 ∙ ap (λ s. C.onward s (C.call_in (sent c))) l.state

  -- it has no cause for 10, 11 or 12
  sound : (cs : List (Call ℕ ℕ)) (c : Call ℕ ℕ) → W.heard (O.request_record c) ≡ some c → I.Sound (O.request_record c) (before cs) c
  sound cs c h =
      let l = fresh_leads cs in
      record {
        request = sent_bytes c;
        lent = lent_bytes l.pages l.desk l.whole;
        sizes = whole_sizes l.pages l.desk space l.whole ∙ known.roomy;
        whole = l.whole;
        heard = h;
      }

  -- the one number that is told where 1 has begun: 2 where it reads, 0 where it inserts
  one_told : (c : Call ℕ ℕ) → (C.back_of (led opening) (sent c)).result ≡ returned 0 answer_size
      → (t n : ℕ) → I.Tells (last opening c) t n → n ≡ number_in (C.back_of (led opening) (sent c))
  one_told c h t n i =
      let e = last_back opening c in tells_one (last opening c) t n (ap (λ (b : C.Back). b.result) e ∙ h) i ∙ ap number_in e

  read_tells : (t n : ℕ) → I.Tells (last opening reads) t n → n ≡ 2
  read_tells t n i = one_told reads known.read_one t n i ∙ known.read_number

  insert_tells : (t n : ℕ) → I.Tells (last opening inserts) t n → n ≡ 0
  insert_tells t n i = one_told inserts known.insert_one t n i ∙ known.insert_number

  pub refuses_all : I.RefusesAll f → ⊥
  refuses_all i =
      let r = i.refuses _ (before opening) reads (read 5 9) (sound opening reads known.heard_read) refl in
      omega (arith, r.1, read_tells 1 r.0 r.3)

  pub always_says : (n : ℕ) → I.AlwaysSays n f → ⊥
  always_says n i =
      let a : n ≡ 2 = read_tells 1 n (i.always _ (before opening) reads (read 5 9) (sound opening reads known.heard_read) refl) in
      let b : n ≡ 0 = insert_tells 1 n (i.always _ (before opening) inserts (insert 7 7) (sound opening inserts known.heard_insert) refl) in
      omega arith

  pub alters_nothing : I.AltersNothing f → ⊥
  unfolding state_of
  alters_nothing i =
      let same = i.slots _ (before opening) reads (read 5 9) (sound opening reads known.heard_read) refl in
      let from = ap (λ (s : Q.St book). unlocked s.slots) (fresh_leads opening).state in
      let to = ap (λ (s : Q.St book). unlocked s.slots) (last_state opening reads) in
      absurd (true≢false (sym known.unlocked_before ∙ sym from ∙ ap unlocked (sym same) ∙ to ∙ known.locked_then))

  -- both who wait are answered at once
  ends_first : (r : Request ℕ ℕ) → W.heard (O.request_record (asks 1 r)) ≡ some (asks 1 r)
      → (C.back_of (led crowd) (sent (asks 1 r))).result ≡ returned 0 60 → I.AnswersFirst r f → ⊥
  ends_first r h three i =
      let n = ap (λ (b : C.Back). b.result) (last_back crowd (asks 1 r)) ∙ three in
      let m = i.first _ (before crowd) (asks 1 r) (sound crowd (asks 1 r) h) refl in omega arith

  pub answers_first : (r : Request ℕ ℕ) → (r ≡ commit) ⊎ (r ≡ rollback) → I.AnswersFirst r f → ⊥
  answers_first r (inl e) i = ends_first commit known.heard_commit known.commit_three (subst (λ s. I.AnswersFirst s f) e i)
  answers_first r (inr e) i = ends_first rollback known.heard_rollback known.rollback_three (subst (λ s. I.AnswersFirst s f) e i)

  pub makes_up : I.MakesUp f → ⊥
  makes_up i =
      let q = i.request in
      let x = i.lent in
      let s = i.sound in
      let h = kept q x s.request s.lent in
      let g = served_good q x (f q x).lent (f q x).result i.call s.sizes s.whole s.heard h in
      i.made_up (g.result ∙ ap (returned 0) g.answered.bytes)

-- ---- a desk that keeps the promise: on bytes an outcome that keeps it, and anything elsewhere
abbrev is_bytes : List ℕ → Bool
is_bytes s = L.all (λ b. ltb b 256) s

pass_bytes : (s : List ℕ) → is_bytes s ≡ true → Bytes s
pass_bytes s e = record { below = λ i. at i (dec_lt i (length s)) }
  where
    at : (i : ℕ) → Dec (i < length s) → get_or s i 0 < 256
    at i (yes l) = ltb-true (get_or s i 0) 256 (all_at (λ b. ltb b 256) s i 0 e l)
    at i (no l) = omega (arith, get_or-eq_default s 0 {n = i} (omega arith))

bytes_pass : (s : List ℕ) → Bytes s → is_bytes s ≡ true
bytes_pass s h = all_each (λ b. ltb b 256) s 0 (λ i l. lt-ltb (get_or s i 0) 256 (h.below i))

dec_bytes : (s : List ℕ) → Dec (Bytes s)
dec_bytes s = go (is_bytes s) refl
  where
    go : (b : Bool) → is_bytes s ≡ b → Dec (Bytes s)
    go true e = yes (pass_bytes s e)
    go false e = no (λ h. absurd (true≢false (sym (bytes_pass s h) ∙ e)))

dec_lent : (x : Lent) → Dec (BytesIn x)
dec_lent x = go (dec_bytes x.pages) (dec_bytes x.desk) (dec_bytes x.answers)
  where
    go : Dec (Bytes x.pages) → Dec (Bytes x.desk) → Dec (Bytes x.answers) → Dec (BytesIn x)
    go (yes p) (yes d) (yes o) = yes (record { pages = p; desk = d; answers = o })
    go (yes p) (yes d) (no h) = no (λ b. h b.answers)
    go (yes p) (no h) o = no (λ b. h b.desk)
    go (no h) d o = no (λ b. h b.pages)

-- a desk that can judge any bytes lent keeps the promise in some way
module _ (judge : (x : Lent) → BytesIn x → Judgement x) where
  abbrev outcome : (q : List ℕ) (x : Lent) → Dec (Bytes q) → Dec (BytesIn x) → I.Left
  outcome q x (yes h) (yes b) = let o = judged_outcome q x h b (judge x b) in record { lent = o.lent; result = o.result }
  outcome q x (yes h) (no b) = record { lent = x; result = 0 }
  outcome q x (no h) b = record { lent = x; result = 0 }

  outcome_served : (q : List ℕ) (x : Lent) → Bytes q → BytesIn x → (h : Dec (Bytes q)) (b : Dec (BytesIn x))
      → Served q x (outcome q x h b).lent (outcome q x h b).result
  outcome_served q x g c (yes h) (yes b) = (judged_outcome q x h b (judge x b)).served
  outcome_served q x g c (yes h) (no b) = absurd (b c)
  outcome_served q x g c (no h) b = absurd (h g)

  pub judge_keeps : (f : I.Way) × I.Keeps f
  judge_keeps = (
    λ q x. outcome q x (dec_bytes q) (dec_lent x),
    record { each = λ q x. search (outcome_served q x) },
  )
