-- Calls one after the other on a whole picture: what comes back is what the rule book says of what was sent, the picture stays whole and
-- says where the calls lead, and 11 never comes back. By the causes of one call, then by the run. Assumes nothing.
use Prim.Native.Nat.{ℕ, ◌*◌, ◌≤◌}
use mathlib.Core.Path.{◌≡◌, refl, sym, ap, ap₂, subst, ◌∙◌}
use mathlib.Core.Logic.{inl, inr}
use mathlib.Core.Bool.{Bool, true, false, cond}
use mathlib.Core.List.{List, ◌∷◌}
use mathlib.Core.Option.{Option, none, some, none-ne-some}
use native.Mathlib.Omega.{arith}
use lib.ListN.{length}
use Rattle.limits.specs.Limits.{transactions_most, answer_size, space_least}
use Rattle.lists.specs.Lists.{In}
use Rattle.lists.proofs.Tests.{and_left}
use Rattle.rules.specs.Kinds.{Call}
use Rattle.rules.specs.Queue.{St}
use Rattle.rules.specs.Good.{Good}
use Rattle.rules.specs.Desk.{step, fresh, call, state_after, after, legal_call}
use Rattle.rules.proofs.AnswersOnce.{few_answers}
use Rattle.requests.specs.RequestRecord.{heard}
use Rattle.requests.proofs.Number12.{heard_legal}
use Rattle.states.specs.States.{book, state_of}
use Rattle.states.specs.Whole.{Whole}
use Rattle.calls.specs.Promise.{Lent, lent, Served, Freshened, wrong_sizes, short_space, returned}
use Rattle.calls.specs.Calls.{Sent, Back, Runs, FromFresh, call_in, with, calls_in, refuses, back_if, back_of, onward, backs_from}
use Rattle.calls.proofs.Determined.{Refused, Granted, served_ten, served_twelve, served_good}

-- ---- one call
-- a whole picture has the right sizes
pub whole_sizes : (p d o : List ℕ) → Whole p d → wrong_sizes (lent p d o) ≡ short_space o
whole_sizes p d o w = rw (w.pages.size, w.size)

module _ (p d p' d' : List ℕ) (a : Sent) (b : Back) (w : Whole p d) where
  abbrev lent_then : Lent
  lent_then = lent p d a.space

  abbrev left_now : Lent
  left_now = lent p' d' b.space

  -- what it comes to, the space being short or not, and a call heard or none
  abbrev Came : Bool → Option (Call ℕ ℕ) → Type 0
  Came short o =
      (b ≡ cond short (refuses a.space 10) (back_if (state_of p d) a.space o))
      × Whole p' d'
      × (state_of p' d' ≡ onward (state_of p d) (cond short none o))

  refused_back : (number : ℕ) → Refused lent_then left_now number b.result
      → (b ≡ refuses a.space number) × Whole p' d' × (state_of p' d' ≡ state_of p d)
  refused_back number o = (
    ap₂ (λ r s. record { result = r; space = s }) o.result (ap (λ (x : Lent). x.answers) o.same),
    subst (λ (x : Lent). Whole x.pages x.desk) (sym o.same) w,
    ap (λ (x : Lent). state_of x.pages x.desk) o.same,
  )

  granted_back : (c : Call ℕ ℕ) → Granted c lent_then left_now b.result → Came false (some c)
  granted_back c o = (
    ap₂ (λ r s. record { result = r; space = s }) (o.result ∙ ap (returned 0) o.answered.bytes) o.answered.answers,
    o.answered.whole,
    o.answered.state,
  )

  pub serve_back : Served a.request lent_then left_now b.result
      → (b ≡ back_of (state_of p d) a) × Whole p' d' × (state_of p' d' ≡ onward (state_of p d) (call_in a))
  unfolding back_of call_in
  serve_back h = go (short_space a.space) (heard a.request) refl refl
    where
      sizes : wrong_sizes lent_then ≡ short_space a.space
      sizes = whole_sizes p d a.space w

      go : (short : Bool) (o : Option (Call ℕ ℕ)) → short_space a.space ≡ short → heard a.request ≡ o → Came short o
      go true o e k = refused_back 10 (served_ten a.request lent_then left_now b.result (sizes ∙ e) h)
      go false none e k = refused_back 12 (served_twelve a.request lent_then left_now b.result (sizes ∙ e) w k h)
      go false (some c) e k = granted_back c (served_good a.request lent_then left_now b.result c (sizes ∙ e) w k h)

-- ---- a run of calls
pub call_legal : (a : Sent) (c : Call ℕ ℕ) → call_in a ≡ some c → legal_call book c ≡ true
unfolding call_in
call_legal a c = go (short_space a.space)
  where
    go : (short : Bool) → cond short none (heard a.request) ≡ some c → legal_call book c ≡ true
    go true e = absurd (none-ne-some c e)
    go false e = heard_legal book.paging a.request c e

-- what is heard is a call of the rule book, and what is not, none
pub legal_called : (s : St book) (c : Call ℕ ℕ) → legal_call book c ≡ true → call book s c ≡ some (step book s c.asker c.request)
unfolding call
legal_called s c l = rw l

pub after_with : (s : St book) (o : Option (Call ℕ ℕ)) (cs : List (Call ℕ ℕ)) → ((c : Call ℕ ℕ) → o ≡ some c → legal_call book c ≡ true)
    → after book s (with o cs) ≡ after book (onward s o) cs
unfolding after
after_with s none cs l = refl
after_with s (some c) cs l = ap (λ w. after book (state_after book s w) cs) (legal_called s c (l c refl))

pub run_back : {p d p' d' : List ℕ} {as' : List Sent} {bs : List Back} → Whole p d → Runs p d as' bs p' d'
    → (bs ≡ backs_from (state_of p d) as') × Whole p' d' × (state_of p' d' ≡ after book (state_of p d) (calls_in as'))
unfolding backs_from calls_in after
run_back w Runs.rest = (refl, w, refl)
run_back {p} {d} w (Runs.next {p₁ = p₁} {d₁ = d₁} {a = a} {b = b} {as' = as'} h r) =
    let one = serve_back p d p₁ d₁ a b w h in
    let more = run_back one.1 r in (
      ap₂ (λ x xs. x ∷ xs) one.0 (more.0 ∙ ap (λ s. backs_from s as') one.2),
      more.1,
      more.2 ∙ ap (λ s. after book s (calls_in as')) one.2 ∙ sym (after_with (state_of p d) (call_in a) (calls_in as') (call_legal a)),
    )

-- a picture that the other call has made is where a run from fresh begins
pub made_fresh : {p d p₁ d₁ p' d' : List ℕ} {as' : List Sent} {bs : List Back} → Freshened p d p₁ d₁ 0 → Runs p₁ d₁ as' bs p' d' → FromFresh as' bs p' d'
made_fresh (Freshened.sizes v a b n) r = absurd (omega arith)
made_fresh {p₁ = p₁} {d₁ = d₁} (Freshened.made v w s n) r = record { pages = p₁; desk = d₁; whole = w; state = s; runs = r }

pub run_from_fresh : {p d : List ℕ} {as' : List Sent} {bs : List Back} → FromFresh as' bs p d
    → (bs ≡ backs_from (fresh book) as') × Whole p d × (state_of p d ≡ after book (fresh book) (calls_in as'))
run_from_fresh {as' = as'} f =
    let o = run_back f.whole f.runs in
    (o.0 ∙ ap (λ s. backs_from s as') f.state, o.1, o.2 ∙ ap (λ s. after book s (calls_in as')) f.state)

-- ---- what comes back is never 11
-- "A call writes at most 16 answers": so the number of their bytes is never taken for another number
pub few_bytes : (s : St book) → Good book s → (q : List ℕ) (c : Call ℕ ℕ) → heard q ≡ some c → answer_size * length (step book s c.asker c.request).answers ≤ space_least
few_bytes s g q c h =
    let n : length (step book s c.asker c.request).answers ≤ transactions_most =
    few_answers book s g c.asker (and_left _ _ (heard_legal book.paging q c h)) c.request in omega arith

back_eleven : (s : St book) → Good book s → (a : Sent) → (back_of s a).result ≡ returned 11 0 → ⊥
unfolding back_of
back_eleven s g a = go (short_space a.space) (heard a.request) refl
  where
    go : (short : Bool) (o : Option (Call ℕ ℕ)) → heard a.request ≡ o
        → (cond short (refuses a.space 10) (back_if s a.space o)).result ≡ returned 11 0 → ⊥
    go true o h e = omega arith
    go false none h e = omega arith
    go false (some c) h e = omega (arith, few_bytes s g a.request c h)

run_eleven : {p d p' d' : List ℕ} {as' : List Sent} {bs : List Back} → Whole p d → Runs p d as' bs p' d'
    → (b : Back) → In b bs → b.result ≡ returned 11 0 → ⊥
run_eleven w Runs.rest b i e = i
run_eleven {p} {d} w (Runs.next {p₁ = p₁} {d₁ = d₁} {a = a} {b = b} h r) c (inl z) e =
    back_eleven (state_of p d) w.values a (ap (λ (x : Back). x.result) (sym (serve_back p d p₁ d₁ a b w h).0 ∙ z) ∙ e)
run_eleven {p} {d} w (Runs.next {p₁ = p₁} {d₁ = d₁} {a = a} {b = b} h r) c (inr i) e =
    run_eleven (serve_back p d p₁ d₁ a b w h).1 r c i e

pub never_eleven : {p d : List ℕ} {as' : List Sent} {bs : List Back} → FromFresh as' bs p d → (b : Back) → In b bs → b.result ≡ returned 11 0 → ⊥
never_eleven f = run_eleven f.whole f.runs
