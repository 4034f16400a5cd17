-- What each way through the reading of a request comes to, in the very facts that the code has there.
-- A record that is not misshapen has the length of its kind; and where the kind is known, the form is, and its fields are computed.
use Prim.Native.Nat.{ℕ, zero, suc, ◌≤◌, ◌<◌}
use mathlib.Core.Path.{◌≡◌, refl, sym, ap, ◌∙◌}
use mathlib.Core.Bool.{Bool, true, false, cond, not, ◌&&◌, ◌||◌, or-true, or-false, false≢true}
use mathlib.Core.List.{List, [], ◌∷◌}
use mathlib.Core.Option.{none, some}
use native.Mathlib.Omega.{arith}
use lib.Dec.{eqb, leb}
use lib.ListN.{length, get_or, get_or-map}
use borrow.Author.Tests.{lt-ltb, le-ltb, ltb-false, eqb-true, leb-true, not-false}
use Rattle.limits.specs.Limits.{key_size, request_head_size, read_size, insert_size, delete_size}
use Rattle.lists.proofs.Tests.{and_right, neither}
use Rattle.numbers.specs.Numbers.{number_at, width_of, fields_at}
use Rattle.rules.specs.Kinds as K
use Rattle.rules.specs.Desk.{legal_call}
use Rattle.rules.specs.Document.{document, endless}
use Rattle.requests.specs.declared.Ask.{Ask}
use Rattle.requests.specs.declared.Request.{Request}
use Rattle.requests.specs.declared.Call.{Call}
use Rattle.requests.specs.RequestMeaning.{book_ask, book_request, book_call}
use Rattle.requests.specs.RequestRecord.{forms, form_of, kind_in, requests, call_in, short, unlike_slice, unlike_kind, unknown_kind, filled, misshapen, Shaped, is_bad, heard, first_place, second_place, filler_place}

-- ---- a misshapen record
by_kind : (k : ℕ) → get_or (0 ∷ request_head_size ∷ request_head_size ∷ request_head_size ∷ read_size ∷ insert_size ∷ delete_size ∷ []) k 0 ≡ width_of (form_of k)
unfolding forms width_of
by_kind k = get_or-map width_of forms k []

pub misshapen_short : (s : List ℕ) → length s < request_head_size → true ≡ misshapen s
misshapen_short s h = rw (lt-ltb (length s) request_head_size h)

pub misshapen_kind : (s : List ℕ) (k : ℕ) → k ≡ kind_in s → not (leb 1 k && leb k 6) ≡ true → true ≡ misshapen s
misshapen_kind s k e h =
    let u : unknown_kind s ≡ true = rw e at h in
    sym (ap (λ b. ((short s || unlike_slice s) || unlike_kind s) || b) u ∙ or-true ((short s || unlike_slice s) || unlike_kind s))

pub known_below : (k : ℕ) → not (leb 1 k && leb k 6) ≡ false → k < 7
known_below k h = omega (arith, leb-true k 6 (and_right (leb 1 k) (leb k 6) (not-false (leb 1 k && leb k 6) h)))

pub misshapen_length : (s : List ℕ) (k n : ℕ) → request_head_size ≤ length s → k ≡ kind_in s → not (leb 1 k && leb k 6) ≡ false → n ≡ number_at 2 s 0
    → (not (eqb n (length s)) || not (eqb n (get_or (0 ∷ request_head_size ∷ request_head_size ∷ request_head_size ∷ read_size ∷ insert_size ∷ delete_size ∷ []) k 0))) ≡ misshapen s
misshapen_length s k n l e h q =
    let u : unknown_kind s ≡ false = rw e at h in
    let p : short s ≡ false = le-ltb (length s) request_head_size l in
    rw (by_kind k, e, q, p, u) (sym (or-false (unlike_slice s || unlike_kind s)))

-- ---- a record of a kind that there is
pub shaped : (s : List ℕ) (b : Bool) → b ≡ misshapen s → b ≡ false → Shaped s
shaped s b e f =
    let all = neither ((short s || unlike_slice s) || unlike_kind s) (unknown_kind s) (sym e ∙ f) in
    let three = neither (short s || unlike_slice s) (unlike_kind s) all.0 in
    let two = neither (short s) (unlike_slice s) three.0 in
    record {
      head = ltb-false (length s) request_head_size two.0;
      slice = same (number_at 2 s 0) (length s) two.1;
      kind = same (number_at 2 s 0) (width_of (form_of (kind_in s))) three.1;
      known = not-false (leb 1 (kind_in s) && leb (kind_in s) 6) all.1;
    }
  where
    same : (m n : ℕ) → not (eqb m n) ≡ false → m ≡ n
    same m n h = eqb-true m n (not-false (eqb m n) h)

pub room : (n : ℕ) (s : List ℕ) (k : ℕ) → Shaped s → k ≡ kind_in s → k ≡ n → width_of (form_of n) ≤ length s
room n s k h e f =
    let q : width_of (form_of n) ≡ width_of (form_of (kind_in s)) = ap (λ x. width_of (form_of x)) (sym f ∙ e) in
    omega (arith, h.slice, h.kind)

-- what holds of each kind that there is holds of a shaped record's
pub each_kind : (P : ℕ → Type 0) → P 1 → P 2 → P 3 → P 4 → P 5 → P 6 → (k : ℕ) → (leb 1 k && leb k 6) ≡ true → P k
each_kind P p q r t u v zero h = absurd (false≢true h)
each_kind P p q r t u v (suc zero) h = p
each_kind P p q r t u v (suc (suc zero)) h = q
each_kind P p q r t u v (suc (suc (suc zero))) h = r
each_kind P p q r t u v (suc (suc (suc (suc zero)))) h = t
each_kind P p q r t u v (suc (suc (suc (suc (suc zero))))) h = u
each_kind P p q r t u v (suc (suc (suc (suc (suc (suc zero)))))) h = v
each_kind P p q r t u v (suc (suc (suc (suc (suc (suc (suc k))))))) h =
    let n = suc (suc (suc (suc (suc (suc (suc k)))))) in
    let never : ⊥ = omega (arith, leb-true n 6 (and_right (leb 1 n) (leb n 6) h)) in
    absurd never

-- ---- fillers
pub filled_insert : (s : List ℕ) (k x y : ℕ) → k ≡ kind_in s → k ≡ 5 → x ≡ number_at 2 s 6 → y ≡ number_at 4 s filler_place
    → (not (eqb x 0) || not (eqb y 0)) ≡ filled s
unfolding forms fields_at
filled_insert s k x y e f p q = rw (p, q, sym e ∙ f)

pub filled_other : (s : List ℕ) (k x : ℕ) → Shaped s → k ≡ kind_in s → (k ≡ 5 → ⊥) → x ≡ number_at 2 s 6 → not (eqb x 0) ≡ filled s
unfolding forms fields_at
filled_other s k x h e f p =
    rw p
    (each_kind (λ n. (n ≡ 5 → ⊥) → not (eqb (number_at 2 s 6) 0) ≡ (not (eqb (get_or (fields_at (form_of n) s 0) 3 0) 0) || not (eqb (get_or (fields_at (form_of n) s 0) 6 0) 0)))
    (λ g. sym (or-false b)) (λ g. sym (or-false b)) (λ g. sym (or-false b)) (λ g. sym (or-false b)) (λ g. absurd (g refl)) (λ g. sym (or-false b)) (kind_in s) h.known (λ g. f (e ∙ g)))
  where
    b : Bool
    b = not (eqb (number_at 2 s 6) 0)

-- ---- what is asked by a record of kind n
abbrev pub request_by : ℕ → List ℕ → K.Request ℕ ℕ
request_by n s = get_or (requests (get_or (fields_at (form_of n) s 0) 4 0) (get_or (fields_at (form_of n) s 0) 5 0)) n K.begin

pub asked : (n : ℕ) (s : List ℕ) (k : ℕ) → k ≡ kind_in s → k ≡ n → request_by n s ≡ (call_in s).request
unfolding call_in
asked n s k e f = rw (sym f ∙ e)

pub asked_read : (s : List ℕ) (k : ℕ) (a : Ask) → k ≡ kind_in s → k ≡ 4 → book_ask a ≡ K.read (number_at key_size s first_place) (number_at key_size s second_place)
    → K.ask (book_ask a) ≡ (call_in s).request
unfolding requests forms fields_at
asked_read s k a e f p = ap K.ask p ∙ asked 4 s k e f

pub asked_insert : (s : List ℕ) (k : ℕ) (a : Ask) → k ≡ kind_in s → k ≡ 5 → book_ask a ≡ K.insert (number_at key_size s first_place) (number_at 4 s second_place)
    → K.ask (book_ask a) ≡ (call_in s).request
unfolding requests forms fields_at
asked_insert s k a e f p = ap K.ask p ∙ asked 5 s k e f

last_kind : (s : List ℕ) (k : ℕ) → Shaped s → k ≡ kind_in s → (k ≡ 1 → ⊥) → (k ≡ 2 → ⊥) → (k ≡ 3 → ⊥) → (k ≡ 4 → ⊥) → (k ≡ 5 → ⊥) → k ≡ 6
last_kind s k h e f₁ f₂ f₃ f₄ f₅ =
    each_kind (λ n. k ≡ n → k ≡ 6) (λ q. absurd (f₁ q)) (λ q. absurd (f₂ q)) (λ q. absurd (f₃ q)) (λ q. absurd (f₄ q)) (λ q. absurd (f₅ q)) (λ q. q) (kind_in s) h.known e

pub room_delete : (s : List ℕ) (k : ℕ) → Shaped s → k ≡ kind_in s → (k ≡ 1 → ⊥) → (k ≡ 2 → ⊥) → (k ≡ 3 → ⊥) → (k ≡ 4 → ⊥) → (k ≡ 5 → ⊥) → delete_size ≤ length s
unfolding forms width_of
room_delete s k h e f₁ f₂ f₃ f₄ f₅ = room 6 s k h e (last_kind s k h e f₁ f₂ f₃ f₄ f₅)

pub asked_delete : (s : List ℕ) (k : ℕ) (a : Ask) → Shaped s → k ≡ kind_in s → (k ≡ 1 → ⊥) → (k ≡ 2 → ⊥) → (k ≡ 3 → ⊥) → (k ≡ 4 → ⊥) → (k ≡ 5 → ⊥)
    → book_ask a ≡ K.delete (number_at key_size s first_place) → K.ask (book_ask a) ≡ (call_in s).request
unfolding requests forms fields_at
asked_delete s k a h e f₁ f₂ f₃ f₄ f₅ p = ap K.ask p ∙ asked 6 s k e (last_kind s k h e f₁ f₂ f₃ f₄ f₅)

pub call_in_lem : (s : List ℕ) (t : ℕ) (r : Request) → t ≡ number_at 2 s 4 → book_request r ≡ (call_in s).request
    → ◌≡◌ {A = K.Call ℕ ℕ} (record { asker = t; request = book_request r }) (call_in s)
unfolding call_in
call_in_lem s t r e f = rw (e, f)

-- ---- what is heard
pub heard_misshapen : (s : List ℕ) (b : Bool) → b ≡ misshapen s → b ≡ true → none ≡ heard s
unfolding heard is_bad
heard_misshapen s b e f = let m : misshapen s ≡ true = sym e ∙ f in rw m

heard_if : (s : List ℕ) (m f l : Bool) (c : Call) → m ≡ misshapen s → m ≡ false → f ≡ filled s → book_call c ≡ call_in s
    → l ≡ legal_call (document endless) (book_call c) → cond (f || not l) none (some (book_call c)) ≡ heard s
unfolding heard is_bad
heard_if s m f l c o n p q r =
    let g : misshapen s ≡ false = sym o ∙ n in
    let e : l ≡ legal_call (document endless) (call_in s) = r ∙ ap (legal_call (document endless)) q in
    rw (p, q, e, g)

pub heard_bad : (s : List ℕ) (m f l : Bool) (c : Call) → m ≡ misshapen s → m ≡ false → f ≡ filled s → book_call c ≡ call_in s
    → l ≡ legal_call (document endless) (book_call c) → (f || not l) ≡ true → none ≡ heard s
heard_bad s m f l c o n p q r b = sym (ap (λ x. cond x none (some (book_call c))) b) ∙ heard_if s m f l c o n p q r

pub heard_good : (s : List ℕ) (m f l : Bool) (c : Call) → m ≡ misshapen s → m ≡ false → f ≡ filled s → book_call c ≡ call_in s
    → l ≡ legal_call (document endless) (book_call c) → (f || not l) ≡ false → some (book_call c) ≡ heard s
heard_good s m f l c o n p q r b = sym (ap (λ x. cond x none (some (book_call c))) b) ∙ heard_if s m f l c o n p q r
