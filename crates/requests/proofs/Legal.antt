-- A request is legal by the code's tests where it is by the rule book's, whatever the pages say.
-- Case by case: the tests are the same.
use Prim.Native.Nat.{ℕ}
use mathlib.Core.Path.{◌≡◌, refl, ap, ap₂}
use mathlib.Core.Bool.{Bool, ◌&&◌}
use lib.Dec.{leb, ltb}
use Rattle.rules.specs.Kinds as K
use Rattle.rules.specs.Desk.{is_transaction, legal_ask, legal_request, legal_call}
use Rattle.rules.specs.Document.{document, endless, end_mark}
use Rattle.keys.specs.declared.Key.{Key}
use Rattle.requests.specs.declared.Ask.{Ask}
use Rattle.requests.specs.declared.Ask.TheVariants.{Read, Insert, Delete}
use Rattle.requests.specs.declared.Request.{Request}
use Rattle.requests.specs.declared.Request.TheVariants.{Asks}
use Rattle.requests.specs.declared.Call.{Call}
use Rattle.requests.specs.RequestMeaning.{book_ask, book_request, book_call}

-- ---- as the code tests it
pub legal_read : (a : Ask) (lo hi : Key) (x y z : Bool) → a ≡ Read lo hi → x ≡ ltb lo.0 end_mark → y ≡ ltb hi.0 end_mark → z ≡ leb lo.0 hi.0
    → ((x && y) && z) ≡ legal_ask (document endless) (book_ask a)
unfolding legal_ask
legal_read a lo hi x y z e p q r = rw (e, p, q, r)

pub legal_insert : (a : Ask) (k : Key) (v : ℕ) (x : Bool) → a ≡ Insert k v → x ≡ ltb k.0 end_mark → x ≡ legal_ask (document endless) (book_ask a)
unfolding legal_ask
legal_insert a k v x e p = rw e p

pub legal_delete : (a : Ask) (k : Key) (x : Bool) → a ≡ Delete k → x ≡ ltb k.0 end_mark → x ≡ legal_ask (document endless) (book_ask a)
unfolding legal_ask
legal_delete a k x e p = rw e p

pub legal_ask_lem : (r : Request) (a : Ask) (x : Bool) → r ≡ Asks a → x ≡ legal_ask (document endless) (book_ask a) → x ≡ legal_request (document endless) (book_request r)
unfolding legal_request
legal_ask_lem r a x e p = rw e p

pub legal_call_lem : (c : Call) (x y : Bool) → x ≡ is_transaction (document endless) c.asker → y ≡ legal_request (document endless) (book_request c.request)
    → (x && y) ≡ legal_call (document endless) (book_call c)
legal_call_lem c x y p q = ap₂ (λ a b. a && b) p q

-- ---- the pages have no say
pub legal_ask_any : (P : K.Paging ℕ) (a : K.Ask ℕ ℕ) → legal_ask (document P) a ≡ legal_ask (document endless) a
unfolding legal_ask
legal_ask_any P (K.read lo hi) = refl
legal_ask_any P (K.insert k r) = refl
legal_ask_any P (K.delete k) = refl

pub legal_any : (P : K.Paging ℕ) (t : ℕ) (r : K.Request ℕ ℕ)
    → legal_call (document P) (record { asker = t; request = r }) ≡ legal_call (document endless) (record { asker = t; request = r })
unfolding legal_request
legal_any P t K.begin = refl
legal_any P t K.commit = refl
legal_any P t K.rollback = refl
legal_any P t (K.ask a) = ap (λ b. is_transaction (document endless) t && b) (legal_ask_any P a)
