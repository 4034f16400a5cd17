-- The two calls: sizes, the picture, the record, in this order, and then the request answered. One law for each way out. Assumes nothing.
use Prim.Native.Nat.{ℕ, ◌≤◌}
use Rattle.std.specs.Prelude as Code
use denote.MutBor.{MutBor}
use mathlib.Core.Path.{◌≡◌, refl, sym, ap, ap₂, subst, ◌∙◌}
use mathlib.Core.Bool.{Bool, true, false, not, true≢false}
use mathlib.Core.Logic.{◌≢◌}
use mathlib.Core.List.{List}
use native.Mathlib.Omega.{arith}
use borrow.Author.Rules.{rules}
use borrow.Author.Tests.{not-true, not-false}
use lib.ListN.{length}
use Rattle.std.specs.Option.{MatchOption}
use Rattle.std.specs.Array.{IsWholeChunk}
use Rattle.limits.specs.Limits.{pages_size, desk_size, space_least}
use Rattle.rules.specs.Desk.{legal_call}
use Rattle.trees.specs.Shapes.{bare}
use Rattle.requests.specs.declared.Call.{Call}
use Rattle.requests.specs.RequestMeaning.{book_call, book_heard}
use Rattle.requests.specs.RequestRecord.{heard}
use Rattle.requests.proofs.Number12.{heard_legal}
use Rattle.index.specs.Changes.{Becomes}
use Rattle.states.specs.States.{book, state_of}
use Rattle.states.specs.Whole.{Whole, Judged}
use Rattle.states.specs.Fresh.{fresh_desk}
use Rattle.states.proofs.FreshPicture.{fresh_whole, fresh_says}
use Rattle.calls.specs.Promise.{wrong_picture, wrong_sizes, returned, Answered, Served, Freshened, lent}

-- a yes of the judge
pub judged_whole : (p d : List ℕ) (b : Bool) → Judged p d b → b ≡ true → Whole p d
judged_whole p d b j e = j.sound e

-- ---- a slice that std lends as an array: it has that length, and the array holds what it held
pub record ArrayOf (s t : List ℕ) (n : ℕ) : Type 0 where
  pub long : length s ≡ n
  pub same : t ≡ s

pub as_array : {s : List ℕ} {n : ℕ} {o : Code.Option (MutBor (List ℕ))} {y : MutBor (List ℕ)}
    → MatchOption o (length s ≢ n) (λ z. IsWholeChunk s z.now n) → o ≡ Code.Some y → ArrayOf s y.now n
as_array {s} {n} m e =
    let w = subst (λ x. MatchOption x (length s ≢ n) (λ z. IsWholeChunk s z.now n)) e m in
    record { long = w.long; same = w.same }

module _ {p d p' : List ℕ} (a : ArrayOf p p' pages_size) where
  -- ---- another length of the desk
  pub freshened_desk : length d ≢ desk_size → {r : ℕ} → r ≡ returned 10 0 → Freshened p d p' d r
  freshened_desk n k = Freshened.sizes (search rules) a.same refl k

  pub served_desk : {o q : List ℕ} → length d ≢ desk_size → {r : ℕ} → r ≡ returned 10 0 → Served q (lent p d o) (lent p' d o) r
  served_desk {o} n k = Served.sizes (search rules) (ap (λ x. lent x d o) a.same) k

  -- ---- the right sizes
  module _ {d' : List ℕ} (b : ArrayOf d d' desk_size) where
    right : wrong_picture p d ≡ false
    right = let x = a.long in let y = b.long in search rules

    pub freshened_made : {p₂ d₂ : List ℕ} → Becomes p₂ bare → d₂ ≡ fresh_desk → Freshened p d p₂ d₂ 0
    unfolding fresh_desk
    freshened_made {p₂} {d₂} h e =
        Freshened.made right (subst (Whole p₂) (sym e) (fresh_whole p₂ h)) (ap (state_of p₂) e ∙ fresh_says p₂ h) refl

    as_was : (o : List ℕ) → lent p' d' o ≡ lent p d o
    as_was o = ap₂ (λ x y. lent x y o) a.same b.same

    sized : (o : List ℕ) → space_least ≤ length o → wrong_sizes (lent p d o) ≡ false
    sized o h = let x = a.long in let y = b.long in search rules

    whole : Whole p' d' → Whole p d
    whole w = subst (Whole p) b.same (subst (λ x. Whole x d') a.same w)

    unwhole : (Whole p' d' → ⊥) → Whole p d → ⊥
    unwhole n w = n (subst (λ x. Whole x d') (sym a.same) (subst (Whole p) (sym b.same) w))

    module _ {o : List ℕ} (space : space_least ≤ length o) {t : Bool} (j : Judged p' d' t) {q : List ℕ} where
      -- ---- the picture
      pub served_broken : not t ≡ true → {r : ℕ} → r ≡ returned 11 0 → Served q (lent p d o) (lent p' d' o) r
      served_broken e z = Served.broken (sized o space) (unwhole (λ w. true≢false (sym (j.complete w) ∙ not-true t e))) (as_was o) z

      -- ---- the record
      module _ (e : not t ≡ false) {x : Code.Option Call} (k : book_heard x ≡ heard q) where
        pub served_bad : x ≡ Code.None → {r : ℕ} → r ≡ returned 12 0 → Served q (lent p d o) (lent p' d' o) r
        served_bad m z = Served.bad (sized o space) (whole (j.sound (not-false t e))) (sym k ∙ ap book_heard m) (as_was o) z

        pub served_good : {c : Call} → x ≡ Code.Some c → {p₂ d₂ o₂ : List ℕ} {n : ℕ} → Answered (book_call c) (lent p' d' o) (lent p₂ d₂ o₂) n
            → Served q (lent p d o) (lent p₂ d₂ o₂) n
        served_good {c} m {p₂} {d₂} {o₂} {n} g =
            Served.good (book_call c) n (sized o space) (whole (j.sound (not-false t e))) (sym k ∙ ap book_heard m)
            (subst (λ y. Answered (book_call c) y (lent p₂ d₂ o₂) n) (as_was o) g) (omega arith)

pub heard_right : (q : List ℕ) (x : Code.Option Call) → book_heard x ≡ heard q → (c : Call) → x ≡ Code.Some c → legal_call book (book_call c) ≡ true
heard_right q x k c m = heard_legal book.paging q (book_call c) (sym k ∙ ap book_heard m)
