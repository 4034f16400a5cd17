-- Determinacy: no second outcome satisfies the promise of a call. Each cause leaves one case of the promise, and in it the outcome is told
-- by what was lent and asked: whole pictures that say the same are the same. Assumes nothing.
use Prim.Native.Nat.{ℕ}
use mathlib.Core.Path.{◌≡◌, sym, ap, ap₂, subst, ◌∙◌}
use mathlib.Core.Bool.{true, false, true≢false}
use mathlib.Core.List.{List}
use mathlib.Core.Option.{none, some, none-ne-some, some-injective}
use Rattle.rules.specs.Kinds.{Call}
use Rattle.requests.specs.RequestRecord.{heard}
use Rattle.states.specs.Whole.{Whole}
use Rattle.states.proofs.Tell.{whole_inj}
use Rattle.calls.specs.Promise.{Lent, lent, wrong_sizes, returned, Answered, Served, Freshened}

-- ---- what a call comes to, by its cause
pub record Refused (x y : Lent) (number r : ℕ) : Type 0 where
  pub same : y ≡ x
  pub result : r ≡ returned number 0

pub record Granted (c : Call ℕ ℕ) (x y : Lent) (r : ℕ) : Type 0 where
  pub bytes : ℕ
  pub answered : Answered c x y bytes
  pub result : r ≡ returned 0 bytes

module _ (q : List ℕ) (x y : Lent) (r : ℕ) where
  wrong_right : {A : Type 0} → wrong_sizes x ≡ true → wrong_sizes x ≡ false → A
  wrong_right w v = absurd (true≢false (sym w ∙ v))

  deaf : {A : Type 0} (c : Call ℕ ℕ) → heard q ≡ none → heard q ≡ some c → A
  deaf c h k = absurd (none-ne-some c (sym h ∙ k))

  pub served_ten : wrong_sizes x ≡ true → Served q x y r → Refused x y 10 r
  served_ten w (Served.sizes v e n) = record { same = e; result = n }
  served_ten w (Served.broken v f e n) = wrong_right w v
  served_ten w (Served.bad v f h e n) = wrong_right w v
  served_ten w (Served.good c m v f h a n) = wrong_right w v

  pub served_eleven : wrong_sizes x ≡ false → (Whole x.pages x.desk → ⊥) → Served q x y r → Refused x y 11 r
  served_eleven w g (Served.sizes v e n) = wrong_right v w
  served_eleven w g (Served.broken v f e n) = record { same = e; result = n }
  served_eleven w g (Served.bad v f h e n) = absurd (g f)
  served_eleven w g (Served.good c m v f h a n) = absurd (g f)

  pub served_twelve : wrong_sizes x ≡ false → Whole x.pages x.desk → heard q ≡ none → Served q x y r → Refused x y 12 r
  served_twelve w g k (Served.sizes v e n) = wrong_right v w
  served_twelve w g k (Served.broken v f e n) = absurd (f g)
  served_twelve w g k (Served.bad v f h e n) = record { same = e; result = n }
  served_twelve w g k (Served.good c m v f h a n) = deaf c k h

  pub served_good : (c : Call ℕ ℕ) → wrong_sizes x ≡ false → Whole x.pages x.desk → heard q ≡ some c → Served q x y r → Granted c x y r
  served_good c w g k (Served.sizes v e n) = wrong_right v w
  served_good c w g k (Served.broken v f e n) = absurd (f g)
  served_good c w g k (Served.bad v f h e n) = deaf c h k
  served_good c w g k (Served.good b m v f h a n) =
      record { bytes = m; answered = subst (λ z. Answered z x y m) (some-injective b c (sym h ∙ k)) a; result = n }

-- ---- one outcome
lent_same : (x y : Lent) → x.pages ≡ y.pages → x.desk ≡ y.desk → x.answers ≡ y.answers → x ≡ y
lent_same x y a b c = ap₂ (λ p d. lent p d x.answers) a b ∙ ap (lent y.pages y.desk) c

answered_once : (c : Call ℕ ℕ) (x y y' : Lent) (n n' : ℕ) → Answered c x y n → Answered c x y' n' → (y ≡ y') × (n ≡ n')
answered_once c x y y' n n' a b =
    let e = whole_inj y.pages y.desk y'.pages y'.desk a.whole b.whole (a.state ∙ sym b.state) in
    (lent_same y y' e.0 e.1 (a.answers ∙ sym b.answers), a.bytes ∙ sym b.bytes)

-- "no second outcome may satisfy the same promise"
pub served_once : (q : List ℕ) (x y y' : Lent) (r r' : ℕ) → Served q x y r → Served q x y' r' → (y ≡ y') × (r ≡ r')
served_once q x y y' r r' (Served.sizes v e n) s =
    let o = served_ten q x y' r' v s in (e ∙ sym o.same, n ∙ sym o.result)
served_once q x y y' r r' (Served.broken v f e n) s =
    let o = served_eleven q x y' r' v f s in (e ∙ sym o.same, n ∙ sym o.result)
served_once q x y y' r r' (Served.bad v f h e n) s =
    let o = served_twelve q x y' r' v f h s in (e ∙ sym o.same, n ∙ sym o.result)
served_once q x y y' r r' (Served.good c m v f h a n) s =
    let o = served_good q x y' r' c v f h s in
    let t = answered_once c x y y' m o.bytes a o.answered in (t.0, n ∙ ap (returned 0) t.1 ∙ sym o.result)

-- and so of a fresh picture
pub fresh_once : (p d p₁ d₁ p₂ d₂ : List ℕ) (r₁ r₂ : ℕ) → Freshened p d p₁ d₁ r₁ → Freshened p d p₂ d₂ r₂ → (p₁ ≡ p₂) × (d₁ ≡ d₂) × (r₁ ≡ r₂)
fresh_once p d p₁ d₁ p₂ d₂ r₁ r₂ (Freshened.sizes v a b n) (Freshened.sizes w a' b' n') = (a ∙ sym a', b ∙ sym b', n ∙ sym n')
fresh_once p d p₁ d₁ p₂ d₂ r₁ r₂ (Freshened.sizes v a b n) (Freshened.made w f s n') = absurd (true≢false (sym v ∙ w))
fresh_once p d p₁ d₁ p₂ d₂ r₁ r₂ (Freshened.made v f s n) (Freshened.sizes w a' b' n') = absurd (true≢false (sym w ∙ v))
fresh_once p d p₁ d₁ p₂ d₂ r₁ r₂ (Freshened.made v f s n) (Freshened.made w g t n') =
    let e = whole_inj p₁ d₁ p₂ d₂ f g (s ∙ sym t) in (e.0, e.1, n ∙ sym n')
