-- Demand 1, proved of whatever keeps the promise of the call: the one theorem is `demand1`; `shuts_out` says what it rules out. A refusal leaves all as it was; otherwise the
-- answers are at most sixteen, so that their bytes are never taken for a refusal's number. Assumes nothing.
use Prim.Native.Nat.{ℕ, ◌≤◌, ◌<◌}
use mathlib.Core.Path.{◌≡◌, refl, sym, ap, subst, ◌∙◌}
use mathlib.Core.Logic.{◌⊎◌, inl, inr}
use mathlib.Core.Bool.{true, false, true≢false}
use mathlib.Core.List.{List}
use mathlib.Core.Option.{none, some}
use native.Mathlib.Nat.{zero-add}
use native.Mathlib.Omega.{arith}
use lib.ListN.{length, get_or, drop}
use Rattle.limits.specs.Limits.{space_least}
use Rattle.rules.specs.Kinds.{Call}
use Rattle.requests.specs.RequestRecord.{heard}
use Rattle.answers.proofs.AnswersWritten.{length_written, written_rest}
use Rattle.states.specs.States.{state_of}
use Rattle.states.specs.Whole.{Whole}
use Rattle.calls.specs.Promise.{Lent, wrong_sizes, returned, step_of, Answered, Served}
use Rattle.calls.proofs.Determined.{served_ten, served_eleven, served_twelve}
use Rattle.calls.proofs.CallRuns.{few_bytes}
use Rattle.promises.specs.Demand1.{Demand1, ShutsOut}

module _ (q : List ℕ) (x y : Lent) (r : ℕ) where
  -- ---- a number at no other time than when its cause holds
  good_small : (c : Call ℕ ℕ) (bytes : ℕ) → Whole x.pages x.desk → heard q ≡ some c → Answered c x y bytes → r ≡ returned 0 bytes → r ≤ space_least
  good_small c bytes w h a n = omega (arith, a.bytes, few_bytes (state_of x.pages x.desk) w.values q c h)

  ten_cause_lem : Served q x y r → r ≡ returned 10 0 → wrong_sizes x ≡ true
  ten_cause_lem (Served.sizes v e n) k = v
  ten_cause_lem (Served.broken v f e n) k = absurd (omega arith)
  ten_cause_lem (Served.bad v f h e n) k = absurd (omega arith)
  ten_cause_lem (Served.good c m v f h a n) k = absurd (omega (arith, good_small c m f h a n))

  eleven_cause_lem : Served q x y r → r ≡ returned 11 0 → (wrong_sizes x ≡ false) × (Whole x.pages x.desk → ⊥)
  eleven_cause_lem (Served.sizes v e n) k = absurd (omega arith)
  eleven_cause_lem (Served.broken v f e n) k = (v, f)
  eleven_cause_lem (Served.bad v f h e n) k = absurd (omega arith)
  eleven_cause_lem (Served.good c m v f h a n) k = absurd (omega (arith, good_small c m f h a n))

  twelve_cause_lem : Served q x y r → r ≡ returned 12 0 → (wrong_sizes x ≡ false) × Whole x.pages x.desk × (heard q ≡ none)
  twelve_cause_lem (Served.sizes v e n) k = absurd (omega arith)
  twelve_cause_lem (Served.broken v f e n) k = absurd (omega arith)
  twelve_cause_lem (Served.bad v f h e n) k = (v, f, h)
  twelve_cause_lem (Served.good c m v f h a n) k = absurd (omega (arith, good_small c m f h a n))

  -- and without a cause it is answered
  no_refusal : Served q x y r → wrong_sizes x ≡ false → Whole x.pages x.desk → (heard q ≡ none → ⊥) → r ≤ space_least
  no_refusal (Served.sizes v e n) w g k = absurd (true≢false (sym v ∙ w))
  no_refusal (Served.broken v f e n) w g k = absurd (f g)
  no_refusal (Served.bad v f h e n) w g k = absurd (k h)
  no_refusal (Served.good c m v f h a n) w g k = good_small c m f h a n

  -- ---- refused, and nothing changed; or answered
  record Refusal : Type 0 where
    same : y ≡ x
    large : 4294967296 ≤ r

  record Grant : Type 0 where
    call : Call ℕ ℕ
    before : Whole x.pages x.desk
    answered : Answered call x y r
    small : r ≤ space_least

  refusal_or_answer : Served q x y r → Refusal ⊎ Grant
  refusal_or_answer (Served.sizes v e n) = inl (record { same = e; large = omega arith })
  refusal_or_answer (Served.broken v f e n) = inl (record { same = e; large = omega arith })
  refusal_or_answer (Served.bad v f h e n) = inl (record { same = e; large = omega arith })
  refusal_or_answer (Served.good c m v f h a n) =
      let z : m ≡ r = omega arith in
      inr (record { call = c; before = f; answered = subst (Answered c x y) z a; small = good_small c m f h a n })

  unchanged : Refusal ⊎ Grant → 4294967296 ≤ r → y ≡ x
  unchanged (inl o) l = o.same
  unchanged (inr o) l = absurd (omega (arith, o.small))

  most_bytes : Refusal ⊎ Grant → r < 4294967296 → r ≤ space_least
  most_bytes (inl o) l = absurd (omega (arith, o.large))
  most_bytes (inr o) l = o.small

  bytes_beyond : Refusal ⊎ Grant → r < 4294967296 → drop r y.answers ≡ drop r x.answers
  bytes_beyond (inl o) l = ap (λ (z : Lent). drop r z.answers) o.same
  bytes_beyond (inr o) l =
      let a = o.answered in
      rw (a.answers, a.bytes) (rw zero-add at (written_rest x.answers 0 (step_of o.call x).answers))

  whole_after : Refusal ⊎ Grant → Whole x.pages x.desk → Whole y.pages y.desk
  whole_after (inl o) w = subst (λ (z : Lent). Whole z.pages z.desk) (sym o.same) w
  whole_after (inr o) w = o.answered.whole

  pages_length : Refusal ⊎ Grant → length y.pages ≡ length x.pages
  pages_length (inl o) = ap (λ (z : Lent). length z.pages) o.same
  pages_length (inr o) = o.answered.whole.pages.size ∙ sym o.before.pages.size

  desk_length : Refusal ⊎ Grant → length y.desk ≡ length x.desk
  desk_length (inl o) = ap (λ (z : Lent). length z.desk) o.same
  desk_length (inr o) = o.answered.whole.size ∙ sym o.before.size

  answers_length : Refusal ⊎ Grant → length y.answers ≡ length x.answers
  answers_length (inl o) = ap (λ (z : Lent). length z.answers) o.same
  answers_length (inr o) = ap length o.answered.answers ∙ length_written x.answers 0 (step_of o.call x).answers

  pub demand1 : Served q x y r → Demand1 q x y r
  demand1 s =
      let o = refusal_or_answer s in
      record {
        ten = λ v. (served_ten q x y r v s).result;
        eleven = λ v f. (served_eleven q x y r v f s).result;
        twelve = λ v f h. (served_twelve q x y r v f h s).result;
        ten_cause = ten_cause_lem s;
        eleven_cause = eleven_cause_lem s;
        twelve_cause = twelve_cause_lem s;
        answered = λ v w h. omega (arith, no_refusal s v w h);
        refused = unchanged o;
        most = most_bytes o;
        beyond = bytes_beyond o;
        whole = λ v. whole_after o;
        pages = pages_length o;
        desk = desk_length o;
        answers = answers_length o;
      }

-- ---- what it shuts out
pub shuts_out : (q : List ℕ) (x y : Lent) → ShutsOut q x y
shuts_out q x y =
    record {
      not10 = λ r w n d. n (d.ten w);
      not11 = λ r w f n d. n (d.eleven w f);
      not12 = λ r w f h n d. n (d.twelve w f h);
      only10 = λ w d. true≢false (sym (d.ten_cause refl) ∙ w);
      only11 = λ w d. (d.eleven_cause refl).1 w;
      small11 = λ w d. true≢false (sym w ∙ (d.eleven_cause refl).0);
      only12 = λ h d. h (d.twelve_cause refl).2;
      small12 = λ w d. true≢false (sym w ∙ (d.twelve_cause refl).0);
      broken12 = λ f d. f (d.twelve_cause refl).1;
      other = λ r w f h n d. let m = d.answered w f h in omega arith;
      touched = λ r n o d. o (d.refused (omega arith));
      seventeen = λ d. let m = d.most (omega arith) in omega arith;
      behind = λ r i n o d. o (ap (λ s. get_or s i 0) (d.beyond (omega arith)));
      spoilt = λ r w f o d. o (d.whole w f);
      pages = λ r o d. o d.pages;
      desk = λ r o d. o d.desk;
      answers = λ r o d. o d.answers;
    }
