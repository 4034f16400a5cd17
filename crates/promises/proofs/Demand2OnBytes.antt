-- Demand 2 on bytes: it holds of every call that isn't refused 10 to 12 (`demand2_on_bytes`), and no second outcome satisfies it (`ruled_once`).
-- The call does the rule book's step, of which it is proved, and which it decides; a key fits as the pages' index says. Assumes nothing.
use Prim.Native.Nat.{ℕ, ◌*◌, ◌<◌, compare}
use mathlib.Core.Path.{◌≡◌, sym, ap, subst, ◌∙◌}
use mathlib.Core.Bool.{false}
use mathlib.Core.List.{List}
use mathlib.Core.Option.{some}
use lib.ListN.{length}
use borrow.Author.Tests.{leb-false, lt-leb}
use Rattle.limits.specs.Limits.{pages_most, answer_size}
use Rattle.lists.proofs.Tests.{and_left, and_right}
use Rattle.rules.specs.Kinds.{Call}
use Rattle.rules.specs.Queue.{St}
use Rattle.rules.specs.Runs.{Worked}
use Rattle.rules.specs.Desk.{is_transaction}
use Rattle.rules.proofs.Orders.{numbers_ordered}
use Rattle.trees.specs.Trees.{document_sizes}
use Rattle.trees.specs.Growth.{fits}
use Rattle.trees.proofs.Shaped.{fits_shape}
use Rattle.index.specs.Pictures.{key_of, index_of}
use Rattle.requests.specs.RequestRecord.{heard}
use Rattle.answers.specs.AnswerRecord.{written}
use Rattle.requests.proofs.Number12.{heard_legal}
use Rattle.states.specs.States.{book, state_of}
use Rattle.states.specs.Whole.{Whole}
use Rattle.states.proofs.Tell.{whole_inj}
use Rattle.calls.specs.Promise.{Lent, lent, returned, step_of}
use Rattle.calls.proofs.Determined.{served_good}
use Rattle.promises.specs.Demand2.{Demand2}
use Rattle.promises.specs.Demand2OnBytes.{used_and_needed, Ruled, Demand2OnBytes}
use Rattle.promises.proofs.Demand2.{demand2}
use Rattle.promises.proofs.Decides.{demand2_decides}

-- whether a key fits into the pages, by what the picture says and by the index in its bytes
fits_index : (p d : List ℕ) (k : ℕ) → book.paging.fits (state_of p d).pages k ≡ fits compare key_of 0 document_sizes k (index_of p)
unfolding state_of
fits_index p d k = fits_shape compare key_of 0 document_sizes k (index_of p)

too_many : (p : List ℕ) (k : ℕ) → pages_most < used_and_needed p k → fits compare key_of 0 document_sizes k (index_of p) ≡ false
unfolding fits
too_many p k h = lt-leb (used_and_needed p k) pages_most h

only_too_many : (p : List ℕ) (k : ℕ) → fits compare key_of 0 document_sizes k (index_of p) ≡ false → pages_most < used_and_needed p k
unfolding fits
only_too_many p k h = leb-false (used_and_needed p k) pages_most h

pub demand2_on_bytes : Demand2OnBytes
demand2_on_bytes q x y r c v w g h =
    let granted = served_good q x y r c w g h v in
    let legal = heard_legal book.paging q c h in
    let before = state_of x.pages x.desk in
    let rule = demand2 book numbers_ordered before g.values c.asker c.request
    (and_left _ _ legal) (and_right (is_transaction book c.asker) _ legal) in
    record {
      answers = (step_of c x).answers;
      space = granted.answered.answers;
      result = granted.result ∙ ap (returned 0) granted.answered.bytes;
      rule =
          subst (λ (z : St book). Demand2 book before c.asker c.request (record { state = z; answers = (step_of c x).answers }))
          (sym granted.answered.state) rule;
      short = λ k m. fits_index x.pages x.desk k ∙ too_many x.pages k m;
      short_only = λ k m. only_too_many x.pages k (sym (fits_index x.pages x.desk k) ∙ m);
    }

-- ---- no second outcome: a desk that leaves whole pictures and satisfies demand 2 writes and returns what this one does
module _ (q : List ℕ) (x : Lent) (c : Call ℕ ℕ) (g : Whole x.pages x.desk) (h : heard q ≡ some c) where
  decided : (y : Lent) (r : ℕ) (u : Ruled x y r c)
      → ◌≡◌ {A = Worked book} (record { state = state_of y.pages y.desk; answers = u.answers }) (step_of c x)
  decided y r u =
      let legal = heard_legal book.paging q c h in
      demand2_decides book numbers_ordered (state_of x.pages x.desk) g.values c.asker c.request
      (and_left _ _ legal) (and_right (is_transaction book c.asker) _ legal) _ u.rule

  pub ruled_once : (y y' : Lent) (r r' : ℕ) → Whole y.pages y.desk → Whole y'.pages y'.desk → Ruled x y r c → Ruled x y' r' c
      → (y ≡ y') × (r ≡ r')
  ruled_once y y' r r' w w' u u' =
      let same = decided y r u ∙ sym (decided y' r' u') in
      let as' : u.answers ≡ u'.answers = ap (λ (z : Worked book). z.answers) same in
      let e = whole_inj y.pages y.desk y'.pages y'.desk w w' (ap (λ (z : Worked book). z.state) same) in
      let o = u.space ∙ ap (written x.answers 0) as' ∙ sym u'.space in
      (λ i. lent (e.0 i) (e.1 i) (o i), u.result ∙ ap (λ bs. returned 0 (answer_size * length bs)) as' ∙ sym u'.result)
