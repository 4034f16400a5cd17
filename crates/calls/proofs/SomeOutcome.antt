-- Where it can be told whether the picture is whole, there is an outcome that keeps the promise of a call; and so a run of any calls from
-- fresh, whose pictures all are. A picture that is whole says a drawable state; the rule book's step leaves one; and that one is written as a
-- whole picture. Assumes nothing. (That any bytes can be told is the judge's: crate `outcomes`.)
use Prim.Native.Nat.{ℕ, ◌+◌, ◌*◌}
use mathlib.Core.Path.{◌≡◌, refl, sym, subst}
use mathlib.Core.Logic.{inl, inr}
use mathlib.Core.Bool.{Bool, true, false, not, true≢false}
use mathlib.Core.List.{List, [], ◌∷◌}
use mathlib.Core.Option.{Option, none, some}
use borrow.Author.Tests.{eqb-true, not-false}
use lib.Dec.{eqb}
use lib.ListN.{length}
use Rattle.limits.specs.Limits.{pages_size, desk_size, answer_size}
use Rattle.lists.proofs.Tests.{and_left, and_right, neither}
use Rattle.numbers.specs.Numbers.{Bytes}
use Rattle.numbers.proofs.BytesKept.{bytes_put_fields}
use Rattle.rules.specs.Kinds.{Ask, read, insert, delete, Request, ask, Call}
use Rattle.rules.specs.Queue.{St}
use Rattle.rules.specs.Runs.{Answer}
use Rattle.rules.specs.Desk.{is_transaction, legal_request}
use Rattle.requests.specs.RequestRecord.{heard}
use Rattle.answers.specs.AnswerRecord.{answer_widths, answer_fields, put_answer, written}
use Rattle.requests.proofs.Number12.{RequestFits, heard_legal, heard_fits}
use Rattle.states.specs.States.{book, state_of}
use Rattle.states.specs.Fitting.{AskFits}
use Rattle.states.proofs.DeskBytes.{bytes_desk}
use Rattle.states.specs.Whole.{Whole, Judged}
use Rattle.states.specs.Fresh.{fresh_pages, fresh_desk}
use Rattle.states.proofs.FreshPicture.{fresh_picture}
use Rattle.pictures.specs.Drawing.{pages_for, desk_for, Drawable}
use Rattle.pictures.proofs.PictureBytes.{whole_pages_bytes}
use Rattle.pictures.proofs.Pictures.{pictured}
use Rattle.pictures.proofs.Drawable.{whole_drawable, step_drawable}
use Rattle.calls.specs.Promise.{Lent, lent, BytesIn, wrong_picture, short_space, wrong_sizes, returned, step_of, Served, Outcome}
use Rattle.calls.specs.Calls.{Sent, Back, Runs, BytesSent, Led}
use Rattle.calls.proofs.CallRuns.{serve_back}

-- ---- bytes
pub whole_bytes : (p d : List ℕ) → Whole p d → Bytes p × Bytes d
whole_bytes p d w = (whole_pages_bytes p w.pages, subst Bytes (sym w.desk) (bytes_desk _ _ _))

answers_bytes : (s : List ℕ) (at : ℕ) (xs : List (Answer ℕ ℕ)) → Bytes s → Bytes (written s at xs)
unfolding written put_answer
answers_bytes s at [] f = f
answers_bytes s at (x ∷ xs) f = answers_bytes (put_answer s at x) (at + answer_size) xs (bytes_put_fields answer_widths s at (answer_fields x) f)

-- ---- what is heard fits
asked_fits : (r : Request ℕ ℕ) → RequestFits r → (a : Ask ℕ ℕ) → r ≡ ask a → AskFits a
asked_fits r f a e = go a (subst RequestFits e f)
  where
    go : (a : Ask ℕ ℕ) → RequestFits (ask a) → AskFits a
    go (read lo hi) g = (g.0, g.1.0)
    go (insert k r) g = g
    go (delete k) g = g

-- ---- a judgement of what is lent, where its sizes are right
pub record Sized (x : Lent) : Type 0 where
  pub pages : length x.pages ≡ pages_size
  pub desk : length x.desk ≡ desk_size

abbrev pub Judgement : Lent → Type 0
Judgement x = Sized x → (v : Bool) × Judged x.pages x.desk v

right_sizes : (x : Lent) → wrong_sizes x ≡ false → Sized x
right_sizes x e =
    let wrong = (neither (wrong_picture x.pages x.desk) (short_space x.answers) e).0 in
    let sizes = neither (not (eqb (length x.pages) pages_size)) (not (eqb (length x.desk) desk_size)) wrong in
    record {
      pages = eqb-true (length x.pages) pages_size (not-false _ sizes.0);
      desk = eqb-true (length x.desk) desk_size (not-false _ sizes.1);
    }

-- ---- one call
module _ (q : List ℕ) (x : Lent) (heard-bytes : Bytes q) (b : BytesIn x) where
  as_it_was : (r : ℕ) → Served q x x r → Outcome q x
  as_it_was r h = record { lent = x; result = r; served = h; bytes = b }

  answered : wrong_sizes x ≡ false → Whole x.pages x.desk → (c : Call ℕ ℕ) → heard q ≡ some c → Outcome q x
  answered e w c k =
      record {
        lent = y;
        result = returned 0 (answer_size * length (step_of c x).answers);
        served =
            Served.good c (answer_size * length (step_of c x).answers) e w k
            (record { whole = drawn.0; state = drawn.1; answers = refl; bytes = refl }) refl;
        bytes =
            let f = whole_bytes y.pages y.desk drawn.0 in
            record { pages = f.0; desk = f.1; answers = answers_bytes x.answers 0 (step_of c x).answers b.answers };
      }
    where
      s : St book
      s = (step_of c x).state

      y : Lent
      y = lent (pages_for s) (desk_for s) (written x.answers 0 (step_of c x).answers)

      drawable : Drawable s
      drawable =
          let l = heard_legal book.paging q c k in
          step_drawable (state_of x.pages x.desk) c.asker c.request (and_left (is_transaction book c.asker) (legal_request book c.request) l)
          (and_right (is_transaction book c.asker) (legal_request book c.request) l)
          (asked_fits c.request (heard_fits q c heard-bytes k).request) (whole_drawable x.pages x.desk w)

      drawn : Whole (pages_for s) (desk_for s) × (state_of (pages_for s) (desk_for s) ≡ s)
      drawn = pictured s drawable

  by_heard : wrong_sizes x ≡ false → Whole x.pages x.desk → (o : Option (Call ℕ ℕ)) → heard q ≡ o → Outcome q x
  by_heard e w none k = as_it_was (returned 12 0) (Served.bad e w k refl refl)
  by_heard e w (some c) k = answered e w c k

  by_whole : wrong_sizes x ≡ false → (v : Bool) → Judged x.pages x.desk v → Outcome q x
  by_whole e true j = by_heard e (j.sound refl) (heard q) refl
  by_whole e false j = as_it_was (returned 11 0) (Served.broken e (λ w. true≢false (sym (j.complete w))) refl refl)

  by_sizes : (v : Bool) → wrong_sizes x ≡ v → Judgement x → Outcome q x
  by_sizes true e j = as_it_was (returned 10 0) (Served.sizes e refl refl)
  by_sizes false e j = let k = j (right_sizes x e) in by_whole e k.0 k.1

pub judged_outcome : (q : List ℕ) (x : Lent) → Bytes q → BytesIn x → Judgement x → Outcome q x
judged_outcome q x f b j = by_sizes q x f b (wrong_sizes x) refl j

-- ---- a run of calls
-- a whole picture is told by itself
whole_outcome : (q : List ℕ) (x : Lent) → Bytes q → BytesIn x → Whole x.pages x.desk → Outcome q x
whole_outcome q x f b w = judged_outcome q x f b (λ z. (true, record { sound = λ e. w; complete = λ v. refl }))

record Onward (p d : List ℕ) (as' : List Sent) : Type 0 where
  backs : List Back
  pages : List ℕ
  desk : List ℕ
  runs : Runs p d as' backs pages desk

some_runs : (as' : List Sent) → BytesSent as' → (p d : List ℕ) → Whole p d → Onward p d as'
some_runs [] f p d w = record { backs = []; pages = p; desk = d; runs = Runs.rest }
some_runs (a ∷ as') f p d w =
    let g = whole_bytes p d w in
    let o = whole_outcome a.request (lent p d a.space) (f.requests a (inl refl))
    (record { pages = g.0; desk = g.1; answers = f.spaces a (inl refl) }) w in
    let b : Back = record { result = o.result; space = o.lent.answers } in
    let v = (serve_back p d o.lent.pages o.lent.desk a b w o.served).1 in
    let n = some_runs as' (record { requests = λ c i. f.requests c (inr i); spaces = λ c i. f.spaces c (inr i) }) o.lent.pages o.lent.desk v in
    record { backs = b ∷ n.backs; pages = n.pages; desk = n.desk; runs = Runs.next o.served n.runs }

pub some_run : (as' : List Sent) → BytesSent as' → Led as'
some_run as' f =
    let w = fresh_picture in
    let n = some_runs as' f fresh_pages fresh_desk w.0 in
    record {
      backs = n.backs;
      pages = n.pages;
      desk = n.desk;
      run = record { pages = fresh_pages; desk = fresh_desk; whole = w.0; state = w.1; runs = n.runs };
    }
