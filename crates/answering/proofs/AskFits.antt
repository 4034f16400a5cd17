-- The numbers of a legal request fit the fields that will hold them: keys are below the end, and a record has its width.
-- By the kind of request. Assumes nothing.
use Prim.Native.Nat.{ℕ, ◌<◌}
use mathlib.Core.Path.{◌≡◌, sym, ap, subst, ◌∙◌}
use mathlib.Core.Bool.{true, ◌&&◌}
use borrow.Author.Tests.{ltb-true}
use lib.Dec.{ltb, leb}
use Rattle.lists.proofs.Tests.{and_left, and_right}
use Rattle.rules.specs.Desk.{legal_ask}
use Rattle.rules.specs.Document.{end_mark}
use Rattle.keys.specs.declared.Key.{Key}
use Rattle.requests.specs.declared.Ask.{Ask}
use Rattle.requests.specs.declared.Ask.TheVariants.{Read, Insert, Delete}
use Rattle.requests.specs.RequestMeaning.{book_ask}
use Rattle.states.specs.States.{book}
use Rattle.states.specs.Fitting.{AskFits}

module _ (a : Ask) (h : legal_ask book (book_ask a) ≡ true) where
  legal_as : (b : Ask) → a ≡ b → legal_ask book (book_ask b) ≡ true
  legal_as b e = ap (λ x. legal_ask book (book_ask x)) (sym e) ∙ h

  pub fits_read : (lo hi : Key) → a ≡ Read lo hi → AskFits (book_ask a)
  unfolding legal_ask
  fits_read lo hi e =
      let keys = and_left (ltb lo.0 end_mark && ltb hi.0 end_mark) (leb lo.0 hi.0) (legal_as (Read lo hi) e) in
      subst (λ x. AskFits (book_ask x)) (sym e)
      (ltb-true lo.0 end_mark (and_left (ltb lo.0 end_mark) (ltb hi.0 end_mark) keys), ltb-true hi.0 end_mark (and_right (ltb lo.0 end_mark) (ltb hi.0 end_mark) keys))

  pub fits_insert : (k : Key) (r v : ℕ) → a ≡ Insert k r → v ≡ r → v < 4294967296 → AskFits (book_ask a)
  unfolding legal_ask
  fits_insert k r v e g f =
      subst (λ x. AskFits (book_ask x)) (sym e) (ltb-true k.0 end_mark (legal_as (Insert k r) e), subst (λ x. x < 4294967296) g f)

  pub fits_delete : (k : Key) → a ≡ Delete k → AskFits (book_ask a)
  unfolding legal_ask
  fits_delete k e = subst (λ x. AskFits (book_ask x)) (sym e) (ltb-true k.0 end_mark (legal_as (Delete k) e))
