-- What a request wants: the search for its target is the rule book's, and so are the name and the mode that the code makes of it.
-- A search for a transaction skips only its own ghosts; a key of the index is never the end mark.
use Prim.Native.Nat.{ℕ, ◌≤◌}
use Rattle.std.specs.Prelude as Code
use mathlib.Core.Path.{◌≡◌, refl, sym, ap, ap₂, ◌∙◌}
use mathlib.Core.Logic.{◌⊎◌, inl, inr}
use mathlib.Core.Bool.{true, false, not, ◌&&◌, ◌||◌}
use mathlib.Core.List.{List}
use mathlib.Core.Option.{Option, none, some}
use native.Mathlib.Omega.{arith}
use borrow.Author.Tests.{ne_eqb, ltb-true}
use lib.Dec.{leb, eqb, ltb}
use Rattle.lists.specs.Lists.{all, first, pairs}
use Rattle.lists.proofs.Tests.{and_right}
use Rattle.lists.proofs.Elements.{all_in}
use Rattle.rules.specs.Kinds.{Entry, S, X, Ask, Queued}
use Rattle.rules.specs.Entries.{ghost}
use Rattle.rules.specs.Locks.{target, named, itself, mode_if, mode, wanted}
use Rattle.rules.specs.Good.{ascending, below}
use Rattle.rules.specs.Document.{end_mark}
use Rattle.rules.proofs.Did.{target_in}
use Rattle.keys.specs.declared.Key.{Key}
use Rattle.entries.specs.declared.Entry as E
use Rattle.requests.specs.declared.Ask as A
use Rattle.requests.specs.declared.Ask.TheVariants as AV
use Rattle.requests.specs.RequestMeaning.{book_ask}
use Rattle.locks.specs.declared.Mode as M
use Rattle.locks.specs.SlotLayout.{name_in, name_number, book_mode}
use Rattle.queue.specs.QueueLayout.{ask_at, in_place, queued_at}
use Rattle.index.specs.Pictures.{entries_in}
use Rattle.index.specs.Searches.{seeks, book_found}
use Rattle.states.specs.States.{book}
use Rattle.states.specs.Fitting.{NameFits}
use Rattle.states.proofs.ValuesFit.{name_read}
use Rattle.waits.specs.declared.Want.{Want}
use Rattle.waits.specs.Choices.{book_want}
use Rattle.waits.specs.Blocks.{target_at, WantAt}

-- ---- the searches
module _ (es : List (Entry ℕ ℕ)) (t : ℕ) (ask : A.Ask) (r : Code.Option E.Entry) where
  pub read_target : (lo hi : Key) → ask ≡ AV.Read lo hi → 1 ≤ t → book_found r ≡ first (seeks (record { lo = lo; hi = hi; asker = t })) es
      → book_found r ≡ target book es t (book_ask ask)
  unfolding target
  read_target lo hi a h e =
      let z : eqb t 0 ≡ false = ne_eqb t 0 (λ q. omega arith) in
      rw a
      (e ∙ ap (λ b. first (λ x. leb lo.0 x.key && (not (leb x.key hi.0) || not ((not b && eqb x.owner t) && ghost x))) es) z)

  pub change_target : (key : Key) → ((rec : ℕ) × (ask ≡ AV.Insert key rec)) ⊎ (ask ≡ AV.Delete key) → book_found r ≡ first (λ e. leb key.0 e.key) es
      → book_found r ≡ target book es t (book_ask ask)
  unfolding target
  change_target key (inl a) e = rw a.1 e
  change_target key (inr a) e = rw a e

-- ---- the mode, by the request
module _ (ask : A.Ask) (x : Option (Entry ℕ ℕ)) where
  pub read_mode : (lo hi : Key) → ask ≡ AV.Read lo hi → S ≡ mode book (book_ask ask) x
  unfolding mode
  read_mode lo hi e = rw e

  pub insert_mode : (key : Key) (rec : ℕ) (m : M.Mode) → ask ≡ AV.Insert key rec → book_mode m ≡ mode_if book S X (itself book key.0 x)
      → book_mode m ≡ mode book (book_ask ask) x
  unfolding mode
  insert_mode key rec m e h = rw e h

  pub delete_mode : (key : Key) (m : M.Mode) → ask ≡ AV.Delete key → book_mode m ≡ mode_if book X S (itself book key.0 x)
      → book_mode m ≡ mode book (book_ask ask) x
  unfolding mode
  delete_mode key m e h = rw e h

-- ---- the name is within its width: a key of the index is below the end mark
pub named_fits : (es : List (Entry ℕ ℕ)) → ascending book es ≡ true → (t : ℕ) (a : Ask ℕ ℕ) → NameFits (named book (target book es t a))
unfolding ascending
named_fits es h t a = go (target book es t a) refl
  where
    go : (o : Option (Entry ℕ ℕ)) → target book es t a ≡ o → NameFits (named book o)
    go none e = tt
    go (some x) e =
        ltb-true x.key end_mark
        (all_in (λ y. ltb y.key end_mark) es x (and_right (pairs (below book) es) (all (λ y. ltb y.key end_mark) es) h) (target_in book es t a x e))

want_is : (es : List (Entry ℕ ℕ)) (t : ℕ) (ask : A.Ask) (found : Code.Option E.Entry) (w : Want) → ascending book es ≡ true
    → book_found found ≡ target book es t (book_ask ask) → w.name.0 ≡ name_number (named book (book_found found))
    → book_mode w.mode ≡ mode book (book_ask ask) (book_found found)
    → book_want w ≡ wanted book es (record { asker = t; asks = book_ask ask })
unfolding wanted
want_is es t ask found w h e n m =
    let x = target book es t (book_ask ask) in
    ap₂ (λ a b. record { name = a; mode = b })
    (ap name_in n ∙ ap (λ o. name_in (name_number (named book o))) e ∙ name_read (named book x) (named_fits es h t (book_ask ask)))
    (m ∙ ap (mode book (book_ask ask)) e)

-- ---- the request at a place of the queue
module _ (p d : List ℕ) (q t : ℕ) (ask : A.Ask) (found : Code.Option E.Entry) (e : t ≡ in_place d q) (a : book_ask ask ≡ ask_at d t) where
  asked : ◌≡◌ {A = Queued ℕ ℕ} (record { asker = t; asks = book_ask ask }) (queued_at d q)
  unfolding queued_at
  asked = ap (λ x. record { asker = t; asks = x }) a ∙ ap (λ u. record { asker = u; asks = ask_at d u }) e

  pub target_queued : book_found found ≡ target book (entries_in p) t (book_ask ask) → book_found found ≡ target_at p d q
  target_queued h = h ∙ ap (λ (x : Queued ℕ ℕ). target book (entries_in p) x.asker x.asks) asked

  pub want_queued : (k : Key) (m : M.Mode) → ascending book (entries_in p) ≡ true → book_found found ≡ target_at p d q
      → k.0 ≡ name_number (named book (book_found found)) → book_mode m ≡ mode book (book_ask ask) (book_found found)
      → WantAt p d q (record { asker = t; name = k; mode = m })
  want_queued k m h f n o =
      record {
        asker = e;
        want =
            want_is (entries_in p) t ask found (record { asker = t; name = k; mode = m }) h
            (f ∙ sym (ap (λ (x : Queued ℕ ℕ). target book (entries_in p) x.asker x.asks) asked)) n o
            ∙ ap (wanted book (entries_in p)) asked;
      }
