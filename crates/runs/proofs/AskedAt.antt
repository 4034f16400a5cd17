-- What the request at a place of the queue asks, by what the code reads of its asker: a read, an insert or a delete.
-- Assumes nothing.
use Prim.Native.Nat.{ℕ}
use mathlib.Core.Path.{◌≡◌, sym, ap, ◌∙◌}
use mathlib.Core.List.{List}
use Rattle.rules.specs.Kinds.{read, insert, delete}
use Rattle.keys.specs.declared.Key.{Key}
use Rattle.requests.specs.declared.Ask.{Ask}
use Rattle.requests.specs.declared.Ask.TheVariants as AV
use Rattle.requests.specs.RequestMeaning.{book_ask}
use Rattle.queue.specs.QueueLayout.{in_place, ask_at, queued_at}

module _ (d : List ℕ) (q t : ℕ) (a : t ≡ in_place d q) (ask : Ask) (e : book_ask ask ≡ ask_at d t) where
  asked : (x : Ask) → ask ≡ x → (queued_at d q).asks ≡ book_ask x
  unfolding queued_at
  asked x h = ap (ask_at d) (sym a) ∙ sym e ∙ ap book_ask h

  pub read_asked : (lo hi : Key) → ask ≡ AV.Read lo hi → (queued_at d q).asks ≡ read lo.0 hi.0
  read_asked lo hi = asked (AV.Read lo hi)

  pub insert_asked : (key : Key) (rec : ℕ) → ask ≡ AV.Insert key rec → (queued_at d q).asks ≡ insert key.0 rec
  insert_asked key rec = asked (AV.Insert key rec)

  pub delete_asked : (key : Key) → ask ≡ AV.Delete key → (queued_at d q).asks ≡ delete key.0
  delete_asked key = asked (AV.Delete key)
