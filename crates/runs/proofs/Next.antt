-- What is known of the request that runs next, in the words of its run: its target, and its asker's own slot for the lock.
-- The asker and what it asks are read at its place; a name read from bytes is the target's. Assumes nothing.
use Prim.Native.Nat.{ℕ}
use Rattle.std.specs.Prelude as Code
use mathlib.Core.Path.{◌≡◌, sym, ap, ap₂, ◌∙◌}
use mathlib.Core.List.{List}
use Rattle.rules.specs.Kinds.{Ask}
use Rattle.rules.specs.Locks.{target, named, itself}
use Rattle.keys.specs.declared.Key.{Key}
use Rattle.entries.specs.declared.Entry as E
use Rattle.queue.specs.QueueLayout.{in_place, queued_at}
use Rattle.locks.specs.SlotLayout.{name_in, name_number}
use Rattle.locks.specs.SlotMoves.{held_in}
use Rattle.index.specs.Pictures.{entries_in}
use Rattle.index.specs.Searches.{book_found}
use Rattle.states.specs.States.{book}
use Rattle.states.specs.Whole.{Whole}
use Rattle.waits.specs.declared.Next.{Next}
use Rattle.waits.specs.Choices.{Known}
use Rattle.runs.proofs.Looks.{target_name}
use Rattle.runs.proofs.EntryChanges.{stands_named}

module _ (p d : List ℕ) (x : Next) (k : Known p d x) (t : ℕ) (a : t ≡ in_place d x.place) where
  own : x.own ≡ held_in d t (named book (book_found x.target))
  unfolding queued_at
  own = k.own ∙ ap (λ u. held_in d u (named book (book_found x.target))) (sym a)

  module _ (ask : Ask ℕ ℕ) (asks : (queued_at d x.place).asks ≡ ask) where
    pub next_target : book_found x.target ≡ target book (entries_in p) t ask
    unfolding queued_at
    next_target = k.target ∙ ap₂ (target book (entries_in p)) (sym a) asks

    -- by the target's name, and where the target is of the key by that
    pub own_named : Whole p d → (name : Key) → name.0 ≡ name_number (named book (book_found x.target)) → x.own ≡ held_in d t (name_in name.0)
    own_named w name e = own ∙ ap (held_in d t) (sym (target_name p d w t ask x.target next_target name e))

    pub own_there : Whole p d → (key : Key) (there : Code.Option E.Entry) → book_found there ≡ itself book key.0 (book_found x.target)
        → (e : E.Entry) → there ≡ Code.Some e → x.own ≡ held_in d t (name_in key.0)
    own_there w key there i e h = own ∙ ap (held_in d t) (stands_named p d w t ask x.target next_target key there i e h)
