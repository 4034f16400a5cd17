-- One request against another, and all who block one: who holds what it wants, and, where it holds no lock on it, who wants it ahead of it.
-- Assumes nothing.
use Prim.Native.Nat.{ℕ, compare}
use mathlib.Core.Path.{◌≡◌, sym, ap, ap₂, ◌∙◌}
use mathlib.Core.Bool.{Bool, cond, not, ◌&&◌}
use mathlib.Core.List.{List, [], ◌++◌}
use lib.Dec.{eqb, ltb}
use Rattle.limits.specs.Limits.{locks_most}
use Rattle.rules.specs.Kinds.{Name, Paging}
use Rattle.rules.specs.Locks as K
use Rattle.trees.specs.Trees.{document_sizes}
use Rattle.trees.specs.Shapes.{tree_paging}
use Rattle.queue.specs.QueueLayout.{queued_at}
use Rattle.locks.specs.SlotLayout.{slots_of}
use Rattle.locks.specs.SlotMoves.{held_in}
use Rattle.locks.proofs.Takes.{holds_is}
use Rattle.index.specs.Pictures.{entries_in}
use Rattle.states.specs.States.{book}
use Rattle.waits.specs.declared.Want.{Want}
use Rattle.waits.specs.Choices.{book_want}
use Rattle.waits.specs.Blocks.{ahead, WantAt, blockers_at, is_rival}

abbrev pub paging : Paging ℕ
paging = tree_paging compare 0 document_sizes

-- ---- one want, and one request, against another
pub rival_at : (p d : List ℕ) (i : ℕ) (v w : Want) (b : Bool) → WantAt p d i v
    → b ≡ (not (eqb v.asker w.asker) && K.clash book (book_want v) (book_want w)) → b ≡ is_rival p w.asker (book_want w) (queued_at d i)
unfolding queued_at
rival_at p d i v w b k x =
    x ∙ ap₂ (λ a z. not (eqb a w.asker) && z) k.asker (ap (λ z. K.clash book z (book_want w)) k.want)

-- ---- whether t holds a lock on what it wants
pub holds_by : (d : List ℕ) (t k : ℕ) (n : Name ℕ) → k ≡ held_in d t n → K.holds book (slots_of d) t n ≡ ltb k locks_most
holds_by d t k n e = holds_is paging d t n ∙ ap (λ x. ltb x locks_most) (sym e)

-- ---- the request at a place, with what it wants
module _ (p d : List ℕ) (q : ℕ) (w : Want) (k : WantAt p d q w) where
  abbrev t : ℕ
  t = w.asker

  abbrev holding : List ℕ
  holding = K.holders book (slots_of d) t (book_want w)

  abbrev waiting : List ℕ
  waiting = K.earlier book (entries_in p) (ahead d q) t (book_want w)

  pub blockers_are : blockers_at p d q ≡ holding ++ cond (K.holds book (slots_of d) t (book_want w).name) [] waiting
  unfolding blockers_at K.blockers queued_at
  blockers_are =
      ap₂ (λ u v. K.holders book (slots_of d) u v ++ cond (K.holds book (slots_of d) u v.name) [] (K.earlier book (entries_in p) (ahead d q) u v))
      (sym k.asker) (sym k.want)
