-- A picture, pages and desk, read as the rule book's state; and the bytes that document 01 gives a desk. Assumes nothing.
use Prim.Native.Nat.{ℕ, ◌*◌, ◌-◌, compare}
use Rattle.std.specs.Prelude.{List, [], ◌∷◌, ◌++◌, eqb, length, get_or, replicate}
use Rattle.std.proofs.Math.Option.{Option, none, some}
use Rattle.limits.specs.Limits.{transactions_most, desk_size}
use Rattle.lists.specs.Lists.{tab, join, first}
use Rattle.numbers.specs.Numbers.{width_of, put_fields}
use Rattle.rules.specs.Kinds.{Book, Lock, Queued, Mark, idle, running}
use Rattle.rules.specs.Queue.{St}
use Rattle.rules.specs.Document.{document}
use Rattle.trees.specs.Trees.{document_sizes}
use Rattle.trees.specs.Shapes.{tree_paging, shape}
use Rattle.queue.specs.QueueLayout.{head_widths, record_widths, ask_fields, queue_of, marks_of}
use Rattle.locks.specs.SlotLayout.{lock_widths, slot_fields, slots_of}
use Rattle.index.specs.Pictures.{key_of, index_of, entries_in}

-- the rule book of document 01, with its tree of pages
abbrev pub book : Book
book = document (tree_paging compare 0 document_sizes)

-- what a picture says
unfoldable pub state_of : List ℕ → List ℕ → St book
state_of p d =
    record {
      entries = entries_in p;
      pages = shape key_of (index_of p);
      slots = slots_of d;
      queue = queue_of d;
      marks = marks_of d;
    }

-- "Desk: 32-byte head (length 4,672, kind 8, queue count, 26 zeros); queue of 16 two-byte transaction numbers, oldest first; 16
-- transactions of 32 bytes ..; 256 locks of 16 bytes .. Fields not in use are zero."
abbrev pub written : List ℕ → List ℕ → List ℕ
written ws vs = put_fields ws (replicate (width_of ws) 0) 0 vs

abbrev pub waiting_fields : Option (Queued ℕ ℕ) → List ℕ
waiting_fields none = 0 ∷ 0 ∷ 0 ∷ 0 ∷ []
waiting_fields (some q) = ask_fields q.asks

abbrev pub mark_number : Mark → ℕ
mark_number running = 1
mark_number idle = 0

unfoldable pub record_of : List (Queued ℕ ℕ) → List Mark → ℕ → List ℕ
record_of qs ms t =
    written record_widths (mark_number (get_or ms t idle) ∷ (waiting_fields (first (λ q. eqb q.asker t) qs) ++ (0 ∷ [])))

unfoldable pub desk_with : List (Option (Lock ℕ)) → List (Queued ℕ ℕ) → List Mark → List ℕ
desk_with ls qs ms =
    written head_widths (desk_size ∷ 8 ∷ length qs ∷ 0 ∷ 0 ∷ 0 ∷ 0 ∷ [])
    ++ (join (λ q. written (2 ∷ []) (q.asker ∷ [])) qs
    ++ (replicate (2 * (transactions_most - length qs)) 0
    ++ (join (record_of qs ms) (tab transactions_most 1 (λ t. t))
    ++ join (λ x. written lock_widths (slot_fields x)) ls)))
