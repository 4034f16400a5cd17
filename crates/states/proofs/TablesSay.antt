-- A picture of whole pages and the desk of tables that fit says the state of those entries, pages and tables, if that state is good.
-- The desk's bytes are those of its tables, by the laws of desks; entries and pages do not depend on the desk. Assumes nothing.
use Prim.Native.Nat.{ℕ, ◌≤◌}
use mathlib.Core.Path.{◌≡◌, sym, ap, subst, ◌∙◌}
use mathlib.Core.List.{List}
use mathlib.Core.Option.{Option}
use native.Mathlib.Omega.{arith}
use lib.ListN.{length}
use Rattle.limits.specs.Limits.{transactions_most}
use Rattle.rules.specs.Kinds.{Lock, Queued, Mark}
use Rattle.rules.specs.Queue.{St}
use Rattle.rules.specs.Good.{Good}
use Rattle.trees.specs.Shapes.{shape}
use Rattle.queue.specs.QueueLayout.{queued, queue_of, marks_of}
use Rattle.locks.specs.SlotLayout.{slots_of}
use Rattle.queue.proofs.QueueBytes.{length_queue}
use Rattle.index.specs.Pictures.{key_of, index_of, entries_in, WholePages}
use Rattle.states.specs.States.{book, state_of, desk_with}
use Rattle.states.specs.Whole.{Whole, Says}
use Rattle.states.specs.Fitting.{Fitting}
use Rattle.states.proofs.Reading.{desk_length}
use Rattle.states.proofs.Itself.{itself_fits, desk_itself, desk_state}

-- the state of these pages and tables
abbrev pub state_with : List ℕ → List (Option (Lock ℕ)) → List (Queued ℕ ℕ) → List Mark → St book
state_with p ls qs ms = record { entries = entries_in p; pages = shape key_of (index_of p); slots = ls; queue = qs; marks = ms }

pub tables_say : (p : List ℕ) → WholePages p → (ls : List (Option (Lock ℕ))) (qs : List (Queued ℕ ℕ)) (ms : List Mark) → Fitting ls qs ms
    → (d : List ℕ) → d ≡ desk_with ls qs ms → (s : St book) → Good book s → s ≡ state_with p ls qs ms → Says p d s
tables_say p pages ls qs ms fit d e s good h =
    let is : state_of p d ≡ s = desk_state ls qs ms fit d e p ∙ sym h in
    record {
      whole = record {
        pages = pages;
        size = ap length e ∙ desk_length ls qs ms fit;
        desk = desk_itself ls qs ms fit d e;
        values = subst (Good book) (sym is) good;
      };
      state = is;
    }

-- the tables of a whole picture fit
pub whole_fits : (p d : List ℕ) → Whole p d → Fitting (slots_of d) (queue_of d) (marks_of d)
whole_fits p d w = itself_fits d w.desk p w.values

pub whole_few : (p d : List ℕ) → Whole p d → queued d ≤ transactions_most
whole_few p d w = let h = (whole_fits p d w).few in omega (arith, length_queue d)
