-- `index::search::find_in` meets its contract. The loop's invariant: what is sought is the first of the entries from i on. Assumes nothing.
use Prim.Native.Nat.{◌-◌}
use mathlib.Core.Path.{◌≡◌}
use Rattle.lists.specs.Lists.{first, tab}
use Rattle.pages.specs.PageLayout.{entry_at, entries_of}
use Rattle.index.specs.Searches.{seeks}
use Rattle.index.proofs.search.find_in.Given as goal

abbrev pub invariant-loop-i : goal.invariant-loop-i
invariant-loop-i l = first (seeks l.w) (entries_of l.p) ≡ first (seeks l.w) (tab (l.n - l.i) l.i (entry_at l.p))
