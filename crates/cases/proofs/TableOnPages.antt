-- The table of cases holds over the tree of pages too: played on each case, the rule book of document 01 with its pages gives what the
-- case states. By computation. Assumes nothing.
use Prim.Native.Nat.{compare}
use mathlib.Core.Path.{refl}
use Rattle.rules.specs.Cases as C
use Rattle.trees.specs.Trees.{document_sizes}
use Rattle.trees.specs.Shapes.{tree_paging}
use Rattle.cases.proofs.CaseComputing.{the_book, the_pages, the_cases}

pub cases_hold_in_pages : C.AllHold (tree_paging compare 0 document_sizes)
unfolding the_book the_pages the_cases C.played_with C.stated
cases_hold_in_pages = record { how_many = refl; hold = refl; how_many_tight = refl; hold_tight = refl }
