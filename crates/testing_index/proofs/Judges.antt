-- A buffer that passes the judge's test is whole, and a key that the first entry at or above it does not have is missing in it.
-- Assumes nothing.
use Prim.Native.Nat.{ℕ, ◌<◌, compare}
use Rattle.std.specs.Prelude as Code
use Rattle.std.specs.Option.{MatchOption}
use mathlib.Core.Path.{◌≡◌, refl, sym, ap, subst, fun_ext, ◌∙◌}
use mathlib.Core.Bool.{Bool, true, false, not, ◌&&◌, ◌||◌}
use mathlib.Core.List.{List}
use mathlib.Core.Option.{some, none-ne-some, some-injective}
use borrow.Author.Tests.{not-false, ltb-true}
use lib.Dec.{leb, eqb, ltb}
use lib.ListN.{length}
use Rattle.limits.specs.Limits.{pages_size}
use Rattle.lists.specs.Lists.{first}
use Rattle.numbers.specs.Numbers.{Bytes}
use Rattle.rules.specs.Document.{end_mark}
use Rattle.entries.specs.EntryMeaning.{book_entry}
use Rattle.entries.specs.declared.Entry as E
use Rattle.keys.specs.declared.Key.{Key}
use Rattle.trees.specs.Growth.{missing}
use Rattle.index.specs.Pictures.{Item, key_of, entries_in, WholePages}
use Rattle.index.specs.Searches.{seeks, book_found}
use Rattle.index.proofs.EntriesIn.{key_missing}
use Rattle.judging_pages.specs.Walks.{pages_ok}
use Rattle.judging_pages.proofs.PagesJudged.{pages_sound}
use Rattle.testing_index.specs.Judging.{Held, Sees}

-- ---- the judge
pub held : (s : List ℕ) (r : Bool) → Bytes s → length s ≡ pages_size → r ≡ pages_ok s → Held s r
held s r b size e = record { whole = λ t. (pages_sound s b size (sym e ∙ t)).whole }

pub whole_now : (s : List ℕ) (r : Bool) → Held s r → not r ≡ false → WholePages s
whole_now s r h e = h.whole (not-false r e)

-- ---- a key that is missing
-- nobody asks, so that any entry at or above the key is sought
any_sought : (k : Key) (x : Item) → seeks (record { lo = k; hi = k; asker = 0 }) x ≡ leb k.0 x.key
any_sought k x = go (leb k.0 x.key) (leb x.key k.0)
  where
    go : (a b : Bool) → (a && (not b || true)) ≡ a
    go true true = refl
    go true false = refl
    go false b = refl

module _ (s : List ℕ) (k : Key) (w : WholePages s) (f : Code.Option E.Entry) (e : book_found f ≡ first (seeks (record { lo = k; hi = k; asker = 0 })) (entries_in s)) where
  found : first (λ (x : Item). leb k.0 x.key) (entries_in s) ≡ book_found f
  found = sym (e ∙ ap (λ p. first p (entries_in s)) (fun_ext (any_sought k)))

  -- what the test of the entry found says
  pub key_there : (P : E.Entry → Type 0) (r : Bool) → MatchOption f (r ≡ false) P
      → ((x : E.Entry) → P x → r ≡ eqb x.key.0 k.0) → Sees s k.0 r
  key_there P r m says = record { absent = λ t. key_missing s w k.0 (λ y o. go t y o f refl m) }
    where
      go : r ≡ false → (y : Item) → first (λ (x : Item). leb k.0 x.key) (entries_in s) ≡ some y → (g : Code.Option E.Entry) → f ≡ g
          → MatchOption g (r ≡ false) P → eqb y.key k.0 ≡ false
      go t y o Code.None n m = absurd (none-ne-some y (sym (ap book_found n) ∙ sym found ∙ o))
      go t y o (Code.Some x) n m =
          subst (λ z. eqb z.key k.0 ≡ false) (some-injective (book_entry x) y (sym (ap book_found n) ∙ sym found ∙ o)) (sym (says x m) ∙ t)

pub missing_now : (s : List ℕ) (k : ℕ) (r : Bool) → Sees s k r → r ≡ false → missing compare key_of k (entries_in s) ≡ true
missing_now s k r h e = h.absent e

pub below_end : (k : ℕ) (r : Bool) → r ≡ ltb k end_mark → not r ≡ false → k < end_mark
below_end k r e h = ltb-true k end_mark (sym e ∙ not-false r h)
