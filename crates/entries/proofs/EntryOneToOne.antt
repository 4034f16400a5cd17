-- The maps from the code's values to the rule book's are one to one: two values that mean the same are the same. Here records and entries.
-- By a map back. Assumes nothing.
use Prim.Native.Nat.{ℕ}
use Rattle.std.specs.Prelude as Code
use mathlib.Core.Path.{◌≡◌, refl, sym, ap, ap₂, ◌∙◌}
use mathlib.Core.Option.{Option, none, some}
use Rattle.rules.specs.Kinds as K
use Rattle.entries.specs.declared.Entry.{Entry}
use Rattle.entries.specs.EntryMeaning.{book_value, book_entry}

pub one_to_one : {A B : Type 0} (f : A → B) (g : B → A) → ((x : A) → g (f x) ≡ x) → (x y : A) → f x ≡ f y → x ≡ y
one_to_one f g back x y e = sym (back x) ∙ ap g e ∙ back y

-- ---- entries
abbrev pub value_of : Option ℕ → Code.Option ℕ
value_of (some r) = Code.Some r
value_of none = Code.None

pub value_back : (v : Code.Option ℕ) → value_of (book_value v) ≡ v
value_back (Code.Some r) = refl
value_back Code.None = refl

pub value_inj : (a b : Code.Option ℕ) → book_value a ≡ book_value b → a ≡ b
value_inj = one_to_one book_value value_of value_back

abbrev entry_of : K.Entry ℕ ℕ → Entry
entry_of e = record { key = record { 0 = e.key }; owner = e.owner; now = value_of e.now; before = value_of e.before }

entry_back : (e : Entry) → entry_of (book_entry e) ≡ e
entry_back e = ap₂ (λ v w. record { key = e.key; owner = e.owner; now = v; before = w }) (value_back e.now) (value_back e.before)

pub entry_inj : (a b : Entry) → book_entry a ≡ book_entry b → a ≡ b
entry_inj = one_to_one book_entry entry_of entry_back
