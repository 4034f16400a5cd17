-- The entries of a state beside its tree, as far as a picture needs them: the tree is whole, its keys are the entries', records fit. Kept
-- by an insert of a missing key that fits, by a change that keeps keys, and by a transaction's end: the laws of the tree. Assumes nothing.
use Prim.Native.Nat.{ℕ, ◌<◌, compare}
use mathlib.Core.Path.{◌≡◌, refl, sym, ap, ap₂, subst, fun_ext, ◌∙◌}
use mathlib.Core.Logic.{◌⊎◌, inl, inr}
use mathlib.Core.Bool.{true, false, not, cond}
use mathlib.Core.List.{List, map, map-map}
use mathlib.Core.Option.{some}
use native.Mathlib.Omega.{arith}
use borrow.Author.Tests.{le-leb, lt-leb}
use lib.Dec.{eqb, leb, lit<}
use Rattle.lists.specs.Lists.{In, all, join, insert_before}
use Rattle.lists.proofs.Tests.{all_map}
use Rattle.lists.proofs.Elements.{in_all}
use Rattle.lists.proofs.Joins.{map_append, join_append}
use Rattle.lists.proofs.Places.{map_insert_before}
use Rattle.rules.specs.Document.{end_mark}
use Rattle.rules.specs.Entries.{present, inserted, left, settled, taken_out, put, changed}
use Rattle.rules.specs.Good.{ascending}
use Rattle.rules.proofs.Orders.{numbers_ordered}
use Rattle.rules.proofs.Index.{put_in, changed_in, settled_in}
use Rattle.trees.specs.Trees.{Index, WholeIndex, document_sizes, flat}
use Rattle.trees.specs.Growth.{missing, with_item, fits, in_leaves}
use Rattle.trees.specs.Shapes.{shape, without}
use Rattle.trees.proofs.ItemOrder.{flat_sorted}
use Rattle.trees.proofs.Wholes.{document_fair, with_whole, with_flat}
use Rattle.trees.proofs.Thinning.{map_thins, settled_thins, changed_key, flat_leaves, leaves_whole}
use Rattle.trees.proofs.ShapeSettling.{shape_settled}
use Rattle.index.specs.Pictures.{Item, key_of}
use Rattle.states.specs.States.{book}
use Rattle.pictures.specs.Drawing.{index_with, RecordsFit}
use Rattle.pictures.proofs.Pictures.{with_entries_whole, with_entries_shape, with_entries_flat}

-- ---- the shape of an index
pub shape_whole : (x : Index ℕ Item) → WholeIndex compare key_of 0 (some end_mark) document_sizes x
    → WholeIndex compare (λ k. k) 0 (some end_mark) document_sizes (shape key_of x)
unfolding shape
shape_whole x w =
    leaves_whole ℕ (map key_of) compare key_of (λ k. k) (map_thins key_of (λ k. k) key_of (λ e. refl)) 0 (some end_mark) document_sizes x w

pub shape_flat : (x : Index ℕ Item) → flat ℕ ℕ (shape key_of x).level (shape key_of x).tree ≡ map key_of (flat ℕ Item x.level x.tree)
unfolding shape in_leaves
shape_flat x = flat_leaves ℕ (map key_of) refl (map_append key_of) x.level x.tree

-- ---- entries and tree
pub record Shown (es : List Item) (x : Index ℕ ℕ) : Type 0 where
  pub index : WholeIndex compare (λ k. k) 0 (some end_mark) document_sizes x
  pub keys : flat ℕ ℕ x.level x.tree ≡ map key_of es
  pub records : (e : Item) → In e es → RecordsFit e

module _ (es : List Item) (x : Index ℕ ℕ) (h : Shown es x) where
  -- an insert of a missing key that fits
  module _ (t k r : ℕ) (low : k < end_mark) (small : r < 4294967296) (absent : (e : Item) → In e es → eqb e.key k ≡ false)
      (room : fits compare (λ j. j) 0 document_sizes k x ≡ true) where
    key_missing : missing compare (λ j. j) k (flat ℕ ℕ x.level x.tree) ≡ true
    key_missing =
        ap (all (λ j. not (eqb j k))) h.keys
        ∙ (all_map (λ j. not (eqb j k)) key_of es ∙ in_all (λ e. not (eqb e.key k)) es (λ e i. ap not (absent e i)))

    put_record : (e : Item) → (inserted t k r ≡ e) ⊎ In e es → RecordsFit e
    put_record e (inl z) = subst RecordsFit z (record { now = small; before = lit< tt })
    put_record e (inr i) = h.records e i

    pub shown_put : Shown (put book (inserted t k r) es) (with_item compare (λ j. j) 0 document_sizes k x)
    unfolding put
    shown_put =
        record {
          index = with_whole numbers_ordered (λ j. j) 0 (some end_mark) document_sizes document_fair k x h.index (le-leb 0 k (omega arith))
              (ap not (lt-leb end_mark k low)) key_missing room;
          keys = with_flat numbers_ordered (λ j. j) 0 (some end_mark) document_sizes document_fair k x h.index (le-leb 0 k (omega arith))
              (ap not (lt-leb end_mark k low))
              ∙ (ap (insert_before (leb k) k) h.keys ∙ sym (map_insert_before (leb k) key_of (inserted t k r) es));
          records = λ e i. put_record e (put_in book (inserted t k r) es e i);
        }

  -- a change of an entry that keeps its key and leaves records that fit
  module _ (f : Item → Item) (same : (e : Item) → (f e).key ≡ e.key) (small : (e : Item) → RecordsFit e → RecordsFit (f e)) where
    pub shown_changed : (k : ℕ) → Shown (changed book k f es) x
    unfolding changed
    shown_changed k =
        record {
          index = h.index;
          keys = h.keys
              ∙ sym (map-map key_of (λ e. cond (eqb e.key k) (f e) e) es ∙ ap (λ g. map g es) (fun_ext (changed_key book k f same)));
          records = λ e i. record_of e (changed_in book k f es e i);
        }
      where
        record_of : (e : Item) → In e es ⊎ ((y : Item) × In y es × (eqb y.key k ≡ true) × (f y ≡ e)) → RecordsFit e
        record_of e (inl i) = h.records e i
        record_of e (inr w) = subst RecordsFit w.3 (small w.0 (h.records w.0 w.1))

    -- the end of a transaction: the tree with its entries has the shape that is left
    module _ (t : ℕ) (up : ascending book es ≡ true) where
      abbrev y : Index ℕ Item
      y = index_with es x

      abbrev z : Index ℕ Item
      z = in_leaves ℕ Item Item (settled f t) y

      items : flat ℕ Item y.level y.tree ≡ es
      items = with_entries_flat es x up h.keys

      y_whole : WholeIndex compare key_of 0 (some end_mark) document_sizes y
      y_whole = with_entries_whole es x h.index

      left_shape : shape key_of z ≡ without compare (taken_out f t es) x
      left_shape =
          shape_settled numbers_ordered f same t y (flat_sorted numbers_ordered key_of 0 y.level 0 (some end_mark) y.tree y_whole.keys).order
          ∙ ap₂ (λ zs v. without compare (taken_out f t zs) v) items (with_entries_shape es x)

      left_flat : flat ℕ Item z.level z.tree ≡ settled f t es
      unfolding in_leaves settled join
      left_flat = flat_leaves ℕ (settled f t) refl (join_append (left f t)) y.level y.tree ∙ ap (settled f t) items

      pub shown_settled : Shown (settled f t es) (without compare (taken_out f t es) x)
      shown_settled =
          record {
            index = subst (WholeIndex compare (λ k. k) 0 (some end_mark) document_sizes) left_shape
                (shape_whole z (leaves_whole ℕ (settled f t) compare key_of key_of (settled_thins f same t) 0 (some end_mark) document_sizes y y_whole));
            keys = ap (λ (v : Index ℕ ℕ). flat ℕ ℕ v.level v.tree) (sym left_shape) ∙ (shape_flat z ∙ ap (map key_of) left_flat);
            records = λ e i. record_of e (settled_in f t es e i);
          }
        where
          record_of : (e : Item)
              → (In e es × (eqb e.owner t ≡ false)) ⊎ ((v : Item) × In v es × (eqb v.owner t ≡ true) × (present (f v) ≡ true) × (f v ≡ e))
              → RecordsFit e
          record_of e (inl w) = h.records e w.0
          record_of e (inr w) = subst RecordsFit w.4 (small w.0 (h.records w.0 w.1))
