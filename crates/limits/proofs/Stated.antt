-- What is computed comes to the numbers that document 01 states. Each by computing. Assumes nothing.
use mathlib.Core.Path.{◌≡◌, refl}
use Rattle.limits.specs.Limits as L

-- "What the desk says": "pages not 32,768 bytes, desk not 4,672, or answers under 320"; "Records and pages": "up to 24 entries of 20 bytes",
-- "up to 30 children of 16 bytes", "A full leaf with one more (25): the lowest 13 stay, 12 move", "Inner (31): 16 stay, 15 move", "16
-- transactions of 32 bytes", "256 locks of 16 bytes", "read: lo, hi (24)", "insert (24)", "delete: key (16)", "Answer: length 20"; "other inner
-- pages with 15 to 30"
pub record Stated : Type 0 where
  pub pages : L.pages_size ≡ 32768
  pub desk : L.desk_size ≡ 4672
  pub space : L.space_least ≡ 320
  pub entry : L.entry_size ≡ 20
  pub leaf : L.leaf_most ≡ 24
  pub leaf_stays : L.leaf_stay ≡ 13
  pub leaf_goes : L.leaf_go ≡ 12
  pub child : L.child_size ≡ 16
  pub inner_stays : L.inner_stay ≡ 16
  pub inner_goes : L.inner_go ≡ 15
  pub inner_least : L.inner_fewest ≡ 15
  pub transaction : L.record_size ≡ 32
  pub slot : L.slot_size ≡ 16
  pub read : L.read_size ≡ 24
  pub insert : L.insert_size ≡ 24
  pub delete : L.delete_size ≡ 16
  pub answer : L.answer_size ≡ 20

pub stated : Stated
stated =
    record {
      pages = refl;
      desk = refl;
      space = refl;
      entry = refl;
      leaf = refl;
      leaf_stays = refl;
      leaf_goes = refl;
      child = refl;
      inner_stays = refl;
      inner_goes = refl;
      inner_least = refl;
      transaction = refl;
      slot = refl;
      read = refl;
      insert = refl;
      delete = refl;
      answer = refl;
    }
