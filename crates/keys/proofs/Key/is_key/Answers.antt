-- `keys::Key::is_key` meets its contract: what lies from the lowest to the highest is below the end.
-- Assumes nothing.
use borrow.Author.Rules.{rules}
use Rattle.keys.proofs.KeyMarks.{key_range}
use Rattle.keys.proofs.Key.is_key.Goals as goal

pub returns : goal.returns
returns c = search (rules, key_range)
