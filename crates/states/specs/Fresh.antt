-- Document 01, "Fresh: page 1 is an empty leaf and the root, used 2, height 1, desk empty." Assumes nothing.
use Rattle.std.specs.Prelude.{ℕ, suc, List, [], replicate}
use Rattle.std.proofs.Math.Option.{none}
use Rattle.limits.specs.Limits.{transactions_most, locks_most, pages_size}
use Rattle.rules.specs.Kinds.{idle}
use Rattle.index.specs.Pictures.{put_page, head_page, leaf_page}
use Rattle.states.specs.States.{desk_with}

unfoldable pub fresh_pages : List ℕ
fresh_pages = put_page (put_page (replicate pages_size 0) 1 (leaf_page [])) 0 (head_page 1 2 1)

unfoldable pub fresh_desk : List ℕ
fresh_desk = desk_with (replicate locks_most none) [] (replicate (suc transactions_most) idle)
