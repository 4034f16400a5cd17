-- `desk::freshen` meets its contract: the fresh pages and the empty desk are a fresh picture.
-- Assumes nothing.
use borrow.Author.Rules.{rules}
use Rattle.desk.proofs.Serves.{as_array, freshened_desk, freshened_made}
use Rattle.desk.proofs.freshen.Goals as goal

pub returns-in_err-desk : goal.returns-in_err-desk
returns-in_err-desk c =
    let p = as_array c.as_mut_array.ensures.cases c.in_ok-pages.ensures.ok_part in
    freshened_desk p (search rules) (search rules)

pub returns : goal.returns
returns c =
    let p = as_array c.as_mut_array.ensures.cases c.in_ok-pages.ensures.ok_part in
    let d = as_array c.as_mut_array-2.ensures.cases c.in_ok-desk.ensures.ok_part in
    freshened_made p d (search rules) (search rules)
