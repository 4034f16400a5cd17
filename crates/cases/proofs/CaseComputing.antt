-- What a session that is played computes by. Whoever unfolds one of these unfolds all that its line names, so that a proof by computation
-- says in a word what it computes with. Assumes nothing.
use Rattle.lists.specs.Lists as L
use Rattle.numbers.specs.Numbers as N
use Rattle.rules.proofs.Computing as B
use Rattle.trees.specs.Growth as G
use Rattle.requests.specs.RequestRecord as W
use Rattle.answers.specs.AnswerRecord as An
use Rattle.cases.specs.Overs as O

-- the rule book
unfoldable pub the_book : Unit {0}
unfolding B.the_book
the_book = tt

-- its pages, as a tree
unfoldable pub the_pages : Unit {0}
unfolding G.grown G.rooted G.with_item G.full_run G.needed G.fits G.leaves G.in_leaves
the_pages = tt

-- requests as their records, heard
unfoldable pub the_records : Unit {0}
unfolding N.number_at N.put_number N.put_fields N.fields_at N.width_of W.forms W.requests W.call_in W.is_bad W.heard O.request_record
the_records = tt

-- answers as their bytes
unfoldable pub the_answers : Unit {0}
unfolding L.join N.put_number N.put_fields An.answer_fields An.put_answer
the_answers = tt

-- document 01's cases, as they are stated and scored
unfoldable pub the_cases : Unit {0}
unfolding B.the_cases O.scorecard
the_cases = tt
