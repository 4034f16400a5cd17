-- `answers::put_answer` meets its contract: six numbers written one after the other are the record. Each write's fact is named by the field.
-- Assumes nothing.
use Rattle.answers.proofs.AnswerPut.{answer_written}
use Rattle.answers.proofs.put_answer.Goals as goal

pub returns : goal.returns
returns c =
    answer_written _ _ _ _ _ _ _ _ c.args.a _ c.paper-paper.ensures
    c.write_u16.ensures
    c.write_u16-2.ensures
    c.write_u16-3.ensures
    c.write_u16-4.ensures
    c.write.ensures
    c.write_u32.ensures
