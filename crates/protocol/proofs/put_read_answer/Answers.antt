-- `protocol::put_read_answer` meets its contract: the space is stored where the words end, and the length that is needed is written after it.
use Rattle.protocol.proofs.AnswerLine.{answers_read}
use Rattle.protocol.proofs.put_read_answer.Goals as goal

pub returns : goal.returns
returns c =
    answers_read c.args.number c.args.at c.args.bytes.now c.args.out.now c.args.needed _ _ _ _ c.requires.2
    c.put_words-end.ensures c.put_field.ensures
