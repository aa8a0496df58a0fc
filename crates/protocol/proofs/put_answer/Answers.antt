-- `protocol::put_answer` meets its contract: the newline is stored where the words end.
use Rattle.protocol.proofs.AnswerLine.{answers}
use Rattle.protocol.proofs.put_answer.Goals as goal

pub returns : goal.returns
returns c = answers c.args.number c.args.at c.args.bytes.now c.args.out.now _ _ c.requires.1 c.put_words-end.ensures
