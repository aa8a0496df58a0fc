-- `protocol::put_words` meets its contract: the number, the length and the bytes are written one after the other.
use borrow.Author.Rules.{rules}
use Rattle.protocol.proofs.AnswerLine.{words}
use Rattle.protocol.proofs.put_words.Goals as goal

pub returns : goal.returns
returns c =
    words c.args.number c.args.at c.args.bytes.now c.args.out.now _ _ _ _ _ _ _ (search rules) c.requires.1
    c.put_field-after_number.ensures c.put_field-after_length.ensures c.encode.ensures
