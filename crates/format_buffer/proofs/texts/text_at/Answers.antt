-- `format_buffer::texts::text_at` meets its contract: its piece is that of the bytes between the bounds of the text.
use Rattle.format_buffer.proofs.Joins.{bounded_as, reached_if}
use Rattle.format_buffer.proofs.texts.text_at.Goals as goal

pub returns : goal.returns
returns c =
    record {
      answer = bounded_as c.bounds_at-b.ensures c.piece_at-piece.ensures.answer;
      place = reached_if c.bounds_at-b.ensures c.piece_at-piece.result c.piece_at-piece.ensures.answer;
      sound = c.piece_at-piece.ensures.sound;
    }
