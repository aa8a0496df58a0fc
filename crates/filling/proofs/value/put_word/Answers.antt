-- `filling::value::put_word` meets its contract: the value is outside, or the word that it is lies in the range and fits, and is written in its room.
use native.Mathlib.Omega.{arith}
use Rattle.values.proofs.Chosen.{word_source, word_beyond, word_asked, word_done, word_written}
use Rattle.filling.proofs.Singles.{by_value}
use Rattle.filling.proofs.value.put_word.Goals as goal

pub to_word-requires : goal.to_word-requires
to_word-requires c = word_source c.requires.0 c.args.natural c.requires.1

pub returns-in_err-v : goal.returns-in_err-v
returns-in_err-v c = grind (arith, by_value, word_beyond c.requires.0 c.args.natural c.requires.1)

pub returns-then-write : goal.returns-then-write
returns-then-write c =
    let a = c.requires.0 in
    let n = c.args.natural in
    grind (arith, by_value, word_asked a n c.requires.1, word_done a n c.requires.1, word_written a n c.requires.1)
