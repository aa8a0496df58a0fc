-- `hexadecimal::take_bytes` meets its contract: no word, a word that spells no bytes, or its bytes.
use Rattle.hexadecimal.proofs.Taking.{takes_beyond, takes_none, takes_some}
use Rattle.hexadecimal.proofs.take_bytes.Goals as goal

pub returns-then-line-at : goal.returns-then-line-at
returns-then-line-at c = takes_beyond c.args.line.now c.args.at c.args.start c.args.out.now c.requires.0 c.requires.1 c.if-line-at.true

pub returns-in-Some : goal.returns-in-Some
returns-in-Some c = takes_some _ _ _ _ _ _ c.if-line-at.false c.requires.1 c.find-stop.ensures.0 _ c.find-stop.ensures.2 c.in-Some.ensures

pub returns-in-None : goal.returns-in-None
returns-in-None c = takes_none _ _ _ _ _ _ c.if-line-at.false c.requires.1 c.find-stop.ensures.0 c.in-None.ensures
