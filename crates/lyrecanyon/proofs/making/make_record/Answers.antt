-- `lyrecanyon::making::make_record` meets its contract: the record that was put is the new one, and want of room in the array is refusal 10.
use Rattle.lyrecanyon.proofs.Makings.{record_answered}
use borrow.Author.Rules.{rules}
use Rattle.lyrecanyon.proofs.making.make_record.Goals as goal

pub returns : goal.returns
returns c ws a r held = record_answered c.args.table.now c.requires.0 c.requires.2 c.put_record-answer.ensures r ws held a _ (λ x y h. search rules) c.map_err.result c.map_err.ensures.cases
