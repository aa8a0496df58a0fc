-- `reading::cells::none_from` meets its contract: as many values are missing as are meant.
use Rattle.reading.proofs.Existing.{exist_none}
use Rattle.reading.proofs.cells.none_from.Goals as goal

pub returns : goal.returns
returns c w b vs m l = exist_none w b vs m l
