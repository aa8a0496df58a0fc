-- `reading::cells::put_converted` meets its contract: the values that are left fill the buffer as all of them do from the start.
use mathlib.Core.List.{List}
use Rattle.rules.specs.Lists.{Bytes}
use Rattle.reading.specs.Cells.{Stand}
use Rattle.reading.proofs.Converting.{Converting}
use Rattle.reading.proofs.cells.put_converted.Given as goal

abbrev pub invariant-loop : goal.invariant-loop
invariant-loop l = (us : List Bytes) → Stand l.w l.b l.from l.n us → Converting l.w l.b l.end l.n us l.counter l.q l.at l.p l.write l.initial.out l.out
