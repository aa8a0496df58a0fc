use mathlib.Core.Bool.{false}
use Prim.Native.Nat.{◌<◌}
use native.Mathlib.Omega.{arith}
use lib.ListN.{length}
use Rattle.rules.specs.Record.{record_head}
use Rattle.buffer.proofs.Laws.{splice_chain}
use Rattle.tables.specs.Entries.{entries_of}
use Rattle.records.specs.Empty.{empty_from}
use Rattle.records.proofs.EmptyEntries.{writing_room, writing_turn, writing_end}
use Rattle.records.proofs.empty.write_empty.Goals as goal

pub write_entry-at-requires : goal.write_entry-at-requires
write_entry-at-requires c =
    let h : c.loop-i.i < length (entries_of c.args.t.now) = omega arith in
    (c.requires.0, h, writing_room c.loop-i.invariant h _ c.inside_next-inside.ensures)

pub loop-i-preserved : goal.loop-i-preserved
loop-i-preserved c = writing_turn c.loop-i.invariant (omega arith) _ c.inside_next-inside.ensures _ _ c.write_entry-at.ensures.0 c.write_entry-at.ensures.1

pub returns : goal.returns
unfolding record_head
returns c =
    splice_chain 0 record_head (empty_from false (entries_of c.args.t.now)) c.args.out.now _ _ _ c.put_head-at.ensures.1
    (writing_end c.loop-i.invariant (omega arith)) c.put_head-at.ensures.0 (omega (arith, c.requires.1))
