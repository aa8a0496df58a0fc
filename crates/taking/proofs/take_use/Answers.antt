-- `taking::take_use` meets its contract: each kind of use has its own items.
use mathlib.Core.Path.{refl}
use mathlib.Core.Logic.{⊎_elim}
use Rattle.tables.specs.Entries.{entries_of}
use Rattle.uses.proofs.SpanFields.{span_items}
use Rattle.taking.proofs.Passing.{use_blanks, use_text, use_group_count, use_value_count}
use Rattle.taking.proofs.take_use.Goals as goal

pub returns-in-Text : goal.returns-in-Text
returns-in-Text c f good =
    let a = c.args in
    use_text (entries_of a.t.now) a.buffer.now _ a.s a.list.now a.stage.now f c.pass-in-Text.ensures c.in-Text.from c.in-Text.upto refl c.in-Text.is good

pub returns-in-GroupCount : goal.returns-in-GroupCount
returns-in-GroupCount c f good =
    let a = c.args in
    let p = c.pass-in-GroupCount.ensures in
    ⊎_elim
    (λ w. use_group_count (entries_of a.t.now) a.buffer.now 1 a.s a.list.now a.stage.now f p w.0 refl w.1)
    (λ w. use_value_count (entries_of a.t.now) a.buffer.now 1 a.s a.list.now a.stage.now f p w.0 w.1 refl w.2) c.in-GroupCount.is

pub returns-in-Values : goal.returns-in-Values
returns-in-Values c f good =
    let a = c.args in
    rw (c.in-Values.is, span_items (entries_of a.t.now) f c.in-Values.span) c.take_occurrences.ensures

pub returns-in-Blanks : goal.returns-in-Blanks
returns-in-Blanks c f good =
    let a = c.args in
    use_blanks (entries_of a.t.now) a.buffer.now c.in-Blanks.n a.s a.list.now a.stage.now f c.pass.ensures c.in-Blanks.is
