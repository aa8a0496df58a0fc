-- `lyrecanyon::making::make_items` meets its contract: a refused item is the outcome's, a full stage is refusal 10, and else the record is made by
-- the assignments that the list holds.
use mathlib.Core.Path.{◌≡◌, refl, ◌∙◌, ap, subst}
use mathlib.Core.List.{List}
use mathlib.Core.Bool.{true, false}
use Rattle.std.proofs.lemmas.Result.{err_from_is_err_and}
use Prim.Native.Nat.{◌<◌}
use lib.ListN.{length}
use Rattle.rules.specs.Limits.{longest_new_record}
use Rattle.rules.specs.Outcome.{Outcome, done, ◌>>=◌}
use Rattle.rules.specs.Lists.{Bytes}
use Rattle.rules.specs.Update.{Assignment}
use Rattle.tables.specs.Entries.{entries_of}
use Rattle.rules.proofs.Steps.{by_test, true_T}
use Rattle.tables.proofs.Tables.{valid_names}
use Rattle.assignments.specs.Notes.{bytes_given, Unindexed, Listed}
use Rattle.taking.specs.Taking.{Gave}
use Rattle.updating.specs.New.{Assigns}
use Rattle.lyrecanyon.specs.Making.{Apart, given, new_record}
use Rattle.lyrecanyon.proofs.Makings.{stage_over, assigns, makes_by}
use Rattle.lyrecanyon.proofs.making.make_items.Goals as goal
use Rattle.lyrecanyon.proofs.making.make_items.Goals.{After-index, Else-taken, In_ok-taken}

gave : (c : In_ok-taken) (f : Bytes) → Apart (entries_of c.args.table.now) f c.args.kept.now c.args.count
    → (ws : List Assignment) × (given (entries_of c.args.table.now) f c.args.kept.now c.args.count c.args.buffer.now ≡ done ws)
    × (c.in_ok-taken.taken.full ≡ true → longest_new_record < length (bytes_given ws))
    × (c.in_ok-taken.taken.full ≡ false → Listed (entries_of c.args.table.now) f c.args.kept.now c.args.count c.take.new.list c.take.new.stage ws)
    × Unindexed c.take.new.list
gave c f a =
    let es = entries_of c.args.table.now in
    subst (Gave es f c.args.buffer.now c.args.kept.now c.args.count c.take.new.list c.take.new.stage) c.in_ok-taken.was (c.take.ensures f a.good)

pub take-requires : goal.take-requires
take-requires c =
    let (f, a) = c.requires.2 in
    (c.requires.0, a.room, (f, a.good), (c.requires.3.few, c.requires.3.room, refl, c.requires.3.zeros))

pub returns-then-taken : goal.returns-then-taken
returns-then-taken c f a r held =
    let g = gave (goal.at.returns-then-taken c).In_ok-taken f a in
    ap (λ (z : Outcome (List Assignment)). z >>= new_record (entries_of c.args.table.now) r) g.1
    ∙ stage_over c.args.table.now c.requires.0 a c.args.buffer.now g.1 (g.2 (by_test c.in_ok-taken.taken.full (λ t. t) (λ t. let z = rw t at c.if-taken.true in cc))) r

unfull : (c : Else-taken) → c.in_ok-taken.taken.full ≡ false
unfull c = by_test c.in_ok-taken.taken.full (λ t. let z = rw t at c.if-taken.false in cc) (λ t. t)

pub index-requires : goal.index-requires
index-requires c =
    let d = goal.at.index-requires c in
    let (f, a) = c.requires.2 in
    let g = gave d.In_ok-taken f a in
    (c.requires.0, g.4, (f, c.take.new.stage, g.0, g.3 (unfull d.Else-taken)))

-- The list can be searched then.
indexed : (c : After-index) (f : Bytes) → (a : Apart (entries_of c.args.table.now) f c.args.kept.now c.args.count) (ws : List Assignment)
    → given (entries_of c.args.table.now) f c.args.kept.now c.args.count c.args.buffer.now ≡ done ws → Listed (entries_of c.args.table.now) f c.args.kept.now c.args.count c.take.new.list c.take.new.stage ws
    → Assigns (entries_of c.args.table.now) c.args.kept.now c.index.new.list c.take.new.stage ws
indexed c f a ws e l = assigns c.args.table.now c.requires.0 a c.args.buffer.now e (c.index.ensures f c.take.new.stage ws l (record { apart = true_T (valid_names c.args.table.now c.requires.0); once = a.once }))

pub make_record-requires : goal.make_record-requires
make_record-requires c =
    let d = goal.at.make_record-requires c in
    let (f, a) = c.requires.2 in
    let g = gave d.In_ok-taken f a in
    (c.requires.0, (c.requires.1, (g.0, indexed d.After-index f a g.0 g.1 (g.3 (unfull d.Else-taken)))), c.requires.4)

pub returns-in_err-taken : goal.returns-in_err-taken
returns-in_err-taken c f a r held =
    let es = entries_of c.args.table.now in
    let p = err_from_is_err_and c.from_residual.result c.from_residual.ensures.1 in
    rw (p.1, p.2) (ap (λ (z : Outcome (List Assignment)). z >>= new_record es r)
    (subst (Gave es f c.args.buffer.now c.args.kept.now c.args.count c.take.new.list c.take.new.stage) c.in_err-taken.was (c.take.ensures f a.good)))

pub returns : goal.returns
returns c f a r held =
    let d = goal.at.returns c in
    let g = gave d.In_ok-taken f a in
    makes_by (entries_of c.args.table.now) r _ c.make_record.result g.1 (c.make_record.ensures g.0 (indexed d.After-index f a g.0 g.1 (g.3 (unfull d.Else-taken))) r held)
