-- `lyrecanyon::making::make_decoded` meets its contract: what the format's uses are refused for comes first, then refusal 6, then the items.
use mathlib.Core.Path.{◌≡◌, sym, ◌∙◌, ap, subst}
use mathlib.Core.Bool.{false}
use mathlib.Core.List.{List}
use Prim.Native.Nat.{◌*◌, ◌≤◌}
use native.Mathlib.Omega.{arith}
use lib.ListN.{length}
use Rattle.std.proofs.lemmas.Result.{err_from_is_err_and}
use Rattle.std.proofs.lemmas.Grind.{common_steps}
use Rattle.rules.specs.Outcome.{Outcome, done, ◌>>=◌}
use Rattle.rules.specs.Update.{Assignment, named_twice}
use Rattle.tables.specs.Entries.{entries_of}
use Rattle.uses.specs.Meant.{uses_of}
use Rattle.uses.specs.Kept.{numbers_kept, uses_kept, GoodUses, Decodes}
use Rattle.lyrecanyon.specs.Making.{Apart, new_record}
use Rattle.lyrecanyon.proofs.Makings.{uses_refused}
use Rattle.lyrecanyon.proofs.making.make_decoded.Goals as goal
use Rattle.lyrecanyon.proofs.making.make_decoded.Goals.{In_ok-n}

known : (c : In_ok-n) → let es = entries_of c.args.table.now in
    (uses_of es c.args.format.now ≡ done (uses_kept es c.args.format.now c.decode.new.kept c.in_ok-n.n)) × GoodUses es c.args.format.now c.decode.new.kept c.in_ok-n.n × (numbers_kept * c.in_ok-n.n ≤ length c.decode.new.kept)
known c = subst (Decodes (entries_of c.args.table.now) c.args.format.now c.decode.new.kept) c.in_ok-n.was c.decode.ensures.0

pub named_twice-requires : goal.named_twice-requires
named_twice-requires c =
    let k = known c in
    (c.requires.0, k.2, (c.args.format.now, k.1))

-- No two uses name an occurrence in common.
apart : (c : In_ok-n) → named_twice (uses_kept (entries_of c.args.table.now) c.args.format.now c.decode.new.kept c.in_ok-n.n) ≡ false → Apart (entries_of c.args.table.now) c.args.format.now c.decode.new.kept c.in_ok-n.n
apart c once =
    let k = known c in
    record { meant = k.0; good = k.1; room = k.2; once = once }

pub make_limited-requires : goal.make_limited-requires
make_limited-requires c =
    let d = (goal.at.make_limited-requires c).In_ok-n in
    let t : c.named_twice.result ≡ false = grind (arith, common_steps) in
    let a = apart d (sym (c.named_twice.ensures c.args.format.now (known d).1) ∙ t) in
    (c.requires.0, c.requires.1, (c.args.format.now, a), c.requires.3 c.in_ok-n.n (omega (arith, a.room, c.decode.ensures.1)), c.requires.4)

pub returns-in_err-n : goal.returns-in_err-n
returns-in_err-n c r held =
    let es = entries_of c.args.table.now in
    let f = c.args.format.now in
    let p = err_from_is_err_and c.from_residual.result c.from_residual.ensures.1 in
    rw (p.1, p.2) (ap (λ (z : Outcome (List Assignment)). z >>= new_record es r) (uses_refused es f c.args.buffer.now _ (subst (Decodes es f c.decode.new.kept) c.in_err-n.was c.decode.ensures.0)))
