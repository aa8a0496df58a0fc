-- `records::empty::write_entry` meets its contract: a plain field outside periodic groups adds null, another entry a count of 0 or nothing.
use Rattle.std.specs.Prelude.{Some}
use mathlib.Core.Path.{◌≡◌, sym, ap, ◌∙◌}
use Prim.Native.Nat.{◌+◌}
use native.Mathlib.Omega.{arith}
use lib.ListN.{length, get_or}
use Rattle.rules.specs.Record.{count_bytes}
use Rattle.buffer.proofs.Laws.{splice_nil}
use Rattle.tables.specs.Entries.{entries_of, blank, decoded}
use Rattle.tables.proofs.Tables.{valid_sound}
use Rattle.records.specs.Empty.{empty_entry, null_of}
use Rattle.records.proofs.EmptyEntries.{null_adds, null_allowed, nothing_added, count_added}
use Rattle.records.proofs.empty.write_entry.Goals as goal
use Rattle.records.proofs.empty.write_entry.Goals.{In-Some, Else-n-eq0}

-- The entry adds null.
adds : (c : In-Some) → null_of c.args.inside (decoded (get_or (entries_of c.args.t.now) c.args.i blank)) ≡ Some c.in-Some.format
adds c = ap (null_of c.args.inside) (sym c.entry_at-e.ensures) ∙ sym c.null_of.ensures ∙ c.in-Some.is

pub write_null-requires : goal.write_null-requires
write_null-requires c =
    let x = get_or (entries_of c.args.t.now) c.args.i blank in
    let h = adds (goal.at.write_null-requires c).In-Some in
    let l = ap length (null_adds c.args.inside x _ h) in
    rw (c.from.ensures, c.entry_at-e.ensures) (null_allowed c.args.inside x _ h (valid_sound c.args.t.now c.requires.0 c.args.i c.requires.1), omega (arith, c.requires.2))

pub returns-in-Some : goal.returns-in-Some
returns-in-Some c =
    let y = null_adds c.args.inside (get_or (entries_of c.args.t.now) c.args.i blank) _ (adds (goal.at.returns-in-Some c).In-Some) in
    (ap (λ n. c.args.at + n) c.empty_size-n.ensures.0, rw y (rw (c.from.ensures, c.entry_at-e.ensures) at c.write_null.ensures))

pub returns-then-n-eq0 : goal.returns-then-n-eq0
returns-then-n-eq0 c =
    let e = nothing_added c.args.inside (get_or (entries_of c.args.t.now) c.args.i blank) (sym c.empty_size-n.ensures.0 ∙ c.if-n-eq0.true) in
    (omega (arith, c.empty_size-n.ensures.0, c.if-n-eq0.true), rw e (sym (splice_nil c.args.at c.args.out.now)))

-- It adds a count, where it adds something.
count_there : (c : Else-n-eq0) → empty_entry c.args.inside (get_or (entries_of c.args.t.now) c.args.i blank).what ≡ count_bytes 0
count_there c =
    let a = c.args in
    count_added a.inside (get_or (entries_of a.t.now) a.i blank) (ap (null_of c.args.inside) (sym c.entry_at-e.ensures) ∙ sym c.null_of.ensures ∙ c.in_default.is) (λ z. c.if-n-eq0.false (c.empty_size-n.ensures.0 ∙ z))

pub returns : goal.returns
unfolding count_bytes
returns c =
    let e = count_there (goal.at.returns c).Else-n-eq0 in
    (rw e c.put_count.ensures.0, rw e c.put_count.ensures.1)
