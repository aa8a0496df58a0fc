-- `records::empty::empty_size` meets its contract: each branch is one kind of entry.
use Rattle.std.specs.Prelude.{Some}
use mathlib.Core.Path.{◌≡◌, sym, ap, ◌∙◌}
use native.Mathlib.Omega.{arith}
use lib.ListN.{length, get_or}
use Rattle.tables.specs.Entries.{entries_of, blank, decoded}
use Rattle.tables.proofs.Tables.{valid_sound}
use Rattle.records.specs.Empty.{null_of}
use Rattle.records.proofs.EmptyEntries.{null_short, null_adds, null_allowed}
use Rattle.records.proofs.empty.empty_size.Goals as goal
use Rattle.records.proofs.empty.empty_size.Goals.{In-Some}

-- The entry adds null.
adds : (c : In-Some) → null_of c.args.inside (decoded (get_or (entries_of c.args.t.now) c.args.i blank)) ≡ Some c.in-Some.format
adds c = ap (null_of c.args.inside) (sym c.entry_at-e.ensures) ∙ sym c.null_of.ensures ∙ c.in-Some.is

pub null_length-requires : goal.null_length-requires
null_length-requires c =
    let x = get_or (entries_of c.args.t.now) c.args.i blank in
    rw (c.from.ensures, c.entry_at-e.ensures) (null_allowed c.args.inside x _ (adds (goal.at.null_length-requires c).In-Some) (valid_sound c.args.t.now c.requires.0 c.args.i c.requires.1))

pub returns-in-Some : goal.returns-in-Some
returns-in-Some c =
    let x = get_or (entries_of c.args.t.now) c.args.i blank in
    let h = adds (goal.at.returns-in-Some c).In-Some in
    let m = rw (c.from.ensures, c.entry_at-e.ensures) at c.null_length.ensures in
    let l = null_short _ _ (null_allowed c.args.inside x _ h (valid_sound c.args.t.now c.requires.0 c.args.i c.requires.1)) in
    (m ∙ sym (ap length (null_adds c.args.inside x _ h)), omega (arith, m, l))
