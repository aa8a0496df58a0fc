-- `records::walk::entry_end` meets its contract: each branch is one kind of entry, and only a periodic group has occurrences to keep.
use mathlib.Core.Path.{◌≡◌, sym, ◌∙◌}
use mathlib.Core.Bool.{true, false}
use Prim.Native.Nat.{suc}
use native.Mathlib.Omega.{arith}
use lib.ListN.{get_or, drop}
use Rattle.tables.specs.Entries.{entries_of, blank, is_periodic}
use Rattle.tables.proofs.LevelSteps.{periodic_what}
use Rattle.tables.proofs.Known.{periodic_level}
use Rattle.records.proofs.Walks.{walked_as, not_at}
use Rattle.records.proofs.Ends.{count_some, after_countless, after_counted, after_inside, after_outside, group_within, kept_rows, kept_none}
use Rattle.records.proofs.walk.entry_end.Goals as goal

pub returns-then-inside : goal.returns-then-inside
returns-then-inside c =
    let a = c.args in
    let es = entries_of a.t.now in
    let p : is_periodic (get_or es a.i blank).what ≡ false = sym c.periodic_at.ensures ∙ c.if-not-periodic_at.true in (
      record { answer = sym (after_inside a.inside (get_or es a.i blank) (drop (suc a.i) es) (drop a.at a.b.now) p c.if-inside.true); place = c.requires.2 },
      λ x q. kept_none es a.i p (get_or a.b.now a.at 0) a.kept a.places.now,
    )

pub returns-else-inside : goal.returns-else-inside
returns-else-inside c =
    let a = c.args in
    let es = entries_of a.t.now in
    let p : is_periodic (get_or es a.i blank).what ≡ false = sym c.periodic_at.ensures ∙ c.if-not-periodic_at.true in (
      walked_as (after_outside a.inside (get_or es a.i blank) (drop (suc a.i) es) (drop a.at a.b.now) p c.if-inside.false) c.member_end.ensures,
      λ x q. kept_none es a.i p (get_or a.b.now a.at 0) a.kept a.places.now,
    )

pub returns-then-not-has_count : goal.returns-then-not-has_count
returns-then-not-has_count c =
    let a = c.args in
    let p : is_periodic (get_or (entries_of a.t.now) a.i blank).what ≡ true = sym c.periodic_at.ensures ∙ c.if-not-periodic_at.false in
    (record { answer = sym (after_countless a.inside (entries_of a.t.now) a.i a.b.now a.at p (sym c.has_count.ensures ∙ c.if-not-has_count.true)); place = tt }, λ x q. absurd (not_at q))

pub occurrences_end-requires : goal.occurrences_end-requires
occurrences_end-requires c =
    let k = count_some c.args.b.now c.args.at (sym c.has_count.ensures ∙ c.if-not-has_count.false) in
    let w = group_within (entries_of c.args.t.now) c.args.i c.requires.1 in
    (c.requires.0, rw c.group_end-end.ensures w.0, rw c.group_end-end.ensures w.1, omega (arith, k.0, c.after_count-from.ensures), c.requires.3, c.requires.4, omega (arith, c.count_at-n.ensures.1, c.requires.5))

pub returns : goal.returns
returns c =
    let a = c.args in
    let es = entries_of a.t.now in
    let e = get_or es a.i blank in
    let p : is_periodic e.what ≡ true = sym c.periodic_at.ensures ∙ c.if-not-periodic_at.false in
    let l = periodic_level a.t.now c.requires.0 a.i c.requires.1 (periodic_what e.what p) in
    let o = rw (c.after_count-from.ensures, c.count_at-n.ensures.0) at c.occurrences_end.ensures in (
      walked_as (after_counted a.inside es a.i a.b.now a.at p (sym c.has_count.ensures ∙ c.if-not-has_count.false) l _ c.group_end-end.ensures) o.0,
      λ x q. kept_rows es a.i p c.group_end-end.ensures (o.1 x q),
    )
