-- `updating::members::put_occurrence` meets its contract: the entries up to the group's end are its members, beside the cells of the old occurrence.
use mathlib.Core.Path.{sym}
use mathlib.Core.Logic.{inl}
use Prim.Native.Nat.{◌+◌, ◌-◌, ◌≤◌}
use native.Mathlib.Omega.{arith}
use lib.ListN.{length}
use Rattle.rules.specs.Table.{parts}
use Rattle.rules.specs.Update.{update_plan}
use Rattle.tables.specs.Entries.{entries_of}
use Rattle.tables.proofs.Known.{periodic_level}
use Rattle.tables.proofs.Nesting.{end_start}
use Rattle.records.proofs.Ends.{group_within}
use Rattle.updating.proofs.Laying.{puts_as}
use Rattle.updating.proofs.Membering.{occurrence_members}
use Rattle.updating.proofs.members.put_occurrence.Goals as goal
use Rattle.updating.proofs.members.put_occurrence.Goals.{After-first_cell-had}

-- The group's members end among the entries.
within : (c : After-first_cell-had) → (c.args.g + 1 ≤ c.args.last) × (c.args.last ≤ length (entries_of c.args.t.now))
within c =
    let h = group_within (entries_of c.args.t.now) c.args.g c.requires.1 in
    (omega (arith, c.requires.3.0, h.0), omega (arith, c.requires.3.0, h.1))

pub put_members-requires : goal.put_members-requires
put_members-requires c = (
  c.requires.0,
  (within (goal.at.put_members-requires c).After-first_cell-had).1,
  c.requires.3.1,
  c.requires.3.2,
  c.requires.3.3,
  (λ r held less. inl (c.args.g, c.requires.3.0, record { held = held; periodic = c.requires.2; after = omega arith; within = omega (arith, c.requires.3.0, less); some = c.requires.3.1; entered = c.first_cell-had.ensures r held })),
  c.requires.3.4,
)

pub returns : goal.returns
returns c r ws p a =
    let es = entries_of c.args.t.now in
    let h = within (goal.at.returns c).After-first_cell-had in
    let e = end_start es 1 c.args.g (sym (periodic_level c.args.t.now c.requires.0 c.args.g c.requires.1 c.requires.2)) in
    puts_as (c.args.end - c.args.at)
    (sym (occurrence_members (update_plan (parts es) r ws) c.args.o es (c.args.last - (c.args.g + 1)) (c.args.g + 1) (omega (arith, e, c.requires.3.0, h.0)) (omega (arith, h.0, h.1))))
    (c.put_members.ensures r ws p a)
