-- What an entry adds to an occurrence of the periodic group that it lies in, and what entries that follow each other add.
use Rattle.std.specs.Prelude.{◌≡◌, true, false, List, [], ◌++◌, ◌⊎◌, ℕ, zero, suc, ◌+◌, ◌-◌, ◌≤◌, ◌<◌, get_or, Option, Result}
use Rattle.rules.specs.declared.Refusal.{Refusal}
use Rattle.rules.specs.Outcome.{done}
use Rattle.rules.specs.Limits.{highest_index}
use Rattle.rules.specs.Lists.{Bytes}
use Rattle.rules.specs.Table.{Entry, parts}
use Rattle.rules.specs.Record.{Record, Plan}
use Rattle.rules.specs.Update.{Assignment, update_plan}
use Rattle.tables.specs.Entries.{blank, is_group, what_at}
use Rattle.tables.specs.Groups.{group_end}
use Rattle.records.specs.Places.{CellOf, MemberEntered, IsRecord}
use Rattle.filling.specs.Filling.{in_room, Filling, Roomy}
use Rattle.updating.specs.Laid.{member_laid}
use Rattle.updating.specs.New.{Assigns, HasBoth}

-- Entry i has its cell in occurrence o, if it is a field.
abbrev pub CelledMember : List Entry → Bytes → ℕ → ℕ → Record → Option ℕ → Type 0
CelledMember es b i o r cell = is_group (what_at es i) ≡ false → CellOf es b i o r cell

-- Such a record and assignments are there; and what the entry adds was put into room.
abbrev pub HasMember : List Entry → Bytes → List ℕ → List ℕ → Bytes → ℕ → ℕ → Option ℕ → Type 0
HasMember es b kept list stage i o cell = ((r : Record) × CelledMember es b i o r cell) × ((ws : List Assignment) × Assigns es kept list stage ws)

abbrev pub PutsMember : List Entry → Bytes → List ℕ → List ℕ → Bytes → ℕ → ℕ → Option ℕ → ℕ → ℕ → Bytes → Bytes → Result ℕ Refusal → Type 0
PutsMember es b kept list stage i o cell at end entry exit n =
    (r : Record) (ws : List Assignment) → CelledMember es b i o r cell → Assigns es kept list stage ws
    → Filling (in_room (end - at) (done (member_laid (update_plan (parts es) r ws) o (get_or es i blank).name (what_at es i)))) at true entry exit n

-- The cells of the entries from entry i up to `last` stand in occurrence o one after the other, from a cell on: they are the members of a
-- periodic group that are left, or entry i is a field by itself.
abbrev pub CellsFrom : List Entry → Bytes → List ℕ → ℕ → ℕ → ℕ → Record → Option ℕ → Type 0
CellsFrom es b places i last o r cell = ((g : ℕ) × (last ≡ group_end es g) × MemberEntered es b places g i o r cell) ⊎ ((last ≡ i + 1) × CellOf es b i o r cell)

-- The same of whichever record is held, where there is such an entry.
abbrev pub CellsFollow : List Entry → Bytes → List ℕ → ℕ → ℕ → ℕ → Option ℕ → Type 0
CellsFollow es b places first last o had = (r : Record) → IsRecord es b places r → first < last → CellsFrom es b places first last o r had

-- Occurrence o of the periodic group that entry g is, with members up to `last`, can be put into room.
abbrev pub CanPutOccurrence : List Entry → Bytes → List ℕ → List ℕ → List ℕ → Bytes → ℕ → ℕ → ℕ → ℕ → ℕ → Bytes → Type 0
CanPutOccurrence es b places kept list stage g last o at end out =
    (last ≡ group_end es g) × (1 ≤ o) × (o ≤ highest_index) × HasBoth es b places kept list stage × Roomy at end out

-- What n entries from entry i on add to occurrence o.
unfoldable pub members_laid : Plan → ℕ → List Entry → ℕ → ℕ → Bytes
members_laid w o es i zero = []
members_laid w o es i (suc n) = member_laid w o (get_or es i blank).name (what_at es i) ++ members_laid w o es (suc i) n
