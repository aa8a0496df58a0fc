-- What the new record takes and keeps: each value is what is assigned to it, or what it was, or null.
use Rattle.std.specs.Prelude.{◌≡◌, true, false, List, [], ◌++◌, ℕ, zero, suc, pred, ◌-◌, ◌≤◌, length, drop, get_or, None, Result, Some, Option as Optional}
use Rattle.rules.specs.declared.Refusal.{Refusal}
use Rattle.std.proofs.Math.Option.{Option, none, some}
use Rattle.rules.specs.Outcome.{done}
use Rattle.rules.specs.Limits.{record_head_size, highest_index, greatest_count}
use Rattle.rules.specs.Lists.{Bytes, join, run}
use Rattle.rules.specs.Values.{Format, null}
use Rattle.rules.specs.Table.{Entry, parts}
use Rattle.rules.specs.Record.{Record, Plan, times, counted, stored_value}
use Rattle.rules.specs.Update.{Assignment, to_field, bare_only, highest_value, update_plan}
use Rattle.records.specs.Walk.{start_of}
use Rattle.records.specs.Places.{IsRecord, CellOf}
use Rattle.assignments.specs.Notes.{Indexed}
use Rattle.filling.specs.Filling.{in_room, Filling, Roomy}
use Rattle.updating.specs.declared.cells.Run.{Run}

-- The stage holds the assignments of an update, and the list finds them: its bare names number the values of a field from 1 on.
pub record Assigns (es : List Entry) (kept list : List ℕ) (stage : Bytes) (ws : List Assignment) : Type 0 where
  pub format : Bytes
  pub count : ℕ
  pub indexed : Indexed es format kept count list stage ws
  pub bare : (n i : ℕ) → bare_only (to_field ws n i) ≡ true → length (to_field ws n i) ≡ highest_value ws n i

-- A record and assignments are there; and bytes that go by them were put into room.
abbrev pub HasBoth : List Entry → Bytes → List ℕ → List ℕ → List ℕ → Bytes → Type 0
HasBoth es b places kept list stage = ((r : Record) × IsRecord es b places r) × ((ws : List Assignment) × Assigns es kept list stage ws)

abbrev pub Puts : List Entry → Bytes → List ℕ → List ℕ → List ℕ → Bytes → (Plan → Record → Bytes) → ℕ → ℕ → Bytes → Bytes → Result ℕ Refusal → Type 0
Puts es b places kept list stage new at end entry exit n =
    (r : Record) (ws : List Assignment) → IsRecord es b places r → Assigns es kept list stage ws
    → Filling (in_room (end - at) (done (new (update_plan (parts es) r ws) r))) at true entry exit n

-- Bytes that stand between the part of an entry and that of another.
abbrev pub Between : List Entry → Bytes → ℕ → ℕ → Bytes → Type 0
Between es b first next old = start_of false es (drop record_head_size b) first ≡ old ++ start_of false es (drop record_head_size b) next

-- What is put of one cell, which goes by its own values alone.
abbrev pub HasCell : List Entry → Bytes → List ℕ → List ℕ → Bytes → ℕ → ℕ → Optional ℕ → Type 0
HasCell es b kept list stage i o cell = ((r : Record) × CellOf es b i o r cell) × ((ws : List Assignment) × Assigns es kept list stage ws)

abbrev pub PutsCell : List Entry → Bytes → List ℕ → List ℕ → Bytes → ℕ → ℕ → Optional ℕ → (Plan → Bytes) → ℕ → ℕ → Bytes → Bytes → Result ℕ Refusal → Type 0
PutsCell es b kept list stage i o cell new at end entry exit n =
    (r : Record) (ws : List Assignment) → CellOf es b i o r cell → Assigns es kept list stage ws
    → Filling (in_room (end - at) (done (new (update_plan (parts es) r ws)))) at true entry exit n

-- A cell of occurrence o can be put into room.
abbrev pub CanPutCell : List Entry → Bytes → List ℕ → List ℕ → Bytes → ℕ → ℕ → Optional ℕ → ℕ → ℕ → Bytes → Type 0
CanPutCell es b kept list stage i o cell at end out = (1 ≤ o) × (o ≤ highest_index) × HasCell es b kept list stage i o cell × Roomy at end out

-- A value as it was: it stands at a place, or there is none and it is null.
abbrev pub Was : Bytes → Format → ℕ → Bytes → Optional ℕ → Type 0
Was b f n v (Some q) = (q ≤ length b) × (rest : Bytes) × (stored_value f n (drop q b) ≡ done (v, rest))
Was b f n v None = v ≡ null f n

-- What a value takes, by one above where it stands on the stage: nothing for 0.
abbrev pub Stands : Bytes → Format → ℕ → Option Bytes → ℕ → Type 0
Stands stage f n o zero = o ≡ none
Stands stage f n o (suc p) = (v : Bytes) × (o ≡ some v) × Was stage f n v (Some p)

-- A value that takes bytes, or stays as it was.
abbrev pub taken : Option Bytes → Bytes → Bytes
taken (some b) v = b
taken none v = v

-- The values that a cell of an MU field had.
abbrev pub Had : Bytes → Format → ℕ → List Bytes → Optional ℕ → Type 0
Had b f n vs (Some q) = (q ≤ length b) × (rest : Bytes) × (counted true (stored_value f n) (drop q b) ≡ done (vs, rest))
Had b f n vs None = vs ≡ []

-- Old values that stand from a place on.
abbrev pub Were : Bytes → Format → ℕ → ℕ → ℕ → List Bytes → Type 0
Were b f n from old vs = (from ≤ length b) × (rest : Bytes) × (times old (stored_value f n) (drop from b) ≡ done (vs, rest))

-- The old values of a cell of an MU field, by the run of them that the code finds.
pub record Old (b : Bytes) (f : Format) (n : ℕ) (vs : List Bytes) (run : Run) : Type 0 where
  pub were : Were b f n run.from run.count vs
  pub many : run.count ≡ length vs
  pub most : run.count ≤ greatest_count

-- What the values of a field take, by one above where each stands on the stage.
abbrev pub NotesBy : Bytes → Format → ℕ → (ℕ → Option Bytes) → List ℕ → Type 0
NotesBy stage f size given by = (k : ℕ) → k ≤ highest_index → Stands stage f size (given k) (get_or by k 0)

-- Values k to k + n - 1 of a field: what they take, and else the old ones, or null.
unfoldable pub new_values : (ℕ → Option Bytes) → Format → ℕ → List Bytes → ℕ → ℕ → Bytes
new_values given f size vs k n = join (run (λ i. taken (given i) (get_or vs (pred i) (null f size))) k n)

-- Where what the values of a field take stands is known, and so are its old values; and values 1 to n were put into room.
abbrev pub HasNotes : Bytes → Format → ℕ → List ℕ → Type 0
HasNotes stage f size by = (given : ℕ → Option Bytes) × NotesBy stage f size given by

abbrev pub HasOld : Bytes → Format → ℕ → Run → Type 0
HasOld b f size old = (vs : List Bytes) × Old b f size vs old

abbrev pub PutsValues : Bytes → Bytes → List ℕ → Run → Format → ℕ → ℕ → ℕ → ℕ → Bytes → Bytes → Result ℕ Refusal → Type 0
PutsValues b stage by old f size n at end entry exit r =
    (given : ℕ → Option Bytes) (vs : List Bytes) → NotesBy stage f size given by → Old b f size vs old
    → Filling (in_room (end - at) (done (new_values given f size vs 1 n))) at true entry exit r
