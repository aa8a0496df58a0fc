-- A cell of the new record, by what the code has: its entry's format and length, the notes of what its values take, the old values
-- and the new count.
use Rattle.std.specs.Prelude.{Option}
use mathlib.Core.Option.{Option as Optional}
use mathlib.Core.Path.{◌≡◌, sym, ◌∙◌, ap}
use mathlib.Core.Bool.{true, false, cond}
use mathlib.Core.List.{List, ◌++◌}
use Prim.Native.Nat.{ℕ, max, ◌≤◌, ◌<◌}
use native.Mathlib.Omega.{arith}
use lib.ListN.{length, get_or}
use Rattle.rules.specs.Limits.{highest_index}
use Rattle.rules.specs.Values.{Format, allowed, null}
use Rattle.rules.specs.Lists.{Bytes}
use Rattle.rules.specs.Table.{Entry, parts}
use Rattle.rules.specs.Record.{Record, count_bytes}
use Rattle.rules.specs.Update.{Assignment, assigned, update_plan}
use Rattle.rules.proofs.Steps.{by_test}
use Rattle.tables.specs.Entries.{Valid, entries_of, blank, is_group, is_multiple, field_format, size_of}
use Rattle.tables.specs.Groups.{field_at}
use Rattle.tables.proofs.Known.{field_known}
use Rattle.records.specs.Places.{CellOf}
use Rattle.assignments.specs.Notes.{place_at, TakesAt}
use Rattle.assignments.specs.Answers.{Names, CanName}
use Rattle.assignments.specs.declared.Naming.{Naming}
use Rattle.assignments.proofs.CellSpans.{standard_length}
use Rattle.updating.specs.Laid.{cell_laid}
use Rattle.updating.specs.New.{Assigns, Was, Stands, taken, Had, Old, NotesBy, new_values}
use Rattle.updating.specs.declared.cells.Run.{Run}
use Rattle.updating.proofs.NewCells.{larger_index, values_had, plain_was, plain_laid, multiple_had, count_bare, count_larger, multiple_laid, takes_stands}

-- What values 1 and on of a field are assigned.
abbrev pub given_to : List Entry → List Assignment → ℕ → ℕ → ℕ → Optional Bytes
given_to es ws i o k = assigned ws (place_at es i o k)

-- The new count is m: the notes and the old values are those of the cell, which is laid out as the count and as many values.
pub record Counted (es : List Entry) (b stage : Bytes) (i o : ℕ) (r : Record) (ws : List Assignment) (f : Format) (n : ℕ) (by : List ℕ) (old : Run) (m : ℕ) : Type 0 where
  pub few : m ≤ highest_index
  pub notes : NotesBy stage f n (given_to es ws i o) by
  pub olds : Old b f n (values_had es i r o) old
  pub laid : cell_laid (update_plan (parts es) r ws) o (field_at es i) ≡ count_bytes m ++ new_values (given_to es ws i o) f n (values_had es i r o) 1 m

-- The format and the length of an entry, which is a field.
pub record Numbered (es : List Entry) (i : ℕ) (f : Format) (n : ℕ) : Type 0 where
  pub field : is_group (get_or es i blank).what ≡ false
  pub format_is : f ≡ field_format (get_or es i blank).what
  pub size_is : n ≡ size_of (get_or es i blank).what

module _ {es : List Entry} {i : ℕ} {f : Format} {n : ℕ} (k : Numbered es i f n) where
  pub known_field : (t : Bytes) → Valid t → es ≡ entries_of t → i < length es → allowed f n ≡ true
  known_field t v e h = rw (k.format_is, k.size_is, e) (field_known t v i (rw (← e) h) (rw (← e) k.field))

  pub takes : {kept list : List ℕ} {stage : Bytes} {ws : List Assignment} → Assigns es kept list stage ws → (o j m : ℕ) → TakesAt ws (place_at es i o j) m → Stands stage f n (given_to es ws i o j) m
  takes a = takes_stands es i k.field f n k.format_is k.size_is a.indexed

  -- A field that is not MU.
  module _ (plain : is_multiple (get_or es i blank).what ≡ false) (b : Bytes) (o : ℕ) (r : Record) where
    abbrev pub had_one : Bytes
    had_one = get_or (values_had es i r o) 0 (null f n)

    pub was_one : (cell : Option ℕ) → CellOf es b i o r cell → Was b f n had_one cell
    was_one cell x = plain_was es i k.field f n k.format_is k.size_is r o b plain cell x

    pub one_laid : (ws : List Assignment) → cell_laid (update_plan (parts es) r ws) o (field_at es i) ≡ taken (given_to es ws i o 1) had_one
    one_laid ws = plain_laid es i k.field f n k.format_is k.size_is r o b plain ws

  -- An MU field.
  module _ (multiple : is_multiple (get_or es i blank).what ≡ true) where
    pub had : (b : Bytes) (o : ℕ) (r : Record) (cell : Option ℕ) → CellOf es b i o r cell → Had b f n (values_had es i r o) cell
    had b o r cell x = multiple_had es i k.field f n k.format_is k.size_is r o b multiple cell x

    module _ {kept list : List ℕ} {stage : Bytes} {ws : List Assignment} (a : Assigns es kept list stage ws) where
      pub able : i < length es → CanName es a.format kept a.count list stage ws i n
      able less = record { indexed = a.indexed; entry = less; field = k.field; multiple = multiple; size_is = k.size_is ∙ standard_length es i k.field }

      module _ {b : Bytes} {o : ℕ} (r : Record) {by : List ℕ} {named : Naming} {old : Run} (names : Names es ws i o by named) (olds : Old b f n (values_had es i r o) old) where
        count_is : (m : ℕ) → m ≡ cond named.bare named.highest (max old.count named.highest) → ((update_plan (parts es) r ws).values (field_at es i) o ≡ m) × (m ≤ highest_index)
        count_is m e = by_test named.bare
            (λ t. let z = rw t at e in (count_bare es i k.field f n k.format_is k.size_is r o b multiple ws by named names a.bare t ∙ sym z, omega (arith, z, names.most)))
            (λ t. let z = rw t at e in
            (count_larger es i k.field f n k.format_is k.size_is r o b multiple ws by named names t ∙ ap (λ c. max c named.highest) (sym olds.many) ∙ sym z, omega (arith, z, larger_index old.count named.highest olds.most names.most)))

        pub counted : (m : ℕ) → m ≡ cond named.bare named.highest (max old.count named.highest) → Counted es b stage i o r ws f n by old m
        counted m e = record {
          few = (count_is m e).1;
          notes = λ j h. takes a o j (get_or by j 0) (names.each j h);
          olds = olds;
          laid = multiple_laid es i k.field f n k.format_is k.size_is r o b multiple ws m (count_is m e).0;
        }
