-- What each loop that lays out a record has left to lay, whatever the plan and the record are, and the first part of that.
use mathlib.Core.Path.{◌≡◌, refl}
use mathlib.Core.Bool.{Bool, true}
use mathlib.Core.List.{List, ◌++◌}
use Prim.Native.Nat.{ℕ, suc, ◌+◌, ◌-◌, ◌≤◌, ◌<◌}
use lib.ListN.{length, drop, get_or}
use Rattle.rules.specs.Lists.{Bytes}
use Rattle.rules.specs.Table.{group, Entry, is_inside, parts}
use Rattle.rules.specs.Record.{Record, Plan, count_bytes, group_count_at}
use Rattle.tables.specs.Entries.{blank, what_at}
use Rattle.updating.specs.Laid.{group_part, member_laid, occurrence_laid, occurrences_laid, laid_from, entry_added, group_added}
use Rattle.updating.specs.Member.{members_laid}
use Rattle.updating.proofs.Turns.{adds_group, occurrence_turn, entry_turn}
use Rattle.updating.proofs.Membering.{members_turn}

-- What entry i adds to occurrence o, and the entries from it up to the last of a group.
abbrev pub member_added : List Entry → ℕ → ℕ → Plan → Record → Bytes
member_added es o i w r = member_laid w o (get_or es i blank).name (what_at es i)

abbrev pub members_left : List Entry → ℕ → ℕ → ℕ → Plan → Record → Bytes
members_left es o last i w r = members_laid w o es i (last - i)

-- Occurrence o of the periodic group that entry g is, and the occurrences from it up to n.
abbrev pub occurrence_added : List Entry → ℕ → ℕ → Plan → Record → Bytes
occurrence_added es g o w r = occurrence_laid w o (drop (g + 1) es)

abbrev pub occurrences_left : List Entry → ℕ → ℕ → ℕ → Plan → Record → Bytes
occurrences_left es g n o w r = occurrences_laid w (drop (g + 1) es) o (suc n - o)

-- The new count of that group, its bytes, and as many occurrences.
abbrev pub new_count : List Entry → ℕ → Plan → Record → ℕ
new_count es g w r = w.occurrences (group_part (get_or es g blank).name (drop (g + 1) es)) (group_count_at (parts es) r (get_or es g blank).name)

abbrev pub count_added : List Entry → ℕ → Plan → Record → Bytes
count_added es g w r = count_bytes (new_count es g w r)

abbrev pub occurrences_added : List Entry → ℕ → Plan → Record → Bytes
occurrences_added es g w r = occurrences_laid w (drop (g + 1) es) 1 (new_count es g w r)

-- The entries from entry i on.
abbrev pub entries_left : List Entry → Bool → ℕ → Plan → Record → Bytes
entries_left es before i w r = laid_from w (group_count_at (parts es) r) before (drop i es)

module _ (es : List Entry) where
  pub member_first : (o last i : ℕ) → i < last → (w : Plan) (r : Record) → members_left es o last i w r ≡ member_added es o i w r ++ members_left es o last (i + 1) w r
  member_first o last i h w r = members_turn w o es i last h

  pub occurrence_first : (g n o : ℕ) → o ≤ n → (w : Plan) (r : Record) → occurrences_left es g n o w r ≡ occurrence_added es g o w r ++ occurrences_left es g n (o + 1) w r
  occurrence_first g n o h w r = occurrence_turn w (drop (g + 1) es) o n h

  pub entry_first : (before inside : Bool) (i : ℕ) → i < length es → inside ≡ is_inside before (get_or es i blank)
      → (w : Plan) (r : Record) → entries_left es before i w r ≡ entry_added es inside i w r ++ entries_left es inside (i + 1) w r
  entry_first before inside i h e w r = rw e (entry_turn w (group_count_at (parts es) r) before es i blank h)

  pub group_first : (g : ℕ) (w : Plan) (r : Record) → group_added es g w r ≡ count_added es g w r ++ occurrences_added es g w r
  group_first g w r = adds_group w (group_count_at (parts es) r) (get_or es g blank).name (drop (g + 1) es) true (group true) refl
