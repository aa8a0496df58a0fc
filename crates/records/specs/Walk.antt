-- Where a walk over a record's bytes stands, in the words of the readers of `rules`.
use Rattle.std.specs.Prelude.{◌≡◌, Bool, true, false, cond, ◌&&◌, List, [], ◌∷◌, ℕ, zero, suc, ◌+◌, ◌*◌, ◌≤◌, ◌<◌, leb, length, take, drop, get_or, None, Option, Some}
use Rattle.std.proofs.Math.Seq.{slice}
use Rattle.rules.specs.Outcome.{Outcome, done, refused, by, is_done}
use Rattle.rules.specs.Limits.{most_entries, longest_record, record_head_size, count_size}
use Rattle.rules.specs.Lists.{Bytes, same}
use Rattle.rules.specs.Table.{What, Entry, is_inside, part_of, parts}
use Rattle.rules.specs.Record.{Occurrence, Reader, record_head, times, each, stored_cell, stored_part, stored}
use Rattle.tables.specs.Entries.{is_periodic, what_at, blank}
use Rattle.tables.specs.Groups.{group_end, fields_in}
use Rattle.records.specs.Counts.{count_at}

-- The bytes from a place on; or refusal 2.
abbrev pub seen : Bytes → Option ℕ → Outcome Bytes
seen b (Some e) = done (drop e b)
seen b None = refused (by 2)

abbrev pub walk_place : Bytes → Option ℕ → Type 0
walk_place b (Some e) = e ≤ length b
walk_place b None = Unit {0}

-- What a reader leaves, without what it took.
abbrev pub rest_of : {X : Type 0} → Outcome (X × Bytes) → Outcome Bytes
rest_of (done x) = done x.1
rest_of (refused n) = refused n

-- A step that stands where a reader leaves off.
pub record Walked (b : Bytes) (o : Outcome Bytes) (r : Option ℕ) : Type 0 where
  pub answer : seen b r ≡ o
  pub place : walk_place b r

-- A reader comes to an end; and if it does, then at the place r.
abbrev pub Ends : Outcome Bytes → Type 0
Ends o = (rest : Bytes) × (o ≡ done rest)

abbrev pub EndsAt : Bytes → Outcome Bytes → ℕ → Type 0
EndsAt b o r = Ends o → Walked b o (Some r)

-- The bytes that are left, none where they are refused.
abbrev pub bytes_left : Outcome Bytes → Bytes
bytes_left (done bs) = bs
bytes_left (refused n) = []

-- The members among the entries from first to end, once each.
abbrev pub members_among : List Entry → ℕ → ℕ → Reader Occurrence
members_among es first end = each stored_cell (fields_in (slice first end es))

-- What stands after the part that an entry begins, if it begins one.
unfoldable pub after_entry : Bool → Entry → List Entry → Bytes → Outcome Bytes
after_entry inside e es bs = rest_of (each stored_part (part_of inside e.name e.what es []) bs)

-- The bytes from entry j's part on, in a body that begins with the entries es.
unfoldable pub start_of : Bool → List Entry → Bytes → ℕ → Bytes
start_of before [] bs j = []
start_of before (e ∷ es) bs zero = bs
start_of before (e ∷ es) bs (suc j) = start_of (is_inside before e) es (bytes_left (after_entry (is_inside before e) e es bs)) j

-- Whether bytes are not too many for a record and begin as one.
unfoldable pub is_headed : Bytes → Bool
is_headed b = leb (length b) longest_record && same (take record_head_size b) record_head

-- The directory of a record is a list of numbers in three regions: the place of each entry's part; for each entry, from `firsts` on, the
-- number at which its occurrences are kept; and from `kept_from` on the places of occurrences, `most_kept` of them at most.
abbrev pub firsts : ℕ
firsts = most_entries

abbrev pub kept_from : ℕ
kept_from = 2 * most_entries

abbrev pub most_kept : ℕ
most_kept = 512

abbrev pub directory : ℕ
directory = kept_from + most_kept

-- Each number is kept in two bytes.
abbrev pub greatest_kept : ℕ
greatest_kept = 65535

-- An occurrence of the periodic group that entry g is; and how many of them an entry has, by the count at its place.
unfoldable pub occurrence : List Entry → ℕ → Reader Occurrence
occurrence es g = members_among es (g + 1) (group_end es g)

unfoldable pub occurrences_counted : What → ℕ → ℕ
occurrences_counted w n = cond (is_periodic w) n 0

-- Of n times one reader, from a place on, each beginning is kept from the number `kept` on, where the directory has room; what is kept before that number stays.
pub record Kept {X : Type 0} (one : Reader X) (b : Bytes) (at n kept : ℕ) (before after : List ℕ) : Type 0 where
  pub long : length after ≡ length before
  pub others : (j : ℕ) → j < kept → get_or after j 0 ≡ get_or before j 0
  pub occurrences : (k : ℕ) → k < n → kept + k < directory → Walked b (rest_of (times k one (drop at b))) (Some (get_or after (kept + k) 0))

-- The same of a walk that comes to its end.
abbrev pub Keeps : {X : Type 0} → Reader X → Bytes → ℕ → ℕ → ℕ → List ℕ → List ℕ → Option ℕ → Type 0
Keeps one b at n kept before after r = (e : ℕ) → r ≡ Some e → Kept one b at n kept before after

-- A walk over the part that entry i begins, if it begins one, from a place on: where it stands then, and what it keeps of the occurrences.
abbrev pub WalksEntry : List Entry → Bytes → Bool → ℕ → ℕ → ℕ → List ℕ → List ℕ → Option ℕ → Type 0
WalksEntry es b inside i at kept before after r =
    Walked b (after_entry inside (get_or es i blank) (drop (suc i) es) (drop at b)) r
    × Keeps (occurrence es i) b (at + count_size) (occurrences_counted (what_at es i) (count_at b at)) kept before after r

-- Entry j's part stands from its place on; and each of its occurrences from where it is kept on.
abbrev pub Starts : List Entry → Bytes → List ℕ → ℕ → Type 0
Starts es b places j = (get_or places j 0 ≤ length b) × (drop (get_or places j 0) b ≡ start_of false es (drop record_head_size b) j)

abbrev pub OccurrencesKept : List Entry → Bytes → List ℕ → ℕ → Type 0
OccurrencesKept es b places g =
    (k : ℕ) → k < occurrences_counted (what_at es g) (count_at b (get_or places g 0)) → get_or places (firsts + g) 0 + k < directory
    → Walked b (rest_of (times k (occurrence es g) (drop (get_or places g 0 + count_size) b))) (Some (get_or places (get_or places (firsts + g) 0 + k) 0))

-- What is found of a slice: whether it is a record, and then its directory.
pub record Checked (es : List Entry) (b : Bytes) (places : List ℕ) (ok : Bool) : Type 0 where
  pub answer : ok ≡ is_done (stored (parts es) b)
  pub starts : ok ≡ true → (j : ℕ) → j < length es → Starts es b places j
  pub occurrences : ok ≡ true → (g : ℕ) → g < length es → OccurrencesKept es b places g
