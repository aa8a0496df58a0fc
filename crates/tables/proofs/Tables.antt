-- What a table's being valid means, and what it says of its entries.
use Rattle.std.specs.Prelude.{is_none}
use mathlib.Core.Path.{◌≡◌, refl, sym, ap, subst, ◌∙◌}
use mathlib.Core.Bool.{Bool, true, false, ◌&&◌, and-true, false≢true}
use mathlib.Core.List.{List}
use Prim.Native.Nat.{ℕ, ◌+◌, ◌*◌, ◌≤◌, ◌<◌}
use native.Mathlib.Omega.{arith}
use borrow.Author.Tests.{le-leb, leb-true, eq-eqb, eqb-true}
use lib.Dec.{eqb, leb}
use lib.ListN.{length, get_or, take, drop, length-drop}
use lib.Seq.{drop-drop}
use Rattle.rules.specs.Outcome.{Outcome, done, refused, ◌>>=◌, need, is_done}
use Rattle.rules.specs.Limits.{most_entries, table_head_size, entry_size}
use Rattle.rules.specs.Lists.{Bytes, same}
use Rattle.rules.specs.Table.{What, field, group, Entry, format_of, entries, levels, differ, names, table_head, table}
use Rattle.rules.proofs.Steps.{by_test, from_bind, from_need}
use Rattle.rules.proofs.Done.{is_done_after}
use Rattle.rules.proofs.Bools.{and_both, and_four}
use Rattle.tables.specs.Entries.{listed, size_of, is_multiple, is_periodic, entry_place, HasEntry, Valid, entries_of, blank, format_coded, letter_coded, decoded, entry_of_bytes, bytes_at, group_letter, is_group}
use Rattle.tables.specs.Validity.{read_entries, Right, headed}
use Rattle.tables.specs.declared.Entry.{Entry as Decoded}
use Rattle.tables.proofs.EntryBytes.{Sound, Made, entries_length, entry_made}

done_listed : (m : Outcome (List Entry)) → is_done m ≡ true → m ≡ done (listed m)
done_listed (done es) e = refl
done_listed (refused n) e = absurd (false≢true e)

-- ---- entries that are right by themselves
module _ (n : ℕ) (t : Bytes) (v : Right n t) where
  read : entries n (drop table_head_size t) ≡ done (read_entries n t)
  unfolding read_entries
  read = done_listed (entries n (drop table_head_size t)) v

  pub read_count : length (read_entries n t) ≡ n
  read_count = (entries_length n (drop table_head_size t) (read_entries n t) read).0

  pub read_reach : (i : ℕ) → i < n → HasEntry t i
  read_reach i h = omega (arith, (entries_length n (drop table_head_size t) (read_entries n t) read).1, length-drop table_head_size t)

  read_length : 1 ≤ n → length t ≡ entry_place n
  read_length h = omega (arith, (entries_length n (drop table_head_size t) (read_entries n t) read).1, length-drop table_head_size t)

  pub read_made : (i : ℕ) → i < n → Made (bytes_at t i) (get_or (read_entries n t) i blank)
  read_made i h =
      let e : entry_place i ≡ table_head_size + i * entry_size = omega arith in
      rw (e, ← drop-drop (i * entry_size) table_head_size t) (entry_made n (drop table_head_size t) (read_entries n t) i read h)

  pub read_decoded : (i : ℕ) → i < n → entry_of_bytes (bytes_at t i) ≡ decoded (get_or (read_entries n t) i blank)
  read_decoded i h = (read_made i h).read

  pub read_name : (i : ℕ) → i < n → (entry_of_bytes (bytes_at t i)).name ≡ (get_or (read_entries n t) i blank).name
  read_name i h = ap (λ (r : Decoded). r.name) (read_decoded i h)

  pub read_level : (i : ℕ) → i < n → (entry_of_bytes (bytes_at t i)).level ≡ (get_or (read_entries n t) i blank).level
  read_level i h = ap (λ (r : Decoded). r.level) (read_decoded i h)

  pub read_grouped : (i : ℕ) → i < n → group_letter (bytes_at t i) ≡ is_group (get_or (read_entries n t) i blank).what
  read_grouped i h = (read_made i h).grouped

-- what a loop over such entries cites
pub ruleset read_steps = (read_count, read_reach, read_level, read_grouped, read_name)

-- An entry without a format is a group.
pub is_group_coded : (w : What) → is_none (format_coded w) ≡ is_group w
is_group_coded (field f n m) = refl
is_group_coded (group p) = refl

-- ---- the table as its tests

then_need : (m : Outcome (List Entry)) (f : List Entry → Bool) (n : ℕ)
    → is_done (m >>= λ es. need (f es) n >>= λ (_ : Unit {0}). done es) ≡ (is_done m && f (listed m))
then_need (done es) f n = is_done_after (f es) n (λ _. done es) ∙ and-true (f es)
then_need (refused k) f n = refl

abbrev right_names : List Entry → Bool
right_names es = levels (group false) 0 es && differ (names es)

module _ (t : Bytes) where
  table_tests : is_done (table t)
      ≡ (same (take 5 t) table_head
      && ((leb 1 (get_or t 5 0) && leb (get_or t 5 0) most_entries)
      && (is_done (entries (get_or t 5 0) (drop table_head_size t)) && right_names (read_entries (get_or t 5 0) t))))
  unfolding table read_entries
  table_tests =
      is_done_after (same (take 5 t) table_head) 1 _
      ∙ ap (λ b. same (take 5 t) table_head && b)
      (is_done_after (leb 1 (get_or t 5 0) && leb (get_or t 5 0) most_entries) 1 _
      ∙ ap (λ b. (leb 1 (get_or t 5 0) && leb (get_or t 5 0) most_entries) && b) (then_need (entries (get_or t 5 0) (drop table_head_size t)) right_names 1))

-- ---- what a valid table is
pub record Tabled (t : Bytes) : Type 0 where
  pub head : same (take 5 t) table_head ≡ true
  pub some : 1 ≤ get_or t 5 0
  pub most : get_or t 5 0 ≤ most_entries
  pub right : Right (get_or t 5 0) t
  pub levelled : levels (group false) 0 (read_entries (get_or t 5 0) t) ≡ true
  pub differing : differ (names (read_entries (get_or t 5 0) t)) ≡ true

pub tabled : (t : Bytes) → Valid t → Tabled t
tabled t v =
    let a = and_both _ _ (sym (table_tests t) ∙ v) in
    let b = and_both _ _ a.1 in
    let n = and_both _ _ b.0 in
    let c = and_both _ _ b.1 in
    let d = and_both _ _ c.1 in
    record { head = a.0; some = leb-true _ _ n.0; most = leb-true _ _ n.1; right = c.0; levelled = d.0; differing = d.1 }

module _ (t : Bytes) where
  pub valid_length : Valid t → length t ≡ entry_place (get_or t 5 0)
  valid_length v = let x = tabled t v in read_length (get_or t 5 0) t x.right x.some

  pub valid_headed : Valid t → headed t ≡ true
  unfolding headed
  valid_headed v =
      let x = tabled t v in
      let l = valid_length v in
      rw (le-leb table_head_size (length t) (omega arith), x.head, le-leb 1 (get_or t 5 0) x.some, le-leb (get_or t 5 0) most_entries x.most, eq-eqb (length t) (entry_place (get_or t 5 0)) l)

  headed_each : headed t ≡ true
      → (table_head_size ≤ length t) × (same (take 5 t) table_head ≡ true) × ((leb 1 (get_or t 5 0) && leb (get_or t 5 0) most_entries) ≡ true) × (entry_place (get_or t 5 0) ≡ length t)
  unfolding headed
  headed_each e =
      let x = and_four (leb table_head_size (length t)) (same (take 5 t) table_head) (leb 1 (get_or t 5 0) && leb (get_or t 5 0) most_entries) (eqb (length t) (entry_place (get_or t 5 0))) e in
      (leb-true table_head_size (length t) x.0, x.1, x.2, sym (eqb-true (length t) (entry_place (get_or t 5 0)) x.3))

  pub headed_long : headed t ≡ true → table_head_size ≤ length t
  headed_long e = (headed_each e).0

  pub headed_length : headed t ≡ true → entry_place (get_or t 5 0) ≡ length t
  headed_length e = (headed_each e).3

  pub valid_by : headed t ≡ true → is_done (table t) ≡ (is_done (entries (get_or t 5 0) (drop table_head_size t)) && right_names (read_entries (get_or t 5 0) t))
  valid_by e = table_tests t ∙ rw ((headed_each e).1, (headed_each e).2)

  pub headless : headed t ≡ false → false ≡ is_done (table t)
  headless e = by_test (is_done (table t)) (λ v. sym e ∙ valid_headed v ∙ sym v) (λ v. sym v)

-- ---- the entries of a valid table
table_reads : (t : Bytes) (es : List Entry) → table t ≡ done es → entries (get_or t 5 0) (drop table_head_size t) ≡ done es
unfolding table
table_reads t es p =
    from_need (same (take 5 t) table_head) 1 _ p λ h p₁.
    from_need (leb 1 (get_or t 5 0) && leb (get_or t 5 0) most_entries) 1 _ p₁ λ n p₂.
    from_bind (entries (get_or t 5 0) (drop table_head_size t)) _ p₂ λ fs r p₃.
    from_need (right_names fs) 1 _ p₃ λ l p₄.
    r ∙ p₄

module _ (t : Bytes) (v : Valid t) where
  same_entries : entries_of t ≡ read_entries (get_or t 5 0) t
  unfolding entries_of read_entries
  same_entries = sym (ap listed (table_reads t (entries_of t) (done_listed (table t) v)))

  pub valid_count : length (entries_of t) ≡ get_or t 5 0
  valid_count = ap length same_entries ∙ read_count (get_or t 5 0) t (tabled t v).right

  pub valid_most : length (entries_of t) ≤ most_entries
  valid_most = omega (arith, valid_count, (tabled t v).most)

  pub valid_levels : levels (group false) 0 (entries_of t) ≡ true
  valid_levels = ap (levels (group false) 0) same_entries ∙ (tabled t v).levelled

  pub valid_names : differ (names (entries_of t)) ≡ true
  valid_names = ap (λ es. differ (names es)) same_entries ∙ (tabled t v).differing

  module _ (i : ℕ) (h : i < length (entries_of t)) where
    below : i < get_or t 5 0
    below = omega (arith, valid_count)

    pub valid_reach : HasEntry t i
    valid_reach = read_reach (get_or t 5 0) t (tabled t v).right i below

    pub valid_made : Made (bytes_at t i) (get_or (entries_of t) i blank)
    valid_made = subst (λ (es : List Entry). Made (bytes_at t i) (get_or es i blank)) (sym same_entries) (read_made (get_or t 5 0) t (tabled t v).right i below)

    pub valid_decoded : entry_of_bytes (bytes_at t i) ≡ decoded (get_or (entries_of t) i blank)
    valid_decoded = valid_made.read

    pub valid_name : (entry_of_bytes (bytes_at t i)).name ≡ (get_or (entries_of t) i blank).name
    valid_name = ap (λ (r : Decoded). r.name) valid_decoded

    pub valid_level : (entry_of_bytes (bytes_at t i)).level ≡ (get_or (entries_of t) i blank).level
    valid_level = ap (λ (r : Decoded). r.level) valid_decoded

    pub valid_format : letter_coded (format_of (get_or (bytes_at t i) 3 0)) ≡ format_coded (get_or (entries_of t) i blank).what
    unfolding entry_of_bytes
    valid_format = ap (λ (r : Decoded). r.format) valid_decoded

    pub valid_size : get_or (bytes_at t i) 4 0 ≡ size_of (get_or (entries_of t) i blank).what
    unfolding entry_of_bytes
    valid_size = ap (λ (r : Decoded). r.size) valid_decoded

    pub valid_multiple : eqb (get_or (bytes_at t i) 5 0) 1 ≡ is_multiple (get_or (entries_of t) i blank).what
    unfolding entry_of_bytes
    valid_multiple = ap (λ (r : Decoded). r.multiple) valid_decoded

    pub valid_periodic : eqb (get_or (bytes_at t i) 5 0) 2 ≡ is_periodic (get_or (entries_of t) i blank).what
    unfolding entry_of_bytes
    valid_periodic = ap (λ (r : Decoded). r.periodic) valid_decoded

    pub valid_grouped : group_letter (bytes_at t i) ≡ is_group (get_or (entries_of t) i blank).what
    valid_grouped = valid_made.grouped

    -- a field's length is one that its format allows, and a periodic group has level 1
    pub valid_sound : Sound (get_or (entries_of t) i blank).level (get_or (entries_of t) i blank).what
    valid_sound = valid_made.sound

-- what the functions on a valid table's entries cite
pub ruleset valid_steps = (valid_count, valid_length, valid_reach, valid_decoded, valid_name, valid_level, valid_format, valid_size, valid_multiple, valid_periodic, valid_grouped)

-- what the tests of a table cite
pub ruleset valid_tests = (headed_long, headed_length, valid_by, headless)

pub ruleset valid_climbs = (valid_levels, valid_sound)
