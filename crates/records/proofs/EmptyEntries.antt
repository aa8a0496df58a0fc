-- What an entry adds to the empty record, by what the code has of it, and the walk over the entries.
use Rattle.std.specs.Prelude.{None, Some}
use Rattle.std.proofs.lemmas.Option.{none-some}
use mathlib.Core.Path.{◌≡◌, refl, sym, subst, ◌∙◌, ap}
use mathlib.Core.Bool.{Bool, true, false, not, cond, ◌&&◌, ◌||◌}
use mathlib.Core.List.{List, [], ◌∷◌, ◌++◌}
use Prim.Native.Nat.{ℕ, ◌+◌, ◌≤◌, ◌<◌}
use native.Mathlib.Numerals.{add-one}
use native.Mathlib.Omega.{arith}
use lib.Dec.{ltb}
use lib.ListN.{length, drop, get_or, length-append, drop_of_length-le}
use lib.Seq.{drop-cons}
use Rattle.std.proofs.lemmas.Bool.Decides.{nat_tests}
use Rattle.rules.specs.Limits.{longest_alpha, count_size}
use Rattle.rules.specs.Lists.{Bytes}
use Rattle.rules.specs.Values.{allowed, null}
use Rattle.rules.specs.Record.{count_bytes}
use Rattle.rules.specs.Table.{What, field, group, Entry, inside_of, is_inside}
use Rattle.tables.specs.Entries.{blank, format_at, coded, format_coded, size_of, is_multiple, is_periodic, decoded}
use Rattle.buffer.specs.Splice.{splice}
use Rattle.buffer.proofs.Laws.{splice_nil, splice_rest, length_splice}
use Rattle.rules.proofs.Steps.{by_test}
use Rattle.buffer.proofs.Cases.{by_order}
use Rattle.value_formats.specs.declared.Format.{Format}
use Rattle.tables.proofs.EntryFields.{field_coded}
use Rattle.values.proofs.Numbered.{longest_size}
use Rattle.values.proofs.Nulls.{null_0, null_size}
use Rattle.tables.proofs.EntryBytes.{Sound}
use Rattle.records.specs.Empty.{empty_entry, empty_from, null_of}

-- No format allows a longer value than A, so null is no longer.
pub null_short : (f : Format) (n : ℕ) → allowed (format_at f) n ≡ true → length (null (format_at f) n) ≤ longest_alpha
null_short f n a = by_order n 1
    (λ l. let z : n ≡ 0 = omega arith in omega (arith, ap length (null_0 f n z a)))
    (λ l. omega (arith, null_size f n (λ z. omega arith), longest_size f n a))

-- Inside a periodic group, as the code tests it.
pub inside_periodic : (before : Bool) (l : ℕ) (w : What) → is_periodic w ≡ true → inside_of before l w ≡ true
unfolding inside_of
inside_periodic before l (field f n m) h = absurd (let z : ◌≡◌ {A = ℕ} 0 1 = cc in omega arith)
inside_periodic before l (group p) h = rw h refl

pub inside_deeper : (before : Bool) (l : ℕ) (w : What) → is_periodic w ≡ false → before ≡ true → inside_of before l w ≡ ltb 1 l
unfolding inside_of
inside_deeper before l (field f n m) h b = rw b refl
inside_deeper before l (group p) h b = rw (h, b) refl

pub inside_not : (before : Bool) (l : ℕ) (w : What) → is_periodic w ≡ false → before ≡ false → inside_of before l w ≡ false
unfolding inside_of
inside_not before l (field f n m) h b = rw b refl
inside_not before l (group p) h b = rw (h, b) refl

-- The walk: an entry, then those after it; and no entry.
pub empty_turn : (before : Bool) (es : List Entry) (i : ℕ) (d : Entry) → i < length es
    → empty_from before (drop i es) ≡ empty_entry (is_inside before (get_or es i d)) (get_or es i d).what ++ empty_from (is_inside before (get_or es i d)) (drop (i + 1) es)
unfolding empty_from
empty_turn before es i d h = rw (drop-cons es i d h, add-one) refl

pub empty_over : (before : Bool) (es : List Entry) (i : ℕ) → length es ≤ i → empty_from before (drop i es) ≡ []
unfolding empty_from
empty_over before es i h = rw (drop_of_length-le es h) refl

-- What adds null is a plain field outside periodic groups.
module _ (inside : Bool) (e : Entry) (f : Format) (h : null_of inside (decoded e) ≡ Some f) where
  null_plain : (inside ≡ false) × (e.what ≡ field (format_at f) (size_of e.what) false)
  unfolding null_of
  null_plain = go e.what inside h
    where
      go : (w : What) (i : Bool) → cond (i || is_multiple w) None (format_coded w) ≡ Some f → (i ≡ false) × (w ≡ field (format_at f) (size_of w) false)
      go w true q = absurd (none-some f q)
      go (group p) false q = absurd (none-some f q)
      go (field g n true) false q = absurd (none-some f q)
      go (field g n false) false q = (refl, field_coded (field g n false) f q)

  pub null_adds : empty_entry inside e.what ≡ null (format_at f) (size_of e.what)
  unfolding empty_entry
  null_adds = rw null_plain.0 (ap (empty_entry false) null_plain.1)

  pub null_allowed : Sound e.level e.what → allowed (format_at f) (size_of e.what) ≡ true
  null_allowed s = subst (Sound e.level) null_plain.1 s

-- Another entry adds a count of 0 or nothing.
counts : Bool → What → Bool
counts inside w = is_periodic w || (not inside && is_multiple w)

module _ (inside : Bool) (e : Entry) where
  pub nothing_added : length (empty_entry inside e.what) ≡ 0 → empty_entry inside e.what ≡ []
  nothing_added h = go (empty_entry inside e.what) h
    where
      go : (bs : Bytes) → length bs ≡ 0 → bs ≡ []
      go [] z = refl
      go (b ∷ bs) z = absurd (omega (arith, z))

module _ (inside : Bool) (e : Entry) (h : null_of inside (decoded e) ≡ None) where
  adds_other : empty_entry inside e.what ≡ cond (counts inside e.what) (count_bytes 0) []
  unfolding null_of empty_entry counts
  adds_other = go e.what inside h
    where
      go : (w : What) (i : Bool) → cond (i || is_multiple w) None (format_coded w) ≡ None → empty_entry i w ≡ cond (counts i w) (count_bytes 0) []
      go (group true) i q = refl
      go (group false) true q = refl
      go (group false) false q = refl
      go (field f n m) true q = refl
      go (field f n true) false q = refl
      go (field f n false) false q = absurd (none-some (coded f) (sym q))

  pub count_added : (length (empty_entry inside e.what) ≡ 0 → ⊥) → empty_entry inside e.what ≡ count_bytes 0
  count_added z = adds_other ∙ by_test (counts inside e.what)
      (λ t. rw t refl)
      (λ t. absurd (z (ap length adds_other ∙ rw t refl)))

  pub other_periodic : is_periodic e.what ≡ true → length (empty_entry inside e.what) ≡ count_size
  unfolding counts count_bytes
  other_periodic p = ap length adds_other ∙ rw p refl

  pub other_multiple : inside ≡ false → is_multiple e.what ≡ true → length (empty_entry inside e.what) ≡ count_size
  unfolding counts count_bytes
  other_multiple i m = ap length adds_other ∙ by_test (is_periodic e.what) (λ p. rw p refl) (λ p. rw (p, i, m) refl)

  pub other_none : is_periodic e.what ≡ false → (not inside && is_multiple e.what) ≡ false → length (empty_entry inside e.what) ≡ 0
  unfolding counts
  other_none p q = ap length adds_other ∙ rw (p, q) refl

-- A loop that writes what the entries add: i are written, up to the place `at`, and the rest makes up the whole.
pub record Writing (es : List Entry) (start : ℕ) (out₀ out : Bytes) (inside : Bool) (i at : ℕ) : Type 0 where
  pub same : length out ≡ length out₀
  pub room : at + length (empty_from inside (drop i es)) ≤ length out
  pub rest : splice at (empty_from inside (drop i es)) out ≡ splice start (empty_from false es) out₀

module _ {es : List Entry} {start : ℕ} {out₀ out : Bytes} {inside : Bool} {i at : ℕ} (w : Writing es start out₀ out inside i at) where
  module _ (less : i < length es) (here-inside : Bool) (is : here-inside ≡ is_inside inside (get_or es i blank)) where
    added : Bytes
    added = empty_entry here-inside (get_or es i blank).what

    first : empty_from inside (drop i es) ≡ added ++ empty_from here-inside (drop (i + 1) es)
    unfolding added
    first = rw is (empty_turn inside es i blank less)

    pub writing_room : at + length (empty_entry here-inside (get_or es i blank).what) ≤ length out
    unfolding added
    writing_room = omega (arith, w.room, rw length-append at (ap length first))

    pub writing_turn : (at' : ℕ) (out' : Bytes) → at' ≡ at + length (empty_entry here-inside (get_or es i blank).what)
        → out' ≡ splice at (empty_entry here-inside (get_or es i blank).what) out → Writing es start out₀ out' here-inside (i + 1) at'
    unfolding added
    writing_turn at' out' e q =
        let l : length out' ≡ length out = ap length q ∙ length_splice at added out writing_room in
        record {
          same = l ∙ w.same;
          room = omega (arith, w.room, rw length-append at (ap length first));
          rest = splice_rest at added (empty_from here-inside (drop (i + 1) es)) out out' (splice start (empty_from false es) out₀) at' (rw (← first) w.rest) q e writing_room;
        }

  pub writing_end : length es ≤ i → out ≡ splice start (empty_from false es) out₀
  writing_end h = sym (splice_nil at out) ∙ rw (empty_over inside es i h) at w.rest

-- what the test of the next entry cites
pub ruleset inside_tests = (nat_tests, inside_periodic, inside_deeper, inside_not)

-- what the size of an entry that adds no null cites
pub ruleset size_tests = (nat_tests, other_periodic, other_multiple, other_none)
