-- A name means what its entry does: the bare name after N is that name with N, the use rules take its indexes by their numbers, and where the last
-- index so far matters it is kept.
use Rattle.std.specs.Prelude.{None, Some, Option as Optional, is_none}
use Rattle.std.proofs.lemmas.Option.{none-some}
use mathlib.Core.Path.{◌≡◌, refl, sym, ap, ◌∙◌}
use mathlib.Core.Bool.{Bool, true, false, cond, not, ◌&&◌, true≢false, false≢true}
use mathlib.Core.List.{List}
use mathlib.Core.Option.{Option, none, some}
use Prim.Native.Nat.{ℕ, ◌<◌}
use native.Mathlib.Omega.{arith}
use borrow.Author.Tests.{ne_eqb}
use lib.Dec.{eqb}
use lib.ListN.{length, get_or}
use Rattle.rules.specs.Outcome.{done}
use Rattle.rules.specs.Lists.{Bytes}
use Rattle.rules.specs.Table.{Field, Entry}
use Rattle.rules.specs.Format as rules
use Rattle.rules.specs.Format.{Range, the_last, named}
use Rattle.rules.specs.Use.{Use, Indexes, last_index, find, spread, use_of, use_of_field}
use Rattle.rules.specs.Last.{Meaning, Lasts, lies_inside, scoped, after_N, in_full}
use Rattle.rules.proofs.Steps.{by_test}
use Rattle.rules.proofs.Stands.{outer, inner, scoped_name}
use Rattle.tables.specs.Entries.{blank, is_group}
use Rattle.tables.specs.Places.{inside_at, found_at}
use Rattle.tables.specs.Groups.{field_at}
use Rattle.format_buffer.specs.Elements.{element_of, indexing_given, Small, with_occurrences}
use Rattle.format_buffer.specs.declared.Indexing.{Indexing}
use Rattle.format_buffer.specs.declared.Named.{Named}
use Rattle.format_buffer.specs.declared.Element.TheVariants as element
use Rattle.uses.specs.Spread.{range_given}
use Rattle.uses.specs.Effect.{length_given, letter_given}
use Rattle.uses.specs.Meant.{group_use, entry_use}
use Rattle.uses.specs.Scopes.{scopes_of_name}
use Rattle.uses.specs.Meanings.{kept_after_N, KeptOf, Remembers, last_indexing, name_in_full}
use Rattle.uses.proofs.Scoping.{ranges_told, scope_told}
use Rattle.uses.proofs.Finding.{as_scoped, found_name, inside_found, named_found}

-- With and without N.
abbrev with_N : Bool → Named → Named
with_N t n = cond t (with_occurrences n last_indexing) n

-- The element of a name in full is the rules' element in full.
module _ (es : List Entry) (ns : Lasts) (n : ℕ) (vs : Option rules.Indexing) (l g : Option ℕ) where
  in_full_by : (o : Optional Indexing) (q inside a : Bool) → after_N n ns ≡ a → lies_inside n es ≡ inside → (inside ≡ false → q ≡ a)
      → in_full es ns (named n (indexing_given o) vs l g) ≡ named n (cond (q && is_none o && not inside) (some the_last) (indexing_given o)) vs l g
  unfolding in_full
  in_full_by (Some x) true inside a p h e = refl
  in_full_by (Some x) false inside a p h e = refl
  in_full_by None true true true p h e = rw (p, h, in_full) refl
  in_full_by None true true false p h e = rw (p, in_full) refl
  in_full_by None true false true p h e = rw (p, h, in_full) refl
  in_full_by None true false false p h e = absurd (true≢false (e refl))
  in_full_by None false true true p h e = rw (p, h, in_full) refl
  in_full_by None false true false p h e = rw (p, in_full) refl
  in_full_by None false false true p h e = absurd (false≢true (e refl))
  in_full_by None false false false p h e = rw (p, in_full) refl

with_N_element : (f : Bytes) (t : Bool) (n : Named)
    → element_of f (element.Named (with_N t n)) ≡ named n.name (cond t (some the_last) (indexing_given n.occurrences)) (indexing_given n.values) (length_given n) (letter_given n)
with_N_element f true n = refl
with_N_element f false n = refl

-- What is kept of an entry outside periodic groups tells whether N was its last index, and the last index if it was not.
module _ (es : List Entry) (last : List ℕ) (ls : Indexes) (ns : Lasts) (i : ℕ) (k : KeptOf es last ls ns i) where
  kept_test : eqb (get_or last i 0) kept_after_N ≡ after_N (get_or es i blank).name ns
  kept_test = rw k.kept (by_test (after_N (get_or es i blank).name ns) (λ e. rw e refl) (λ e. rw e (ne_eqb (last_index (get_or es i blank).name ls) kept_after_N (λ z. omega (arith, k.bound)))))

  kept_plain : eqb (get_or last i 0) kept_after_N ≡ false → get_or last i 0 ≡ last_index (get_or es i blank).name ls
  kept_plain e = k.kept ∙ rw (sym kept_test ∙ e) refl

-- The last index so far matters only for bare names outside periodic groups.
spread_last : (inside mu : Bool) (o : Optional Indexing) (vs : Option Range) (k j : ℕ) → (inside ≡ false → o ≡ None → k ≡ j)
    → spread inside mu k (range_given o) vs ≡ spread inside mu j (range_given o) vs
unfolding spread
spread_last true mu (Some x) none k j e = refl
spread_last true mu (Some x) (some vs) k j e = refl
spread_last true mu None vs k j e = refl
spread_last false mu o (some vs) k j e = refl
spread_last false true (Some x) none k j e = refl
spread_last false true None none k j e = rw (e refl refl) refl
spread_last false false (Some x) none k j e = refl
spread_last false false None none k j e = refl

field_last : (f : Field) (inside : Bool) (o : Optional Indexing) (vs : Option Range) (l g : Option ℕ) (k j : ℕ) → (inside ≡ false → o ≡ None → k ≡ j)
    → use_of_field f inside k (range_given o) vs l g ≡ use_of_field f inside j (range_given o) vs l g
unfolding use_of_field
field_last f inside o vs l g k j e = rw (spread_last inside f.multiple o vs k j e) refl

-- A name that finds entry i.
module _ (es : List Entry) (i : ℕ) (m : Named) (e : find m.name es ≡ done (found_at es i)) where
  named_entry : Small m → (f : Bytes) (ls : Indexes) → use_of es ls (element_of f (element.Named m)) ≡ entry_use es i (last_index m.name ls) m
  unfolding field_at
  named_entry s f ls =
      named_found m.name es ls (indexing_given m.occurrences) (indexing_given m.values) (length_given m) (letter_given m) i e
      ∙ rw (ranges_told m.occurrences s.occurrences, ranges_told m.values s.values, found_name m.name es i e) refl

  entry_last : (k j : ℕ) → (inside_at es i ≡ false → m.occurrences ≡ None → k ≡ j) → entry_use es i k m ≡ entry_use es i j m
  entry_last k j q = ap (cond (is_group (get_or es i blank).what) (group_use es i m)) (field_last (field_at es i) (inside_at es i) m.occurrences _ _ _ k j q)

  name_scopes : (inside : Bool) (u : Use) → ◌≡◌ {A = Meaning}
      (record { meant = u; occurrences = outer inside (indexing_given m.occurrences); values = inner inside (indexing_given m.occurrences) (indexing_given m.values) })
      (as_scoped (scopes_of_name inside m) u)
  name_scopes true u = rw (scope_told m.occurrences, scope_told m.values) refl
  name_scopes false u = rw (scope_told m.occurrences) refl

  named_scoped : (f : Bytes) (u : Use) → scoped es (element_of f (element.Named m)) u ≡ as_scoped (scopes_of_name (inside_at es i) m) u
  unfolding found_at
  named_scoped f u = scoped_name es m.name _ _ _ _ u (found_at es i) e ∙ name_scopes (inside_at es i) u

-- The name in full, which finds the same entry.
name_with_N : (t : Bool) (n : Named) → (with_N t n).name ≡ n.name
name_with_N true n = refl
name_with_N false n = refl

small_with_N : (t : Bool) (n : Named) → Small n → Small (with_N t n)
small_with_N true n s = record { occurrences = record { from = omega arith; upto = omega arith; one = λ e. (refl, refl) }; values = s.values; length = s.length }
small_with_N false n s = s

-- Where it is bare outside periodic groups, the tests found no N.
bare_plain : (a inside : Bool) (n : Named) (o : Optional Indexing) → n.occurrences ≡ o → (with_N (a && is_none o && not inside) n).occurrences ≡ None → inside ≡ false → a ≡ false
bare_plain a true n o e q h = absurd (true≢false h)
bare_plain true false n (Some x) e q h = absurd (none-some x (sym q ∙ e))
bare_plain true false n None e q h = absurd (none-some last_indexing (sym q))
bare_plain false false n o e q h = refl

module _ (es : List Entry) (last : List ℕ) (n : Named) (i : ℕ) (h : i < length es) (e : find n.name es ≡ done (found_at es i)) where
  abbrev pub full : Named
  full = name_in_full (inside_at es i) (get_or last i 0) n

  abbrev has_last : Bool
  has_last = eqb (get_or last i 0) kept_after_N && is_none n.occurrences && not (inside_at es i)

  full_finds : find full.name es ≡ done (found_at es i)
  full_finds = rw (name_with_N has_last n) e

  pub full_small : Small n → Small full
  full_small s = small_with_N has_last n s

  module _ (f : Bytes) (ls : Indexes) (ns : Lasts) (r : Remembers es last ls ns) where
    pub name_full : in_full es ns (element_of f (element.Named n)) ≡ element_of f (element.Named full)
    name_full =
        in_full_by es ns n.name _ _ _ n.occurrences (eqb (get_or last i 0) kept_after_N) (inside_at es i) _ refl (inside_found n.name es i e)
        (λ o. kept_test es last ls ns i (r i h o) ∙ ap (λ m. after_N m ns) (found_name n.name es i e))
        ∙ sym (with_N_element f has_last n)

    pub name_use : Small n → entry_use es i (get_or last i 0) full ≡ use_of es ls (element_of f (element.Named full))
    name_use s =
        entry_last es i full full_finds (get_or last i 0) (last_index full.name ls)
        (λ o q. kept_plain es last ls ns i (r i h o) (bare_plain _ (inside_at es i) n n.occurrences refl q o) ∙ ap (λ m. last_index m ls) (found_name n.name es i e ∙ sym (name_with_N has_last n)))
        ∙ sym (named_entry es i full full_finds (full_small s) f ls)

  pub name_scoped : (f : Bytes) (u : Use) → scoped es (element_of f (element.Named full)) u ≡ as_scoped (scopes_of_name (inside_at es i) full) u
  name_scoped f u = named_scoped es i full full_finds f u
