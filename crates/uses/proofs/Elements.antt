-- What each element of a read means, by what its names find: the use that the rules give, with the scopes of its indexes.
use Rattle.std.specs.Prelude.{Err, Ok, Result, None, Some, Option as Optional}
use Rattle.rules.specs.declared.Refusal.{Refusal}
use Rattle.tables.proofs.Tables.{valid_most}
use Rattle.uses.specs.declared.Use.{Use}
use mathlib.Core.Path.{◌≡◌, refl, ◌∙◌}
use mathlib.Core.Bool.{not, ◌&&◌}
use mathlib.Core.List.{List}
use mathlib.Core.Option.{Option, none, some}
use Prim.Native.Nat.{ℕ, ◌<◌, ◌≤◌}
use lib.ListN.{length, get_or}
use Rattle.rules.specs.Outcome.{done, refused, by}
use Rattle.rules.specs.Limits.{longest_blanks}
use Rattle.rules.specs.declared.Refusal.TheVariants.{UnknownName}
use Rattle.rules.specs.Lists.{Bytes}
use Rattle.rules.specs.Table.{Entry}
use Rattle.rules.specs.Format as rules
use Rattle.rules.specs.Use.{Indexes, find, use_of}
use Rattle.rules.specs.Last.{Lasts, lies_inside, scoped, after_N, in_full, meaning_of}
use Rattle.rules.proofs.Steps.{by_test}
use Rattle.tables.specs.Entries.{Valid, entries_of}
use Rattle.tables.specs.Places.{inside_at, found_at}
use Rattle.format_buffer.specs.Elements.{element_of, indexing_given, count_reaching, count_given, small_count}
use Rattle.format_buffer.specs.declared.Scope.{Scope}
use Rattle.format_buffer.specs.declared.Scope.TheVariants.{AsWritten, LastAlone, UpToLast}
use Rattle.format_buffer.specs.declared.Indexing.{Indexing}
use Rattle.format_buffer.specs.declared.Named.{Named}
use Rattle.format_buffer.specs.declared.Count.{Count}
use Rattle.format_buffer.specs.declared.Element.TheVariants as element
use Rattle.uses.specs.Meant.{outcome_of, Settles, SettlesEntry, entry_use, index_given, count_named, series_named}
use Rattle.uses.specs.Scopes.{both_written, scope_given, scopes_of_count, scopes_of_name}
use Rattle.uses.specs.Meanings.{scoped_outcome, unscoped, name_in_full, Means}
use Rattle.uses.specs.declared.Use.TheVariants as code
use Rattle.uses.specs.declared.scopes.Scopes.{Scopes}
use Rattle.uses.proofs.Scoping.{last_unwritten}
use Rattle.uses.proofs.Finding.{meaning_as, named_nothing}
use Rattle.uses.proofs.Naming.{name_full, name_use, name_scoped}
use Rattle.uses.proofs.Reaching.{written_good, name_good, count_good}

-- Blanks, and a text.
module _ (es : List Entry) (last : List ℕ) where
  pub blanks_mean : (n k : ℕ) → k ≡ n → k ≤ longest_blanks → Means es last (element.Blanks n) (unscoped (Ok (code.Blanks k)))
  unfolding meaning_of in_full use_of scoped
  blanks_mean n k e h = record { answer = λ f ls ns s m. rw e refl; held = λ f s. h; scoped = λ f s. tt }

  pub text_means : (from upto : ℕ) → Means es last (element.Text from upto) (unscoped (Ok (code.Text from upto)))
  unfolding meaning_of in_full use_of scoped
  text_means from upto = record { answer = λ f ls ns s m. refl; held = λ f s. s; scoped = λ f s. tt }

  -- A series.
  pub series_means : (n m : ℕ) (r : Result Use Refusal) → Settles es (series_named es n m) r → Means es last (element.Series n m) (unscoped r)
  unfolding in_full use_of scoped
  series_means n m r w = record {
    answer = λ f ls ns s k. meaning_as es f ls ns (rules.series n m) (rules.series n m) r both_written refl (w.answer f) (λ u. refl);
    held = λ f s. w.held f;
    scoped = λ f s. written_good es r;
  }

-- A count, in an occurrence or in the last, by the indexes that it has.
module _ (es : List Entry) (f : Bytes) (ls : Indexes) (ns : Lasts) (name : ℕ) (r : Result Use Refusal) where
  abbrev told : rules.Element → Scope → Type 0
  told x s = scoped_outcome es f r (record { occurrences = s; values = AsWritten }) ≡ meaning_of es ls ns x

  count_reached : (s : Scope) (i : ℕ) → ((s ≡ AsWritten → ⊥) → i ≡ 1) → (s ≡ UpToLast → ⊥) → outcome_of es f r ≡ use_of es ls (rules.count name (some i)) → told (count_reaching s name i) s
  unfolding in_full use_of scoped
  count_reached AsWritten i h l e = meaning_as es f ls ns (rules.count name (some i)) (rules.count name (some i)) r _ refl e (λ u. refl)
  count_reached LastAlone i h l e = meaning_as es f ls ns (rules.count_in_last name) (rules.count_in_last name) r _ refl (e ∙ rw (h last_unwritten) refl) (λ u. refl)
  count_reached UpToLast i h l e = absurd (l refl)

  count_told : (x : Optional Indexing) → small_count x → outcome_of es f r ≡ use_of es ls (rules.count name (index_given x)) → told (count_given name x) (scope_given x)
  unfolding in_full use_of scoped
  count_told None s e = meaning_as es f ls ns (rules.count name none) (rules.count name none) r _ refl e (λ u. refl)
  count_told (Some x) s e = count_reached x.scope x.from (λ z. (s.0.one z).0) s.1 e

module _ (t : Bytes) (v : Valid t) (last : List ℕ) (c : Count) (r : Result Use Refusal) (w : Settles (entries_of t) (count_named (entries_of t) c) r) where
  pub count_means : Means (entries_of t) last (element.Count c) (record { meant = r; scopes = scopes_of_count c })
  unfolding use_of
  count_means = record {
    answer = λ f ls ns s k. count_told (entries_of t) f ls ns c.name r c.index s (w.answer f);
    held = λ f s. w.held f;
    scoped = λ f s. count_good t v c f s r w;
  }

-- A name; with or without N it is the same name.
module _ (es : List Entry) (ls : Indexes) (ns : Lasts) (n : ℕ) (e : find n es ≡ refused (by 4)) (vs : Option rules.Indexing) (l g : Option ℕ) where
  unknown_name : (os : Option rules.Indexing) → refused (by 4) ≡ meaning_of es ls ns (rules.named n os vs l g)
  unfolding meaning_of in_full
  unknown_name (some x) = rw (named_nothing n es ls (some x) vs l g e) refl
  unknown_name none = by_test (after_N n ns && not (lies_inside n es))
      (λ t. rw (t, in_full, named_nothing n es ls (some rules.the_last) vs l g e) refl)
      (λ t. rw (t, in_full, named_nothing n es ls none vs l g e) refl)

pub name_nothing : (es : List Entry) (last : List ℕ) (n : Named) → find n.name es ≡ refused (by 4) → Means es last (element.Named n) (unscoped (Err UnknownName))
name_nothing es last n e = record { answer = λ f ls ns s m. unknown_name es ls ns n.name e _ _ _ (indexing_given n.occurrences); held = λ f s. tt; scoped = λ f s. tt }

module _ (t : Bytes) (v : Valid t) (last : List ℕ) (n : Named) (i : ℕ) (h : i < length (entries_of t)) (e : find n.name (entries_of t) ≡ done (found_at (entries_of t) i)) where
  abbrev entries : List Entry
  entries = entries_of t

  abbrev full : Named
  full = name_in_full (inside_at entries i) (get_or last i 0) n

  name_means : (r : Result Use Refusal) → SettlesEntry entries i (entry_use entries i (get_or last i 0) full) r
      → Means entries last (element.Named n) (record { meant = r; scopes = scopes_of_name (inside_at entries i) full })
  name_means r w = record {
    answer = λ f ls ns s m. meaning_as entries f ls ns (element_of f (element.Named n)) (element_of f (element.Named full)) r (scopes_of_name (inside_at entries i) full)
        (name_full entries last n i h e f ls ns m) (w.settles.answer f ∙ name_use entries last n i h e f ls ns m s) (name_scoped entries last n i h e f);
    held = λ f s. w.settles.held f;
    scoped = λ f s. name_good full t v i h (get_or last i 0) r w;
  }

  -- The same by the numbers that the code has.
  pub name_as : (k : ℕ) (m : Named) (x : Scopes) → k ≡ get_or last i 0 → m ≡ name_in_full (inside_at entries i) k n → x ≡ scopes_of_name (inside_at entries i) m
      → (r : Result Use Refusal) → SettlesEntry entries i (entry_use entries i k m) r → Means entries last (element.Named n) (record { meant = r; scopes = x })
  name_as k m x p q z r w = rw (z, q, p) (name_means r (rw (q, p) at w))

-- What a name means, and any other element.
pub ruleset name_laws = (valid_most, name_nothing, name_as)

pub ruleset element_laws = (blanks_mean, text_means, series_means, count_means)
