-- What an element means, by the entries that its names find: a count and a series by the rules alone, a name by the entry's kind.
use Rattle.std.specs.Prelude.{Err, Ok, Result}
use Rattle.rules.specs.declared.Refusal.{Refusal}
use mathlib.Core.Path.{◌≡◌, refl, sym, ap, ◌∙◌}
use mathlib.Core.Bool.{Bool, false, cond}
use mathlib.Core.List.{List, [], ◌∷◌}
use mathlib.Core.Option.{Option}
use Prim.Native.Nat.{ℕ}
use borrow.Author.Tests.{eqb-true}
use lib.Dec.{eqb}
use lib.ListN.{get_or}
use Rattle.rules.specs.Outcome.{Outcome, done, refused, by, ◌>>=◌}
use Rattle.rules.specs.declared.Refusal.TheVariants.{UnknownName}
use Rattle.rules.specs.Lists.{Bytes}
use Rattle.rules.specs.Table.{What, field, group, Entry, is_inside}
use Rattle.rules.specs.Format as rules
use Rattle.rules.specs.Use.{Use, Found, Indexes, last_index, find, find_from, ranges_of, use_of, use_of_group, use_of_field}
use Rattle.rules.specs.Last.{Meaning, Lasts, lies_inside, scoped, in_full, meaning_of}
use Rattle.rules.proofs.Steps.{by_test, done_inj, not_done}
use Rattle.tables.specs.Entries.{blank, is_group}
use Rattle.tables.specs.Places.{inside_at, found_at}
use Rattle.tables.specs.Groups.{field_by}
use Rattle.format_buffer.specs.declared.Count.{Count}
use Rattle.uses.specs.Meant.{use_meant, outcome_of, Settles, count_use, series_use, count_named, series_named}
use Rattle.uses.specs.Scopes.{scope_at}
use Rattle.uses.specs.Meanings.{scoped_outcome}
use Rattle.uses.specs.declared.Use.{Use as CodeUse}
use Rattle.uses.specs.declared.scopes.Scopes.{Scopes}

-- The entry that is found has the name.
named_from : (b : Bool) (n : ℕ) (es : List Entry) (x : Found) → find_from b n es ≡ done x → x.entry.name ≡ n
unfolding find_from
named_from b n [] x p = absurd (not_done p)
named_from b n (e ∷ es) x p =
    by_test (eqb e.name n)
    (λ t. rw (← done_inj (rw (t, find_from) at p)) (eqb-true e.name n t))
    (λ t. named_from (is_inside b e) n es x (rw (t, find_from) at p))

module _ (n : ℕ) (es : List Entry) where
  pub found_name : (i : ℕ) → find n es ≡ done (found_at es i) → (get_or es i blank).name ≡ n
  unfolding find found_at
  found_name i p = named_from false n es (found_at es i) p

  pub inside_found : (i : ℕ) → find n es ≡ done (found_at es i) → lies_inside n es ≡ inside_at es i
  unfolding lies_inside found_at
  inside_found i e = rw (e, lies_inside) refl

  module _ (ls : Indexes) (os vs : Option rules.Indexing) (l g : Option ℕ) where
    pub named_nothing : find n es ≡ refused (by 4) → use_of es ls (rules.named n os vs l g) ≡ refused (by 4)
    unfolding use_of
    named_nothing e = rw e

    by_kind : (w : What) (inside : Bool) (last : ℕ) (a : Outcome Use)
        → ◌≡◌ {A = Outcome Use}
        (elim w [ group p ↦ a | field f s mu ↦ use_of_field (record { name = n; format = f; size = s; multiple = mu }) inside last (ranges_of os) (ranges_of vs) l g ])
        (cond (is_group w) a (use_of_field (field_by n w) inside last (ranges_of os) (ranges_of vs) l g))
    unfolding field_by
    by_kind (field f s m) inside last a = refl
    by_kind (group p) inside last a = refl

    pub named_found : (i : ℕ) → find n es ≡ done (found_at es i)
        → use_of es ls (rules.named n os vs l g)
        ≡ cond (is_group (get_or es i blank).what) (use_of_group (found_at es i) (ranges_of os) (ranges_of vs) l g)
        (use_of_field (field_by n (get_or es i blank).what) (inside_at es i) (last_index n ls) (ranges_of os) (ranges_of vs) l g)
    unfolding use_of found_at
    named_found i e = rw e (by_kind (get_or es i blank).what (inside_at es i) (last_index n ls) _)

-- A count, and a series.
module _ (es : List Entry) (c : Count) where
  pub counted_nothing : find c.name es ≡ refused (by 4) → Settles es (count_named es c) (Err UnknownName)
  counted_nothing e = record { answer = λ f. rw e refl; held = λ f. tt }

  pub counted_as : (i : ℕ) → find c.name es ≡ done (found_at es i) → (r : Result CodeUse Refusal) → Settles es (count_use es i c) r → Settles es (count_named es c) r
  unfolding found_at
  counted_as i e r s = record { answer = λ f. s.answer f ∙ rw (found_name c.name es i e, e) refl; held = s.held }

module _ (es : List Entry) (n m : ℕ) where
  pub no_first : find n es ≡ refused (by 4) → Settles es (series_named es n m) (Err UnknownName)
  no_first e = record { answer = λ f. rw e refl; held = λ f. tt }

  module _ (i : ℕ) (e : find n es ≡ done (found_at es i)) where
    pub no_last : find m es ≡ refused (by 4) → Settles es (series_named es n m) (Err UnknownName)
    no_last q = record { answer = λ f. rw (e, q) refl; held = λ f. tt }

    pub series_to : (j : ℕ) → find m es ≡ done (found_at es j) → (r : Result CodeUse Refusal) → Settles es (series_use es i j) r → Settles es (series_named es n m) r
    series_to j q r s = record { answer = λ f. s.answer f ∙ rw (found_name m es j q, e, q) refl; held = s.held }

-- The rules' outcome with scopes, where the code has both.
abbrev pub as_scoped : Scopes → Use → Meaning
as_scoped s u = record { meant = u; occurrences = scope_at s.occurrences; values = scope_at s.values }

module _ (es : List Entry) (f : Bytes) where
  outcome_scoped : (m : Result CodeUse Refusal) (s : Scopes) (g : Use → Meaning) {o : Outcome Use} → outcome_of es f m ≡ o → ((u : Use) → g u ≡ as_scoped s u)
      → scoped_outcome es f m s ≡ (o >>= λ u. done (g u))
  outcome_scoped (Ok u) s g e h = rw (← e) (ap done (sym (h (use_meant es f u))))
  outcome_scoped (Err x) s g e h = rw (← e) refl

  pub meaning_as : (ls : Indexes) (ns : Lasts) (x y : rules.Element) (m : Result CodeUse Refusal) (s : Scopes) → in_full es ns x ≡ y → outcome_of es f m ≡ use_of es ls y
      → ((u : Use) → scoped es y u ≡ as_scoped s u) → scoped_outcome es f m s ≡ meaning_of es ls ns x
  unfolding meaning_of
  meaning_as ls ns x y m s e q h = rw e (outcome_scoped m s (scoped es y) q h)

-- What settles a count and a series by their names.
pub ruleset count_laws = (counted_nothing, counted_as)

pub ruleset series_laws = (no_first, no_last, series_to)
