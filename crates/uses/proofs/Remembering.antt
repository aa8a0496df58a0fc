-- What is kept of the last index so far of each entry, before any element and after a span: only the MU field of a span is set, by the entry's number.
use mathlib.Core.Path.{◌≡◌, refl, sym, ap, subst, ◌∙◌}
use mathlib.Core.Bool.{Bool, true, false, cond, true≢false, false≢true}
use mathlib.Core.List.{List, [], ◌∷◌, map}
use Prim.Native.Nat.{ℕ, zero, suc, ◌<◌, ◌≤◌}
use native.Mathlib.Omega.{arith}
use borrow.Author.Tests.{eqb-true, eqb-false}
use lib.Dec.{eqb}
use lib.ListN.{length, get_or, set, replicate, length-set}
use lib.Seq.{get_or-set_same, get_or-set_other}
use Rattle.rules.specs.Limits.{most_entries, highest_index}
use Rattle.rules.specs.Lists.{Bytes, filter, look_up}
use Rattle.rules.specs.Table.{Entry}
use Rattle.rules.specs.Use.{Asked, Indexes, last_index, indexes_after}
use Rattle.rules.specs.Last.{Lasts, after_N, is_last, lasts_by}
use Rattle.rules.proofs.Steps.{by_test}
use Rattle.rules.proofs.Lasts.{NoN, no_N_yet}
use Rattle.tables.specs.Entries.{Valid, entries_of, blank, is_multiple}
use Rattle.tables.specs.Groups.{field_at}
use Rattle.tables.proofs.EntryFields.{name_at}
use Rattle.tables.proofs.Known.{one_entry}
use Rattle.tables.proofs.Tables.{valid_most}
use Rattle.format_buffer.specs.Elements.{range}
use Rattle.format_buffer.specs.declared.Scope.{Scope as Reach}
use Rattle.format_buffer.specs.declared.Scope.TheVariants.{AsWritten}
use Rattle.uses.specs.Meant.{asked_by, GoodSpan, GoodUse, GoodSpanOf}
use Rattle.uses.specs.Scopes.{scope_at}
use Rattle.uses.specs.Meanings.{indexes_kept, kept_after_N, kept_index, Remembers, Remembered}
use Rattle.uses.specs.declared.Span.{Span}
use Rattle.uses.specs.declared.Use.{Use}
use Rattle.uses.specs.declared.Use.TheVariants as code
use Rattle.uses.specs.declared.Use.TheVariants.{Values}
use Rattle.uses.proofs.Spreading.{ordered_within}
use Rattle.uses.proofs.Scoping.{unwritten_last}
use Rattle.uses.proofs.Fields.{multiple_at}

zeros : (k i : ℕ) → ◌≡◌ {A = ℕ} (get_or (replicate k 0) i 0) 0
zeros zero zero = refl
zeros zero (suc i) = refl
zeros (suc k) zero = refl
zeros (suc k) (suc i) = zeros k i

pub none_remembered : (es : List Entry) → Remembers es (replicate indexes_kept 0) [] []
unfolding last_index after_N look_up
none_remembered es i h o = record { kept = zeros indexes_kept i; bound = omega arith }

-- Where N was no field's last index, none need be told.
pub plain_remembered : (es : List Entry) (last : List ℕ) (ls : Indexes) (ns : Lasts) → NoN ns → Remembers es last ls ns → Remembers es last ls []
plain_remembered es last ls ns z r i h o =
    record { kept = (r i h o).kept ∙ rw (z (get_or es i blank).name, no_N_yet (get_or es i blank).name) refl; bound = (r i h o).bound }

pub span_known : (es : List Entry) (f : Bytes) (u : Use) → GoodUse es f u → GoodSpanOf es u
span_known es f (code.Blanks n) h = tt
span_known es f (code.Text from upto) h = tt
span_known es f (code.GroupCount i) h = tt
span_known es f (code.ValueCount i k) h = tt
span_known es f (code.Values s) h = h

-- The MU fields of a span.
abbrev multiples : List Asked → List Asked
multiples fs = filter (λ a. a.field.multiple) fs

module _ (es : List Entry) (s : Span) where
  stored_none : GoodSpan es s → (b : Bool) → b ≡ s.standard → b ≡ true → multiples (asked_by es b s) ≡ []
  stored_none h true e q = h.single (sym e)
  stored_none h false e q = absurd (false≢true q)

  single_none : (b : Bool) → b ≡ false → (field_at es s.first).multiple ≡ false → multiples (asked_by es b s) ≡ []
  unfolding filter
  single_none true q m = absurd (true≢false q)
  single_none false q m = rw (m, filter)

  multiple_one : {A : Type 0} (v : A) (b : Bool) → b ≡ false → (field_at es s.first).multiple ≡ true
      → map {B = ℕ × A} (λ a. (a.field.name, v)) (multiples (asked_by es b s)) ≡ ((get_or es s.first blank).name, v) ∷ []
  unfolding filter
  multiple_one v true q m = absurd (true≢false q)
  multiple_one v false q m = rw (m, filter) (ap (λ n. (n, v) ∷ []) (name_at es s.first))

-- What is kept, and what is set.
module _ (m n v : ℕ) (b : Bool) (ls : Indexes) (ns : Lasts) where
  index_here : eqb m n ≡ true → last_index n ((m, v) ∷ ls) ≡ v
  unfolding last_index look_up
  index_here e = rw (e, look_up, last_index)

  index_other : eqb m n ≡ false → last_index n ((m, v) ∷ ls) ≡ last_index n ls
  unfolding last_index look_up
  index_other e = rw (e, look_up, last_index)

  after_here : eqb m n ≡ true → after_N n ((m, b) ∷ ns) ≡ b
  unfolding after_N look_up
  after_here e = rw (e, look_up, after_N)

  after_other : eqb m n ≡ false → after_N n ((m, b) ∷ ns) ≡ after_N n ns
  unfolding after_N look_up
  after_other e = rw (e, look_up, after_N)

  kept_here : eqb m n ≡ true → kept_index n ((m, v) ∷ ls) ((m, b) ∷ ns) ≡ cond b kept_after_N v
  kept_here e = rw (after_here e, index_here e) refl

  kept_other : eqb m n ≡ false → kept_index n ((m, v) ∷ ls) ((m, b) ∷ ns) ≡ kept_index n ls ns
  kept_other e = rw (after_other e, index_other e) refl

module _ (es : List Entry) (last : List ℕ) (i k v : ℕ) (b : Bool) (h : i < length last) (e : k ≡ cond b kept_after_N v) (l : v ≤ highest_index)
    (unique : (j : ℕ) → j < length es → (get_or es i blank).name ≡ (get_or es j blank).name → i ≡ j) where
  remembers_set : (ls : Indexes) (ns : Lasts) → Remembers es last ls ns
      → Remembers es (set last i k) (((get_or es i blank).name, v) ∷ ls) (((get_or es i blank).name, b) ∷ ns)
  remembers_set ls ns r j q o =
      by_test (eqb (get_or es i blank).name (get_or es j blank).name)
      (λ t. record {
        kept = ap (λ n. get_or (set last i k) n 0) (sym (unique j q (eqb-true _ _ t))) ∙ get_or-set_same last i k 0 h ∙ e ∙ sym (kept_here _ _ v b ls ns t);
        bound = subst (λ n. n ≤ highest_index) (sym (index_here _ _ v b ls ns t)) l;
      })
      (λ t. record {
        kept = get_or-set_other last i j k 0 (λ z. eqb-false _ _ t (ap (λ n. (get_or es n blank).name) (sym z))) ∙ (r j q o).kept ∙ sym (kept_other _ _ v b ls ns t);
        bound = subst (λ n. n ≤ highest_index) (sym (index_other _ _ v b ls ns t)) (r j q o).bound;
      })

module _ (es : List Entry) (s : Span) (scope : Reach) (last : List ℕ) where
  same_indexes : multiples (asked_by es s.standard s) ≡ [] → Remembered es (Values s) scope last last
  unfolding indexes_after lasts_by
  same_indexes e = record { same = refl; indexes = λ f ls ns r. rw e r }

  multiple_set : (k : ℕ) → k ≡ cond (is_last (scope_at scope)) kept_after_N s.value_upto → s.value_upto ≤ highest_index
      → s.standard ≡ false → (field_at es s.first).multiple ≡ true → s.first < length last
      → ((j : ℕ) → j < length es → (get_or es s.first blank).name ≡ (get_or es j blank).name → s.first ≡ j)
      → Remembered es (Values s) scope last (set last s.first k)
  unfolding indexes_after lasts_by
  multiple_set k e l q m h u = record {
    same = simp length-set;
    indexes = λ f ls ns r. rw (multiple_one es s s.value_upto s.standard q m, multiple_one es s (is_last (scope_at scope)) s.standard q m)
        (remembers_set es last s.first k s.value_upto (is_last (scope_at scope)) h e l u ls ns r);
  }

-- What is kept after the index of the last entry is no entry's index.
after_remembered : (es : List Entry) (u : Use) (scope : Reach) (last after : List ℕ) (n v : ℕ) → length es ≤ n
    → Remembered es u scope (set last n v) after → Remembered es u scope last after
after_remembered es u scope last after n v h r = record {
  same = r.same ∙ length-set last n v;
  indexes = λ f ls ns k. r.indexes f ls ns (λ j q o. record { kept = get_or-set_other last n j v 0 (λ e. omega arith) ∙ (k j q o).kept; bound = (k j q o).bound });
}

pub values_within : (es : List Entry) (s : Span) → GoodSpan es s → s.value_upto ≤ highest_index
values_within es s g = (ordered_within (range s.value_from s.value_upto) g.values).2

-- After a span the number after its entries is kept, and the last index of its MU field, or that it is N.
module _ (t : Bytes) (v : Valid t) (s : Span) (g : GoodSpan (entries_of t) s) (scope : Reach) (last : List ℕ) (l : length last ≡ indexes_kept) where
  abbrev entries : List Entry
  entries = entries_of t

  near_kept : (after : List ℕ) → Remembered entries (Values s) scope (set last most_entries s.end) after → Remembered entries (Values s) scope last after
  near_kept after r = after_remembered entries _ _ _ _ _ _ (valid_most t v) r

  pub standard_remembered : s.standard ≡ true → Remembered entries (Values s) scope last (set last most_entries s.end)
  standard_remembered q = near_kept _ (same_indexes entries s _ _ (stored_none entries s g s.standard refl q))

  pub single_remembered : is_multiple (get_or entries s.first blank).what ≡ false → Remembered entries (Values s) scope last (set last most_entries s.end)
  single_remembered m = by_test s.standard standard_remembered (λ q. near_kept _ (same_indexes entries s _ _ (single_none entries s s.standard q (multiple_at entries s.first ∙ m))))

  module _ (q : s.standard ≡ false) (m : is_multiple (get_or entries s.first blank).what ≡ true) where
    multiple_remembered : (k : ℕ) → k ≡ cond (is_last (scope_at scope)) kept_after_N s.value_upto → Remembered entries (Values s) scope last (set (set last most_entries s.end) s.first k)
    multiple_remembered k e =
        let first : s.first < length entries = omega (arith, g.ordered, g.upto) in
        near_kept _ (multiple_set entries s _ _ k e (values_within entries s g) q (multiple_at entries s.first ∙ m)
        (omega (arith, first, valid_most t v, l, length-set last most_entries s.end))
        (λ j h n. one_entry t v _ j first h n))

    pub written_remembered : scope ≡ AsWritten → Remembered entries (Values s) scope last (set (set last most_entries s.end) s.first s.value_upto)
    written_remembered e = multiple_remembered _ (rw e refl)

    pub last_remembered : (scope ≡ AsWritten → ⊥) → Remembered entries (Values s) scope last (set (set last most_entries s.end) s.first kept_after_N)
    last_remembered e = multiple_remembered _ (rw (unwritten_last scope e) refl)

-- Blanks, text and counts leave the indexes as they are.
pub others_remembered : (es : List Entry) (u : Use) (scope : Reach) (last : List ℕ) → ((s : Span) → u ≡ Values s → ⊥) → Remembered es u scope last last
unfolding indexes_after lasts_by
others_remembered es (code.Blanks n) scope last e = record { same = refl; indexes = λ f ls ns r. r }
others_remembered es (code.Text from upto) scope last e = record { same = refl; indexes = λ f ls ns r. r }
others_remembered es (code.GroupCount i) scope last e = record { same = refl; indexes = λ f ls ns r. r }
others_remembered es (code.ValueCount i k) scope last e = record { same = refl; indexes = λ f ls ns r. r }
others_remembered es (code.Values s) scope last e = absurd (e s refl)
