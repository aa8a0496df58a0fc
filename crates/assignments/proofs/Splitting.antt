-- The items of uses about those of one field in one occurrence: what comes before them, what they are, and what comes after.
use mathlib.Core.Path.{◌≡◌, refl, sym, ◌∙◌, ap, subst}
use mathlib.Core.Bool.{Bool, true, false, false≢true}
use mathlib.Core.List.{List, [], ◌∷◌, ◌++◌, map, map-append, append_assoc}
use Prim.Native.Nat.{ℕ, zero, suc, ◌+◌, ◌-◌, ◌≤◌, ◌<◌}
use native.Mathlib.Omega.{arith}
use lib.ListN.{length, get_or}
use Rattle.rules.specs.Lists.{Bytes, run, join}
use Rattle.rules.specs.Values.{allowed}
use Rattle.rules.specs.Table.{What, field, group, Entry, inside_of}
use Rattle.rules.specs.Format.{Range}
use Rattle.rules.specs.Use as rules
use Rattle.rules.specs.Use.{Item, Asked, as_stored, items_of, items, value_items}
use Rattle.rules.proofs.Steps.{by_test}
use Rattle.rules.proofs.Ranges.{from_to, field_items, occurrence_items}
use Rattle.buffer.proofs.Cases.{by_order}
use Rattle.value_formats.specs.Formats.{format_at}
use Rattle.tables.specs.Entries.{blank, is_group, is_periodic}
use Rattle.tables.specs.Groups.{field_by, field_at}
use Rattle.tables.specs.Places.{inside_from, inside_at, Home}
use Rattle.tables.proofs.EntryBytes.{Sound}
use Rattle.tables.proofs.Periodic.{inside_one}
use Rattle.tables.proofs.Climbs.{Climb, climb_start, climb_up, climb_home}
use Rattle.uses.specs.Meant.{fields_from, asked_of, use_meant, GoodSpan}
use Rattle.uses.specs.Kept.{use_at, uses_kept}
use Rattle.uses.specs.declared.Span.{Span}
use Rattle.uses.proofs.SpanFields.{asked_one, asked_stored, no_entry, field_entry, group_entry}
use Rattle.assignments.proofs.Given.{AllowedFields}

pub run_parts : {A : Type 0} (f : ℕ → A) (s n m : ℕ) → run f s (n + m) ≡ run f s n ++ run f (s + n) m
unfolding run
run_parts f s zero m = let e : s + 0 ≡ s = omega arith in let z : 0 + m ≡ m = omega arith in rw (e, z)
run_parts f s (suc n) m =
    let e : s + suc n ≡ suc s + n = omega arith in
    let z : suc n + m ≡ suc (n + m) = omega arith in
    rw (e, z, run) (ap (λ xs. f s ∷ xs) (run_parts f (suc s) n m))

pub join_parts : {A : Type 0} (xs ys : List (List A)) → join (xs ++ ys) ≡ join xs ++ join ys
unfolding join
join_parts [] ys = refl
join_parts (x ∷ xs) ys = ap (λ l. x ++ l) (join_parts xs ys) ∙ sym (append_assoc x (join xs) (join ys))

-- A run of lists about one of them.
run_about : {A : Type 0} (f : ℕ → List A) (s k n m : ℕ) → m ≡ (k - s) + suc n → s ≤ k → join (run f s m) ≡ join (run f s (k - s)) ++ (f k ++ join (run f (suc k) n))
unfolding join run
run_about f s k n m e h =
    let z : s + (k - s) ≡ k = omega arith in
    rw (e, run_parts f s (k - s) (suc n), join_parts (run f s (k - s)) (run f (s + (k - s)) (suc n)), z)

map_run : {A B : Type 0} (g : A → B) (h : ℕ → A) (s m : ℕ) → map g (run h s m) ≡ run (λ i. g (h i)) s m
unfolding run
map_run g h s zero = refl
map_run g h s (suc m) = ap (λ xs. g (h s) ∷ xs) (map_run g h (suc s) m)

pub items_run : (u : ℕ → rules.Use) (s m : ℕ) → items (run u s m) ≡ join (run (λ i. items_of (u i)) s m)
unfolding items
items_run u s m = ap join (map_run items_of u s m)

module _ (es : List Entry) (f : Bytes) (kept : List ℕ) (n count : ℕ) where
  abbrev use_number : ℕ → rules.Use
  use_number i = use_meant es f (use_at kept i)

  -- The items of the uses after use n.
  abbrev pub later : List Item
  later = items (run use_number (suc n) (count - suc n))

  pub items_about : n < count → items (uses_kept es f kept count) ≡ items (uses_kept es f kept n) ++ (items_of (use_meant es f (use_at kept n)) ++ later)
  unfolding uses_kept
  items_about h =
      let z : n - 0 ≡ n = omega arith in
      rw (items_run use_number 0 count, items_run use_number 0 n, items_run use_number (suc n) (count - suc n))
      (rw z at (run_about (λ i. items_of (use_number i)) 0 n (count - suc n) count (omega arith) (omega arith)))

-- The items of some fields in some occurrences, about one field in one occurrence.
module _ (vs : Range) (bare : Bool) where
  -- Those of the occurrences before; and of the fields before in the same.
  abbrev pub earlier_occurrences : List Asked → ℕ → ℕ → List Item
  earlier_occurrences fs from o = join (run (occurrence_items fs vs bare) from (o - from))

  fields_about : (o : ℕ) (xs : List Asked) (a : Asked) (ys : List Asked)
      → occurrence_items (xs ++ (a ∷ ys)) vs bare o ≡ occurrence_items xs vs bare o ++ (field_items bare vs o a ++ occurrence_items ys vs bare o)
  unfolding join
  fields_about o xs a ys = rw (map-append (field_items bare vs o) xs (a ∷ ys)) (join_parts (map (field_items bare vs o) xs) (map (field_items bare vs o) (a ∷ ys)))

  pub value_items_about : (fs : List Asked) (from upto o : ℕ) → from ≤ o → o ≤ upto → (xs : List Asked) (a : Asked) (ys : List Asked) → fs ≡ xs ++ (a ∷ ys)
      → (after : List Item) × (value_items fs (from_to from upto) vs bare ≡ earlier_occurrences fs from o ++ (occurrence_items xs vs bare o ++ (field_items bare vs o a ++ after)))
  unfolding value_items
  value_items_about fs from upto o h l xs a ys e =
      let rest = join (run (occurrence_items fs vs bare) (suc o) (upto - o)) in
      let one : occurrence_items fs vs bare o ++ rest ≡ occurrence_items xs vs bare o ++ (field_items bare vs o a ++ (occurrence_items ys vs bare o ++ rest)) =
      ap (λ (gs : List Asked). occurrence_items gs vs bare o ++ rest) e
      ∙ ap (λ (zs : List Item). zs ++ rest) (fields_about o xs a ys)
      ∙ append_assoc (occurrence_items xs vs bare o) (field_items bare vs o a ++ occurrence_items ys vs bare o) rest
      ∙ ap (λ (zs : List Item). occurrence_items xs vs bare o ++ zs) (append_assoc (field_items bare vs o a) (occurrence_items ys vs bare o) rest) in (
        occurrence_items ys vs bare o ++ rest,
        run_about (occurrence_items fs vs bare) from o (upto - o) (suc upto - from) (omega arith) h
            ∙ ap (λ (zs : List Item). earlier_occurrences fs from o ++ zs) one,
      )

entries_about : (es : List Entry) (n k i end : ℕ) → i ≡ k + n → i < end → end ≤ length es → is_group (get_or es i blank).what ≡ false
    → fields_from es k end ≡ fields_from es k i ++ (field_at es i ∷ fields_from es (i + 1) end)
entries_about es zero k i end e h l g =
    let z : i ≡ k = omega arith in
    let g' : is_group (get_or es k blank).what ≡ false = rw z at g in
    rw (z, no_entry es k k (omega arith)) (field_entry es k end (omega arith) l g')
entries_about es (suc n) k i end e h l g =
    let more = entries_about es n (k + 1) i end (omega arith) h l g in
    by_test (is_group (get_or es k blank).what)
    (λ q. rw (group_entry es k end (omega arith) l q, group_entry es k i (omega arith) (omega arith) q) more)
    (λ q. rw (field_entry es k end (omega arith) l q, field_entry es k i (omega arith) (omega arith) q) (ap (λ xs. field_at es k ∷ xs) more))

pub record AskedAbout (es : List Entry) (s : Span) (i : ℕ) : Type 0 where
  pub before : List Asked
  pub own : Asked
  pub after : List Asked
  pub is : asked_of es s ≡ before ++ (own ∷ after)
  pub field : own.field ≡ field_at es i
  pub single : s.first + 1 ≡ s.end → (before ≡ []) × (asked_of es s ≡ own ∷ [])
  pub several : s.first + 1 < s.end → (before ≡ map as_stored (fields_from es s.first i)) × (asked_of es s ≡ map as_stored (fields_from es s.first s.end))

module _ (es : List Entry) (s : Span) (good : GoodSpan es s) (i : ℕ) (h : s.first ≤ i) (l : i < s.end) (g : is_group (get_or es i blank).what ≡ false) where
  stored_about : s.standard ≡ true → AskedAbout es s i
  unfolding as_stored
  stored_about q =
      let all-stored : asked_of es s ≡ map as_stored (fields_from es s.first s.end) = asked_stored es s s.standard q in
      let about : asked_of es s ≡ map as_stored (fields_from es s.first i) ++ (as_stored (field_at es i) ∷ map as_stored (fields_from es (i + 1) s.end)) =
      all-stored
      ∙ ap (map as_stored) (entries_about es (i - s.first) s.first i s.end (omega arith) l good.upto g)
      ∙ map-append as_stored (fields_from es s.first i) (field_at es i ∷ fields_from es (i + 1) s.end) in
      record {
        before = map as_stored (fields_from es s.first i);
        own = as_stored (field_at es i);
        after = map as_stored (fields_from es (i + 1) s.end);
        is = about;
        field = refl;
        single = λ e.
            let none : map as_stored (fields_from es s.first i) ≡ [] = ap (map as_stored) (no_entry es s.first i (omega arith)) in
            let last : map as_stored (fields_from es (i + 1) s.end) ≡ [] = ap (map as_stored) (no_entry es (i + 1) s.end (omega arith)) in
            (none, about ∙ ap (λ xs. xs ++ (as_stored (field_at es i) ∷ map as_stored (fields_from es (i + 1) s.end))) none ∙ ap (λ xs. as_stored (field_at es i) ∷ xs) last);
        several = λ e. (refl, all-stored);
      }

  alone_about : s.standard ≡ false → AskedAbout es s i
  alone_about q =
      let one = good.alone q in
      let z : s.first ≡ i = omega (arith, one.next) in
      record {
        before = [];
        own = record { field = field_at es s.first; format = format_at s.format; size = s.size };
        after = [];
        is = asked_one es s s.standard q;
        field = ap (field_at es) z;
        single = λ e. (refl, asked_one es s s.standard q);
        several = λ e. absurd (omega (arith, one.next));
      }

  pub asked_about : AskedAbout es s i
  asked_about = by_test s.standard stored_about alone_about

-- ---- the periodic group in which an entry lies

inside_first : (es : List Entry) → inside_at es 0 ≡ is_periodic (get_or es 0 blank).what
unfolding inside_from blank inside_of
inside_first [] = refl
inside_first (e ∷ es) = by_kind e.level e.what
  where
    by_kind : (l : ℕ) (w : What) → inside_of false l w ≡ is_periodic w
    by_kind l (field f s m) = refl
    by_kind l (group true) = refl
    by_kind l (group false) = refl

-- Each periodic group has level 1.
abbrev pub PeriodicTop : List Entry → Type 0
PeriodicTop es = (i : ℕ) → i < length es → is_periodic (get_or es i blank).what ≡ true → (get_or es i blank).level ≡ 1

not_group_sound : (n l : ℕ) (w : What) → (is_group w ≡ false → allowed (field_by n w).format (field_by n w).size ≡ true) → (is_periodic w ≡ true → l ≡ 1) → Sound l w
unfolding field_by
not_group_sound n l (field f s m) a p = a refl
not_group_sound n l (group b) a p = p

module _ (es : List Entry) (allowed-fields : AllowedFields es) (periodic_top : PeriodicTop es) (i : ℕ) (less : i < length es) (inside : inside_at es i ≡ true) where
  sound_at : (k : ℕ) → k < length es → Sound (get_or es k blank).level (get_or es k blank).what
  unfolding field_at
  sound_at k h = not_group_sound (get_or es k blank).name (get_or es k blank).level (get_or es k blank).what (allowed-fields k h) (periodic_top k h)

  homes : (j : ℕ) → Climb es i j → (g : ℕ) × Home es i g
  homes zero c =
      by_test (is_periodic (get_or es 0 blank).what)
      (λ p. (0, climb_home es i 0 c (periodic_top 0 (omega arith) p) p))
      (λ p. absurd (false≢true (sym p ∙ sym (inside_first es) ∙ c.inside ∙ inside)))
  homes (suc j) c =
      let h : suc j < length es = omega (arith, c.upto) in
      by_test (is_periodic (get_or es (suc j) blank).what)
      (λ p. (suc j, climb_home es i (suc j) c (periodic_top (suc j) h p) p))
      (λ p. by_order 1 (get_or es (suc j) blank).level
      (λ deep. homes j (subst (Climb es i) (omega arith) (climb_up es i (suc j) (omega arith) h deep (sound_at (suc j) h) c)))
      (λ top. absurd (false≢true (sym p ∙ sym (inside_one es (suc j) top) ∙ c.inside ∙ inside))))

  pub home_of : (g : ℕ) × Home es i g
  home_of = homes i (climb_start es i)
