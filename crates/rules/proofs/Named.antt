-- What elements say of one field in one occurrence: which values they name, and whether by bare names. Only the bare name of an MU
-- field outside periodic groups is bare.
use mathlib.Core.Path.{◌≡◌, refl, sym, ◌∙◌, ap}
use mathlib.Core.Bool.{Bool, true, false, not, ◌&&◌}
use mathlib.Core.List.{List, [], ◌∷◌, ◌++◌, map}
use mathlib.Core.Option.{Option, none, some}
use Prim.Native.Nat.{ℕ, zero, suc}
use native.Mathlib.Omega.{arith}
use borrow.Author.Tests.{ne_eqb}
use lib.Dec.{eqb, eqb→eq}
use lib.ListN.{length}
use Rattle.rules.specs.Outcome.{done}
use Rattle.rules.specs.Lists.{Bytes, all, filter, run, join, look_up, cut, absent}
use Rattle.rules.specs.Values.{Format, allowed, converts, converted_bytes, first_value}
use Rattle.rules.specs.Table.{Field, What, field, group, Entry, fields_below}
use Rattle.rules.specs.Format.{Range, Element, blanks, quoted, named, count, count_in_last, series}
use Rattle.rules.specs.Use.{Item, blanks_item, text_item, group_count, value_count, value_item, Asked, Use, values, value_items, items_of, Found, find, format_in_effect, length_in_effect, asked, as_stored, in_order, just, Spread, spread, Indexes, last_index, indexes_after, plain, use_of_group, use_of_field, use_of_count, fields_to, use_of_series, ranges_of, use_of}
use Rattle.rules.specs.Update.{Assignment, assignments, to_field}
use Rattle.rules.proofs.Steps.{from_bind, from_need, done_inj, not_done, and_left, and_right, by_test, by_option, eqb_same, true_T}
use Rattle.rules.proofs.Back.{All}
use Rattle.rules.proofs.Alls.{all_append}
use Rattle.rules.proofs.Uses.{by_what, Single, plain_single, to_picked, not_group}
use Rattle.rules.proofs.Ranges.{over_just, item_at, one_field}

-- The values of the field n in occurrence i that items name, each with whether a bare name stands for it.
unfoldable pub values_named : ℕ → ℕ → List Item → List (ℕ × Bool)
values_named n i [] = []
values_named n i (blanks_item m ∷ xs) = values_named n i xs
values_named n i (text_item t ∷ xs) = values_named n i xs
values_named n i (group_count m ∷ xs) = values_named n i xs
values_named n i (value_count m o ∷ xs) = values_named n i xs
values_named n i (value_item p g s bare ∷ xs) = elim (eqb p.field.name n && eqb p.occurrence i) [
  | true ↦ (p.value, bare) ∷ values_named n i xs
  | false ↦ values_named n i xs
]

pub named_append : (n i : ℕ) (xs ys : List Item) → values_named n i (xs ++ ys) ≡ values_named n i xs ++ values_named n i ys
unfolding values_named
named_append n i [] ys = refl
named_append n i (blanks_item m ∷ xs) ys = named_append n i xs ys
named_append n i (text_item t ∷ xs) ys = named_append n i xs ys
named_append n i (group_count m ∷ xs) ys = named_append n i xs ys
named_append n i (value_count m o ∷ xs) ys = named_append n i xs ys
named_append n i (value_item p g s bare ∷ xs) ys =
    by_test (eqb p.field.name n && eqb p.occurrence i)
    (λ e. rw (e, values_named) (ap (◌∷◌ (p.value, bare)) (named_append n i xs ys)))
    (λ e. rw (e, values_named) (named_append n i xs ys))

abbrev pub value_and_bare : Assignment → ℕ × Bool
value_and_bare a = (a.place.value, a.bare)

-- What the record buffer gives to a field is given to the values that the items name.
pub assigned_named : (n i : ℕ) (xs : List Item) (bs : Bytes) (ws : List Assignment) → assignments xs bs ≡ done ws
    → map value_and_bare (to_field ws n i) ≡ values_named n i xs
unfolding assignments values_named to_field filter
assigned_named n i [] bs ws p = rw (← done_inj p)
assigned_named n i (blanks_item m ∷ xs) bs ws p = from_bind (cut 7 m bs) _ p λ r h k. assigned_named n i xs r.1 ws k
assigned_named n i (text_item t ∷ xs) bs ws p = from_bind (cut 7 (length t) bs) _ p λ r h k. assigned_named n i xs r.1 ws k
assigned_named n i (group_count m ∷ xs) bs ws p = from_bind (cut 7 1 bs) _ p λ r h k. assigned_named n i xs r.1 ws k
assigned_named n i (value_count m o ∷ xs) bs ws p = from_bind (cut 7 1 bs) _ p λ r h k. assigned_named n i xs r.1 ws k
assigned_named n i (value_item q g s bare ∷ xs) bs ws p =
    from_bind (first_value s bs) _ p λ r h k.
    from_bind (converted_bytes g q.field.format q.field.size r.0) _ k λ w h₂ k₂.
    from_bind (assignments xs r.1) _ k₂ λ vs h₃ k₃.
    rw (← done_inj k₃) (by_test (eqb q.field.name n && eqb q.occurrence i)
    (λ e. rw (e, values_named, filter) (ap (◌∷◌ (q.value, bare)) (assigned_named n i xs r.1 vs h₃)))
    (λ e. rw (e, values_named, filter) (assigned_named n i xs r.1 vs h₃)))

abbrev pub BareAll : List (ℕ × Bool) → Type 0
BareAll = All (λ c. c.1 ≡ true)

abbrev pub BareNone : List (ℕ × Bool) → Type 0
BareNone = All (λ c. c.1 ≡ false)

pub true_not_false : {b : Bool} → b ≡ true → b ≡ false → ⊥
true_not_false p q = let z : ◌≡◌ {A = ℕ} 0 1 = cc in omega arith

pub nothing_there : (cs : List (ℕ × Bool)) → BareAll cs → BareNone cs → cs ≡ []
nothing_there [] a b = refl
nothing_there (c ∷ cs) a b = absurd (true_not_false a.0 b.0)

-- No bare name stands for the items of other elements.
module _ (n i : ℕ) where
  pub none_append : (xs ys : List Item) → BareNone (values_named n i xs) → BareNone (values_named n i ys) → BareNone (values_named n i (xs ++ ys))
  none_append xs ys a b = rw (named_append n i xs ys) (all_append _ (values_named n i xs) (values_named n i ys) a b)

  none_run : (f : ℕ → List Item) → ((j : ℕ) → BareNone (values_named n i (f j))) → (j m : ℕ) → BareNone (values_named n i (join (run f j m)))
  unfolding join run values_named
  none_run f h j zero = tt
  none_run f h j (suc m) = none_append (f j) (join (run f (suc j) m)) (h j) (none_run f h (suc j) m)

  none_map : (f : Asked → List Item) → ((a : Asked) → BareNone (values_named n i (f a))) → (fs : List Asked) → BareNone (values_named n i (join (map f fs)))
  unfolding join values_named
  none_map f h [] = tt
  none_map f h (a ∷ fs) = none_append (f a) (join (map f fs)) (h a) (none_map f h fs)

  none_values : (a : Asked) (o k m : ℕ) → BareNone (values_named n i (run (item_at false a o) k m))
  unfolding run values_named
  none_values a o k zero = tt
  none_values a o k (suc m) =
      by_test (eqb a.field.name n && eqb o i) (λ e. rw (e, values_named) (refl, none_values a o (suc k) m)) (λ e. rw (e, values_named) (none_values a o (suc k) m))

  none_bare : (fs : List Asked) (os vs : Range) → BareNone (values_named n i (value_items fs os vs false))
  unfolding value_items
  none_bare fs os vs = none_run _ (λ o. none_map _ (λ a. none_values a o _ _) fs) _ _

-- "A bare name means one above the last index of this field so far": that index goes by the MU fields that are named one by one.
pub last_kept : (n m k : ℕ) (ls : Indexes) → (m ≡ n → ⊥) → last_index n ((m, k) ∷ ls) ≡ last_index n ls
unfolding last_index look_up
last_kept n m k ls d = let e : look_up n ((m, k) ∷ ls) ≡ look_up n ls = rw (ne_eqb m n d, look_up) in rw (e, last_index)

pub last_now : (n k : ℕ) (ls : Indexes) → last_index n ((n, k) ∷ ls) ≡ k
unfolding last_index look_up
last_now n k ls = let e : look_up n ((n, k) ∷ ls) ≡ some k = rw (eqb_same n, look_up) in rw (e, last_index)

single_kept : (fs : List Field) → Single fs → (os vs : Range) (bare : Bool) (ls : Indexes) → indexes_after (values (map as_stored fs) os vs bare) ls ≡ ls
unfolding indexes_after filter as_stored
single_kept [] a os vs bare ls = refl
single_kept (f ∷ fs) a os vs bare ls = rw (a.0, filter) (single_kept fs a.1 os vs bare ls)

-- Only the bare name of an MU field outside periodic groups is bare, and it stands for one value.
abbrev BareSpread : Bool → Bool → ℕ → Spread → Type 0
BareSpread inside mu last s = (inside ≡ false) × (mu ≡ true) × (s ≡ record { occurrences = just 1; values = just (suc last); bare = true })

other_spread : {C : Type 0} (os vs : Range) (s : Spread) → done (record { occurrences = os; values = vs; bare = false }) ≡ done s → s.bare ≡ true → C
other_spread os vs s p b = absurd (true_not_false b (ap (λ t. t.bare) (sym (done_inj p))))

spread_bare : (inside mu : Bool) (last : ℕ) (os vs : Option Range) (s : Spread) → spread inside mu last os vs ≡ done s → s.bare ≡ true → BareSpread inside mu last s
unfolding spread
spread_bare true mu last none vs s p b = absurd (not_done p)
spread_bare true mu last (some os) none s p b = from_need (in_order os) 5 _ p λ t k. other_spread os (just 1) s k b
spread_bare true mu last (some os) (some vs) s p b = from_need (mu && in_order os && in_order vs) 5 _ p λ t k. other_spread os vs s k b
spread_bare false mu last os (some vs) s p b = absurd (not_done p)
spread_bare false true last none none s p b = from_need (in_order (just (suc last))) 5 _ p λ t k. (refl, refl, sym (done_inj k))
spread_bare false true last (some vs) none s p b = from_need (in_order vs) 5 _ p λ t k. other_spread (just 1) vs s k b
spread_bare false false last none none s p b = other_spread (just 1) (just 1) s p b
spread_bare false false last (some os) none s p b = absurd (not_done p)

pub asked_field : (f : Field) (l g : Option ℕ) (a : Asked) → asked f l g ≡ done a → a.field ≡ f
unfolding asked
asked_field f l g a p =
    by_option (format_in_effect f g)
    (λ h e. from_need (allowed h (length_in_effect f l) && converts f.format h) 5 _ (rw (e, asked) at p) λ t k. ap (λ b. b.field) (sym (done_inj k)))
    (λ e. absurd (not_done (rw (e, asked) at p)))

pub one_item : (a : Asked) (k : ℕ) (bare : Bool) → value_items (a ∷ []) (just 1) (just k) bare ≡ item_at bare a 1 k ∷ []
one_item a k bare = one_field 1 (just k) bare a ∙ over_just (item_at bare a 1) k

single_none : (n i k : ℕ) (a : Asked) → (a.field.name ≡ n → i ≡ 1 → ⊥) → BareNone (values_named n i (value_items (a ∷ []) (just 1) (just k) true))
unfolding values_named
single_none n i k a d =
    rw (one_item a k true) (by_test (eqb a.field.name n && eqb 1 i)
    (λ e.
    let t = true_T e in
    absurd (d (eqb→eq a.field.name n (and_left (eqb a.field.name n) (eqb 1 i) t)) (sym (eqb→eq 1 i (and_right (eqb a.field.name n) (eqb 1 i) t)))))
    (λ e. rw (e, values_named) tt))

pub field_none : (n i : ℕ) (f : Field) (inside : Bool) (last : ℕ) (os vs : Option Range) (l g : Option ℕ) (u : Use) → use_of_field f inside last os vs l g ≡ done u
    → (inside ≡ false → f.multiple ≡ true → f.name ≡ n → i ≡ 1 → ⊥) → BareNone (values_named n i (items_of u))
unfolding use_of_field items_of
field_none n i f inside last os vs l g u q d =
    from_bind (spread inside f.multiple last os vs) _ q λ s h k.
    from_bind (asked f l g) _ k λ a h₂ k₂.
    rw (← done_inj k₂) (by_test s.bare
    (λ b.
    let (o, m, e) = spread_bare inside f.multiple last os vs s h b in
    rw e (single_none n i (suc last) a (λ w. d o m (sym (ap (λ x. x.name) (asked_field f l g a h₂)) ∙ w))))
    (λ b. rw b (none_bare n i (a ∷ []) s.occurrences s.values)))

-- An element other than a field's name is not bare and leaves the last indexes.
abbrev pub Quiet : ℕ → ℕ → Indexes → Use → Type 0
Quiet n i ls u = BareNone (values_named n i (items_of u)) × (indexes_after u ls ≡ ls)

fields_quiet : (n i : ℕ) (ls : Indexes) (fs : List Field) (os vs : Range) → Single fs → Quiet n i ls (values (map as_stored fs) os vs false)
unfolding items_of
fields_quiet n i ls fs os vs a = (none_bare n i (map as_stored fs) os vs, single_kept fs a os vs false ls)

count_quiet : (n i : ℕ) (ls : Indexes) (m : ℕ) (w : What) (inside : Bool) (o : Option ℕ) (u : Use) → use_of_count m w inside o ≡ done u → Quiet n i ls u
unfolding use_of_count items_of values_named indexes_after
count_quiet n i ls m (group p) inside o u q = from_need (p && absent o) 5 _ q λ t k. rw (← done_inj k) (tt, refl)
count_quiet n i ls m (field f s mu) inside none u q = from_need (mu && not inside) 5 _ q λ t k. rw (← done_inj k) (tt, refl)
count_quiet n i ls m (field f s mu) inside (some o) u q = from_need (mu && inside && in_order (just o)) 5 _ q λ t k. rw (← done_inj k) (tt, refl)

group_quiet : (n i : ℕ) (ls : Indexes) (x : Found) (os vs : Option Range) (l g : Option ℕ) (u : Use) → use_of_group x os vs l g ≡ done u → Quiet n i ls u
unfolding use_of_group
group_quiet n i ls x os vs l g u q =
    let fs = fields_below x.entry.level x.after in
    from_need (absent l && absent g && all plain fs) 5 _ q λ t k.
    from_bind (spread x.inside false 0 os vs) _ k λ s h k₂.
    let a = plain_single fs (and_right (absent l && absent g) (all plain fs) t) in
    rw (← done_inj k₂) (by_test s.bare
    (λ b. absurd (true_not_false (spread_bare x.inside false 0 os vs s h b).1 refl))
    (λ b. rw b (fields_quiet n i ls fs s.occurrences s.values a)))

series_quiet : (n i : ℕ) (ls : Indexes) (x : Found) (m : ℕ) (u : Use) → use_of_series x m ≡ done u → Quiet n i ls u
unfolding use_of_series
series_quiet n i ls x m u q =
    from_need (not x.inside) 5 _ (not_group x.entry.what _ q) λ t k.
    from_bind (fields_to m (x.entry ∷ x.after)) _ k λ fs g k₂.
    rw (← done_inj k₂) (fields_quiet n i ls fs (just 1) (just 1) (to_picked m (x.entry ∷ x.after) fs g).1)

-- By cases of an element: the name of a field, or another.
pub by_use : {C : Type 0} (n i : ℕ) (es : List Entry) (ls : Indexes) (e : Element) (u : Use) → use_of es ls e ≡ done u
    → (Quiet n i ls u → C)
    → ((m : ℕ) (os vs : Option Range) (l g : Option ℕ) (x : Found) (f : Format) (s : ℕ) (mu : Bool) → find m es ≡ done x → x.entry.what ≡ field f s mu
    → use_of_field (record { name = m; format = f; size = s; multiple = mu }) x.inside (last_index m ls) os vs l g ≡ done u → C)
    → C
unfolding use_of items_of values_named indexes_after
by_use n i es ls (blanks m) u p q c = q (rw (← done_inj p) (tt, refl))
by_use n i es ls (quoted t) u p q c = q (rw (← done_inj p) (tt, refl))
by_use n i es ls (count m o) u p q c = from_bind (find m es) _ p λ x h k. q (count_quiet n i ls m x.entry.what x.inside o u k)
by_use n i es ls (count_in_last m) u p q c = from_bind (find m es) _ p λ x h k. q (count_quiet n i ls m x.entry.what x.inside (some 1) u k)
by_use n i es ls (series m o) u p q c =
    from_bind (find m es) _ p λ x h k.
    from_bind (find o es) _ k λ y h₂ k₂.
    q (series_quiet n i ls x o u k₂)
by_use n i es ls (named m os vs l g) u p q c =
    from_bind (find m es) _ p λ x h k.
    by_what x.entry.what (λ f s mu e. c m (ranges_of os) (ranges_of vs) l g x f s mu h e (rw e at k)) (λ b e. q (group_quiet n i ls x (ranges_of os) (ranges_of vs) l g u (rw e at k)))
