-- A service is refused only with the number of a refusal of document 01, so the number 0 means done and nothing else, and only with 9 a read says a
-- length: every test refuses with such a number and no length, and a `do` block keeps to the refusals of its steps.
use mathlib.Core.Path.{◌≡◌, refl, ap}
use mathlib.Core.Bool.{Bool, true, false, not, ◌&&◌}
use mathlib.Core.Logic.{◌⊎◌, inl, inr}
use mathlib.Core.List.{List, [], ◌∷◌}
use mathlib.Core.Option.{Option, none, some}
use Prim.Native.Nat.{ℕ, zero, suc, ◌-◌, ◌*◌, ◌/◌, ◌^◌, ◌≤◌, min}
use native.Mathlib.Omega.{arith}
use lib.Dec.{eqb, leb, ltb}
use lib.ListN.{length, take}
use Rattle.rules.specs.Outcome.{Outcome, done, refused, by, with_needed, needing}
use Rattle.rules.specs.Limits.{longest_alpha, longest_items, longest_new_record}
use Rattle.rules.specs.Lists.{Bytes, absent, all, cut, but_last, last}
use Rattle.rules.specs.Outcome as rules
use Rattle.rules.specs.Numbers.{refusal_number}
use Rattle.rules.specs.declared.Refusal.{Refusal}
use Rattle.rules.specs.declared.Refusal.TheVariants.{BadTable, BadRecord, BadSyntax, UnknownName, UseRule, NamedTwice, BeyondBuffer, BadValue, OutOfRange, NoRoom}
use Rattle.rules.specs.Values.{Format, alpha, binary, fixed, packed, unpacked, Value, text, number, accepted_plus, accepted_minus, sign_means, decimal, halves, meaning, normal, conversion, in_range, converts, converted, converted_bytes, smallest_length, read_value, allowed, first_value}
use Rattle.rules.specs.Table.{Part, Entry, What, field, group, Field, is_inside, fields_below, table, parts}
use Rattle.rules.specs.Record.{Record, stored, record_bytes, empty_record}
use Rattle.rules.specs.Format.{Range, Element, blanks, quoted, named, count, count_in_last, series, elements}
use Rattle.rules.specs.Use.{Item, blanks_item, text_item, group_count, value_count, value_item, Use, Found, Indexes, find_from, find, format_in_effect, length_in_effect, asked, in_order, just, spread, plain, last_index, use_of_group, use_of_field, use_of_count, fields_to, use_of_series, use_of, indexes_after, ranges_of, has_N, uses, items}
use Rattle.rules.specs.Last.{Lasts, lasts_after, in_full, meaning_of, meanings, counts_in, items_read}
use Rattle.rules.specs.Update.{named_twice, assignments, after_update}
use Rattle.rules.specs.Services.{item_bytes, filled, read, assignments_of, fitting, update, empty}
use Rattle.rules.proofs.Steps.{by_test}
use Rattle.rules.proofs.Only.{Only, Is, only_bind, only_need, only_pick, only_option}
use Rattle.rules.proofs.Refusals.{table_only, stored_only, elements_only}

-- A refusal with a number that document 01 gives to one, and no length; and one of a read, where 9 may have a length.
abbrev pub Numbered : rules.Refusal → Type 0
Numbered n = (x : Refusal) × (n ≡ by (refusal_number x))

abbrev pub ReadNumbered : rules.Refusal → Type 0
ReadNumbered n = Numbered n ⊎ (n.number ≡ 9)

by_one : {A : Type 0} (x : Refusal) (o : Outcome A) → Only (Is (refusal_number x)) o → Only Numbered o
by_one x (done a) h = tt
by_one x (refused n) h = (x, h)

in_read : {A : Type 0} (o : Outcome A) → Only Numbered o → Only ReadNumbered o
in_read (done a) h = tt
in_read (refused n) h = inl h

said_kept : {A : Type 0} (n : ℕ) (o : Outcome A) → Only Numbered o → Only ReadNumbered (needing n o)
said_kept n (done a) h = tt
said_kept n (refused x) h = by_test (eqb x.number 9) (λ e. rw (e, with_needed) (inr refl)) (λ e. rw (e, with_needed) (inl h))

-- ---- elements and uses

find_from_kept : (before : Bool) (n : ℕ) (es : List Entry) → Only Numbered (find_from before n es)
unfolding find_from
find_from_kept before n [] = (UnknownName, refl)
find_from_kept before n (e ∷ es) = only_pick Numbered (eqb e.name n) _ _ tt (find_from_kept (is_inside before e) n es)

find_kept : (n : ℕ) (es : List Entry) → Only Numbered (find n es)
unfolding find
find_kept n es = find_from_kept false n es

asked_kept : (f : Field) (l g : Option ℕ) → Only Numbered (asked f l g)
unfolding asked
asked_kept f l g = only_option Numbered (format_in_effect f g) _ _ (UseRule, refl)
    (λ h. only_need Numbered (allowed h (length_in_effect f l) && converts f.format h) (UseRule, refl) _ tt)

spread_kept : (inside mu : Bool) (last : ℕ) (os vs : Option Range) → Only Numbered (spread inside mu last os vs)
unfolding spread
spread_kept true mu last none vs = (UseRule, refl)
spread_kept true mu last (some os) none = only_need Numbered (in_order os) (UseRule, refl) _ tt
spread_kept true mu last (some os) (some vs) = only_need Numbered (mu && in_order os && in_order vs) (UseRule, refl) _ tt
spread_kept false mu last os (some vs) = (UseRule, refl)
spread_kept false true last none none = only_need Numbered (in_order (just (suc last))) (UseRule, refl) _ tt
spread_kept false true last (some vs) none = only_need Numbered (in_order vs) (UseRule, refl) _ tt
spread_kept false false last none none = tt
spread_kept false false last (some os) none = (UseRule, refl)

group_kept : (x : Found) (os vs : Option Range) (l g : Option ℕ) → Only Numbered (use_of_group x os vs l g)
unfolding use_of_group
group_kept x os vs l g = only_need Numbered (absent l && absent g && all plain (fields_below x.entry.level x.after)) (UseRule, refl) _
    (only_bind Numbered (spread x.inside false 0 os vs) _ (spread_kept x.inside false 0 os vs) (λ s. tt))

field_kept : (f : Field) (inside : Bool) (last : ℕ) (os vs : Option Range) (l g : Option ℕ) → Only Numbered (use_of_field f inside last os vs l g)
unfolding use_of_field
field_kept f inside last os vs l g =
    only_bind Numbered (spread inside f.multiple last os vs) _ (spread_kept inside f.multiple last os vs)
    (λ s. only_bind Numbered (asked f l g) _ (asked_kept f l g) (λ a. tt))

count_kept : (n : ℕ) (w : What) (inside : Bool) (i : Option ℕ) → Only Numbered (use_of_count n w inside i)
unfolding use_of_count
count_kept n (group p) inside i = only_need Numbered (p && absent i) (UseRule, refl) _ tt
count_kept n (field f s mu) inside none = only_need Numbered (mu && not inside) (UseRule, refl) _ tt
count_kept n (field f s mu) inside (some i) = only_need Numbered (mu && inside && in_order (just i)) (UseRule, refl) _ tt

-- An entry of a series, before the entries after it.
series_step : (n : ℕ) (name : ℕ) (level : ℕ) (w : What) (es : List Entry) → Only Numbered (fields_to n es) → Only Numbered (fields_to n (record { name = name; level = level; what = w } ∷ es))
unfolding fields_to
series_step n name level (field f s mu) es h = only_need Numbered (not mu) (UseRule, refl) _
    (only_bind Numbered {A = List Field} {B = List Field} (elim (eqb name n) [ true ↦ done [] | false ↦ fields_to n es ]) _ (only_pick Numbered (eqb name n) (done []) (fields_to n es) tt h) (λ fs. tt))
series_step n name level (group p) es h = only_need Numbered (not p && not (eqb name n)) (UseRule, refl) _ h

fields_kept : (n : ℕ) (es : List Entry) → Only Numbered (fields_to n es)
unfolding fields_to
fields_kept n [] = (UseRule, refl)
fields_kept n (e ∷ es) = series_step n e.name e.level e.what es (fields_kept n es)

series_kept : (n name level : ℕ) (w : What) (inside : Bool) (es : List Entry) → Only Numbered (use_of_series (record { entry = record { name = name; level = level; what = w }; inside = inside; after = es }) n)
unfolding use_of_series
series_kept n name level (group p) inside es = (UseRule, refl)
series_kept n name level (field f s mu) inside es = only_need Numbered (not inside) (UseRule, refl) _
    (only_bind Numbered (fields_to n _) _ (fields_kept n (record { name = name; level = level; what = field f s mu } ∷ es)) (λ fs. tt))

named_kept : (x : Found) (ls : Indexes) (n : ℕ) (os vs : Option Range) (l g : Option ℕ) (w : What) → Only {A = Use} Numbered (elim w [
  | group p ↦ use_of_group x os vs l g
  | field f s mu ↦ use_of_field (record { name = n; format = f; size = s; multiple = mu }) x.inside (last_index n ls) os vs l g
])
named_kept x ls n os vs l g (group p) = group_kept x os vs l g
named_kept x ls n os vs l g (field f s mu) = field_kept (record { name = n; format = f; size = s; multiple = mu }) x.inside (last_index n ls) os vs l g

use_kept : (es : List Entry) (ls : Indexes) (x : Element) → Only Numbered (use_of es ls x)
unfolding use_of
use_kept es ls (blanks n) = tt
use_kept es ls (quoted t) = tt
use_kept es ls (count n i) = only_bind Numbered (find n es) _ (find_kept n es) (λ x. count_kept n x.entry.what x.inside i)
use_kept es ls (count_in_last n) = only_bind Numbered (find n es) _ (find_kept n es) (λ x. count_kept n x.entry.what x.inside (some 1))
use_kept es ls (series n m) = only_bind Numbered (find n es) _ (find_kept n es)
    (λ x. only_bind Numbered (find m es) _ (find_kept m es) (λ _. series_kept m x.entry.name x.entry.level x.entry.what x.inside x.after))
use_kept es ls (named n os vs l g) = only_bind Numbered (find n es) _ (find_kept n es) (λ x. named_kept x ls n (ranges_of os) (ranges_of vs) l g x.entry.what)

uses_kept : (es : List Entry) (ls : Indexes) (xs : List Element) → Only Numbered (uses es ls xs)
unfolding uses
uses_kept es ls [] = tt
uses_kept es ls (x ∷ xs) = only_bind Numbered (use_of es ls x) _ (use_kept es ls x)
    (λ u. only_need Numbered (not (has_N x)) (UseRule, refl) _ (only_bind Numbered (uses es (indexes_after u ls) xs) _ (uses_kept es (indexes_after u ls) xs) (λ us. tt)))

element_kept : (es : List Entry) (ls : Indexes) (ns : Lasts) (x : Element) → Only Numbered (meaning_of es ls ns x)
unfolding meaning_of
element_kept es ls ns x = only_bind Numbered (use_of es ls (in_full es ns x)) _ (use_kept es ls (in_full es ns x)) (λ u. tt)

meanings_kept : (es : List Entry) (ls : Indexes) (ns : Lasts) (xs : List Element) → Only Numbered (meanings es ls ns xs)
unfolding meanings
meanings_kept es ls ns [] = tt
meanings_kept es ls ns (x ∷ xs) =
    only_bind Numbered (meaning_of es ls ns x) _ (element_kept es ls ns x)
    (λ m. only_bind Numbered (meanings es (indexes_after m.meant ls) (lasts_after m ns) xs) _ (meanings_kept es (indexes_after m.meant ls) (lasts_after m ns) xs) (λ ms. tt))

-- ---- values

sign_kept : (s : ℕ) → Only Numbered (sign_means s)
unfolding sign_means
sign_kept s = only_pick Numbered (accepted_plus s) _ _ tt (only_pick Numbered (accepted_minus s) _ _ tt (BadValue, refl))

decimal_kept : (ds : List ℕ) (s : ℕ) → Only Numbered (decimal ds s)
unfolding decimal
decimal_kept ds s = only_need Numbered (all (λ d. leb d 9) ds) (BadValue, refl) _ (only_bind Numbered (sign_means s) _ (sign_kept s) (λ b. tt))

meaning_kept : (f : Format) (bs : Bytes) → Only Numbered (meaning f bs)
unfolding meaning
meaning_kept alpha bs = tt
meaning_kept binary bs = tt
meaning_kept fixed bs = tt
meaning_kept packed bs = decimal_kept (but_last (halves bs)) (last (halves bs))
meaning_kept unpacked bs = only_need Numbered (all (λ b. eqb (b / 16) 0xF) (but_last bs)) (BadValue, refl) _ (decimal_kept _ _)

normal_kept : (f : Format) (n : ℕ) (v : Value) → Only Numbered (normal f n v)
unfolding normal
normal_kept alpha zero (text t) = only_need Numbered (leb (length t) longest_alpha) (OutOfRange 0, refl) _ tt
normal_kept alpha (suc n) (text t) = only_need Numbered (leb (length t) (suc n)) (OutOfRange 0, refl) _ tt
normal_kept alpha n (number b x) = (OutOfRange 0, refl)
normal_kept binary n (text t) = (OutOfRange 0, refl)
normal_kept binary n (number false x) = only_need Numbered (ltb x (256 ^ n)) (OutOfRange 0, refl) _ tt
normal_kept binary n (number true x) = (OutOfRange 0, refl)
normal_kept fixed n (text t) = (OutOfRange 0, refl)
normal_kept fixed n (number false x) = only_need Numbered (ltb x (2 ^ (8 * n - 1))) (OutOfRange 0, refl) _ tt
normal_kept fixed n (number true x) = only_need Numbered (leb x (2 ^ (8 * n - 1))) (OutOfRange 0, refl) _ tt
normal_kept packed n (text t) = (OutOfRange 0, refl)
normal_kept packed n (number b x) = only_need Numbered (ltb x (10 ^ (2 * n - 1))) (OutOfRange 0, refl) _ tt
normal_kept unpacked n (text t) = (OutOfRange 0, refl)
normal_kept unpacked n (number b x) = only_need Numbered (ltb x (10 ^ n)) (OutOfRange 0, refl) _ tt

converted_kept : (f g : Format) (n : ℕ) (bs : Bytes) → Only Numbered (converted_bytes f g n bs)
unfolding converted_bytes converted
converted_kept f g n bs = only_bind Numbered (meaning f bs) _ (meaning_kept f bs)
    (λ v. only_need Numbered (in_range (conversion f g) v) (OutOfRange 0, refl) _ (normal_kept g n v))

cut_kept : (n : ℕ) (bs : Bytes) → Only Numbered (cut 7 n bs)
unfolding cut
cut_kept zero bs = tt
cut_kept (suc n) [] = (BeyondBuffer, refl)
cut_kept (suc n) (b ∷ bs) = only_bind Numbered (cut 7 n bs) _ (cut_kept n bs) (λ r. tt)

first_kept : (n : ℕ) (bs : Bytes) → Only Numbered (first_value n bs)
unfolding first_value
first_kept zero [] = (BeyondBuffer, refl)
first_kept zero (n ∷ bs) = only_need Numbered (leb 1 n && leb n (suc longest_alpha)) (BadValue, refl) _ (cut_kept (n - 1) bs)
first_kept (suc n) bs = cut_kept (suc n) bs

-- ---- items

value_kept : (f g : Format) (n : ℕ) (bs : Bytes) → Only ReadNumbered (read_value f g n bs)
unfolding read_value
value_kept f g n bs = said_kept (smallest_length f g bs) (converted_bytes f g n bs) (converted_kept f g n bs)

item_kept : (ps : List Part) (r : Record) (x : Item) → Only ReadNumbered (item_bytes ps r x)
unfolding item_bytes
item_kept ps r (blanks_item n) = tt
item_kept ps r (text_item t) = tt
item_kept ps r (group_count n) = tt
item_kept ps r (value_count n i) = tt
item_kept ps r (value_item p g n bare) = value_kept p.field.format g n _

filled_kept : (ps : List Part) (r : Record) (room : ℕ) (xs : List Item) → Only ReadNumbered (filled ps r room xs)
unfolding filled
filled_kept ps r room [] = tt
filled_kept ps r room (x ∷ xs) = only_bind ReadNumbered (item_bytes ps r x) _ (item_kept ps r x)
    (λ b. only_need ReadNumbered (leb (length b) room) (inl (BeyondBuffer, refl)) _
    (only_bind ReadNumbered (filled ps r (room - length b) xs) _ (filled_kept ps r (room - length b) xs) (λ bs. tt)))

assignments_kept : (xs : List Item) (bs : Bytes) → Only Numbered (assignments xs bs)
unfolding assignments
assignments_kept [] bs = tt
assignments_kept (blanks_item n ∷ xs) bs = only_bind Numbered (cut 7 n bs) _ (cut_kept n bs) (λ r. assignments_kept xs r.1)
assignments_kept (text_item t ∷ xs) bs = only_bind Numbered (cut 7 (length t) bs) _ (cut_kept (length t) bs) (λ r. assignments_kept xs r.1)
assignments_kept (group_count n ∷ xs) bs = only_bind Numbered (cut 7 1 bs) _ (cut_kept 1 bs) (λ r. assignments_kept xs r.1)
assignments_kept (value_count n i ∷ xs) bs = only_bind Numbered (cut 7 1 bs) _ (cut_kept 1 bs) (λ r. assignments_kept xs r.1)
assignments_kept (value_item p g n bare ∷ xs) bs = only_bind Numbered (first_value n bs) _ (first_kept n bs)
    (λ r. only_bind Numbered (converted_bytes g p.field.format p.field.size r.0) _ (converted_kept g p.field.format p.field.size r.0)
    (λ w. only_bind Numbered (assignments xs r.1) _ (assignments_kept xs r.1) (λ ws. tt)))

-- ---- the services

assigned_kept : (es : List Entry) (f buffer : Bytes) → Only Numbered (assignments_of es f buffer)
unfolding assignments_of
assigned_kept es f buffer = only_bind Numbered (elements f) _ (by_one BadSyntax (elements f) (elements_only f))
    (λ xs. only_bind Numbered (uses es [] xs) _ (uses_kept es [] xs)
    (λ us. only_need Numbered (not (named_twice us)) (NamedTwice, refl) _ (assignments_kept (items us) (take longest_items buffer))))

fitting_kept : (room : ℕ) (b : Bytes) → Only Numbered (fitting room b)
unfolding fitting
fitting_kept room b = only_need Numbered (leb (length b) (min room longest_new_record)) (NoRoom, refl) _ tt

pub read_numbered : (t b f : Bytes) (room : ℕ) → Only ReadNumbered (read t b f room)
unfolding read
read_numbered t b f room = only_bind ReadNumbered (table t) _ (in_read (table t) (by_one BadTable (table t) (table_only t)))
    (λ es. only_bind ReadNumbered (stored (parts es) b) _ (in_read (stored (parts es) b) (by_one BadRecord (stored (parts es) b) (stored_only (parts es) b)))
    (λ r. only_bind ReadNumbered (elements f) _ (in_read (elements f) (by_one BadSyntax (elements f) (elements_only f)))
    (λ xs. only_bind ReadNumbered (meanings es [] [] xs) _ (in_read (meanings es [] [] xs) (meanings_kept es [] [] xs))
    (λ ms. filled_kept (parts es) r (min room longest_items) (items_read (parts es) (counts_in (parts es) r) ms)))))

pub update_numbered : (t b f buffer : Bytes) (room : ℕ) → Only Numbered (update t b f buffer room)
unfolding update
update_numbered t b f buffer room = only_bind Numbered (table t) _ (by_one BadTable (table t) (table_only t))
    (λ es. only_bind Numbered (stored (parts es) b) _ (by_one BadRecord (stored (parts es) b) (stored_only (parts es) b))
    (λ r. only_bind Numbered (assignments_of es f buffer) _ (assigned_kept es f buffer)
    (λ ws. fitting_kept room (record_bytes (parts es) (after_update (parts es) r ws)))))

pub empty_numbered : (t : Bytes) (room : ℕ) → Only Numbered (empty t room)
unfolding empty
empty_numbered t room = only_bind Numbered (table t) _ (by_one BadTable (table t) (table_only t))
    (λ es. fitting_kept room (record_bytes (parts es) (empty_record (parts es))))

-- No refusal has the number 0.
pub above_zero : (x : Refusal) → 1 ≤ refusal_number x
above_zero BadTable = omega arith
above_zero BadRecord = omega arith
above_zero BadSyntax = omega arith
above_zero UnknownName = omega arith
above_zero UseRule = omega arith
above_zero NamedTwice = omega arith
above_zero BeyondBuffer = omega arith
above_zero BadValue = omega arith
above_zero (OutOfRange n) = omega arith
above_zero NoRoom = omega arith

pub not_zero : (n : rules.Refusal) → Numbered n → 1 ≤ n.number
not_zero n (x, e) = let h = above_zero x in omega (arith, h, ap (λ (y : rules.Refusal). y.number) e)

pub read_not_zero : (n : rules.Refusal) → ReadNumbered n → 1 ≤ n.number
read_not_zero n (inl h) = not_zero n h
read_not_zero n (inr e) = omega (arith, e)

-- "All other answers carry 0 there.": those of an update and of the empty record, and those of a read but for 9.
pub no_length : (n : rules.Refusal) → Numbered n → n.length ≡ 0
no_length n (x, e) = ap (λ (y : rules.Refusal). y.length) e

pub other_length : (n : rules.Refusal) → ReadNumbered n → (n.number ≡ 9 → ⊥) → n.length ≡ 0
other_length n (inl h) k = no_length n h
other_length n (inr e) k = absurd (k e)
