-- Without N a format means in a read what it means in an update, and with N each item of a read still stands in the record and goes by
-- the counts that the table has: each is proved of one element, by how far its indexes reach, and taken through the format.
use mathlib.Core.Path.{◌≡◌, refl, sym, ◌∙◌, ap}
use mathlib.Core.Bool.{Bool, true, false, ◌&&◌, ◌||◌, or-false}
use mathlib.Core.List.{List, [], ◌∷◌, ◌++◌, map}
use mathlib.Core.Option.{Option, none, some}
use Prim.Native.Nat.{ℕ, suc, ◌+◌, ◌-◌, ◌≤◌, ◌<◌}
use native.Mathlib.Omega.{arith}
use borrow.Author.Tests.{ne_eqb}
use lib.Dec.{T, eqb}
use Rattle.rules.specs.Outcome.{done}
use Rattle.rules.specs.Lists.{absent, all, filter, join, look_up}
use Rattle.rules.specs.Table.{Entry, Field, Part, differ, names, fields_below, parts, member, part_named, part_holding}
use Rattle.rules.specs.Format.{Range, Indexing, these, the_last, up_to_the_last, Element, blanks, quoted, named, count, count_in_last, series}
use Rattle.rules.specs.Use.{Item, blanks_item, text_item, group_count, value_count, value_item, Asked, Use, one, values, over, value_items, items_of, items, find, in_order, just, Spread, spread, Indexes, indexes_after, plain, use_of_group, use_of_field, use_of, ranges_of, is_N, has_N, uses}
use Rattle.rules.specs.Last.{Scope, as_written, last_alone, up_to_last, scope_of, resolved, Meaning, lies_inside, scoped, Lasts, after_N, is_last, lasts_by, in_full, meaning_of, meanings, Counts, occurrences_stored, item_resolved, use_resolved, items_read}
use Rattle.rules.proofs.Steps.{from_bind, from_need, done_inj, not_done, not_both, by_test, by_option, not_some, from_some_pair, eqb_same}
use Rattle.rules.proofs.Back.{All, all_map}
use Rattle.rules.proofs.Alls.{all_join, all_of_map, map_agree}
use Rattle.rules.proofs.Runs.{run_agree}
use Rattle.rules.proofs.Ranges.{item_at}
use Rattle.rules.proofs.Places.{from_differ}
use Rattle.rules.proofs.Uses.{by_what, picked_differ, from_uses}
use Rattle.rules.proofs.Home.{home, Occurs, named_here, named_skip}
use Rattle.rules.proofs.Entries.{Sound}
use Rattle.rules.proofs.Names.{part_names, parts_parted}
use Rattle.rules.proofs.SameRecords.{named_apart}
use Rattle.rules.proofs.Stands.{Stands, OnlyOne, AskedStands, UseStands, outer, inner, scoped_name, first_index, only_one, over_stands, use_stands}

-- ---- without N

-- N was no field's last index so far.
abbrev pub NoN : Lasts → Type 0
NoN ns = (n : ℕ) → after_N n ns ≡ false

pub no_N_yet : NoN []
unfolding after_N look_up
no_N_yet n = refl

pub in_full_plain : (es : List Entry) (ns : Lasts) → NoN ns → (x : Element) → in_full es ns x ≡ x
unfolding in_full
in_full_plain es ns z (blanks n) = refl
in_full_plain es ns z (quoted t) = refl
in_full_plain es ns z (count n i) = refl
in_full_plain es ns z (count_in_last n) = refl
in_full_plain es ns z (series n m) = refl
in_full_plain es ns z (named n (some i) vs l g) = refl
in_full_plain es ns z (named n none vs l g) = rw (z n, in_full)

plain_more : (fs : List Asked) (b : Bool) (ns : Lasts) → b ≡ false → NoN ns → NoN (map (λ a. (a.field.name, b)) fs ++ ns)
unfolding after_N look_up
plain_more [] b ns e z n = z n
plain_more (a ∷ fs) b ns e z n = by_test (eqb a.field.name n) (λ t. rw (t, look_up, after_N) e) (λ t. rw (t, look_up, after_N) (plain_more fs b ns e z n))

pub lasts_plain : (u : Use) (v : Scope) (ns : Lasts) → is_last v ≡ false → NoN ns → NoN (lasts_by u v ns)
unfolding lasts_by
lasts_plain (one x) v ns e z = z
lasts_plain (values fs os vs bare) v ns e z = plain_more (filter (λ a. a.field.multiple) fs) (is_last v) ns e z

-- The scopes of an element tell whether it has N.
scope_N : (i : Option Indexing) → is_last (scope_of i) ≡ is_N i
scope_N none = refl
scope_N (some (these r)) = refl
scope_N (some the_last) = refl
scope_N (some up_to_the_last) = refl

-- Outside periodic groups a name has no parentheses.
name_scopes : (inside mu : Bool) (last : ℕ) (os vs : Option Indexing) (s : Spread) → spread inside mu last (ranges_of os) (ranges_of vs) ≡ done s
    → (is_last (outer inside os) || is_last (inner inside os vs)) ≡ (is_N os || is_N vs)
unfolding spread
name_scopes true mu last os vs s p = rw (scope_N os, scope_N vs)
name_scopes false mu last os none s p = scope_N os ∙ sym (or-false (is_N os))
name_scopes false mu last os (some i) s p = absurd (not_done p)

pub scopes_told : (es : List Entry) (ls : Indexes) (x : Element) (u : Use) → use_of es ls x ≡ done u
    → (is_last (scoped es x u).occurrences || is_last (scoped es x u).values) ≡ has_N x
unfolding scoped use_of use_of_group use_of_field
scopes_told es ls (blanks n) u p = refl
scopes_told es ls (quoted t) u p = refl
scopes_told es ls (count n i) u p = refl
scopes_told es ls (count_in_last n) u p = refl
scopes_told es ls (series n m) u p = refl
scopes_told es ls (named n os vs l g) u p =
    from_bind (find n es) _ p λ x h k.
    rw (scoped_name es n os vs l g u x h) (by_what x.entry.what
    (λ f s mu e. from_bind (spread x.inside mu _ (ranges_of os) (ranges_of vs)) _ (rw e at k) λ r h₂ _. name_scopes x.inside mu _ os vs r h₂)
    (λ b e. from_need (absent l && absent g && all plain (fields_below x.entry.level x.after)) 5 _ (rw e at k) λ t k₂.
    from_bind (spread x.inside false 0 (ranges_of os) (ranges_of vs)) _ k₂ λ r h₂ _. name_scopes x.inside false 0 os vs r h₂))

-- A use of which every index is meant as it is written.
abbrev pub written : Use → Meaning
written u = record { meant = u; occurrences = as_written; values = as_written }

pub scoped_meant : (es : List Entry) (x : Element) (u : Use) → (scoped es x u).meant ≡ u
unfolding scoped
scoped_meant es (blanks n) u = refl
scoped_meant es (quoted t) u = refl
scoped_meant es (count n i) u = refl
scoped_meant es (count_in_last n) u = refl
scoped_meant es (series n m) u = refl
scoped_meant es (named n os vs l g) u = by_test (lies_inside n es) (λ t. rw (t, scoped)) (λ t. rw (t, scoped))

both_written : (o v : Scope) → (is_last o || is_last v) ≡ false → (o ≡ as_written) × (v ≡ as_written)
both_written as_written as_written z = (refl, refl)
both_written as_written last_alone z = absurd (not_both (sym z))
both_written as_written up_to_last z = absurd (not_both (sym z))
both_written last_alone v z = absurd (not_both (sym z))
both_written up_to_last v z = absurd (not_both (sym z))

pub plain_scoped : (es : List Entry) (ls : Indexes) (x : Element) (u : Use) → use_of es ls x ≡ done u → has_N x ≡ false → scoped es x u ≡ written u
plain_scoped es ls x u h e =
    let (o, v) = both_written (scoped es x u).occurrences (scoped es x u).values (scopes_told es ls x u h ∙ e) in
    λ i. record { meant = scoped_meant es x u i; occurrences = o i; values = v i }

pub plain_meaning : (es : List Entry) (ls : Indexes) (ns : Lasts) → NoN ns → (x : Element) (u : Use) → use_of es ls x ≡ done u → has_N x ≡ false
    → meaning_of es ls ns x ≡ done (written u)
unfolding meaning_of
plain_meaning es ls ns z x u h e = rw (in_full_plain es ns z x, h) (ap done (plain_scoped es ls x u h e))

pub plain_meanings : (es : List Entry) (ls : Indexes) (ns : Lasts) → NoN ns → (xs : List Element) (us : List Use) → uses es ls xs ≡ done us
    → meanings es ls ns xs ≡ done (map written us)
unfolding uses meanings
plain_meanings es ls ns z [] us p = rw (← done_inj p)
plain_meanings es ls ns z (x ∷ xs) us p =
    from_uses es ls x xs us p λ u h e vs h₂ q.
    rw (← q, plain_meaning es ls ns z x u h e, plain_meanings es (indexes_after u ls) (lasts_by u as_written ns) (lasts_plain u as_written ns refl z) xs vs h₂)

module _ (ps : List Part) (c : Counts) where
  written_item : (x : Item) → item_resolved ps c as_written x ≡ x
  unfolding item_resolved
  written_item (blanks_item n) = refl
  written_item (text_item t) = refl
  written_item (group_count n) = refl
  written_item (value_count n i) = refl
  written_item (value_item p g n bare) = refl

  pub written_use : (u : Use) → use_resolved ps c as_written as_written u ≡ items_of u
  unfolding use_resolved items_of value_items
  written_use (one x) = ap (λ y. y ∷ []) (written_item x)
  written_use (values fs os vs bare) = refl

  pub written_items : (us : List Use) → items_read ps c (map written us) ≡ items us
  unfolding items_read items join
  written_items [] = refl
  written_items (u ∷ us) = rw (written_use u) (ap (◌++◌ (items_of u)) (written_items us))

-- ---- with N, by whatever counts

abbrev pub MeaningStands : List Entry → Meaning → Type 0
MeaningStands es m = UseStands es m.occurrences m.values m.meant

first_resolved : (s : Scope) (r : Range) (n : ℕ) → 1 ≤ r.from → 1 ≤ (resolved s r n).from
first_resolved as_written r n h = h
first_resolved last_alone r n h = omega arith
first_resolved up_to_last r n h = omega arith

one_resolved : (s : Scope) (r : Range) → OnlyOne s r → (n : ℕ) → resolved s r n ≡ just 1
one_resolved s r h n = rw h.0 h.1

use_read : (es : List Entry) (o v : Scope) (u : Use) → UseStands es o v u → (c : Counts) → All (Stands es) (use_resolved (parts es) c o v u)
unfolding use_resolved
use_read es o v (one x) h c = (h.1 c, tt)
use_read es o v (values fs os vs bare) h c =
    over_stands es fs _ _ bare (first_resolved o os _ (first_index os h.0)) (λ f i. first_resolved v vs _ (first_index vs h.1))
    (all_map (AskedStands es o v os vs) _ (λ a y. (y.0, y.1, (λ e. one_resolved o os (y.2 e) _), λ e i. one_resolved v vs (y.3 e) _)) fs h.2)

-- Two tellings of what is stored agree on what the table counts: its periodic groups, and its MU fields in their occurrences.
pub record Agree (es : List Entry) (c e : Counts) : Type 0 where
  pub group : (n : ℕ) (p : Part) → part_named n (parts es) ≡ some p → p.periodic ≡ true → c.group n ≡ e.group n
  pub values : (p : Part) (f : Field) (i : ℕ) → home f.name (parts es) ≡ some (p, f) → Occurs p f i 1 → f.multiple ≡ true → c.values f.name i ≡ e.values f.name i

-- A part is found by the name under which it holds a field.
holding_named : (n : ℕ) (ps : List Part) (q : Part) (f : Field) → T (differ (part_names ps)) → home n ps ≡ some (q, f) → part_named (part_holding n ps) ps ≡ some q
unfolding home part_holding
holding_named n [] q f d h = absurd (not_some h)
holding_named n (p ∷ ps) q f d h = from_differ p.name (part_names ps) d λ v r. by_option (member n p.members)
    (λ g e. from_some_pair (rw (e, home) at h) λ a b. rw (e, part_holding, ← a) (named_here p.name p ps (eqb_same p.name)))
    (λ e.
    let k = holding_named n ps q f r (rw (e, home) at h) in
    rw (e, part_holding) (named_skip (part_holding n ps) p ps (ne_eqb p.name (part_holding n ps) (named_apart p.name (part_holding n ps) ps q v k)) ∙ k))

module _ (es : List Entry) (sound : All (λ e. Sound e.level e.what) es) (d : T (differ (names es))) where
  meaning_stands : (ls : Indexes) (ns : Lasts) (x : Element) (m : Meaning) → meaning_of es ls ns x ≡ done m → MeaningStands es m
  unfolding meaning_of
  meaning_stands ls ns x m p =
      from_bind (use_of es ls (in_full es ns x)) _ p λ u h k.
      rw (← done_inj k, scoped_meant es (in_full es ns x) u) (use_stands es sound d ls (in_full es ns x) u h)

  each_stands : (ls : Indexes) (ns : Lasts) (xs : List Element) (ms : List Meaning) → meanings es ls ns xs ≡ done ms → All (MeaningStands es) ms
  unfolding meanings
  each_stands ls ns [] ms p = rw (← done_inj p) tt
  each_stands ls ns (x ∷ xs) ms p =
      from_bind (meaning_of es ls ns x) _ p λ m h k.
      from_bind (meanings es (indexes_after m.meant ls) _ xs) _ k λ rest h₂ k₂.
      rw (← done_inj k₂) (meaning_stands ls ns x m h, each_stands (indexes_after m.meant ls) _ xs rest h₂)

  pub meanings_stand : (ls : Indexes) (ns : Lasts) (xs : List Element) (ms : List Meaning) → meanings es ls ns xs ≡ done ms
      → (c : Counts) → All (Stands es) (items_read (parts es) c ms)
  unfolding items_read
  meanings_stand ls ns xs ms p c = all_join _ _ (all_of_map _ _ ms (all_map (MeaningStands es) _ (λ m h. use_read es _ _ m.meant h c) ms (each_stands ls ns xs ms p)))

  module _ (c e : Counts) (a : Agree es c e) where
    group_agrees : (n : ℕ) (q : Part) (f : Field) → home n (parts es) ≡ some (q, f) → q.periodic ≡ true → c.group (part_holding n (parts es)) ≡ e.group (part_holding n (parts es))
    unfolding parts
    group_agrees n q f h t = a.group _ q (holding_named n (parts es) q f (picked_differ (parts_parted false es) d) h) t

    module _ (o v : Scope) (os vs : Range) where
      occurrences_agree : (fs : List Asked) → All (AskedStands es o v os vs) fs → resolved o os (occurrences_stored (parts es) c fs) ≡ resolved o os (occurrences_stored (parts es) e fs)
      unfolding occurrences_stored
      occurrences_agree [] h = refl
      occurrences_agree (x ∷ fs) h = let (q, at, y, z) = h.0 in
          by_test q.periodic (λ t. ap (resolved o os) (group_agrees _ q _ at t)) (λ t. one_resolved o os (y t) _ ∙ sym (one_resolved o os (y t) _))

      values_agree : (x : Asked) → AskedStands es o v os vs x → (n i : ℕ) → T (in_order os) → (resolved o os n).from ≤ i → i < (resolved o os n).from + (suc (resolved o os n).upto - (resolved o os n).from)
          → resolved v vs (c.values x.field.name i) ≡ resolved v vs (e.values x.field.name i)
      values_agree x h n i t l m = let (q, at, y, z) = h in
          by_test x.field.multiple
          (λ b. ap (resolved v vs) (a.values q x.field i at (record {
            occurrence = let f = first_resolved o os n (first_index os t) in omega arith;
            value = omega arith;
            single = λ w. only_one (resolved o os n) i l m (one_resolved o os (y w) n);
            plain = λ w. refl;
          }) b))
          (λ b. one_resolved v vs (z b) _ ∙ sym (one_resolved v vs (z b) _))

    item_agrees : (o : Scope) (x : Item) → ((c : Counts) → Stands es (item_resolved (parts es) c o x)) → item_resolved (parts es) c o x ≡ item_resolved (parts es) e o x
    unfolding item_resolved
    item_agrees o (blanks_item n) h = refl
    item_agrees o (text_item t) h = refl
    item_agrees o (group_count n) h = refl
    item_agrees o (value_count n i) h = let (q, f, _, at, g, _) = h c in let (q', f', _, at', g', _) = h e in
        by_test q.periodic
        (λ t. ap (λ k. value_count n (resolved o (just i) k).upto) (group_agrees n q f at t))
        (λ t. ap (value_count n) (g.single t ∙ sym (g'.single (from_some_pair (sym at ∙ at') λ y _. ap (λ p. p.periodic) (sym y) ∙ t))))
    item_agrees o (value_item p g n bare) h = refl

    use_agrees : (o v : Scope) (u : Use) → UseStands es o v u → use_resolved (parts es) c o v u ≡ use_resolved (parts es) e o v u
    unfolding use_resolved
    use_agrees o v (one x) h = ap (λ y. y ∷ []) (item_agrees o x h.1)
    use_agrees o v (values fs os vs bare) h =
        rw (occurrences_agree o v os vs fs h.2) (ap join (run_agree _ _ _ _ λ i l m.
        ap join (map_agree _ _ fs (all_map (AskedStands es o v os vs) _ (λ x y. ap (λ r. over r (item_at bare x i)) (values_agree o v os vs x y _ i h.0 l m)) fs h.2))))

    pub counts_agree : (ls : Indexes) (ns : Lasts) (xs : List Element) (ms : List Meaning) → meanings es ls ns xs ≡ done ms → items_read (parts es) c ms ≡ items_read (parts es) e ms
    unfolding items_read
    counts_agree ls ns xs ms p = ap join (map_agree _ _ ms (all_map (MeaningStands es) _ (λ m h. use_agrees _ _ m.meant h) ms (each_stands ls ns xs ms p)))
