-- Every item of a format stands in the record by the table: an occurrence or a count has a field or a group of it, and its indexes. And N
-- reaches past index 1 only where something is counted.
use mathlib.Core.Path.{◌≡◌, refl, sym, ◌∙◌, ap}
use mathlib.Core.Bool.{Bool, true, false, not, ◌&&◌}
use mathlib.Core.List.{List, [], ◌∷◌, map}
use mathlib.Core.Logic.{inr}
use mathlib.Core.Option.{Option, none, some}
use Prim.Native.Nat.{ℕ, suc, ◌+◌, ◌-◌, ◌≤◌, ◌<◌, max}
use native.Mathlib.Omega.{arith}
use lib.Dec.{T, leb, leb→le}
use Rattle.rules.specs.Outcome.{done}
use Rattle.rules.specs.Limits.{highest_index}
use Rattle.rules.specs.Lists.{all, join, absent}
use Rattle.rules.specs.Values.{Format}
use Rattle.rules.specs.Table.{What, field, group, Entry, Field, Part, differ, names, fields_below, parts, part_named}
use Rattle.rules.specs.Format.{Range, Indexing, Element, blanks, quoted, named, count, count_in_last, series}
use Rattle.rules.specs.Use.{Item, blanks_item, text_item, group_count, value_count, value_item, Asked, Use, one, values, items_over, value_items, items_of, items, Found, find, asked, as_stored, in_order, just, Spread, spread, Indexes, indexes_after, last_index, plain, use_of_group, use_of_field, use_of_count, fields_to, use_of_series, use_of, ranges_of, uses}
use Rattle.rules.specs.Last.{Scope, as_written, last_alone, scope_of, lies_inside, scoped, Counts, item_resolved}
use Rattle.rules.proofs.Steps.{from_bind, from_need, done_inj, not_done, not_both, and_left, and_right, by_test, T_true}
use Rattle.rules.proofs.Back.{All, all_map}
use Rattle.rules.proofs.Alls.{all_append, all_join, all_run, all_of_map}
use Rattle.rules.proofs.Named.{asked_field}
use Rattle.rules.proofs.Uses.{by_what, spread_in_order, not_group, from_uses}
use Rattle.rules.proofs.Home.{home, Occurs}
use Rattle.rules.proofs.Entries.{Sound, Among, below_among, to_among, find_among}
use Rattle.rules.proofs.Names.{parts_found}
use Rattle.rules.proofs.FieldHomes.{named_field, field_home, among_find}
use Rattle.rules.proofs.GroupHomes.{group_home, periodic_part_named}

abbrev pub Stands : List Entry → Item → Type 0
Stands es (value_item p g n bare) = (q : Part) × (home p.field.name (parts es) ≡ some (q, p.field)) × Occurs q p.field p.occurrence p.value
Stands es (value_count n i) = (q : Part) × (f : Field) × (f.name ≡ n) × (home n (parts es) ≡ some (q, f)) × Occurs q f i 1 × (f.multiple ≡ true)
Stands es (group_count n) = (q : Part) × (part_named n (parts es) ≡ some q) × (q.periodic ≡ true)
Stands es (blanks_item n) = Unit {0}
Stands es (text_item t) = Unit {0}

-- Only index 1 is meant, as it is written.
abbrev pub OnlyOne : Scope → Range → Type 0
OnlyOne s r = (s ≡ as_written) × (r ≡ just 1)

-- A field with its ranges of occurrences and of values, and how far they reach: only 1 where there is one.
abbrev pub AskedStands : List Entry → Scope → Scope → Range → Range → Asked → Type 0
AskedStands es o v os vs a =
    (q : Part) × (home a.field.name (parts es) ≡ some (q, a.field)) × (q.periodic ≡ false → OnlyOne o os) × (a.field.multiple ≡ false → OnlyOne v vs)

abbrev pub UseStands : List Entry → Scope → Scope → Use → Type 0
UseStands es o v (one x) = Stands es x × ((c : Counts) → Stands es (item_resolved (parts es) c o x))
UseStands es o v (values fs os vs bare) = T (in_order os) × T (in_order vs) × All (AskedStands es o v os vs) fs

pub only_one : (r : Range) (k : ℕ) → r.from ≤ k → k < r.from + (suc r.upto - r.from) → r ≡ just 1 → k ≡ 1
only_one r k a b e = let f = ap (λ s. s.from) e in let u = ap (λ s. s.upto) e in omega arith

pub first_index : (r : Range) → T (in_order r) → 1 ≤ r.from
unfolding in_order
first_index r t = leb→le 1 r.from (and_left (leb 1 r.from) (leb r.from r.upto) (and_left (leb 1 r.from && leb r.from r.upto) (leb r.upto highest_index) t))

-- Fields in a range of occurrences, with values by field and occurrence.
abbrev OverStands : List Entry → Range → (Field → ℕ → Range) → Asked → Type 0
OverStands es os vs a =
    (q : Part) × (home a.field.name (parts es) ≡ some (q, a.field)) × (q.periodic ≡ false → os ≡ just 1) × (a.field.multiple ≡ false → (i : ℕ) → vs a.field i ≡ just 1)

pub over_stands : (es : List Entry) (fs : List Asked) (os : Range) (vs : Field → ℕ → Range) (bare : Bool) → 1 ≤ os.from → ((f : Field) (i : ℕ) → 1 ≤ (vs f i).from)
    → All (OverStands es os vs) fs → All (Stands es) (items_over fs os vs bare)
over_stands es fs os vs bare o v h =
    all_join _ _ (all_run _ _ _ _ (λ i a b. all_join _ _ (all_of_map _ _ fs (all_map (OverStands es os vs) _
    (λ x y. all_run _ _ _ _ (λ k c d. (
      y.0,
      y.1,
      record {
        occurrence = omega arith;
        value = let m = v x.field i in omega arith;
        single = λ e. only_one os i a b (y.2 e);
        plain = λ e. only_one (vs x.field i) k c d (y.3 e i);
      },
    ))) fs h))))

use_items : (es : List Entry) (o v : Scope) (u : Use) → UseStands es o v u → All (Stands es) (items_of u)
unfolding items_of value_items
use_items es o v (one x) h = (h.0, tt)
use_items es o v (values fs os vs bare) h =
    over_stands es fs os (λ f i. vs) bare (first_index os h.0) (λ f i. first_index vs h.1) (all_map _ _ (λ a y. (y.0, y.1, (λ e. (y.2 e).1), λ e i. (y.3 e).1)) fs h.2)

-- ---- the elements of a format

-- How far the occurrences and the values of a name reach, by whether it lies in a periodic group.
abbrev pub outer : Bool → Option Indexing → Scope
outer true os = scope_of os
outer false os = as_written

abbrev pub inner : Bool → Option Indexing → Option Indexing → Scope
inner true os vs = scope_of vs
inner false os vs = scope_of os

pub scoped_name : (es : List Entry) (n : ℕ) (os vs : Option Indexing) (l g : Option ℕ) (u : Use) (x : Found) → find n es ≡ done x
    → scoped es (named n os vs l g) u ≡ record { meant = u; occurrences = outer x.inside os; values = inner x.inside os vs }
unfolding scoped lies_inside
scoped_name es n os vs l g u x h = by_test x.inside (λ t. rw (h, lies_inside, scoped, t)) (λ t. rw (h, lies_inside, scoped, t))

spread_only : (inside mu : Bool) (last : ℕ) (os vs : Option Indexing) (s : Spread) → spread inside mu last (ranges_of os) (ranges_of vs) ≡ done s
    → (inside ≡ false → OnlyOne (outer inside os) s.occurrences) × (mu ≡ false → OnlyOne (inner inside os vs) s.values)
unfolding spread
spread_only true mu last none vs s p = absurd (not_done p)
spread_only true mu last (some os) none s p = from_need (in_order _) 5 _ p λ t k. rw (← done_inj k) (λ e. absurd (not_both (sym e)), λ e. (refl, refl))
spread_only true mu last (some os) (some vs) s p =
    from_need (mu && in_order _ && in_order _) 5 _ p λ t k.
    (λ e. absurd (not_both (sym e)), λ e. absurd (not_both (sym e ∙ T_true mu (and_left mu (in_order _) (and_left (mu && in_order _) (in_order _) t)))))
spread_only false mu last os (some vs) s p = absurd (not_done p)
spread_only false true last none none s p = from_need (in_order (just (suc last))) 5 _ p λ t k. rw (← done_inj k) (λ e. (refl, refl), λ e. absurd (not_both (sym e)))
spread_only false true last (some vs) none s p = from_need (in_order _) 5 _ p λ t k. rw (← done_inj k) (λ e. (refl, refl), λ e. absurd (not_both (sym e)))
spread_only false false last none none s p = rw (← done_inj p) (λ e. (refl, refl), λ e. (refl, refl))
spread_only false false last (some os) none s p = absurd (not_done p)

module _ (es : List Entry) (sound : All (λ e. Sound e.level e.what) es) (d : T (differ (names es))) where
  -- A count in any occurrence of an MU field in a periodic group.
  inner_count : (n : ℕ) (x : Found) (f : Format) (s : ℕ) (mu : Bool) → find n es ≡ done x → x.entry.what ≡ field f s mu → T (mu && x.inside) → (i : ℕ) → 1 ≤ i → Stands es (value_count n i)
  inner_count n x f s mu h e t i o =
      let (p, a, b) = field_home es sound n x f s mu h e in (
        p,
        named_field n f s mu,
        refl,
        a,
        record {
          occurrence = o;
          value = omega arith;
          single = λ z. absurd (not_both (sym z ∙ b ∙ T_true x.inside (and_right mu x.inside t)));
          plain = λ z. refl;
        },
        T_true mu (and_left mu x.inside t),
      )

  count_stands : (n : ℕ) (x : Found) (w : What) (i : Option ℕ) (u : Use) → find n es ≡ done x → x.entry.what ≡ w → use_of_count n w x.inside i ≡ done u
      → UseStands es as_written as_written u
  unfolding use_of_count item_resolved find parts
  count_stands n x (group p) i u h e q = from_need (p && absent i) 5 _ q λ t k.
      let s = periodic_part_named false n es x h (e ∙ ap group (T_true p (and_left p (absent i) t))) in
      rw (← done_inj k) (s, λ c. s)
  count_stands n x (field f s mu) none u h e q = from_need (mu && not x.inside) 5 _ q λ t k.
      let (p, a, b) = field_home es sound n x f s mu h e in
      let r : Stands es (value_count n 1) = (p, named_field n f s mu, refl, a, record { occurrence = omega arith; value = omega arith; single = λ z. refl; plain = λ z. refl }, T_true mu (and_left mu (not x.inside) t)) in
      rw (← done_inj k) (r, λ c. r)
  count_stands n x (field f s mu) (some i) u h e q = from_need (mu && x.inside && in_order (just i)) 5 _ q λ t k.
      let r = inner_count n x f s mu h e (and_left (mu && x.inside) (in_order (just i)) t) i (first_index (just i) (and_right (mu && x.inside) (in_order (just i)) t)) in
      rw (← done_inj k) (r, λ c. r)

  -- A count in the last occurrence.
  last_count_stands : (n : ℕ) (x : Found) (w : What) (u : Use) → find n es ≡ done x → x.entry.what ≡ w → use_of_count n w x.inside (some 1) ≡ done u
      → UseStands es last_alone as_written u
  unfolding use_of_count item_resolved absent
  last_count_stands n x (group p) u h e q = from_need (p && false) 5 _ q λ t k. absurd (and_right p false t)
  last_count_stands n x (field f s mu) u h e q = from_need (mu && x.inside && in_order (just 1)) 5 _ q λ t k.
      let r = inner_count n x f s mu h e (and_left (mu && x.inside) (in_order (just 1)) t) in
      rw (← done_inj k) (r 1 (omega arith), λ c. r (max 1 _) (omega arith))

  field_stands : (n : ℕ) (x : Found) (f : Format) (r : ℕ) (mu : Bool) (last : ℕ) (os vs : Option Indexing) (l g : Option ℕ) (u : Use) → find n es ≡ done x → x.entry.what ≡ field f r mu
      → use_of_field (named_field n f r mu) x.inside last (ranges_of os) (ranges_of vs) l g ≡ done u → UseStands es (outer x.inside os) (inner x.inside os vs) u
  unfolding use_of_field
  field_stands n x f r mu last os vs l g u h e q =
      from_bind (spread x.inside mu last (ranges_of os) (ranges_of vs)) _ q λ s h₁ k.
      from_bind (asked (named_field n f r mu) l g) _ k λ a h₂ k₂.
      let o = spread_in_order x.inside mu last (ranges_of os) (ranges_of vs) s h₁ in
      let z = spread_only x.inside mu last os vs s h₁ in
      let (p, at, b) = field_home es sound n x f r mu h e in
      let own = asked_field (named_field n f r mu) l g a h₂ in
      rw (← done_inj k₂) (o.0, o.1, (rw own (p, at, (λ c. z.0 (sym b ∙ c)), z.1), tt))

  -- A field of the table has a home.
  any_home : (f : Field) → Among es f → (p : Part) × (home f.name (parts es) ≡ some (p, f))
  unfolding find
  any_home f m =
      let (x, h, e) = among_find false es d f m in
      let (p, a, b) = field_home es sound f.name x f.format f.size f.multiple h e in
      (p, a)

  -- Fields at their standard, in occurrence 1.
  once_stands : (fs : List Field) (o v : Scope) (os vs : Range) → OnlyOne o os → OnlyOne v vs → All (Among es) fs → All (AskedStands es o v os vs) (map as_stored fs)
  unfolding as_stored
  once_stands fs o v os vs y z a = all_of_map _ _ fs (all_map (Among es) _ (λ f m. let (p, at) = any_home f m in (p, at, (λ _. y), (λ _. z))) fs a)

  row_stands : (fs : List Field) (o v : Scope) (os vs : Range) → OnlyOne v vs → All (λ f. (p : Part) × (home f.name (parts es) ≡ some (p, f)) × (p.periodic ≡ true)) fs
      → All (AskedStands es o v os vs) (map as_stored fs)
  unfolding as_stored
  row_stands fs o v os vs z a = all_of_map _ _ fs (all_map _ _ (λ f m. let (p, at, b) = m in (p, at, (λ y. absurd (not_both (sym y ∙ b))), (λ _. z))) fs a)

  group_stands : (n : ℕ) (x : Found) (b : Bool) (os vs : Option Indexing) (l g : Option ℕ) (u : Use) → find n es ≡ done x → x.entry.what ≡ group b
      → use_of_group x (ranges_of os) (ranges_of vs) l g ≡ done u → UseStands es (outer x.inside os) (inner x.inside os vs) u
  unfolding use_of_group find
  group_stands n x b os vs l g u h e q =
      let fs = fields_below x.entry.level x.after in
      from_need (absent l && absent g && all plain fs) 5 _ q λ t k.
      from_bind (spread x.inside false 0 (ranges_of os) (ranges_of vs)) _ k λ s h₁ k₂.
      let o = spread_in_order x.inside false 0 (ranges_of os) (ranges_of vs) s h₁ in
      let z = spread_only x.inside false 0 os vs s h₁ in
      let m = all_map (Among x.after) (Among es) (λ f i. (find_among false n es x h).1 f (inr i)) fs (below_among x.entry.level x.after) in
      rw (← done_inj k₂) (
        o.0,
        o.1,
        by_test x.inside
            (λ i. row_stands fs _ _ s.occurrences s.values (z.1 refl) (group_home es sound (parts_found es sound d) n x b h e i))
            (λ i. once_stands fs _ _ s.occurrences s.values (z.0 i) (z.1 refl) m),
      )

  series_stands : (x : Found) (n : ℕ) (u : Use) → ((f : Field) → Among (x.entry ∷ x.after) f → Among es f) → use_of_series x n ≡ done u → UseStands es as_written as_written u
  unfolding use_of_series in_order
  series_stands x n u m q =
      from_need (not x.inside) 5 _ (not_group x.entry.what _ q) λ t k.
      from_bind (fields_to n (x.entry ∷ x.after)) _ k λ fs g k₂.
      rw (← done_inj k₂) (tt, tt, once_stands fs as_written as_written (just 1) (just 1) (refl, refl) (refl, refl) (all_map (Among (x.entry ∷ x.after)) _ m fs (to_among n (x.entry ∷ x.after) fs g)))

  -- What an element of a read means stands, whatever is stored.
  pub use_stands : (ls : Indexes) (x : Element) (u : Use) → use_of es ls x ≡ done u → UseStands es (scoped es x u).occurrences (scoped es x u).values u
  unfolding use_of find scoped item_resolved
  use_stands ls (blanks n) u p = rw (← done_inj p) (tt, λ c. tt)
  use_stands ls (quoted t) u p = rw (← done_inj p) (tt, λ c. tt)
  use_stands ls (count n i) u p = from_bind (find n es) _ p λ x h k. count_stands n x x.entry.what i u h refl k
  use_stands ls (count_in_last n) u p = from_bind (find n es) _ p λ x h k. last_count_stands n x x.entry.what u h refl k
  use_stands ls (series n m) u p =
      from_bind (find n es) _ p λ x h k.
      from_bind (find m es) _ k λ y h₂ k₂.
      series_stands x m u (find_among false n es x h).1 k₂
  use_stands ls (named n os vs l g) u p =
      from_bind (find n es) _ p λ x h k.
      rw (scoped_name es n os vs l g u x h) (by_what x.entry.what
      (λ f s mu e. field_stands n x f s mu (last_index n ls) os vs l g u h e (rw e at k))
      (λ b e. group_stands n x b os vs l g u h e (rw e at k)))

  pub uses_stand : (ls : Indexes) (xs : List Element) (us : List Use) → uses es ls xs ≡ done us → All (Stands es) (items us)
  unfolding uses items join
  uses_stand ls [] us p = rw (← done_inj p) tt
  uses_stand ls (x ∷ xs) us p =
      from_uses es ls x xs us p λ u h z vs h₂ e.
      rw (← e) (all_append _ (items_of u) (items vs) (use_items es _ _ u (use_stands ls x u h)) (uses_stand (indexes_after u ls) xs vs h₂))
